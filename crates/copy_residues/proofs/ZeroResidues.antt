-- One turn of the search for a residue that is not 0. Document 01, refusal 16: "a residue not 0; its index comes too". Assumes nothing.
use mathlib.Core.Path.{◌≡◌, sym, ap, ◌∙◌}
use mathlib.Core.Bool.{Bool, true, false, not}
use mathlib.Core.List.{List}
use Prim.Native.Nat.{ℕ}
use borrow.Author.Tests.{eq-eqb, ne_eqb}
use lib.Dec.{eqb}
use Rattle.copy_residues.specs.Residues.{residue}

-- the test of refusal 16
abbrev pub not_zero : ℕ → List ℕ → ℕ → Bool
not_zero gap row i = not (eqb (residue gap row i) 0)

-- one turn of it, with v for the residue w
pub found : {v w : ℕ} → v ≡ w → (v ≡ 0 → ⊥) → not (eqb w 0) ≡ true
found e h = ap not (ne_eqb _ 0 (λ z. h (e ∙ z)))

pub passed : {v w : ℕ} → v ≡ w → v ≡ 0 → not (eqb w 0) ≡ false
passed e z = ap not (eq-eqb _ 0 (sym e ∙ z))

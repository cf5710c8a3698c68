-- Tests joined by `&` and `|`, each true exactly where its fact holds. Assumes nothing.
use mathlib.Core.Path.{◌≡◌, refl, sym, ◌∙◌}
use mathlib.Core.Bool.{Bool, true, false, ◌&&◌, ◌||◌, false≢true}
use mathlib.Core.Logic.{◌↔◌}
use Prim.Native.Nat.{ℕ, ◌≤◌}
use native.Mathlib.Omega.{arith}
use lib.Dec.{eqb, leb}
use borrow.Author.Tests.{eqb-true, eq-eqb, leb-true, le-leb}

-- a number against one that the code worked out
pub eq_iff : (a d b : ℕ) → d ≡ b → (eqb a d ≡ true) ↔ (a ≡ b)
eq_iff a d b e = (λ h. eqb-true a d h ∙ e, λ h. eq-eqb a d (h ∙ sym e))

pub le_iff : (d a b : ℕ) → d ≡ a → (leb d b ≡ true) ↔ (a ≤ b)
le_iff d a b e = (λ h. omega (arith, leb-true d b h), λ h. le-leb d b (omega arith))

-- two tests; the second may lean on the first
pub and_iff : (s t : Bool) {P Q : Type 0} → (s ≡ true) ↔ P → (P → (t ≡ true) ↔ Q) → (s && t ≡ true) ↔ (P × Q)
and_iff true t f g = (λ e. let p = f.0 refl in (p, (g p).0 e), λ h. (g h.0).1 h.1)
and_iff false t f g = (λ e. absurd (false≢true e), λ h. f.1 h.0)

-- two tests that stand alone
infixl 5 ◌and◌
pub ◌and◌ : {s t : Bool} {P Q : Type 0} → (s ≡ true) ↔ P → (t ≡ true) ↔ Q → (s && t ≡ true) ↔ (P × Q)
◌and◌ {s} {t} f g = and_iff s t f (λ p. g)

-- where the first test holds the fact does, and elsewhere the second decides
pub or_iff : (s t : Bool) {Q : Type 0} → (s ≡ true → Q) → (s ≡ false → (t ≡ true) ↔ Q) → (s || t ≡ true) ↔ Q
or_iff true t f g = (λ e. f refl, λ q. refl)
or_iff false t f g = g refl

-- a test that failed, of a fact that Q needs
pub failed : {s : Bool} {P Q : Type 0} → (s ≡ true) ↔ P → s ≡ false → (Q → P) → (false ≡ true) ↔ Q
failed test e needed = (λ h. absurd (false≢true h), λ q. absurd (false≢true (sym e ∙ test.1 (needed q))))

-- A row has no fault exactly if each column is in range and each of the 40 residues is 0: the three searches of `row_fault` run to their
-- ends. Document 01's checks 14, 15 and 16. Assumes nothing.
use mathlib.Core.Path.{◌≡◌, refl, sym, ap, ◌∙◌}
use mathlib.Core.Bool.{Bool, true, false, cond, not, true≢false}
use mathlib.Core.List.{List}
use Prim.Native.Nat.{ℕ, ◌+◌, ◌≤◌, ◌<◌}
use native.Mathlib.Nat.{zero-add}
use native.Mathlib.Omega.{arith}
use borrow.Author.Tests.{not-false, eqb-true, eq-eqb, leb-true, leb-false, lt-leb, le-ltb, ltb-false}
use lib.Dec.{ltb, leb, eqb}
use lib.ListN.{length, get_or}
use Rattle.std.specs.Prelude.{Result, Ok, Err}
use Rattle.lists.specs.Lists.{first, at}
use Rattle.lists.proofs.First.{first_none_lem, first_all}
use Rattle.field.specs.Field.{p}
use Rattle.field.specs.Rows.{first_large}
use Rattle.copy_row.specs.Columns.{COLUMNS}
use Rattle.copy_residues.specs.Range.{column_limits, first_out}
use Rattle.copy_residues.specs.Residues.{residue, RESIDUES}
use Rattle.copy_residues.specs.RowCheck.{first_residue, row_fault}
use Rattle.copy_residues.specs.declared.faults.RowCheckRefusal.{RowCheckRefusal}
use Rattle.copy_residues.specs.declared.faults.RowCheckRefusal.TheVariants.{NotElement, OutOfRange, NotZero}
use Rattle.copy_meaning.specs.RowIff.{InRange}

-- a row in range, its residues 0
pub record Clean (gap : ℕ) (row : List ℕ) : Type 0 where
  pub range : InRange row
  pub zeroes : (i : ℕ) → i < RESIDUES → residue gap row i ≡ 0

-- a check that would have named a fault, and was passed
passed : (t : Bool) (why : RowCheckRefusal) (y : Result (Unit {0}) RowCheckRefusal) → cond t (Err why) y ≡ Ok tt → (t ≡ false) × (y ≡ Ok tt)
passed true why y e = absurd (cc)
passed false why y e = (refl, e)

-- every limit is at most p, so a row in range holds elements
limits_elements : (c : ℕ) → c < COLUMNS → get_or column_limits c 0 ≤ p
limits_elements c h =
    leb-true _ _
    (not-false _ (first_none_lem (λ c. not (leb (get_or column_limits c 0) p)) 0 COLUMNS c (unfold first column_limits in omega arith) (omega arith) (omega arith)))

pub range_elements : (row : List ℕ) → InRange row → (c : ℕ) → c < COLUMNS → at row c < p
range_elements row range c h = omega (arith, range c h, limits_elements c h)

module _ (gap : ℕ) (row : List ℕ) where
  pub fine_clean : row_fault gap row ≡ Ok tt → Clean gap row
  unfolding row_fault first_large first_out first_residue
  fine_clean e =
      let a = passed (ltb (first_large row) (length row)) NotElement _ e in
      let b = passed (ltb (first_out row) COLUMNS) OutOfRange _ a.1 in
      let d = passed (ltb (first_residue gap row) RESIDUES) (NotZero (first_residue gap row)) _ b.1 in
      record {
        range = λ c h. leb-false _ _ (first_none_lem (λ c. leb (get_or column_limits c 0) (at row c)) 0 COLUMNS c (ltb-false _ _ b.0) (omega arith) h);
        zeroes =
            λ i h.
            eqb-true _ _ (not-false _ (first_none_lem (λ i. not (eqb (residue gap row i) 0)) 0 RESIDUES i (ltb-false _ _ d.0) (omega arith) h));
      }

  pub clean_fine : length row ≡ COLUMNS → Clean gap row → row_fault gap row ≡ Ok tt
  unfolding row_fault first_large first_out first_residue
  clean_fine wide q =
      let elements : first (λ c. leb p (at row c)) 0 (length row) ≡ 0 + length row =
      first_all (λ c. leb p (at row c)) 0 (length row) (λ c a b. lt-leb _ _ (range_elements row q.range c (omega arith))) in
      let columns : first (λ c. leb (get_or column_limits c 0) (at row c)) 0 COLUMNS ≡ COLUMNS =
      first_all (λ c. leb (get_or column_limits c 0) (at row c)) 0 COLUMNS (λ c a b. lt-leb _ _ (q.range c b)) in
      let residues : first (λ i. not (eqb (residue gap row i) 0)) 0 RESIDUES ≡ RESIDUES =
      first_all (λ i. not (eqb (residue gap row i) 0)) 0 RESIDUES (λ i a b. ap not (eq-eqb _ _ (q.zeroes i b))) in
      rw (elements, zero-add, le-ltb (length row) (length row) (omega arith), columns, residues)

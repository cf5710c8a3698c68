-- The starred examples on rows. They are computed under one gap; of a row that is no Set no residue depends on the gap, so they hold under
-- every other. Assumes nothing.
use mathlib.Core.Path.{◌≡◌, refl, sym, ap, ap₂, ◌∙◌}
use mathlib.Core.Bool.{cond}
use mathlib.Core.List.{List, [], ◌∷◌, ◌++◌}
use Prim.Native.Nat.{ℕ, ◌-◌, ◌^◌, ◌<◌}
use borrow.Author.Tests.{lt-leb}
use lib.Dec.{ltb}
use lib.ListN.{get_or, take}
use Rattle.lists.specs.Lists.{at}
use Rattle.field.specs.Field.{bit_p, mul_p}
use Rattle.field.proofs.Laws.{zero_mul_p}
use Rattle.copy_row.specs.Columns.{IS_SET}
use Rattle.copy_residues.specs.Residues.{gap_low, gap_high, gated_bit, single_lane, gap_no_wrap, front, back, residue}
use Rattle.copy_residues.specs.RowCheck.{first_residue, row_fault}
use Rattle.chain.specs.Chain.{table_rows, chain_from, chain_answer}
use Rattle.chain.proofs.Computing.{computing}
use Rattle.examples.specs.RowExamples.{copy_of, dead_row, RowExamples}

module _ (gap : ℕ) (row : List ℕ) (no_set : at row IS_SET ≡ 0) where
  gate : (x y : ℕ) → mul_p (at row IS_SET) x ≡ mul_p (at row IS_SET) y
  gate x y = rw no_set (zero_mul_p x ∙ sym (zero_mul_p y))

  -- the equations on the gap stand last in their lists
  front_same : front gap row ≡ front 8 row
  unfolding gated_bit
  front_same = ap₂ (λ x y. take 20 (front 8 row) ++ (x ∷ y ∷ [])) (gate (bit_p (gap_low gap row)) _) (gate (bit_p (gap_high gap row)) _)

  back_same : back gap row ≡ back 8 row
  unfolding gap_no_wrap
  back_same = ap (λ x. take 10 (back 8 row) ++ (x ∷ [])) (gate (gap_high gap row) _)

  residue_same : (i : ℕ) → residue gap row i ≡ residue 8 row i
  unfolding residue
  residue_same i =
      ap₂
      (λ f b. cond (ltb i 22) (get_or f i 0) (cond (ltb i 29) (single_lane row (i - 19)) (get_or b (i - 29) 0)))
      front_same
      back_same

  fault_same : row_fault gap row ≡ row_fault 8 row
  unfolding row_fault first_residue
  fault_same = let same : residue gap row ≡ residue 8 row = λ j i. residue_same i j in rw same refl

  alone_same : gap < 2 ^ 32 → table_rows row ≡ row ∷ [] → chain_answer gap row ≡ chain_answer 8 row
  unfolding chain_answer chain_from
  alone_same g one = rw (lt-leb (2 ^ 32) gap g, one, fault_same) refl

pub row_examples : RowExamples
unfolding computing
row_examples =
    record {
      below_top = λ gap g. alone_same gap (copy_of (2 ^ 64 - 9) 8 8 1) refl g refl;
      to_top = λ gap g. residue_same gap (copy_of (2 ^ 64 - 8) 8 8 1) refl 37;
      to_top_refused = λ gap g. alone_same gap (copy_of (2 ^ 64 - 8) 8 8 1) refl g refl;
      empty_ends = λ gap g. alone_same gap (copy_of 0 0 8 1) refl g refl;
      empty_goes_on = λ gap g. residue_same gap (copy_of 0 0 8 0) refl 34;
      empty_goes_on_refused = λ gap g. alone_same gap (copy_of 0 0 8 0) refl g refl;
      too_wide = λ gap g. residue_same gap (copy_of 0 4 8 1) refl 30;
      too_wide_refused = λ gap g. alone_same gap (copy_of 0 4 8 1) refl g refl;
      dead = λ gap g. alone_same gap dead_row refl g refl;
    }

-- Residue 31 follows from the range and residues 2, 14 and 15. Assumes nothing.
use Prim.Native.Nat.{ℕ, ◌+◌, ◌<◌}
use native.Mathlib.Omega.{arith}
use lib.Dec.{lit<}
use Rattle.lists.specs.Lists.{at}
use Rattle.field.specs.Field.{p}
use Rattle.field.proofs.Bits.{bit_of_zero, gate_zero}
use Rattle.copy_row.specs.Columns.{COUNT, COUNT_DECR, SINGLE, COLUMNS}
use Rattle.copy_residues.specs.Residues.{residue, decr_high, borrow_implies_zero}
use Rattle.copy_residues.proofs.CountBorrow.{borrow_is_carry}
use Rattle.copy_meaning.proofs.Check.{range_elements}
use Rattle.copy_meaning.proofs.Columns.{count_words, count_halves, halves_below}
use Rattle.copy_meaning.proofs.Sums.{decr_sum}
use Rattle.residue_pairs.specs.Implied.{HighCountImplied}

pub high_count_implied : HighCountImplied
unfolding residue borrow_implies_zero
high_count_implied gap row range s l h =
    let element : (c : ℕ) → c < COLUMNS → at row c < p = range_elements row range in
    let single = bit_of_zero (at row SINGLE) (element SINGLE (lit< tt)) s in
    let sum = decr_sum row (count_words row range) (count_halves row range) single l h in
    let left = halves_below row COUNT_DECR (count_halves row range) in
    rw (borrow_is_carry row (element COUNT (lit< tt)) (element (COUNT + 1) (lit< tt)))
    (gate_zero (decr_high row) (at row (COUNT + 1)) (λ some. omega (arith, sum.bit, sum.total, left, some)))

-- Each pair of residues is what `emit_add_pair` answers on its operands, and each gated one a gate times what `add_pair_carry_hi` answers:
-- the operands are in the row, and have the values that the definitions write out. Assumes nothing.
use mathlib.Core.Path.{◌≡◌, refl, sym, ap, ◌∙◌}
use mathlib.Core.Bool.{true}
use mathlib.Core.List.{List, [], ◌∷◌}
use Prim.Native.Nat.{ℕ, ◌+◌, ◌<◌}
use native.Mathlib.Omega.{arith}
use lib.IntN.{pos}
use Rattle.std.specs.Prelude.{Ok}
use Rattle.lists.specs.Lists.{at}
use Rattle.field.specs.Field.{p, bit_p, mul_p, sub_p}
use Rattle.field.specs.Rows.{Elements}
use Rattle.field.specs.Carries.{carry_low, carry_high}
use Rattle.field.proofs.Laws.{zero_add_p}
use Rattle.copy_row.specs.Columns.{SRC, SRC_INCR, DST, DST_INCR, COUNT, COUNT_DECR, DST_RES, IS_SET, IS_WRITE, MU, COLUMNS}
use Rattle.copy_residues.specs.Residues.{halves_word, incr_low, incr_high, decr_low, decr_high, res_low, res_high, gap_low, gap_high, borrow}
use Rattle.copy_residues.specs.Residues.{residue, gated_bit, no_wrap, gap_no_wrap}
use Rattle.copy_residues.proofs.CountBorrow.{carried}
use Rattle.operands.specs.Operands.{low_value, high_value, sum_p, every, term_in_row, sum_in_row, kind_in_row, operands_in_row, conditions_in_row}
use Rattle.operands.specs.Constructors.{cells, dword, linear, constant, from_dword_hl}
use Rattle.operands.specs.Pairs.{carry_lo, carry_hi, gated, residue_lo, residue_hi}
use Rattle.operands.specs.declared.AddOperand.{AddOperand}
use Rattle.operands.proofs.Pairs.{carry_lo_lem, carry_hi_lem}
use Rattle.operands.proofs.Answers.{pair_accepted, carry_accepted}
use Rattle.operands.proofs.Constructors.{dword_low, dword_high, constant_low, constant_high}
use Rattle.residue_pairs.specs.CopyOperands.{ResiduesArePairs, Emitted, Gated, step_operand}
use Rattle.residue_pairs.proofs.Values.{step_low, step_high, word_low, word_high}

-- A pair and a carry from the carries at hand

-- the two carries of a sum, under the names of the residues' definitions
record Carries (row : List ℕ) (lhs rhs sum : AddOperand) (c0 c1 : ℕ) : Type 0 where
  low : c0 ≡ carry_lo row lhs rhs sum
  high : c1 ≡ carry_hi row lhs rhs sum

module _ (gap : ℕ) (row : List ℕ) (e : Elements COLUMNS row)
    (lhs rhs sum : AddOperand) (o : operands_in_row lhs rhs sum ≡ true)
    {c0 c1 : ℕ} (c : Carries row lhs rhs sum c0 c1) where
  -- with no condition, and with one
  plain : (i : ℕ) → residue gap row i ≡ bit_p c0 → residue gap row (i + 1) ≡ bit_p c1 → Emitted gap row i [] lhs rhs sum
  unfolding conditions_in_row every residue_lo residue_hi gated
  plain i f g =
      let low = sym (f ∙ ap bit_p c.low) in
      let high = sym (g ∙ ap bit_p c.high) in
      record { pair = pair_accepted lhs rhs sum row e o [] refl ∙ (λ j. Ok (record { low = low j; high = high j })) }

  conditional : (i k : ℕ) → conditions_in_row (k ∷ []) ≡ true → residue gap row i ≡ mul_p (at row k) (bit_p c0)
      → residue gap row (i + 1) ≡ mul_p (at row k) (bit_p c1)
      → Emitted gap row i (k ∷ []) lhs rhs sum
  unfolding residue_lo residue_hi gated sum_p
  conditional i k h f g =
      let one = sym (zero_add_p (at row k) (e.each k)) in
      let low = sym (f ∙ (λ n. mul_p (one n) (bit_p (c.low n)))) in
      let high = sym (g ∙ (λ n. mul_p (one n) (bit_p (c.high n)))) in
      record { pair = pair_accepted lhs rhs sum row e o (k ∷ []) h ∙ (λ j. Ok (record { low = low j; high = high j })) }

  -- a gate times the high carry
  gate_times : (i gate : ℕ) → residue gap row i ≡ mul_p gate c1 → Gated gap row i gate lhs rhs sum
  gate_times i gate f = record { carry = c1; answer = carry_accepted lhs rhs sum row e o ∙ ap Ok (sym c.high); product = f }

-- The carries of the five sums, from the values of their operands

module _ (row : List ℕ) where
  module _ (lhs rhs sum : AddOperand) {a b s : ℕ} (f : a ≡ low_value row lhs) (g : b ≡ low_value row rhs) (h : s ≡ low_value row sum) where
    carries : {x y z : ℕ} → x ≡ high_value row lhs → y ≡ high_value row rhs → z ≡ high_value row sum
        → Carries row lhs rhs sum (carry_low a b s) (carry_high x y (carry_low a b s) z)
    carries k l m =
        let c0 = carry_lo_lem row lhs rhs sum refl f g h in
        record { low = c0; high = carry_hi_lem row lhs rhs sum refl k l c0 m }

  module _ (e : Elements COLUMNS row) where
    -- SRC and DST, with their increments two columns on
    incr : (c : ℕ) → Carries row (dword c) step_operand (from_dword_hl (c + 2)) (incr_low row c) (incr_high row c)
    unfolding incr_low incr_high
    incr c =
        let four : c + 4 ≡ c + 2 + 2 = omega arith in
        carries (dword c) step_operand (from_dword_hl (c + 2)) (dword_low row c) (step_low row) (word_low row e (c + 2))
        (dword_high row c) (step_high row) (ap (halves_word row) four ∙ word_high row e (c + 2))

    decr : Carries row (from_dword_hl COUNT_DECR) step_operand (dword COUNT) (decr_low row) (decr_high row)
    unfolding decr_low decr_high
    decr =
        carries (from_dword_hl COUNT_DECR) step_operand (dword COUNT) (word_low row e COUNT_DECR) (step_low row) (dword_low row COUNT)
        (word_high row e COUNT_DECR) (step_high row) (dword_high row COUNT)

    res : Carries row (dword DST) (dword COUNT) (from_dword_hl DST_RES) (res_low row) (res_high row)
    unfolding res_low res_high
    res =
        carries (dword DST) (dword COUNT) (from_dword_hl DST_RES) (dword_low row DST) (dword_low row COUNT) (word_low row e DST_RES)
        (dword_high row DST) (dword_high row COUNT) (word_high row e DST_RES)

  over_gap : (gap : ℕ) → gap < p → Carries row (dword SRC) (constant (pos gap)) (dword DST) (gap_low gap row) (gap_high gap row)
  unfolding gap_low gap_high
  over_gap gap h =
      carries (dword SRC) (constant (pos gap)) (dword DST) (dword_low row SRC) (constant_low row gap h) (dword_low row DST)
      (dword_high row SRC) (constant_high row gap) (dword_high row DST)

-- The residues

pub residues_are_pairs : ResiduesArePairs
unfolding residue no_wrap gap_no_wrap gated_bit operands_in_row kind_in_row sum_in_row term_in_row every conditions_in_row dword linear constant
    from_dword_hl cells step_operand
residues_are_pairs gap h row e =
    let src = incr row e SRC in
    let dst = incr row e DST in
    let count = decr row e in
    let gap_sum = over_gap row gap (omega arith) in
    let active = sub_p (at row MU) (borrow row) in
    record {
      src_incr = plain gap row e (dword SRC) step_operand (from_dword_hl SRC_INCR) refl src 10 refl refl;
      dst_incr = plain gap row e (dword DST) step_operand (from_dword_hl DST_INCR) refl dst 12 refl refl;
      count_borrows = plain gap row e (from_dword_hl COUNT_DECR) step_operand (dword COUNT) refl count 14 refl refl;
      dst_res_is_write =
          conditional gap row e (dword DST) (dword COUNT) (from_dword_hl DST_RES) refl (res row e) 16 IS_WRITE refl refl refl;
      set_gap = conditional gap row e (dword SRC) (constant (pos gap)) (dword DST) refl gap_sum 20 IS_SET refl refl refl;
      src_no_wrap = gate_times gap row e (dword SRC) step_operand (from_dword_hl SRC_INCR) refl src 37 active refl;
      dst_no_wrap = gate_times gap row e (dword DST) step_operand (from_dword_hl DST_INCR) refl dst 38 active refl;
      gap_no_wrap_lem = gate_times gap row e (dword SRC) (constant (pos gap)) (dword DST) refl gap_sum 39 (at row IS_SET) refl;
      count_borrow =
          carry_accepted (from_dword_hl COUNT_DECR) step_operand (dword COUNT) row e refl
          ∙ ap Ok (sym count.high ∙ sym (carried e));
    }

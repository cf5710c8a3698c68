-- The carries of a row in range over plain numbers: where both are bits, the sum of 64 bits holds with the high one for its carry, and
-- back. SRC and DST with the step, COUNT_DECR with the step, DST with COUNT, SRC with the gap. Assumes nothing.
use mathlib.Core.Path.{◌≡◌, ap}
use mathlib.Core.List.{List}
use Prim.Native.Nat.{ℕ, ◌+◌, ◌-◌, ◌*◌, ◌^◌, ◌<◌}
use native.Mathlib.Omega.{arith}
use Rattle.lists.specs.Lists.{at}
use Rattle.field.specs.Field.{bit_p}
use Rattle.field.specs.Carries.{carry_low, carry_high}
use Rattle.field.proofs.Carry.{sum_of_zero, zero_of_sum}
use Rattle.copy_row.specs.Columns.{SRC, DST, COUNT, COUNT_DECR, DST_RES, SINGLE}
use Rattle.copy_residues.specs.Residues.{halves_word, step, incr_low, incr_high, decr_low, decr_high, res_low, res_high, gap_low, gap_high}
use Rattle.copy_meaning.specs.ReadRow.{words_at, halves_at}
use Rattle.copy_meaning.specs.Inner.{TwoWords, FourHalves}
use Rattle.copy_meaning.proofs.Columns.{words_of, step_width}

-- the words of a, b and s, of which s is to be a + b
pub record Added (a0 a1 b0 b1 s0 s1 a b s : ℕ) : Type 0 where
  pub a_low : a0 < 2 ^ 32
  pub a_high : a1 < 2 ^ 32
  pub b_low : b0 < 2 ^ 32
  pub b_high : b1 < 2 ^ 32
  pub s_low : s0 < 2 ^ 32
  pub s_high : s1 < 2 ^ 32
  pub a_whole : a0 + 2 ^ 32 * a1 ≡ a
  pub b_whole : b0 + 2 ^ 32 * b1 ≡ b
  pub s_whole : s0 + 2 ^ 32 * s1 ≡ s

-- the carry is a bit, and the sum holds with it
pub record Sum (a b s carry : ℕ) : Type 0 where
  pub bit : carry < 2
  pub total : a + b ≡ s + 2 ^ 64 * carry

-- both residues are 0, and the high carry is k
pub record Carried (low high k : ℕ) : Type 0 where
  pub low_zero : bit_p low ≡ 0
  pub high_zero : bit_p high ≡ 0
  pub top : high ≡ k

module _ {a0 a1 b0 b1 s0 s1 a b s : ℕ} (t : Added a0 a1 b0 b1 s0 s1 a b s) where
  sum_of : bit_p (carry_low a0 b0 s0) ≡ 0 → bit_p (carry_high a1 b1 (carry_low a0 b0 s0) s1) ≡ 0
      → Sum a b s (carry_high a1 b1 (carry_low a0 b0 s0) s1)
  sum_of e f =
      omega (arith, sum_of_zero a0 a1 b0 b1 s0 s1 t.a_low t.a_high t.b_low t.b_high t.s_low t.s_high e f)

  carried_of : {k : ℕ} → Sum a b s k → Carried (carry_low a0 b0 s0) (carry_high a1 b1 (carry_low a0 b0 s0) s1) k
  carried_of {k} h =
      let z = zero_of_sum a0 a1 b0 b1 s0 s1 t.a_low t.a_high t.b_low t.b_high t.s_low t.s_high k h.bit (omega arith) in
      record { low_zero = z.0; high_zero = z.1; top = z.2 }

-- an address and the step
module _ (row : List ℕ) (c : ℕ) (w : TwoWords row c) (h : FourHalves row (c + 2)) (single : at row SINGLE < 2) where
  incr_words : Added (at row c) (at row (c + 1)) (step row) 0 (halves_word row (c + 2)) (halves_word row (c + 4))
      (words_at row c) (8 - 7 * at row SINGLE) (halves_at row (c + 2))
  incr_words =
      let column : halves_word row (c + 2 + 2) ≡ halves_word row (c + 4) = ap (halves_word row) (omega arith) in
      omega (arith, words_of row (c + 2) h, step_width row single)

  pub incr_sum : bit_p (incr_low row c) ≡ 0 → bit_p (incr_high row c) ≡ 0
      → Sum (words_at row c) (8 - 7 * at row SINGLE) (halves_at row (c + 2)) (incr_high row c)
  unfolding incr_low incr_high
  incr_sum = sum_of incr_words

  pub incr_carried : {k : ℕ} → Sum (words_at row c) (8 - 7 * at row SINGLE) (halves_at row (c + 2)) k
      → Carried (incr_low row c) (incr_high row c) k
  unfolding incr_low incr_high
  incr_carried = carried_of incr_words

-- COUNT_DECR and the step
module _ (row : List ℕ) (w : TwoWords row COUNT) (h : FourHalves row COUNT_DECR) (single : at row SINGLE < 2) where
  decr_words : Added (halves_word row COUNT_DECR) (halves_word row (COUNT_DECR + 2)) (step row) 0 (at row COUNT) (at row (COUNT + 1))
      (halves_at row COUNT_DECR) (8 - 7 * at row SINGLE) (words_at row COUNT)
  decr_words = omega (arith, words_of row COUNT_DECR h, step_width row single)

  pub decr_sum : bit_p (decr_low row) ≡ 0 → bit_p (decr_high row) ≡ 0
      → Sum (halves_at row COUNT_DECR) (8 - 7 * at row SINGLE) (words_at row COUNT) (decr_high row)
  unfolding decr_low decr_high
  decr_sum = sum_of decr_words

  pub decr_carried : {k : ℕ} → Sum (halves_at row COUNT_DECR) (8 - 7 * at row SINGLE) (words_at row COUNT) k
      → Carried (decr_low row) (decr_high row) k
  unfolding decr_low decr_high
  decr_carried = carried_of decr_words

-- DST and COUNT
module _ (row : List ℕ) (d : TwoWords row DST) (n : TwoWords row COUNT) (h : FourHalves row DST_RES) where
  res_words : Added (at row DST) (at row (DST + 1)) (at row COUNT) (at row (COUNT + 1)) (halves_word row DST_RES) (halves_word row (DST_RES + 2))
      (words_at row DST) (words_at row COUNT) (halves_at row DST_RES)
  res_words = omega (arith, words_of row DST_RES h)

  pub res_sum : bit_p (res_low row) ≡ 0 → bit_p (res_high row) ≡ 0
      → Sum (words_at row DST) (words_at row COUNT) (halves_at row DST_RES) (res_high row)
  unfolding res_low res_high
  res_sum = sum_of res_words

  pub res_carried : {k : ℕ} → Sum (words_at row DST) (words_at row COUNT) (halves_at row DST_RES) k
      → Carried (res_low row) (res_high row) k
  unfolding res_low res_high
  res_carried = carried_of res_words

-- SRC and the gap
module _ (gap : ℕ) (row : List ℕ) (g : gap < 2 ^ 32) (s : TwoWords row SRC) (d : TwoWords row DST) where
  gap_words : Added (at row SRC) (at row (SRC + 1)) gap 0 (at row DST) (at row (DST + 1)) (words_at row SRC) gap (words_at row DST)
  gap_words = omega arith

  pub gap_sum : bit_p (gap_low gap row) ≡ 0 → bit_p (gap_high gap row) ≡ 0
      → Sum (words_at row SRC) gap (words_at row DST) (gap_high gap row)
  unfolding gap_low gap_high
  gap_sum = sum_of gap_words

  pub gap_carried : {k : ℕ} → Sum (words_at row SRC) gap (words_at row DST) k → Carried (gap_low gap row) (gap_high gap row) k
  unfolding gap_low gap_high
  gap_carried = carried_of gap_words

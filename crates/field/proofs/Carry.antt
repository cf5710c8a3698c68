-- The carry law: a carry (v - s) * 2^-32 that is a bit c says v = s + 2^32 * c as plain numbers, and the plain carry is that bit; and twice
-- over the words of a 64-bit sum, `emit_add_pair`. The product by 2^-32 is undone by one by 2^32. Assumes nothing.
use Rattle.std.proofs.Common.{◌≡◌, ℕ, ◌+◌, ◌*◌, ◌/◌, ◌^◌, ◌<◌, sym, ap, ◌∙◌, arith}
use Rattle.field.specs.Field.{p, add_p, sub_p, mul_p, bit_p}
use Rattle.field.specs.Constants.{inv32}
use Rattle.field.specs.Carries.{carry_p, carry_low, carry_high}
use Rattle.field.specs.Theorems.{Word, from_words}
use Rattle.field.proofs.Laws.{sub_below, mul_below, bit_zero, mul_p_assoc, mul_p_one, mul_p_small}
use Rattle.field.proofs.Bits.{bit_of_zero}

-- by 2^-32 and by 2^32, in either order, is by 1
there_and_back : (t : ℕ) → t < p → mul_p (mul_p t inv32) (2 ^ 32) ≡ t
there_and_back t h = mul_p_assoc t inv32 (2 ^ 32) ∙ (unfold mul_p in mul_p_one t h)

back_and_there : (t : ℕ) → t < p → mul_p (mul_p t (2 ^ 32)) inv32 ≡ t
back_and_there t h = mul_p_assoc t (2 ^ 32) inv32 ∙ (unfold mul_p in mul_p_one t h)

pub carry_below : (v s : ℕ) → carry_p v s < p
unfolding carry_p
carry_below v s = mul_below (sub_p v s) inv32

pub low_below : (a b s : ℕ) → carry_low a b s < p
unfolding carry_low
low_below a b s = carry_below (add_p a b) s

pub high_below : (a b c s : ℕ) → carry_high a b c s < p
unfolding carry_high
high_below a b c s = carry_below (add_p (add_p a b) c) s

-- a carry that is a bit is the plain one; s may pass a word, as long as s + 2^32 is an element
pub carry_of_bit : (v s : ℕ) → v < p → s + 2 ^ 32 < p → carry_p v s < 2 → v ≡ s + 2 ^ 32 * carry_p v s
unfolding carry_p sub_p
carry_of_bit v s hv hs b =
    omega (arith, there_and_back (sub_p v s) (sub_below v s), mul_p_small (mul_p (sub_p v s) inv32) (2 ^ 32) (omega arith))

-- and back
pub carry_value : (v s c : ℕ) → v < p → c < 2 → v ≡ s + 2 ^ 32 * c → carry_p v s ≡ c
unfolding carry_p
carry_value v s c hv hc e =
    ap (λ x. mul_p x inv32) (difference ∙ sym (mul_p_small c (2 ^ 32) (omega arith))) ∙ back_and_there c (omega arith)
  where
    difference : sub_p v s ≡ c * 2 ^ 32
    difference = unfold sub_p in omega arith

-- The two carries of a sum of 64 bits

module _ (a0 a1 b0 b1 s0 s1 : ℕ) (wa0 : Word a0) (wa1 : Word a1) (wb0 : Word b0) (wb1 : Word b1) (ws0 : Word s0) (ws1 : Word s1) where
  low_of_bit : carry_low a0 b0 s0 < 2 → a0 + b0 ≡ s0 + 2 ^ 32 * carry_low a0 b0 s0
  unfolding carry_low add_p
  low_of_bit h = omega (arith, carry_of_bit (add_p a0 b0) s0 (omega arith) (omega arith) h)

  high_of_bit : (c0 : ℕ) → c0 < 2 → carry_high a1 b1 c0 s1 < 2 → a1 + b1 + c0 ≡ s1 + 2 ^ 32 * carry_high a1 b1 c0 s1
  unfolding carry_high add_p
  high_of_bit c0 l h = omega (arith, carry_of_bit (add_p (add_p a1 b1) c0) s1 (omega arith) (omega arith) h)

  -- both carries are bits: the sum holds, with the high one for its carry
  pub sum_of_bits : carry_low a0 b0 s0 < 2 → carry_high a1 b1 (carry_low a0 b0 s0) s1 < 2
      → from_words a0 a1 + from_words b0 b1 ≡ from_words s0 s1 + 2 ^ 64 * carry_high a1 b1 (carry_low a0 b0 s0) s1
  sum_of_bits h k = omega (arith, low_of_bit h, high_of_bit (carry_low a0 b0 s0) h k)

  -- what `emit_add_pair` says where it is 0 twice
  pub sum_of_zero : bit_p (carry_low a0 b0 s0) ≡ 0 → bit_p (carry_high a1 b1 (carry_low a0 b0 s0) s1) ≡ 0
      → (carry_high a1 b1 (carry_low a0 b0 s0) s1 < 2)
      × (from_words a0 a1 + from_words b0 b1 ≡ from_words s0 s1 + 2 ^ 64 * carry_high a1 b1 (carry_low a0 b0 s0) s1)
  sum_of_zero e f =
      let h = bit_of_zero _ (low_below a0 b0 s0) e in
      let k = bit_of_zero _ (high_below a1 b1 (carry_low a0 b0 s0) s1) f in
      (k, sum_of_bits h k)

  -- and back: the sum holds with the carry c
  module _ (c : ℕ) (bit : c < 2) (sum : from_words a0 a1 + from_words b0 b1 ≡ from_words s0 s1 + 2 ^ 64 * c) where
    pub low_of_sum : carry_low a0 b0 s0 ≡ (a0 + b0) / 2 ^ 32
    unfolding carry_low add_p
    low_of_sum = carry_value (add_p a0 b0) s0 ((a0 + b0) / 2 ^ 32) (omega arith) (omega arith) (omega arith)

    pub high_of_sum : carry_high a1 b1 (carry_low a0 b0 s0) s1 ≡ c
    unfolding carry_high add_p
    high_of_sum = carry_value (add_p (add_p a1 b1) (carry_low a0 b0 s0)) s1 c (omega arith) bit (omega (arith, low_of_sum))

    pub low_bit_of_sum : carry_low a0 b0 s0 < 2
    low_bit_of_sum = omega (arith, low_of_sum)

    pub zero_of_sum : (bit_p (carry_low a0 b0 s0) ≡ 0) × (bit_p (carry_high a1 b1 (carry_low a0 b0 s0) s1) ≡ 0)
        × (carry_high a1 b1 (carry_low a0 b0 s0) s1 ≡ c)
    zero_of_sum = (bit_zero _ low_bit_of_sum, ap bit_p high_of_sum ∙ bit_zero c bit, high_of_sum)

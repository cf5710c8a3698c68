-- What equations between elements say of whole numbers: p is prime, so an equation that is a product holds by one of its factors, and a
-- carry that the equations call a bit is the carry of the plain sum. `field_theorems_hold` in theorems carries `FieldTheorems`. Assumes
-- nothing.
use Rattle.std.specs.Prelude.{◌≡◌, ℕ, ◌+◌, ◌-◌, ◌*◌, ◌^◌, ◌<◌, ◌⊎◌, ◌↔◌}
use Rattle.std.specs.Int.{◌∣◌}
use Rattle.field.specs.Field.{p, mul_p, bit_p}
use Rattle.field.specs.Carries.{carry_p, carry_low, carry_high}

-- above 1, and no number between 1 and it divides it
pub record Prime (n : ℕ) : Type 0 where
  pub above_one : 1 < n
  pub no_divisor : (a : ℕ) → 1 < a → a < n → ¬ (a ∣ n)

-- below 2^32
abbrev pub Word : ℕ → Type 0
Word x = x < 2 ^ 32

-- the number that two words, the lower one first, stand for
abbrev pub from_words : (low high : ℕ) → ℕ
from_words low high = low + 2 ^ 32 * high

pub record FieldTheorems : Type 0 where
  -- document 01: "p = 2^64 − 2^32 + 1"
  pub p_is : p ≡ 2 ^ 64 - 2 ^ 32 + 1
  pub prime : Prime p
  -- a product of elements is 0 only if a factor is
  pub no_zero_divisors : (a b : ℕ) → a < p → b < p → mul_p a b ≡ 0 → (a ≡ 0) ⊎ (b ≡ 0)
  -- x(1 - x) = 0 exactly if x is 0 or 1, in words and as an inequality
  pub bit : (x : ℕ) → x < p → (bit_p x ≡ 0) ↔ ((x ≡ 0) ⊎ (x ≡ 1))
  pub bit_below_two : (x : ℕ) → x < p → (bit_p x ≡ 0) ↔ (x < 2)
  -- a carry that is a bit is the carry of the plain sum v over its low word s, and the plain carry is that bit
  pub carry : (v s : ℕ) → v < p → Word s → bit_p (carry_p v s) ≡ 0 → (carry_p v s < 2) × (v ≡ s + 2 ^ 32 * carry_p v s)
  pub carry_back : (v s c : ℕ) → v < p → c < 2 → v ≡ s + 2 ^ 32 * c → carry_p v s ≡ c
  -- `emit_add_pair` on words: both carries are bits exactly if the 64-bit sum holds with c1 for its carry
  pub pair : (a0 a1 b0 b1 s0 s1 : ℕ) → Word a0 → Word a1 → Word b0 → Word b1 → Word s0 → Word s1
      → bit_p (carry_low a0 b0 s0) ≡ 0 → bit_p (carry_high a1 b1 (carry_low a0 b0 s0) s1) ≡ 0
      → (carry_high a1 b1 (carry_low a0 b0 s0) s1 < 2)
      × (from_words a0 a1 + from_words b0 b1 ≡ from_words s0 s1 + 2 ^ 64 * carry_high a1 b1 (carry_low a0 b0 s0) s1)
  pub pair_back : (a0 a1 b0 b1 s0 s1 c : ℕ) → Word a0 → Word a1 → Word b0 → Word b1 → Word s0 → Word s1
      → c < 2 → from_words a0 a1 + from_words b0 b1 ≡ from_words s0 s1 + 2 ^ 64 * c
      → (bit_p (carry_low a0 b0 s0) ≡ 0) × (bit_p (carry_high a1 b1 (carry_low a0 b0 s0) s1) ≡ 0)
      × (carry_high a1 b1 (carry_low a0 b0 s0) s1 ≡ c)

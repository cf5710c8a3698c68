-- The two carries of a 64-bit sum in words, as `emit_add_pair` has them. Document 01: "c0 = (lo + lo − sum lo) × 2^−32, c1 = (hi + hi +
-- c0 − sum hi) × 2^−32. c1 is `add_pair_carry_hi`." Assumes nothing.
use Rattle.std.specs.Prelude.{ℕ}
use Rattle.field.specs.Field.{add_p, sub_p, mul_p}
use Rattle.field.specs.Constants.{inv32}

-- the carry of v over the word s: (v - s) × 2^-32
unfoldable pub carry_p : ℕ → ℕ → ℕ
carry_p v s = mul_p (sub_p v s) inv32

-- c0, of the low words a and b and of the sum's low word s
unfoldable pub carry_low : (a b s : ℕ) → ℕ
carry_low a b s = carry_p (add_p a b) s

-- c1, of the high words a and b, of c0 and of the sum's high word s
unfoldable pub carry_high : (a b c0 s : ℕ) → ℕ
carry_high a b c0 s = carry_p (add_p (add_p a b) c0) s

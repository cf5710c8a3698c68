-- What the sums of a right row come to at once, without a product. Assumes nothing.
use Rattle.std.proofs.Common.{◌≡◌, ℕ, ◌+◌, ◌-◌, ◌*◌, ◌<◌, arith, refl}
use Rattle.field.specs.Field.{p, add_p, mul_p}
use Rattle.field.specs.Constants.{inv32}

-- the word of two halves
pub plain_word : (low high : ℕ) → low < 65536 → high < 65536 → add_p low (mul_p 65536 high) ≡ low + 65536 * high
unfolding add_p mul_p
plain_word low high h k = omega arith

-- the width of SINGLE s
pub width_of_none : (s : ℕ) → s ≡ 0 → add_p 8 (mul_p (p - 7) s) ≡ 8
unfolding add_p mul_p
width_of_none s e = rw e refl

pub width_of_one : (s : ℕ) → s ≡ 1 → add_p 8 (mul_p (p - 7) s) ≡ 1
unfolding add_p mul_p
width_of_one s e = rw e refl

-- the carries 0 and 1
pub carry_none : (x : ℕ) → x ≡ 0 → mul_p x inv32 ≡ 0
unfolding mul_p
carry_none x e = rw e refl

pub carry_one : (x : ℕ) → x ≡ 4294967296 → mul_p x inv32 ≡ 1
unfolding mul_p
carry_one x e = rw e refl

-- Elements: whole numbers modulo p = 2^64 - 2^32 + 1. Document 01: "An element is a whole number below p". Assumes nothing.
use Rattle.std.specs.Prelude.{ℕ, ◌+◌, ◌-◌, ◌*◌, ◌%◌}

abbrev pub p : ℕ
p = 18446744069414584321

-- the sum
unfoldable pub add_p : ℕ → ℕ → ℕ
add_p a b = (a + b) % p

-- the difference, for b below p
unfoldable pub sub_p : ℕ → ℕ → ℕ
sub_p a b = (a + (p - b)) % p

-- the product
unfoldable pub mul_p : ℕ → ℕ → ℕ
mul_p a b = (a * b) % p

-- x(1 - x), which is 0 for 0 and 1 alone
unfoldable pub bit_p : ℕ → ℕ
bit_p x = mul_p x (sub_p 1 x)

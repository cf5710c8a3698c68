-- Sums and differences modulo 2^64, plain and wrapped. Document 01: "INCR, DECR and RES are sums taken modulo 2^64, as the Rust's wrapping
-- calls". Assumes nothing.
use Rattle.std.proofs.Common.{◌≡◌, ℕ, ◌+◌, ◌-◌, ◌^◌, ◌<◌, ◌≤◌, ltb, arith, ltb-true, lt-ltb}
use Rattle.lists.proofs.Tests.{same_test}
use Rattle.words.specs.Words.{wrap_add, wrap_sub}

-- a sum that fits
pub add_plain : (a b : ℕ) → a + b < 2 ^ 64 → wrap_add a b ≡ a + b
add_plain a b h = omega arith

-- a difference of a number that is at most a, and of one that is above it
pub sub_plain : (a b : ℕ) → a < 2 ^ 64 → b ≤ a → wrap_sub a b ≡ a - b
sub_plain a b ha h = omega arith

pub sub_wrapped : (a b : ℕ) → b < 2 ^ 64 → a < b → wrap_sub a b ≡ a + 2 ^ 64 - b
sub_wrapped a b hb h = omega arith

-- a plain sum above an end, by a difference that does not wrap
pub past_by_difference : (end at count : ℕ) → at ≤ end → ltb (end - at) count ≡ ltb end (at + count)
past_by_difference end at count h =
    same_test (ltb (end - at) count) (ltb end (at + count))
    (λ e. let l : end - at < count = ltb-true (end - at) count e in lt-ltb end (at + count) (omega arith))
    (λ e. let l : end < at + count = ltb-true end (at + count) e in lt-ltb (end - at) count (omega arith))

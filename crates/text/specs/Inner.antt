-- A step of the loop that reads a number: cited by the contracts of inner functions alone. Assumes nothing.
use Rattle.std.specs.Prelude.{ℕ, ◌+◌, ◌*◌, ◌-◌, cond, ltb, Option, Some, None}
use Rattle.text.specs.Numbers.{TOP, is_digit}

-- v with one digit more, if b is a digit and the number is below 2^64
unfoldable pub digit_of : ℕ → ℕ → Option ℕ
digit_of v b = cond (is_digit b) (cond (ltb (10 * v + (b - 48)) TOP) (Some (10 * v + (b - 48))) None) None

-- Decimal numbers. Document 01: "A number is 1 to 20 digits, at most 2^64 − 1". Leading zeros count as digits and are allowed.
-- Assumes nothing.
use Rattle.std.specs.Prelude.{ℕ, ◌+◌, ◌*◌, ◌-◌, Bool, true, cond, ◌&&◌, List, [], ◌∷◌, length, ltb, leb, Option, Some, None}

-- 2^64
abbrev pub TOP : ℕ
TOP = 18446744073709551616

-- the bytes of '0' to '9' are 48 to 57
unfoldable pub is_digit : ℕ → Bool
is_digit b = leb 48 b && leb b 57

unfoldable pub all_digits : List ℕ → Bool
all_digits [] = true
all_digits (b ∷ bs) = is_digit b && all_digits bs

-- the number that the digits of v, followed by these digits, stand for
unfoldable pub decimal_from : ℕ → List ℕ → ℕ
decimal_from v [] = v
decimal_from v (b ∷ bs) = decimal_from (10 * v + (b - 48)) bs

-- whether a text is a number
unfoldable pub is_number : List ℕ → Bool
is_number l = leb 1 (length l) && (leb (length l) 20 && (all_digits l && ltb (decimal_from 0 l) TOP))

-- the number that a whole text is, if it is one
unfoldable pub number_of : List ℕ → Option ℕ
number_of l = cond (is_number l) (Some (decimal_from 0 l)) None

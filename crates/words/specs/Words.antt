-- A number as words, halves or bytes, and sums taken modulo 2^64. Document 01: "a word has 32 bits, a half 16", "words WL and halves
-- HL, lowest first". The width is a parameter throughout. Assumes nothing.
use Rattle.std.specs.Prelude.{ℕ, zero, suc, ◌+◌, ◌-◌, ◌*◌, ◌/◌, ◌%◌, ◌^◌, ◌<◌, Bool, cond, List, [], ◌∷◌}
use Rattle.lists.specs.Lists.{at, All}

-- the lowest n digits of x, of w bits each, lowest first
abbrev pub digits : ℕ → ℕ → ℕ → List ℕ
digits w zero x = []
digits w (suc n) x = x % 2 ^ w ∷ digits w n (x / 2 ^ w)

-- the number that has the digits ds, of w bits each, lowest first
abbrev pub number : ℕ → List ℕ → ℕ
number w [] = 0
number w (d ∷ ds) = d + 2 ^ w * number w ds

-- each of them has w bits
abbrev pub Below : ℕ → List ℕ → Type 0
Below w ds = All (λ (d : ℕ). d < 2 ^ w) ds

abbrev pub Bytes : List ℕ → Type 0
Bytes l = Below 8 l

-- a 64-bit number as two words, four halves
abbrev pub words : ℕ → List ℕ
words x = digits 32 2 x

abbrev pub halves : ℕ → List ℕ
halves x = digits 16 4 x

-- and one of the words by itself
abbrev pub low_word : ℕ → ℕ
low_word x = at (words x) 0

abbrev pub high_word : ℕ → ℕ
high_word x = at (words x) 1

-- the sum and the difference modulo 2^64, as the Rust's wrapping calls; the difference for b up to 2^64
abbrev pub wrap_add : ℕ → ℕ → ℕ
wrap_add a b = (a + b) % 2 ^ 64

abbrev pub wrap_sub : ℕ → ℕ → ℕ
wrap_sub a b = (a + (2 ^ 64 - b)) % 2 ^ 64

-- 1 where b holds, else 0
abbrev pub bit : Bool → ℕ
bit b = cond b 1 0

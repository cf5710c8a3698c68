-- The numbers of a list taken one by one, from an index on, are the list from there on; past its end a list reads as 0. Assumes nothing.
use mathlib.Core.Path.{◌≡◌, sym}
use mathlib.Core.List.{List, [], ◌∷◌}
use Prim.Native.Nat.{ℕ, zero, suc, ◌+◌, ◌≤◌}
use native.Mathlib.Numerals.{add-one}
use native.Mathlib.Omega.{arith}
use lib.ListN.{length, drop, drop_of_length-le, get_or-eq_default}
use lib.Seq.{drop-cons}
use Rattle.lists.specs.Lists.{at, eight_at}

-- the n numbers of l from index i on, one by one
abbrev pub numbers_at : List ℕ → ℕ → ℕ → List ℕ
numbers_at l i zero = []
numbers_at l i (suc n) = at l i ∷ numbers_at l (i + 1) n

pub numbers_same : (l : List ℕ) (i n : ℕ) → length l ≡ i + n → numbers_at l i n ≡ drop i l
numbers_same l i zero q = sym (drop_of_length-le l {i = i} (omega arith))
numbers_same l i (suc n) q =
    rw (drop-cons l i 0 (omega arith), numbers_same l (i + 1) n (omega arith), add-one i)

-- of eight numbers
pub eight_back : (v : List ℕ) → length v ≡ 8 → eight_at v 0 ≡ v
eight_back v e = numbers_same v 0 8 e

-- a number past the end
pub past : (l : List ℕ) (i : ℕ) → length l ≤ i → 0 ≡ at l i
past l i h = sym (get_or-eq_default l 0 h)

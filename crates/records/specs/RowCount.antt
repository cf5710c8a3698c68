-- How many rows the table of n records has. Document 01: "Rows number the least power of two that is at least the record count, and
-- at least 4". `row_count` computes it by doubling; `LeastPower` is document 01's sentence, and `RowCountIsLeast` says that the two agree.
-- Assumes nothing.
use Rattle.std.specs.Prelude.{◌≡◌, ℕ, zero, suc, ◌*◌, ◌^◌, ◌≤◌, cond, leb}

-- q, doubled until it is at least n, at most f times
unfoldable pub doubled : ℕ → ℕ → ℕ → ℕ
doubled zero q n = q
doubled (suc f) q n = cond (leb n q) q (doubled f (2 * q) n)

unfoldable pub row_count : ℕ → ℕ
row_count n = doubled 61 4 n

-- r is the least power of two that is at least n and at least 4
pub record LeastPower (n r : ℕ) : Type 0 where
  pub exponent : ℕ
  pub power : r ≡ 2 ^ exponent
  pub covers : n ≤ r
  pub four : 4 ≤ r
  pub least : (j : ℕ) → n ≤ 2 ^ j → 4 ≤ 2 ^ j → r ≤ 2 ^ j

-- `row_count` is, for every count up to 2^63: `row_count_is_least_holds` in theorems
abbrev pub RowCountIsLeast : Type 0
RowCountIsLeast = (n : ℕ) → n ≤ 2 ^ 63 → LeastPower n (row_count n)

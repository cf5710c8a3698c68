-- What the columns of a row that is read lie below, and the borrow in plain numbers: cited by the contracts of inner functions alone.
-- Assumes nothing.
use Rattle.std.specs.Prelude.{ℕ, ◌+◌, ◌-◌, ◌^◌, ◌<◌, List}
use Rattle.lists.specs.Lists.{at}
use Rattle.copy_row.specs.Columns.{COUNT}
use Rattle.copy_meaning.specs.ReadRow.{words_at}

-- two words, four halves from column c on
pub record TwoWords (row : List ℕ) (c : ℕ) : Type 0 where
  pub low : at row c < 2 ^ 32
  pub high : at row (c + 1) < 2 ^ 32

pub record FourHalves (row : List ℕ) (c : ℕ) : Type 0 where
  pub first : at row c < 2 ^ 16
  pub second : at row (c + 1) < 2 ^ 16
  pub third : at row (c + 2) < 2 ^ 16
  pub fourth : at row (c + 3) < 2 ^ 16

-- 1 where nothing is left to move, else 0: what the borrow comes to
abbrev pub empty_at : List ℕ → ℕ
empty_at row = 1 - words_at row COUNT

-- What a copy row's columns may hold. Document 01: "In range: all 41 numbers elements, VALUE below 256, WL columns words, HL columns
-- halves." Assumes nothing.
use Rattle.std.specs.Prelude.{ℕ, ◌^◌, List, ◌++◌, leb, get_or, replicate}
use Rattle.lists.specs.Lists.{first, at}
use Rattle.field.specs.Field.{p}
use Rattle.copy_row.specs.Columns.{COLUMNS}

-- for each column the least number that is too large: words, bytes, words and halves in the order of the columns, then `top` for the nine
-- flags
abbrev pub limits_to : ℕ → List ℕ
limits_to top =
    replicate 2 (2 ^ 32)
    ++ replicate 8 256
    ++ replicate 2 (2 ^ 32)
    ++ replicate 4 (2 ^ 16)
    ++ replicate 2 (2 ^ 32)
    ++ replicate 4 (2 ^ 16)
    ++ replicate 2 (2 ^ 32)
    ++ replicate 4 (2 ^ 16)
    ++ replicate 4 (2 ^ 16)
    ++ replicate 9 top

-- out of range; a flag may be any element
unfoldable pub column_limits : List ℕ
column_limits = limits_to p

-- the lowest index of a column out of range, or 41
unfoldable pub first_out : List ℕ → ℕ
first_out row = first (λ c. leb (get_or column_limits c 0) (at row c)) 0 COLUMNS

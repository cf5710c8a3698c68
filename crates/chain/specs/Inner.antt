-- The row before as the code holds it: none at the top of a list. Cited by the contracts of inner functions alone. Assumes nothing.
use Rattle.std.specs.Prelude.{Bool, true, false, Option, Some, None}
use Rattle.row_test.specs.declared.row.CappedRow.{CappedRow}
use Rattle.chain.specs.Link.{Before, closed, unended, dead, before_of}

-- what it is to the row after it, or to the list's end
abbrev pub standing : Option CappedRow → Before
standing None = closed
standing (Some row) = before_of row.numbers.now

-- a live row without END
abbrev pub is_unended : Before → Bool
is_unended closed = false
is_unended (unended previous) = true
is_unended dead = false

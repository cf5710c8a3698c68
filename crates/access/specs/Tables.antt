-- The three access tables and the records in their lists. Document 01: "Registers and the three access tables"; of the register table: "Its
-- record has 8 numbers: index (16 bits), timestamp, values, olds, low old stamp, is_read"; the other two lists have access records.
-- Assumes nothing.
use Rattle.std.specs.Prelude.{ℕ, Bool, eqb}
use Rattle.access.specs.Access.{ACCESS_WIDTH}
use Rattle.access.specs.declared.AccessTable.{AccessTable}
use Rattle.access.specs.declared.AccessTable.TheVariants.{General, Aligned, Register}

-- numbers in a record of the register table
abbrev pub REGISTER_WIDTH : ℕ
REGISTER_WIDTH = 8

-- numbers in a record of a table's list
abbrev pub record_width : AccessTable → ℕ
record_width General = ACCESS_WIDTH
record_width Aligned = ACCESS_WIDTH
record_width Register = REGISTER_WIDTH

-- a table's number, to tell tables apart
abbrev pub table_number : AccessTable → ℕ
table_number Register = 0
table_number Aligned = 1
table_number General = 2

-- whether two tables are the same
abbrev pub same_table : AccessTable → AccessTable → Bool
same_table s t = eqb (table_number s) (table_number t)

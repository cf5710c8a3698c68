-- The kinds of records that lists hold. Document 01: "An operation record is 16 numbers", "An access record is 29 numbers", and of the
-- register table: "Its record has 8 numbers". A call has the numbers in which it is handed in. Assumes nothing.
use Rattle.std.specs.Prelude.{ℕ, Bool, List}
use Rattle.access.specs.Access.{ACCESS_WIDTH, good_access}
use Rattle.access.specs.RegisterRecord.{good_register}
use Rattle.access.specs.Tables.{REGISTER_WIDTH}
use Rattle.call.specs.Ops.{OP_WIDTH, good_op}
use Rattle.call.specs.Flat.{HANDED_WIDTH, good_call}
use Rattle.kinds.specs.declared.RecordKind.{RecordKind}
use Rattle.kinds.specs.declared.RecordKind.TheVariants.{Operation, Access, Register, Call}

-- numbers in a record
abbrev pub kind_width : RecordKind → ℕ
kind_width Operation = OP_WIDTH
kind_width Access = ACCESS_WIDTH
kind_width Register = REGISTER_WIDTH
kind_width Call = HANDED_WIDTH

-- whether a record is whole and each field is among its values
abbrev pub good_of_kind : RecordKind → List ℕ → Bool
good_of_kind Operation r = good_op r
good_of_kind Access r = good_access r
good_of_kind Register r = good_register r
good_of_kind Call r = good_call r

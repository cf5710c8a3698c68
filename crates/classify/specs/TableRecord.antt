-- An access as the list of its table has it. Document 01, of the register table: "Its record has 8 numbers: index (16 bits), timestamp,
-- values, olds, low old stamp, is_read"; the other two lists have access records. Refusal 11: "an access routed to the register table
-- with an odd address, or address/2 above 65,535". Assumes nothing.
use Rattle.std.specs.Prelude.{ℕ, ◌+◌, ◌/◌, ◌%◌, Bool, true, ◌&&◌, List, [], ◌∷◌, eqb, leb}
use Rattle.lists.specs.Lists.{at}
use Rattle.access.specs.Access.{BASE_ADDRESS, VALUE, TIMESTAMP, IS_READ, OLD, OLD_TIMESTAMP}
use Rattle.access.specs.declared.AccessTable.{AccessTable}
use Rattle.access.specs.declared.AccessTable.TheVariants.{General, Aligned, Register}
use Rattle.words.specs.Words.{low_word}

-- the register table's record of an access
abbrev pub register_record : List ℕ → List ℕ
register_record r =
    at r BASE_ADDRESS / 2
    ∷ at r TIMESTAMP
    ∷ at r VALUE
    ∷ at r (VALUE + 1)
    ∷ at r OLD
    ∷ at r (OLD + 1)
    ∷ low_word (at r OLD_TIMESTAMP)
    ∷ at r IS_READ
    ∷ []

-- an access as a table's list has it
abbrev pub table_record : AccessTable → List ℕ → List ℕ
table_record General r = r
table_record Aligned r = r
table_record Register r = register_record r

-- whether an access at this address has a place in the table; else it is refused with 11
abbrev pub address_fits : AccessTable → ℕ → Bool
address_fits General address = true
address_fits Aligned address = true
address_fits Register address = eqb (address % 2) 0 && leb (address / 2) 65535

-- Which of the three access tables takes an access record, `classify_memw`. Document 01: "register if is_register, width 2, first two
-- old stamps equal, high words equal, low difference 1 to 65,536; else aligned if the low address word is a multiple of width and the
-- first width old stamps agree; else general." Document 02: the route's register answer carries "the low stamp difference less one", and
-- "the Rust's route is the answer without it". Assumes nothing.
use Rattle.std.specs.Prelude.{ℕ, ◌+◌, ◌-◌, ◌%◌, Bool, cond, not, ◌&&◌, List, eqb, leb, Result, Ok, Err}
use Rattle.answer.specs.Numbers.{accepted, refused}
use Rattle.lists.specs.Lists.{first, at}
use Rattle.words.specs.Words.{low_word, high_word}
use Rattle.access.specs.Access.{IS_REGISTER, BASE_ADDRESS, TIMESTAMP, WIDTH, OLD_TIMESTAMP, good_access}
use Rattle.access.specs.declared.AccessTable.{AccessTable}
use Rattle.access.specs.declared.AccessTable.TheVariants as table
use Rattle.classify.specs.declared.AccessNumbers.{AccessNumbers}
use Rattle.classify.specs.declared.AccessRoute.{AccessRoute}
use Rattle.classify.specs.declared.AccessRoute.TheVariants as answered
use Rattle.classify.specs.declared.BadRecord.{BadRecord}
use Rattle.classify.specs.declared.MemwRoute.{MemwRoute}
use Rattle.classify.specs.declared.MemwRoute.TheVariants.{Register, Aligned, General}

-- "high words equal, low difference 1 to 65,536", as `reg_ts_delta_in_range`
unfoldable pub delta_in_range : ℕ → ℕ → Bool
delta_in_range timestamp old =
    eqb (high_word timestamp) (high_word old)
    && (leb 1 (low_word timestamp - low_word old) && leb (low_word timestamp - low_word old) 65536)

-- whether the register table takes it
unfoldable pub is_register_op : List ℕ → Bool
is_register_op r =
    eqb (at r IS_REGISTER) 1
    && (eqb (at r WIDTH) 2
    && (eqb (at r OLD_TIMESTAMP) (at r (OLD_TIMESTAMP + 1)) && delta_in_range (at r TIMESTAMP) (at r OLD_TIMESTAMP)))

-- whether old stamp i is not the first one
abbrev pub other_stamp : List ℕ → ℕ → Bool
other_stamp r i = not (eqb (at r (OLD_TIMESTAMP + i)) (at r OLD_TIMESTAMP))

-- "the first width old stamps agree": none is another
unfoldable pub stamps_agree : List ℕ → Bool
stamps_agree r = eqb (first (other_stamp r) 0 (at r WIDTH)) (at r WIDTH)

-- whether the aligned table takes it, if the register table does not
unfoldable pub is_aligned_op : List ℕ → Bool
is_aligned_op r = eqb (low_word (at r BASE_ADDRESS) % at r WIDTH) 0 && stamps_agree r

unfoldable pub classify : List ℕ → MemwRoute
classify r = cond (is_register_op r) Register (cond (is_aligned_op r) Aligned General)

-- "the low stamp difference less one"
abbrev pub delta_less_one : ℕ → ℕ → ℕ
delta_less_one timestamp old = low_word timestamp - low_word old - 1

-- a route as it is answered, with d in its register case; and the route that is answered for a record
abbrev pub carrying : MemwRoute → ℕ → AccessRoute
carrying Register d = answered.Register d
carrying Aligned d = answered.Aligned
carrying General d = answered.General

abbrev pub access_route : List ℕ → AccessRoute
access_route r = carrying (classify r) (delta_less_one (at r TIMESTAMP) (at r OLD_TIMESTAMP))

-- "the Rust's route is the answer without it"
abbrev pub memw_route : AccessRoute → MemwRoute
memw_route (answered.Register d) = Register
memw_route answered.Aligned = Aligned
memw_route answered.General = General

-- the number that a route carries, 0 where it carries none
abbrev pub carried : AccessRoute → ℕ
carried (answered.Register d) = d
carried answered.Aligned = 0
carried answered.General = 0

-- the table that a route leads to, and the table that takes an access record
abbrev pub table_of : MemwRoute → AccessTable
table_of Register = table.Register
table_of Aligned = table.Aligned
table_of General = table.General

abbrev pub table_for : List ℕ → AccessTable
table_for r = table_of (classify r)

-- a route's number, in the order in which it is looked for
abbrev pub route_number : MemwRoute → ℕ
route_number Register = 0
route_number Aligned = 1
route_number General = 2

-- what `classify_memw` answers: refusal 10 where the record is not whole or a field is outside its values
unfoldable pub classify_answer : List ℕ → Result AccessRoute BadRecord
classify_answer r = cond (good_access r) (Ok (access_route r)) (Err (record {}))

-- an access that is routed, and one that is refused at place 0, in numbers: document 01's three, and what the route carries
abbrev pub access_numbers : AccessRoute → AccessNumbers
access_numbers route = record { answer = accepted (route_number (memw_route route)); delta_less_one = carried route }

abbrev pub access_refused : ℕ → AccessNumbers
access_refused number = record { answer = refused number 0; delta_less_one = 0 }

-- the numbers of each case
abbrev pub classify_numbers : Result AccessRoute BadRecord → AccessNumbers
classify_numbers (Ok route) = access_numbers route
classify_numbers (Err why) = access_refused 10

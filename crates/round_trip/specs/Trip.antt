-- The whole way: calls are expanded in turn over one window, their operation records become a table, and the rows written are checked and
-- read back. All of it is put together from the definitions that the contracts of the expansion, the maker and read-back cite. The list of
-- calls is judged first, as every list of records is. Refused calls are passed over, the maker's and read-back's refusals are passed up
-- unchanged, and a refusal writes nothing. Assumes nothing.
use Rattle.std.specs.Prelude.{◌≡◌, cond, List, ℕ, ◌*◌, ◌/◌, ◌%◌, eqb, ltb, length, take, Result, Ok, Err}
use Rattle.answer.specs.Numbers as numbers
use Rattle.answer.specs.declared.Answer.{Answer}
use Rattle.records.specs.Records.{LIMIT, record_count}
use Rattle.records.specs.Table.{TableAnswer, table_numbers}
use Rattle.call.specs.Flat.{HANDED_WIDTH}
use Rattle.expansion.specs.Tries.{Setting, under, Lent, lent, Try}
use Rattle.copy_row.specs.Columns.{COLUMNS}
use Rattle.copy_row.specs.Trace.{copy_answer, copy_after}
use Rattle.read_back.specs.ReadBack.{ReadBackAnswer, read_back_answer, read_back_numbers, ops_after, calls_after}
use Rattle.calls_in_turn.specs.Accepted.{accepted_ops, accepted_calls}
use Rattle.calls_in_turn.specs.InTurn.{calls_in, tries_of, all_expanded}
use Rattle.round_trip.specs.declared.RoundTripped.{RoundTripped}
use Rattle.round_trip.specs.declared.RoundTripRefusal.{RoundTripRefusal}
use Rattle.round_trip.specs.declared.RoundTripRefusal.TheVariants.{TooManyRecords, NotWhole, BufferShort}

-- what is lent: the expansion's four slices, the table, and read-back's two buffers
pub record TripLent : Type 0 where
  pub slices : Lent
  pub table : List ℕ
  pub ops_back : List ℕ
  pub calls_back : List ℕ

abbrev pub trip_lent : List ℕ → List ℕ → List ℕ → List ℕ → List ℕ → List ℕ → List ℕ → TripLent
trip_lent bytes stamps ops accesses table ops_back calls_back =
    record { slices = lent bytes stamps ops accesses; table = table; ops_back = ops_back; calls_back = calls_back }

-- what is handed in: the gap and the calls' numbers, with what is lent
pub record Trip : Type 0 where
  pub gap : ℕ
  pub calls : List ℕ
  pub lists : TripLent

abbrev pub trip_of : ℕ → List ℕ → TripLent → Trip
trip_of gap calls lists = record { gap = gap; calls = calls; lists = lists }

-- What goes in

abbrev pub setting_of : Trip → Setting
setting_of t = under t.gap

-- the calls as they go to the expansion, one by one
abbrev pub tries : Trip → List Try
tries t = tries_of (setting_of t) (calls_in t.calls) t.lists.slices

-- the accepted ones' operation records, joined, and their five numbers each
abbrev pub records_handed : Trip → List ℕ
records_handed t = accepted_ops (setting_of t) (tries t)

abbrev pub calls_handed : Trip → List ℕ
calls_handed t = accepted_calls (setting_of t) (tries t)

-- The table, and what is read back of it

abbrev pub maker : Trip → TableAnswer
maker t = copy_answer LIMIT (records_handed t) (length t.lists.table)

abbrev pub table_made : Trip → ℕ → List ℕ
table_made t rows = copy_after (records_handed t) (Ok rows) t.lists.table

-- the rows written, and not the rest of the table
abbrev pub written : Trip → ℕ → List ℕ
written t rows = take (COLUMNS * rows) (table_made t rows)

-- read-back runs the chain check on them first
abbrev pub reader : Trip → ℕ → ReadBackAnswer
reader t rows = read_back_answer t.gap (written t rows) (length t.lists.ops_back) (length t.lists.calls_back)

-- The answer

-- document 01's number, place and value, the value being the number of operation records; and the numbers of rows and calls
pub record RoundTripNumbers : Type 0 where
  pub answer : Answer
  pub rows : ℕ
  pub calls : ℕ

abbrev pub refused_by : Answer → RoundTripNumbers
refused_by a = record { answer = a; rows = 0; calls = 0 }

-- read-back's answer, unchanged
abbrev pub from_reader : ℕ → ReadBackAnswer → RoundTripNumbers
from_reader rows a =
    cond (eqb (read_back_numbers a).answer.number 0)
    (record { answer = (read_back_numbers a).answer; rows = rows; calls = (read_back_numbers a).calls })
    (refused_by (read_back_numbers a).answer)

-- the maker's refusal, unchanged; where it refuses nothing, `next` decides
abbrev pub on_maker : TableAnswer → (ℕ → RoundTripNumbers) → RoundTripNumbers
on_maker (Ok rows) next = next rows
on_maker (Err why) next = refused_by (table_numbers 8 (Err why))

-- the answer of the steps on a list of calls that is not refused itself
unfoldable pub steps_numbers : Trip → RoundTripNumbers
steps_numbers t = on_maker (maker t) (λ rows. from_reader rows (reader t rows))

-- the refusals of the list of calls itself, before a call is looked at. Document 01: 8 of "an input list above 65,536 records, a cut last
-- one counted", and 10 of a "list not whole records .. place is the record (a cut last one counts)"; else `next` decides
abbrev pub on_list : List ℕ → RoundTripNumbers → RoundTripNumbers
on_list calls next =
    cond (ltb LIMIT (record_count HANDED_WIDTH calls)) (refused_by (numbers.refused 8 0))
    (cond (eqb (length calls % HANDED_WIDTH) 0) next (refused_by (numbers.refused 10 (length calls / HANDED_WIDTH))))

-- the whole answer
unfoldable pub trip_numbers : Trip → RoundTripNumbers
trip_numbers t = on_list t.calls (steps_numbers t)

-- what the code answers
abbrev pub RoundTripAnswer : Type 0
RoundTripAnswer = Result RoundTripped RoundTripRefusal

-- document 01's number and place of each of its refusals, and the numbers of its answer
abbrev pub round_trip_refusal_numbers : RoundTripRefusal → Answer
round_trip_refusal_numbers TooManyRecords = numbers.refused 8 0
round_trip_refusal_numbers (NotWhole place) = numbers.refused 10 place
round_trip_refusal_numbers BufferShort = numbers.refused 9 0

abbrev pub round_trip_numbers : RoundTripAnswer → RoundTripNumbers
round_trip_numbers (Ok found) = record { answer = numbers.accepted found.ops; rows = found.rows; calls = found.calls }
round_trip_numbers (Err why) = refused_by (round_trip_refusal_numbers why)

-- What is lent, afterwards

-- the way itself, the table having this many rows
unfoldable pub trip_run : Trip → ℕ → TripLent
trip_run t rows =
    record {
      slices = all_expanded (setting_of t) (calls_in t.calls) t.lists.slices;
      table = table_made t rows;
      ops_back = ops_after (reader t rows) (written t rows) t.lists.ops_back;
      calls_back = calls_after (reader t rows) (written t rows) t.lists.calls_back;
    }

-- a refusal writes nothing
unfoldable pub trip_after : Trip → TripLent
trip_after t = cond (eqb (trip_numbers t).answer.number 0) (trip_run t (trip_numbers t).rows) t.lists

-- what `round_trip` has to show: its answer, and what is lent when it is done
pub record Ended (t : Trip) (numbers : RoundTripNumbers) (after : TripLent) : Type 0 where
  pub answer : numbers ≡ trip_numbers t
  pub lists : after ≡ trip_after t

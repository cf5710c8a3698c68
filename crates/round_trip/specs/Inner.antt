-- The answer of the whole way by the calls and by lengths alone, as the code finds it before anything is written: cited by the contracts
-- of inner functions alone. That it is the answer is what the contract of `round_trip` says. Assumes nothing.
use Rattle.std.specs.Prelude.{◌≡◌, cond, ◌||◌, List, ℕ, ◌*◌, ◌/◌, ◌%◌, ltb, eqb, length, Ok, Err}
use Rattle.records.specs.Records.{LIMIT, record_count}
use Rattle.records.specs.RowCount.{row_count}
use Rattle.call.specs.Ops.{OP_WIDTH}
use Rattle.call.specs.Flat.{CALL_WIDTH, HANDED_WIDTH}
use Rattle.expansion.specs.Tries.{under, Lengths}
use Rattle.copy_row.specs.Columns.{COLUMNS}
use Rattle.calls_in_turn.specs.InTurn.{calls_in}
use Rattle.calls_in_turn.specs.Counts.{all_records, all_calls}
use Rattle.round_trip.specs.Trip.{Trip, records_handed, maker, RoundTripAnswer}
use Rattle.round_trip.specs.declared.RoundTripRefusal.TheVariants.{TooManyRecords, NotWhole, BufferShort}

-- n records and m calls are accepted, and the table and read-back's two buffers have room for so many numbers
unfoldable pub decided : ℕ → ℕ → ℕ → ℕ → ℕ → RoundTripAnswer
decided n m tableRoom opsRoom callsRoom =
    cond (ltb LIMIT n) (Err TooManyRecords)
    (cond (ltb tableRoom (COLUMNS * row_count n)) (Err BufferShort)
    (cond (ltb opsRoom (OP_WIDTH * n) || ltb callsRoom (CALL_WIDTH * m)) (Err BufferShort)
    (Ok (record { rows = row_count n; ops = n; calls = m }))))

-- the calls are handed in with slices of these lengths: the list of calls first, then the counts
unfoldable pub foretold : ℕ → List ℕ → Lengths → ℕ → ℕ → ℕ → RoundTripAnswer
foretold gap calls n tableRoom opsRoom callsRoom =
    cond (ltb LIMIT (record_count HANDED_WIDTH calls)) (Err TooManyRecords)
    (cond (eqb (length calls % HANDED_WIDTH) 0)
    (decided (all_records (under gap) (calls_in calls) n) (all_calls (under gap) (calls_in calls) n) tableRoom opsRoom callsRoom)
    (Err (NotWhole (length calls / HANDED_WIDTH))))

-- the maker has nothing to refuse: it makes this many rows of this many records
pub record Tabled (t : Trip) (n rows : ℕ) : Type 0 where
  pub made : maker t ≡ Ok rows
  pub records : length (records_handed t) ≡ OP_WIDTH * n

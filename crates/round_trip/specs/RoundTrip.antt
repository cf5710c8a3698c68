-- What the whole way comes to: "what comes back is what went in". The answer of `round_trip` and all that it leaves are told by
-- composition in Trip.antt; this is what demand 3 makes of it. Assumes nothing.
use Rattle.std.specs.Prelude.{◌≡◌, ◌⊎◌, ◌↔◌, ℕ, ◌*◌, ◌/◌, ◌%◌, ◌^◌, ◌≤◌, ◌<◌, length}
use Rattle.lists.specs.Lists.{store}
use Rattle.records.specs.Records.{LIMIT, record_count}
use Rattle.records.specs.RowCount.{row_count}
use Rattle.call.specs.Ops.{OP_WIDTH}
use Rattle.call.specs.Flat.{CALL_WIDTH, HANDED_WIDTH}
use Rattle.words.specs.Words.{Bytes}
use Rattle.copy_row.specs.Columns.{COLUMNS}
use Rattle.whole_calls.specs.Demand.{Passes}
use Rattle.round_trip.specs.Trip.{Trip, records_handed, calls_handed, written, trip_numbers, trip_after}

-- what the types of the code say
pub record TypedTrip (t : Trip) : Type 0 where
  pub gap : t.gap < 2 ^ 32
  pub bytes : Bytes t.lists.slices.bytes

-- how many calls are handed in, a cut last one counted
abbrev pub calls_count : Trip → ℕ
calls_count t = record_count HANDED_WIDTH t.calls

-- whether the list of calls is not refused itself: it is short enough, and no call is cut
abbrev pub GoodList : Trip → Type 0
GoodList t = (calls_count t ≤ LIMIT) × (length t.calls % HANDED_WIDTH ≡ 0)

-- document 01's number of the answer, how many records go in, and how many rows their table has
abbrev pub trip_number : Trip → ℕ
trip_number t = (trip_numbers t).answer.number

abbrev pub records_count : Trip → ℕ
records_count t = length (records_handed t) / OP_WIDTH

abbrev pub rows_count : Trip → ℕ
rows_count t = row_count (records_count t)

-- whether a buffer is shorter than what goes into it: the table, or one of read-back's
abbrev pub Short : Trip → Type 0
Short t =
    (length t.lists.table < COLUMNS * rows_count t)
    ⊎ (length t.lists.ops_back < length (records_handed t))
    ⊎ (length t.lists.calls_back < length (calls_handed t))

-- where nothing is refused
pub record CameBack (t : Trip) : Type 0 where
  -- the counts are those of what went in
  pub rows : (trip_numbers t).rows ≡ rows_count t
  pub records : (trip_numbers t).answer.value ≡ records_count t
  pub calls : (trip_numbers t).calls ≡ length (calls_handed t) / CALL_WIDTH
  -- the verdict on the rows written is a pass
  pub passes : Passes t.gap (written t (trip_numbers t).rows)
  -- and what comes back is what went in; numbers past it keep their values
  pub ops_back_lem : (trip_after t).ops_back ≡ store t.lists.ops_back 0 (records_handed t)
  pub calls_back_lem : (trip_after t).calls_back ≡ store t.lists.calls_back 0 (calls_handed t)

pub record RoundTrip : Type 0 where
  -- the refusals are 8 and 10 of the list of calls, the maker's 8 and 9 and read-back's 9, and nothing else
  pub answers : (t : Trip) → TypedTrip t → (trip_number t ≡ 0) ⊎ (trip_number t ≡ 8) ⊎ (trip_number t ≡ 9) ⊎ (trip_number t ≡ 10)
  -- 10 exactly if there are not above 65,536 calls, and the last one is cut; the place is that one
  pub ten : (t : Trip) → TypedTrip t → (trip_number t ≡ 10) ↔ ((calls_count t ≤ LIMIT) × (0 < length t.calls % HANDED_WIDTH))
  pub ten_place : (t : Trip) → TypedTrip t → trip_number t ≡ 10 → (trip_numbers t).answer.place ≡ length t.calls / HANDED_WIDTH
  -- 8 exactly if there are above 65,536 calls, or calls that make above 65,536 records
  pub eight : (t : Trip) → TypedTrip t → (trip_number t ≡ 8) ↔ ((LIMIT < calls_count t) ⊎ (GoodList t × (LIMIT < records_count t)))
  -- 9 exactly if there is nothing of this, and a buffer is short
  pub nine : (t : Trip) → TypedTrip t → (trip_number t ≡ 9) ↔ (GoodList t × (records_count t ≤ LIMIT) × Short t)
  -- otherwise what went in comes back
  pub back : (t : Trip) → TypedTrip t → trip_number t ≡ 0 → CameBack t

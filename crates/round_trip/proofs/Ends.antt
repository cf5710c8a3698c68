-- What the code needs: what `foretell` has found out where it answers a pass, what the parts that `run` lends are, and how a trip ends.
-- Assumes nothing.
use mathlib.Core.Path.{◌≡◌, refl, sym, ap, ◌∙◌}
use mathlib.Core.Bool.{Bool, true, false, cond, ◌||◌}
use mathlib.Core.List.{List}
use Prim.Native.Nat.{ℕ, ◌-◌, ◌*◌, ◌/◌, ◌%◌, ◌≤◌}
use native.Mathlib.Nat.{sub-zero}
use native.Mathlib.Omega.{arith}
use borrow.Author.Tests.{ltb-false}
use lib.Dec.{ltb, eqb}
use lib.ListN.{length, take}
use Rattle.std.specs.Prelude.{Ok, Err}
use lib.Seq.{take_at}
use Rattle.lists.specs.Lists.{store}
use Rattle.lists.proofs.Store.{length_store, store_eq}
use Rattle.records.specs.Records.{LIMIT, record_count}
use Rattle.records.specs.RowCount.{row_count}
use Rattle.records.specs.Table.{TableAnswer}
use Rattle.call.specs.Ops.{OP_WIDTH}
use Rattle.call.specs.Flat.{CALL_WIDTH, HANDED_WIDTH}
use Rattle.expansion.specs.Tries.{Lent}
use Rattle.copy_row.specs.Columns.{COLUMNS}
use Rattle.copy_row.specs.Trace.{copy_answer, copy_after}
use Rattle.copy_row.proofs.CopyTable.{made_facts, after_length}
use Rattle.read_back.specs.ReadBack.{ReadBackAnswer, read_back_answer, ops_after, calls_after}
use Rattle.calls_in_turn.specs.InTurn.{calls_in, all_expanded}
use Rattle.calls_in_turn.proofs.Counted.{records_fit}
use Rattle.round_trip.specs.Trip.{TripLent, Trip, setting_of, records_handed, table_made, written}
use Rattle.round_trip.specs.Trip.{RoundTripNumbers, trip_numbers, RoundTripAnswer, round_trip_numbers, trip_run, trip_after, Ended}
use Rattle.round_trip.specs.Inner.{decided, foretold, Tabled}
use Rattle.round_trip.specs.RoundTrip.{TypedTrip}
use Rattle.round_trip.specs.declared.RoundTripped.{RoundTripped}
use Rattle.round_trip.specs.declared.RoundTripRefusal.{RoundTripRefusal}
use Rattle.round_trip.specs.declared.RoundTripRefusal.TheVariants.{TooManyRecords, NotWhole, BufferShort}
use Rattle.round_trip.proofs.Whole.{handed_length, decided_of, foretold_of, made, foretold_is}

-- `decide` and `foretell`

module _ (n m room_table room_ops calls_room : ℕ) where
  -- what a pass has found out
  pub record Found (found : RoundTripped) : Type 0 where
    pub few : n ≤ LIMIT
    pub rows_are : found.rows ≡ row_count n
    pub ops_are : found.ops ≡ n
    pub room : COLUMNS * row_count n ≤ room_table

  pub decided_found : (found : RoundTripped) → decided n m room_table room_ops calls_room ≡ Ok found → Found found
  unfolding decided
  decided_found found e = go _ _ (ltb room_ops (OP_WIDTH * n) || ltb calls_room (CALL_WIDTH * m)) refl refl e
    where
      go : (x y z : Bool) → ltb LIMIT n ≡ x → ltb room_table (COLUMNS * row_count n) ≡ y
          → cond x (Err TooManyRecords)
          (cond y (Err BufferShort) (cond z (Err BufferShort) (Ok (record { rows = row_count n; ops = n; calls = m }))))
          ≡ Ok found
          → Found found
      go true y z p q e = let never : ◌≡◌ {A = ℕ} 0 1 = cc in absurd (omega arith)
      go false true z p q e = let never : ◌≡◌ {A = ℕ} 0 1 = cc in absurd (omega arith)
      go false false true p q e = let never : ◌≡◌ {A = ℕ} 0 1 = cc in absurd (omega arith)
      go false false false p q e =
          let same : record { rows = row_count n; ops = n; calls = m } ≡ found = cc in
          record {
            few = ltb-false LIMIT n p;
            rows_are = ap (λ (x : RoundTripped). x.rows) (sym same);
            ops_are = ap (λ (x : RoundTripped). x.ops) (sym same);
            room = ltb-false room_table _ q;
          }

-- a pass is one by the counts
pub passed_counts : (t : Trip) (found : RoundTripped) → foretold_of t ≡ Ok found → decided_of t ≡ Ok found
unfolding foretold
passed_counts t found = go (ltb LIMIT (record_count HANDED_WIDTH t.calls)) (eqb (length t.calls % HANDED_WIDTH) 0)
  where
    go : (many whole : Bool)
        → cond many (Err TooManyRecords) (cond whole (decided_of t) (Err (NotWhole (length t.calls / HANDED_WIDTH)))) ≡ Ok found
        → decided_of t ≡ Ok found
    go true whole e = let never : ◌≡◌ {A = ℕ} 0 1 = cc in absurd (omega arith)
    go false true e = e
    go false false e = let never : ◌≡◌ {A = ℕ} 0 1 = cc in absurd (omega arith)

-- `run`

module _ (t : Trip) (n rows : ℕ) (tabled : Tabled t n rows) where
  pub ops_room : OP_WIDTH * n ≤ length t.lists.slices.ops
  ops_room = omega (arith, tabled.records, records_fit (setting_of t) (calls_in t.calls) t.lists.slices)

  pub table_room : COLUMNS * rows ≤ length t.lists.table
  table_room = (made_facts LIMIT (records_handed t) (length t.lists.table) rows tabled.made).fits

  module _ (slices : Lent) (expanded : slices ≡ all_expanded (setting_of t) (calls_in t.calls) t.lists.slices) where
    pub ops_kept : OP_WIDTH * n ≤ length slices.ops
    unfolding all_expanded
    ops_kept = omega (arith, ops_room, ap (λ (x : Lent). length x.ops) expanded, length_store t.lists.slices.ops 0 (records_handed t))

    -- the part of the record buffer that is lent
    lent_records : take (OP_WIDTH * n - 0) slices.ops ≡ records_handed t
    unfolding all_expanded
    lent_records =
        let stored : slices.ops ≡ store t.lists.slices.ops 0 (records_handed t) = ap (λ (x : Lent). x.ops) expanded in
        rw sub-zero
        (ap (take (OP_WIDTH * n)) (stored ∙ store_eq t.lists.slices.ops 0 (records_handed t) (omega (arith, ops_room, tabled.records)))
        ∙ take_at (records_handed t) _ (OP_WIDTH * n) tabled.records)

    module _
        (table : List ℕ)
        (written_table : let part = take (OP_WIDTH * n - 0) slices.ops in
        table ≡ copy_after part (copy_answer LIMIT part (length t.lists.table)) t.lists.table) where
      made_table : table ≡ table_made t rows
      made_table =
          written_table
          ∙ ap (λ r. copy_after r (copy_answer LIMIT r (length t.lists.table)) t.lists.table) lent_records
          ∙ ap (λ (a : TableAnswer). copy_after (records_handed t) a t.lists.table) tabled.made

      pub table_kept : COLUMNS * rows ≤ length table
      table_kept = omega (arith, table_room, ap length made_table, after_length (records_handed t) (Ok rows) t.lists.table)

      -- and of the table: the rows written
      lent_rows : take (COLUMNS * rows - 0) table ≡ written t rows
      lent_rows = rw sub-zero (ap (take (COLUMNS * rows)) made_table)

      pub ran : (ops_back calls_back : List ℕ) → let l = take (COLUMNS * rows - 0) table in
          let answer = read_back_answer t.gap l (length t.lists.ops_back) (length t.lists.calls_back) in
          ops_back ≡ ops_after answer l t.lists.ops_back → calls_back ≡ calls_after answer l t.lists.calls_back
          → record { slices = slices; table = table; ops_back = ops_back; calls_back = calls_back } ≡ trip_run t rows
      unfolding trip_run
      ran ops_back calls_back a b =
          let told : List ℕ → ReadBackAnswer = λ l. read_back_answer t.gap l (length t.lists.ops_back) (length t.lists.calls_back) in
          let ops = a ∙ ap (λ l. ops_after (told l) l t.lists.ops_back) lent_rows in
          let calls = b ∙ ap (λ l. calls_after (told l) l t.lists.calls_back) lent_rows in
          λ i. record { slices = expanded i; table = made_table i; ops_back = ops i; calls_back = calls i }

-- `round_trip`

module _ (t : Trip) (typed : TypedTrip t) (a : RoundTripAnswer) (e : a ≡ foretold_of t) where
  numbers : round_trip_numbers a ≡ trip_numbers t
  numbers = ap round_trip_numbers e ∙ foretold_is t typed

  -- `run` may go on
  pub may_run : (found : RoundTripped) → a ≡ Ok found → Tabled t found.ops found.rows
  may_run found q =
      let f = decided_found _ _ _ _ _ found (passed_counts t found (sym e ∙ q)) in
      record {
        made = made t typed f.few f.room ∙ ap Ok (sym f.rows_are);
        records = handed_length t ∙ ap (λ n. OP_WIDTH * n) (sym f.ops_are);
      }

  pub ended_through : (found : RoundTripped) → a ≡ Ok found → (after : TripLent) → after ≡ trip_run t found.rows
      → Ended t (round_trip_numbers (Ok found)) after
  unfolding trip_after
  ended_through found q after r =
      let told : trip_numbers t ≡ round_trip_numbers (Ok found) = sym numbers ∙ ap round_trip_numbers q in
      let none : eqb (trip_numbers t).answer.number 0 ≡ true = ap (λ (x : RoundTripNumbers). eqb x.answer.number 0) told in
      let same : (trip_numbers t).rows ≡ found.rows = ap (λ (x : RoundTripNumbers). x.rows) told in
      record { answer = sym told; lists = rw (none, same) r }

  -- a refusal writes nothing
  pub ended_refused : (why : RoundTripRefusal) → a ≡ Err why → Ended t (round_trip_numbers (Err why)) t.lists
  unfolding trip_after
  ended_refused why q =
      let told : trip_numbers t ≡ round_trip_numbers (Err why) = sym numbers ∙ ap round_trip_numbers q in
      let other : eqb (trip_numbers t).answer.number 0 ≡ false = ap (λ (x : RoundTripNumbers). eqb x.answer.number 0) told ∙ go why in
      record { answer = sym told; lists = rw other }
    where
      go : (why : RoundTripRefusal) → eqb (round_trip_numbers (Err why)).answer.number 0 ≡ false
      go TooManyRecords = refl
      go (NotWhole place) = refl
      go BufferShort = refl

-- The ways that a trip can end: the list of calls is refused itself; or, by its counts, above 65,536 records, a buffer that is short, or
-- through; and what the definitions come to in each. The records of accepted calls are good, so the maker has nothing else to refuse, and
-- demand 3 says that the rows written pass and are read back as what went in. Assumes nothing.
use mathlib.Core.Path.{◌≡◌, refl, sym, ap, ◌∙◌}
use mathlib.Core.Bool.{Bool, true, false, cond, or-true}
use mathlib.Core.Logic.{◌⊎◌, inl, inr}
use mathlib.Core.List.{List, map, flat_map}
use mathlib.Core.Option.{none}
use Prim.Native.Nat.{ℕ, ◌*◌, ◌/◌, ◌%◌, ◌≤◌, ◌<◌}
use native.Mathlib.Omega.{arith}
use borrow.Author.Tests.{lt-ltb, le-ltb, le-leb, lt-leb, ltb-true, ltb-false, leb-true, leb-false, eqb-true, eqb-false}
use lib.Dec.{ltb, leb, eqb}
use lib.ListN.{length}
use Rattle.std.specs.Prelude.{Ok, Err}
use Rattle.answer.specs.Numbers.{accepted, refused}
use Rattle.lists.specs.Lists.{store, All}
use Rattle.lists.proofs.Joined.{flat_map_length}
use Rattle.records.specs.Records.{LIMIT, records_in}
use Rattle.records.specs.RowCount.{row_count}
use Rattle.records.specs.Table.{TableAnswer}
use Rattle.records.specs.declared.TableRefusal.TheVariants as table
use Rattle.call.specs.Ops.{op_record, OP_WIDTH}
use Rattle.call.specs.Flat.{CALL_WIDTH, HANDED_WIDTH}
use Rattle.call.specs.Cuts.{CutCall, ops_of}
use Rattle.expansion.specs.Tries.{lengths, Typed}
use Rattle.copy_row.specs.Columns.{COLUMNS}
use Rattle.copy_row.specs.Trace.{copy_answer}
use Rattle.copy_meaning.specs.Steps.{LiveStep}
use Rattle.call_chain.proofs.Chained.{chain}
use Rattle.read_back.specs.ReadBack.{ReadBackAnswer, ops_after, calls_after}
use Rattle.read_back.specs.declared.ReadBackRefusal.TheVariants as read
use Rattle.calls_in_turn.specs.Accepted.{accepted_of}
use Rattle.calls_in_turn.specs.InTurn.{calls_in}
use Rattle.calls_in_turn.specs.Counts.{all_records, all_calls}
use Rattle.calls_in_turn.proofs.Counted.{records_counted, calls_counted}
use Rattle.calls_in_turn.proofs.Typed.{calls_words, tries_typed}
use Rattle.whole_calls.specs.Demand.{Passes, ReadsBack}
use Rattle.whole_calls.proofs.LiveRows.{steps}
use Rattle.whole_calls.proofs.GoodRecords.{records_wide, maker_answer}
use Rattle.whole_calls.proofs.Accepted.{cut_try, tries_fit, tries_wrote}
use Rattle.whole_calls.proofs.Demand.{demand3}
use Rattle.round_trip.specs.Trip.{Trip, setting_of, tries, records_handed, calls_handed, maker, written, reader}
use Rattle.round_trip.specs.Trip.{RoundTripNumbers, refused_by, from_reader, on_maker, steps_numbers, trip_numbers, RoundTripAnswer, round_trip_numbers}
use Rattle.round_trip.specs.Inner.{decided, foretold}
use Rattle.round_trip.specs.RoundTrip.{TypedTrip, calls_count, GoodList}
use Rattle.round_trip.specs.declared.RoundTripRefusal.TheVariants.{TooManyRecords, NotWhole, BufferShort}

-- how many records and calls go in
abbrev pub records_ahead : Trip → ℕ
records_ahead t = all_records (setting_of t) (calls_in t.calls) (lengths t.lists.slices)

abbrev pub calls_ahead : Trip → ℕ
calls_ahead t = all_calls (setting_of t) (calls_in t.calls) (lengths t.lists.slices)

pub handed_length : (t : Trip) → length (records_handed t) ≡ OP_WIDTH * records_ahead t
handed_length t = records_counted (setting_of t) (calls_in t.calls) t.lists.slices

pub calls_length : (t : Trip) → length (calls_handed t) ≡ CALL_WIDTH * calls_ahead t
calls_length t = calls_counted (setting_of t) (calls_in t.calls) t.lists.slices

-- what is answered where nothing is refused
abbrev pub through : Trip → RoundTripNumbers
through t = record { answer = accepted (records_ahead t); rows = row_count (records_ahead t); calls = calls_ahead t }

-- a buffer is short
abbrev pub ShortOf : Trip → Type 0
ShortOf t =
    (length t.lists.table < COLUMNS * row_count (records_ahead t))
    ⊎ (length t.lists.ops_back < OP_WIDTH * records_ahead t)
    ⊎ (length t.lists.calls_back < CALL_WIDTH * calls_ahead t)

-- the answer by counts
abbrev pub decided_of : Trip → RoundTripAnswer
decided_of t = decided (records_ahead t) (calls_ahead t) (length t.lists.table) (length t.lists.ops_back) (length t.lists.calls_back)

-- and by the list of calls before them
abbrev pub foretold_of : Trip → RoundTripAnswer
foretold_of t =
    foretold t.gap t.calls (lengths t.lists.slices) (length t.lists.table) (length t.lists.ops_back) (length t.lists.calls_back)

-- the three ways of a list that is not refused itself
pub data Way (t : Trip) : Type 0 where
  over : LIMIT < records_ahead t → Way t
  short : records_ahead t ≤ LIMIT → ShortOf t → Way t
  passed : records_ahead t ≤ LIMIT → COLUMNS * row_count (records_ahead t) ≤ length t.lists.table → OP_WIDTH * records_ahead t ≤ length t.lists.ops_back
      → CALL_WIDTH * calls_ahead t ≤ length t.lists.calls_back → Way t

pub way : (t : Trip) → Way t
way t = go _ _ _ _ refl refl refl refl
  where
    go : (x y z w : Bool) → ltb LIMIT (records_ahead t) ≡ x → leb (COLUMNS * row_count (records_ahead t)) (length t.lists.table) ≡ y
        → leb (OP_WIDTH * records_ahead t) (length t.lists.ops_back) ≡ z → leb (CALL_WIDTH * calls_ahead t) (length t.lists.calls_back) ≡ w → Way t
    go true y z w p q r s = over (ltb-true _ _ p)
    go false false z w p q r s = short (ltb-false _ _ p) (inl (leb-false _ _ q))
    go false true false w p q r s = short (ltb-false _ _ p) (inr (inl (leb-false _ _ r)))
    go false true true false p q r s = short (ltb-false _ _ p) (inr (inr (leb-false _ _ s)))
    go false true true true p q r s = passed (ltb-false _ _ p) (leb-true _ _ q) (leb-true _ _ r) (leb-true _ _ s)

-- What the definitions come to

module _ (t : Trip) (typed : TypedTrip t) where
  pub all_typed : All Typed (tries t)
  all_typed =
      tries_typed (setting_of t) (calls_in t.calls) t.lists.slices (calls_words (records_in HANDED_WIDTH t.calls)) typed.bytes

  abbrev ks : List CutCall
  ks = map cut_try (accepted_of (setting_of t) (tries t))

  live : All (LiveStep t.gap) (ops_of ks)
  live = steps t.gap none (ops_of ks) (chain t.gap ks (tries_fit t.gap (tries t) all_typed))

  wrote : records_handed t ≡ flat_map op_record (ops_of ks)
  wrote = tries_wrote t.gap (tries t) all_typed

  ops_count : length (ops_of ks) ≡ records_ahead t
  ops_count =
      omega (arith, flat_map_length OP_WIDTH op_record (ops_of ks) (records_wide t.gap (ops_of ks) live), ap length wrote, handed_length t)

  abbrev maker_for : ℕ → TableAnswer
  maker_for n =
      cond (ltb LIMIT n) (Err table.TooManyRecords)
      (cond (leb (COLUMNS * row_count n) (length t.lists.table)) (Ok (row_count n)) (Err table.BufferShort))

  maker_is : maker t ≡ maker_for (records_ahead t)
  maker_is =
      ap (λ r. copy_answer LIMIT r (length t.lists.table)) wrote
      ∙ maker_answer t.gap LIMIT (length t.lists.table) (ops_of ks) live
      ∙ ap maker_for ops_count

  pub steps_over : LIMIT < records_ahead t → steps_numbers t ≡ refused_by (refused 8 0)
  unfolding steps_numbers
  steps_over h =
      let made : maker t ≡ Err table.TooManyRecords = maker_is ∙ rw (lt-ltb _ _ h) in
      ap (λ (a : TableAnswer). on_maker a (λ rows. from_reader rows (reader t rows))) made

  module _ (few : records_ahead t ≤ LIMIT) where
    steps_unmade : length t.lists.table < COLUMNS * row_count (records_ahead t) → steps_numbers t ≡ refused_by (refused 9 0)
    unfolding steps_numbers
    steps_unmade h =
        let made : maker t ≡ Err table.BufferShort = maker_is ∙ rw (le-ltb _ _ few, lt-leb _ _ h) in
        ap (λ (a : TableAnswer). on_maker a (λ rows. from_reader rows (reader t rows))) made

    module _ (room : COLUMNS * row_count (records_ahead t) ≤ length t.lists.table) where
      abbrev rows : ℕ
      rows = row_count (records_ahead t)

      pub made : maker t ≡ Ok rows
      made = maker_is ∙ rw (le-ltb _ _ few, le-leb _ _ room)

      -- demand 3
      pub by_demand : Passes t.gap (written t rows)
          × ((ops calls : List ℕ) → ReadsBack t.gap (written t rows) (records_handed t) (calls_handed t) ops calls)
      by_demand = demand3.made t.gap typed.gap (tries t) all_typed t.lists.table rows made

      on_reader : (a : ReadBackAnswer) → reader t rows ≡ a → steps_numbers t ≡ from_reader rows a
      unfolding steps_numbers
      on_reader a e = ap (λ (x : TableAnswer). on_maker x (λ n. from_reader n (reader t n))) made ∙ ap (from_reader rows) e

      pub steps_unread : (length t.lists.ops_back < OP_WIDTH * records_ahead t) ⊎ (length t.lists.calls_back < CALL_WIDTH * calls_ahead t)
          → steps_numbers t ≡ refused_by (refused 9 0)
      steps_unread h = on_reader (Err read.BufferShort) ((by_demand.1 t.lists.ops_back t.lists.calls_back).short (go h))
        where
          go : (length t.lists.ops_back < OP_WIDTH * records_ahead t) ⊎ (length t.lists.calls_back < CALL_WIDTH * calls_ahead t)
              → (length t.lists.ops_back < length (records_handed t)) ⊎ (length t.lists.calls_back < length (calls_handed t))
          go (inl h) = inl (omega (arith, handed_length t))
          go (inr h) = inr (omega (arith, calls_length t))

      module _ (a : OP_WIDTH * records_ahead t ≤ length t.lists.ops_back) (b : CALL_WIDTH * calls_ahead t ≤ length t.lists.calls_back) where
        back : (reader t rows ≡ Ok (record { ops = length (records_handed t) / OP_WIDTH; calls = length (calls_handed t) / CALL_WIDTH }))
            × (ops_after (reader t rows) (written t rows) t.lists.ops_back ≡ store t.lists.ops_back 0 (records_handed t))
            × (calls_after (reader t rows) (written t rows) t.lists.calls_back ≡ store t.lists.calls_back 0 (calls_handed t))
        back =
            (by_demand.1 t.lists.ops_back t.lists.calls_back).reads (omega (arith, handed_length t)) (omega (arith, calls_length t))

        pub steps_passed : steps_numbers t ≡ through t
        steps_passed =
            let n : length (records_handed t) / OP_WIDTH ≡ records_ahead t = omega (arith, handed_length t) in
            let m : length (calls_handed t) / CALL_WIDTH ≡ calls_ahead t = omega (arith, calls_length t) in
            on_reader (Ok (record { ops = records_ahead t; calls = calls_ahead t })) (back.0 ∙ rw (n, m))

        pub read_ops_lem : ops_after (reader t rows) (written t rows) t.lists.ops_back ≡ store t.lists.ops_back 0 (records_handed t)
        read_ops_lem = back.1

        pub read_calls_lem : calls_after (reader t rows) (written t rows) t.lists.calls_back ≡ store t.lists.calls_back 0 (calls_handed t)
        read_calls_lem = back.2

  pub steps_short : records_ahead t ≤ LIMIT → ShortOf t → steps_numbers t ≡ refused_by (refused 9 0)
  steps_short few (inl h) = steps_unmade few h
  steps_short few (inr h) = go (leb (COLUMNS * row_count (records_ahead t)) (length t.lists.table)) refl
    where
      go : (x : Bool) → leb (COLUMNS * row_count (records_ahead t)) (length t.lists.table) ≡ x → steps_numbers t ≡ refused_by (refused 9 0)
      go true e = steps_unread few (leb-true _ _ e) h
      go false e = steps_unmade few (leb-false _ _ e)

  -- the answer by counts is the answer
  abbrev unmade : Bool
  unmade = ltb (length t.lists.table) (COLUMNS * row_count (records_ahead t))

  pub decided_is : round_trip_numbers (decided_of t) ≡ steps_numbers t
  unfolding decided
  decided_is = go (way t)
    where
      either : (b : Bool) → round_trip_numbers (cond b (Err BufferShort) (Err BufferShort)) ≡ refused_by (refused 9 0)
      either true = refl
      either false = refl

      go : Way t → round_trip_numbers (decided_of t) ≡ steps_numbers t
      go (over h) = rw (lt-ltb _ _ h) (sym (steps_over h))
      go (short few (inl h)) = rw (le-ltb _ _ few, lt-ltb _ _ h) (sym (steps_short few (inl h)))
      go (short few (inr (inl h))) =
          rw (le-ltb _ _ few, lt-ltb (length t.lists.ops_back) (OP_WIDTH * records_ahead t) h) (either unmade ∙ sym (steps_short few (inr (inl h))))
      go (short few (inr (inr h))) =
          rw (le-ltb _ _ few, lt-ltb (length t.lists.calls_back) (CALL_WIDTH * calls_ahead t) h, or-true)
          (either unmade ∙ sym (steps_short few (inr (inr h))))
      go (passed few room a b) = rw (le-ltb _ _ few, le-ltb _ _ room, le-ltb _ _ a, le-ltb _ _ b) (sym (steps_passed few room a b))

  -- and so it is with the list of calls before it
  pub foretold_is : round_trip_numbers (foretold_of t) ≡ trip_numbers t
  unfolding foretold trip_numbers
  foretold_is = go (ltb LIMIT (calls_count t)) (eqb (length t.calls % HANDED_WIDTH) 0)
    where
      go : (many whole : Bool)
          → let place = length t.calls / HANDED_WIDTH in
          round_trip_numbers (cond many (Err TooManyRecords) (cond whole (decided_of t) (Err (NotWhole place))))
          ≡ cond many (refused_by (refused 8 0)) (cond whole (steps_numbers t) (refused_by (refused 10 place)))
      go true whole = refl
      go false true = decided_is
      go false false = refl

-- The list of calls

-- too many calls, a cut last one, or neither
pub data Listed (t : Trip) : Type 0 where
  many : LIMIT < calls_count t → trip_numbers t ≡ refused_by (refused 8 0) → Listed t
  cut : calls_count t ≤ LIMIT → 0 < length t.calls % HANDED_WIDTH
      → trip_numbers t ≡ refused_by (refused 10 (length t.calls / HANDED_WIDTH)) → Listed t
  good : GoodList t → trip_numbers t ≡ steps_numbers t → Listed t

pub listed : (t : Trip) → Listed t
unfolding trip_numbers
listed t = go _ _ refl refl
  where
    go : (x y : Bool) → ltb LIMIT (calls_count t) ≡ x → eqb (length t.calls % HANDED_WIDTH) 0 ≡ y → Listed t
    go true y p q = many (ltb-true _ _ p) (rw p)
    go false false p q = cut (ltb-false _ _ p) (omega (arith, eqb-false (length t.calls % HANDED_WIDTH) 0 q)) (rw (p, q))
    go false true p q = good (ltb-false _ _ p, eqb-true _ _ q) (rw (p, q))

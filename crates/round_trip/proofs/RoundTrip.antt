-- What comes back is what went in: by the ways that a trip can end. Assumes nothing.
use mathlib.Core.Path.{◌≡◌, sym, ap, ◌∙◌, subst}
use mathlib.Core.Bool.{cond}
use mathlib.Core.Logic.{◌⊎◌, inl, inr}
use Prim.Native.Nat.{ℕ, ◌/◌, ◌%◌, ◌≤◌, ◌<◌}
use native.Mathlib.Omega.{arith}
use lib.Dec.{eqb}
use lib.ListN.{length}
use Rattle.answer.specs.Numbers.{refused}
use Rattle.records.specs.Records.{LIMIT}
use Rattle.records.specs.RowCount.{row_count}
use Rattle.call.specs.Flat.{HANDED_WIDTH}
use Rattle.whole_calls.specs.Demand.{Passes}
use Rattle.round_trip.specs.Trip.{TripLent, Trip, written, RoundTripNumbers, refused_by, steps_numbers, trip_numbers, trip_run, trip_after}
use Rattle.round_trip.specs.RoundTrip.{TypedTrip, calls_count, GoodList, trip_number, records_count, rows_count, Short, CameBack, RoundTrip}
use Rattle.round_trip.proofs.Whole.{records_ahead, handed_length, calls_length, ShortOf, Way, over, short, passed, way}
use Rattle.round_trip.proofs.Whole.{steps_over, steps_short, steps_passed, by_demand, read_ops_lem, read_calls_lem}
use Rattle.round_trip.proofs.Whole.{Listed, many, cut, good, listed}

module _ (t : Trip) where
  count_is : records_count t ≡ records_ahead t
  count_is = omega (arith, handed_length t)

  rows_are : row_count (records_ahead t) ≡ rows_count t
  rows_are = ap row_count (sym count_is)

  -- a buffer that is short, by the counts and by the lists
  short_lists : ShortOf t → Short t
  short_lists (inl h) = inl (omega (arith, rows_are))
  short_lists (inr (inl h)) = inr (inl (omega (arith, handed_length t)))
  short_lists (inr (inr h)) = inr (inr (omega (arith, calls_length t)))

  short_counts : Short t → ShortOf t
  short_counts (inl h) = inl (omega (arith, rows_are))
  short_counts (inr (inl h)) = inr (inl (omega (arith, handed_length t)))
  short_counts (inr (inr h)) = inr (inr (omega (arith, calls_length t)))

  good_steps : GoodList t → trip_numbers t ≡ steps_numbers t
  good_steps g = go (listed t)
    where
      go : Listed t → trip_numbers t ≡ steps_numbers t
      go (many h e) = absurd (omega (arith, g.0))
      go (cut few h e) = absurd (omega (arith, g.1))
      go (good g e) = e

  module _ (typed : TypedTrip t) where
    number : {n : RoundTripNumbers} → trip_numbers t ≡ n → trip_number t ≡ n.answer.number
    number e = ap (λ (x : RoundTripNumbers). x.answer.number) e

    answers : (trip_number t ≡ 0) ⊎ (trip_number t ≡ 8) ⊎ (trip_number t ≡ 9) ⊎ (trip_number t ≡ 10)
    answers = go (listed t) (way t)
      where
        go : Listed t → Way t → (trip_number t ≡ 0) ⊎ (trip_number t ≡ 8) ⊎ (trip_number t ≡ 9) ⊎ (trip_number t ≡ 10)
        go (many h e) w = inr (inl (number e))
        go (cut few h e) w = inr (inr (inr (number e)))
        go (good g e) (over h) = inr (inl (number (e ∙ steps_over t typed h)))
        go (good g e) (short few h) = inr (inr (inl (number (e ∙ steps_short t typed few h))))
        go (good g e) (passed few room a b) = inl (number (e ∙ steps_passed t typed few room a b))

    -- 10
    ten_cut : trip_number t ≡ 10 → (calls_count t ≤ LIMIT) × (0 < length t.calls % HANDED_WIDTH)
    ten_cut n = go (listed t) (way t)
      where
        go : Listed t → Way t → (calls_count t ≤ LIMIT) × (0 < length t.calls % HANDED_WIDTH)
        go (many h e) w = absurd (omega (arith, number e))
        go (cut few h e) w = (few, h)
        go (good g e) (over h) = absurd (omega (arith, number (e ∙ steps_over t typed h)))
        go (good g e) (short few h) = absurd (omega (arith, number (e ∙ steps_short t typed few h)))
        go (good g e) (passed few room a b) = absurd (omega (arith, number (e ∙ steps_passed t typed few room a b)))

    cut_answer : (calls_count t ≤ LIMIT) × (0 < length t.calls % HANDED_WIDTH)
        → trip_numbers t ≡ refused_by (refused 10 (length t.calls / HANDED_WIDTH))
    cut_answer c = go (listed t)
      where
        go : Listed t → trip_numbers t ≡ refused_by (refused 10 (length t.calls / HANDED_WIDTH))
        go (many h e) = absurd (omega (arith, c.0))
        go (cut few h e) = e
        go (good g e) = absurd (omega (arith, c.1, g.1))

    ten_place : trip_number t ≡ 10 → (trip_numbers t).answer.place ≡ length t.calls / HANDED_WIDTH
    ten_place n = ap (λ (x : RoundTripNumbers). x.answer.place) (cut_answer (ten_cut n))

    -- 8
    eight_over : trip_number t ≡ 8 → (LIMIT < calls_count t) ⊎ (GoodList t × (LIMIT < records_count t))
    eight_over n = go (listed t) (way t)
      where
        go : Listed t → Way t → (LIMIT < calls_count t) ⊎ (GoodList t × (LIMIT < records_count t))
        go (many h e) w = inl h
        go (cut few h e) w = absurd (omega (arith, number e))
        go (good g e) (over h) = inr (g, omega (arith, count_is))
        go (good g e) (short few h) = absurd (omega (arith, number (e ∙ steps_short t typed few h)))
        go (good g e) (passed few room a b) = absurd (omega (arith, number (e ∙ steps_passed t typed few room a b)))

    over_eight : (LIMIT < calls_count t) ⊎ (GoodList t × (LIMIT < records_count t)) → trip_number t ≡ 8
    over_eight (inl m) = go (listed t)
      where
        go : Listed t → trip_number t ≡ 8
        go (many h e) = number e
        go (cut few h e) = absurd (omega arith)
        go (good g e) = absurd (omega (arith, g.0))
    over_eight (inr h) = number (good_steps h.0 ∙ steps_over t typed (omega (arith, count_is, h.1)))

    -- 9
    nine_short : trip_number t ≡ 9 → GoodList t × (records_count t ≤ LIMIT) × Short t
    nine_short n = go (listed t) (way t)
      where
        go : Listed t → Way t → GoodList t × (records_count t ≤ LIMIT) × Short t
        go (many h e) w = absurd (omega (arith, number e))
        go (cut few h e) w = absurd (omega (arith, number e))
        go (good g e) (over h) = absurd (omega (arith, number (e ∙ steps_over t typed h)))
        go (good g e) (short few h) = (g, omega (arith, count_is), short_lists h)
        go (good g e) (passed few room a b) = absurd (omega (arith, number (e ∙ steps_passed t typed few room a b)))

    short_nine : GoodList t × (records_count t ≤ LIMIT) × Short t → trip_number t ≡ 9
    short_nine h = number (good_steps h.0 ∙ steps_short t typed (omega (arith, count_is, h.1)) (short_counts h.2))

    back : trip_number t ≡ 0 → CameBack t
    unfolding trip_after trip_run
    back n = go (listed t) (way t)
      where
        go : Listed t → Way t → CameBack t
        go (many h e) w = absurd (omega (arith, number e))
        go (cut few h e) w = absurd (omega (arith, number e))
        go (good g e) (over h) = absurd (omega (arith, number (e ∙ steps_over t typed h)))
        go (good g e) (short few h) = absurd (omega (arith, number (e ∙ steps_short t typed few h)))
        go (good g e) (passed few room a b) =
            let told = e ∙ steps_passed t typed few room a b in
            let rows : (trip_numbers t).rows ≡ row_count (records_ahead t) = ap (λ (x : RoundTripNumbers). x.rows) told in
            let after : trip_after t ≡ trip_run t (row_count (records_ahead t)) =
            ap (λ (x : RoundTripNumbers). cond (eqb x.answer.number 0) (trip_run t x.rows) t.lists) told in
            record {
              rows = rows ∙ rows_are;
              records = ap (λ (x : RoundTripNumbers). x.answer.value) told ∙ sym count_is;
              calls = ap (λ (x : RoundTripNumbers). x.calls) told ∙ omega (arith, calls_length t);
              passes = subst (λ (n : ℕ). Passes t.gap (written t n)) (sym rows) (by_demand t typed few room).0;
              ops_back_lem = ap (λ (x : TripLent). x.ops_back) after ∙ read_ops_lem t typed few room a b;
              calls_back_lem = ap (λ (x : TripLent). x.calls_back) after ∙ read_calls_lem t typed few room a b;
            }

pub round_trip : RoundTrip
round_trip =
    record {
      answers = answers;
      ten = λ t typed. (ten_cut t typed, λ c. ap (λ (x : RoundTripNumbers). x.answer.number) (cut_answer t typed c));
      ten_place = ten_place;
      eight = λ t typed. (eight_over t typed, over_eight t typed);
      nine = λ t typed. (nine_short t typed, short_nine t typed);
      back = back;
    }

-- Small trips, computed over the definitions, so that nothing in the theorem is empty: one that goes through, and one for each refusal that
-- is small enough. Assumes nothing.
use Rattle.std.specs.Prelude.{◌≡◌, List, [], ◌∷◌, ◌++◌, ℕ, replicate}
use Rattle.answer.specs.Numbers.{accepted, refused}
use Rattle.round_trip.specs.Trip.{TripLent, Trip, trip_lent, trip_of, refused_by, trip_numbers, trip_after}
use Rattle.round_trip.specs.RoundTrip.{TypedTrip}

-- a Copy of nine bytes, a call of no kind, a Set whose dst is not a gap above its src, and an empty Write
abbrev pub four_calls : List ℕ
four_calls = 0 ∷ 4 ∷ 0 ∷ 16 ∷ 9 ∷ 7 ∷ 5 ∷ 0 ∷ 8 ∷ 1 ∷ 1 ∷ 5 ∷ 0 ∷ 9 ∷ 1 ∷ 2 ∷ 6 ∷ 5 ∷ 40 ∷ 0 ∷ []

-- a window of 32 cells, with room for so many numbers of records, in the table, and in the two buffers of read-back
abbrev pub lent_for : ℕ → ℕ → ℕ → ℕ → TripLent
lent_for ops table ops_back calls_back =
    trip_lent (replicate 32 3) (replicate 32 0) (replicate ops 7) (replicate 116 7) (replicate table 7) (replicate ops_back 7)
    (replicate calls_back 7)

-- under the gap 8
abbrev pub trip_with : ℕ → ℕ → ℕ → ℕ → Trip
trip_with ops table ops_back calls_back = trip_of 8 four_calls (lent_for ops table ops_back calls_back)

-- two numbers more: a fifth call that is cut
abbrev pub cut_trip : Trip
cut_trip = trip_of 8 (four_calls ++ (0 ∷ 4 ∷ [])) (lent_for 49 165 49 11)

pub record Instances : Type 0 where
  pub typed : TypedTrip (trip_with 49 165 49 11)
  -- two calls are accepted, of three records in four rows, and these two come back
  pub through : trip_numbers (trip_with 49 165 49 11) ≡ record { answer = accepted 3; rows = 4; calls = 2 }
  pub calls : (trip_after (trip_with 49 165 49 11)).calls_back ≡ 0 ∷ 4 ∷ 0 ∷ 16 ∷ 9 ∷ 2 ∷ 6 ∷ 5 ∷ 40 ∷ 0 ∷ 7 ∷ []
  -- with room for two records the Write is refused (9) too, and passed over
  pub fewer : trip_numbers (trip_with 47 164 32 5) ≡ record { answer = accepted 2; rows = 4; calls = 1 }
  -- no call at all
  pub none : trip_numbers (trip_of 8 [] (trip_lent [] [] [] [] (replicate 164 7) [] [])) ≡ record { answer = accepted 0; rows = 4; calls = 0 }
  -- a cut last call is refused, and nothing is written, although the four whole ones would go through
  pub cut : trip_numbers cut_trip ≡ refused_by (refused 10 4)
  pub cut_kept : trip_after cut_trip ≡ cut_trip.lists
  -- a table, or a buffer of read-back, one number short
  pub table_short : trip_numbers (trip_with 48 163 48 10) ≡ refused_by (refused 9 0)
  pub ops_short : trip_numbers (trip_with 48 164 47 10) ≡ refused_by (refused 9 0)
  pub calls_short : trip_numbers (trip_with 48 164 48 9) ≡ refused_by (refused 9 0)

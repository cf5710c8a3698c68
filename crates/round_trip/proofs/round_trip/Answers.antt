-- `round_trip::round_trip` meets its contract: the answer by lengths is that of the whole way, and where it refuses nothing, `run` leaves what
-- the definitions say. Assumes nothing.
use mathlib.Core.Path.{◌≡◌}
use borrow.Author.Rules.{rules}
use Rattle.std.proofs.lemmas.Result.{err_from_is_err_and}
use Rattle.words.proofs.Digits.{below_of}
use Rattle.round_trip.specs.Trip.{Trip, trip_lent, trip_of}
use Rattle.round_trip.specs.RoundTrip.{TypedTrip}
use Rattle.round_trip.proofs.Whole.{foretold_of}
use Rattle.round_trip.proofs.Ends.{may_run, ended_through, ended_refused}
use Rattle.round_trip.proofs.round_trip.Goals as goal
use Rattle.round_trip.proofs.round_trip.Goals.{After-foretell}

abbrev trip_at : After-foretell → Trip
trip_at c =
    let a = c.args in
    trip_of a.gap a.calls.now
    (trip_lent a.bytes.now a.stamps.now a.ops.now a.accesses.now a.table.now a.ops_back.now a.calls_back.now)

-- what the types say
typed_at : (c : After-foretell) → TypedTrip (trip_at c)
typed_at c = record { gap = search rules; bytes = below_of 8 (trip_at c).lists.slices.bytes (λ i. search rules) }

-- the answer, before anything is written
foretold_at : (c : After-foretell) → c.foretell.result ≡ foretold_of (trip_at c)
foretold_at c = rw c.from-wide.ensures at c.foretell.ensures

pub returns-in_err-found : goal.returns-in_err-found
returns-in_err-found c =
    let found = (goal.at.returns-in_err-found c).After-foretell in
    let p = err_from_is_err_and c.from_residual.result c.from_residual.ensures.1 in
    rw (p.1, p.2) (ended_refused (trip_at found) (typed_at found) _ (foretold_at found) _ c.in_err-found.was)

pub run-requires : goal.run-requires
run-requires c =
    let found = (goal.at.run-requires c).After-foretell in
    rw c.from-wide.ensures (may_run (trip_at found) (typed_at found) _ (foretold_at found) _ c.in_ok-found.was)

pub returns : goal.returns
returns c =
    let found = (goal.at.returns c).After-foretell in
    let new = c.run.new in
    ended_through (trip_at found) (typed_at found) _ (foretold_at found) _ c.in_ok-found.was
    (trip_lent new.bytes new.stamps new.ops new.accesses new.table new.ops_back new.calls_back)
    (rw c.from-wide.ensures at c.run.ensures)

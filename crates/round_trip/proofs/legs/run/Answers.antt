-- `round_trip::legs::run` meets its contract. Assumes nothing.
use native.Mathlib.Omega.{arith}
use Rattle.round_trip.specs.Trip.{Trip, trip_lent, trip_of}
use Rattle.round_trip.proofs.Ends.{ops_room, table_room, ops_kept, table_kept, ran}
use Rattle.round_trip.proofs.legs.run.Goals as goal
use Rattle.round_trip.proofs.legs.run.Goals.{After-expand_all}

abbrev trip_at : After-expand_all → Trip
trip_at c =
    let a = c.args in
    trip_of a.gap a.calls.now
    (trip_lent a.bytes.now a.stamps.now a.ops.now a.accesses.now a.table.now a.ops_back.now a.calls_back.now)

pub overflow_mul-n : goal.overflow_mul-n
overflow_mul-n c =
    let t = trip_at (goal.at.overflow_mul-n c).After-expand_all in
    omega (arith, ops_room t c.args.n c.args.rows c.requires)

pub slice_bounds-generate_copy_trace-end : goal.slice_bounds-generate_copy_trace-end
slice_bounds-generate_copy_trace-end c =
    let t = trip_at (goal.at.slice_bounds-generate_copy_trace-end c).After-expand_all in
    omega (arith, ops_kept t c.args.n c.args.rows c.requires _ c.expand_all.ensures)

pub overflow_mul-rows : goal.overflow_mul-rows
overflow_mul-rows c =
    let t = trip_at (goal.at.overflow_mul-rows c).After-expand_all in
    omega (arith, table_room t c.args.n c.args.rows c.requires)

pub slice_bounds-read_back-end : goal.slice_bounds-read_back-end
slice_bounds-read_back-end c =
    let t = trip_at (goal.at.slice_bounds-read_back-end c).After-expand_all in
    let kept = table_kept t c.args.n c.args.rows c.requires in
    omega (arith, kept _ c.expand_all.ensures _ c.generate_copy_trace.ensures.written)

pub returns : goal.returns
returns c =
    let t = trip_at (goal.at.returns c).After-expand_all in
    ran t c.args.n c.args.rows c.requires _ c.expand_all.ensures _
    c.generate_copy_trace.ensures.written _ _ c.read_back.ensures.ops_left c.read_back.ensures.calls_left_lem

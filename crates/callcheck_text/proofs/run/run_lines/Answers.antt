-- `callcheck_text::run::run_lines` meets its contract: finishing from each line on gives the whole. Assumes nothing.
use mathlib.Core.Path.{◌≡◌, ◌∙◌}
use native.Mathlib.Omega.{arith}
use lib.ListN.{length}
use Rattle.std.proofs.Common.{Err, rules, tests}
use Rattle.expansion.specs.Tries.{under, lent}
use Rattle.callcheck_text.specs.Run.{OPS_ROOM}
use Rattle.callcheck_text.proofs.Turns.{Turn, running_turn, turn_stops, turn_fits, turns_end}
use Rattle.callcheck_text.proofs.run.run_lines.Goals as goal
use Rattle.callcheck_text.proofs.run.run_lines.Goals.{At-loop-at, After-run_line}

-- the record buffer keeps its length
ops_room : (c : At-loop-at) → length c.loop-at.ops ≡ OPS_ROOM
ops_room c = c.loop-at.invariant.ops_same ∙ c.requires.0

turn_at : (c : After-run_line) →
    Turn (under c.args.gap) c.loop-at.at c.loop-at.line c.loop-at.rows c.args.text.now
    (lent c.loop-at.bytes c.loop-at.stamps c.loop-at.ops c.loop-at.accesses) c.head-first.result.now c.run_line.result
turn_at c = record {
  more = c.loop-at-test.true;
  fits = c.loop-at.invariant.room;
  first = c.head-first.ensures;
  came = c.run_line.ensures.step;
}

pub returns-in_err-rows-clause-ending : goal.returns-in_err-rows-clause-ending
returns-in_err-rows-clause-ending c =
    let passed : c.from_residual.result ≡ Err c.in_err-rows.field-0.0 = search (rules, tests) in
    let at = goal.at.returns-in_err-rows-clause-ending c in
    rw passed (turn_stops (turn_at at.After-run_line) _ c.in_err-rows.was ∙ c.loop-at.invariant.goes_on)

pub overflow_add-rows : goal.overflow_add-rows
overflow_add-rows c =
    let at = goal.at.overflow_add-rows c in
    let fits = turn_fits (turn_at at.After-run_line) _ c.in_ok-rows.was in
    omega (arith, fits.1, ops_room at.At-loop-at)

pub loop-at-preserved : goal.loop-at-preserved
loop-at-preserved c =
    let at = goal.at.loop-at-preserved c in
    let l₀ = lent c.args.bytes.now c.args.stamps.now c.args.ops.now c.args.accesses.now in
    running_turn l₀ c.loop-at.invariant (turn_at at.After-run_line) _ c.in_ok-rows.was _ c.run_line.ensures.slices
    c.next_line-at.result c.next_line-at.ensures.1 c.next_line-at.ensures.2

pub returns-clause-ending : goal.returns-clause-ending
returns-clause-ending c =
    let l = lent c.loop-at.bytes c.loop-at.stamps c.loop-at.ops c.loop-at.accesses in
    turns_end _ _ l c.loop-at.at c.loop-at.line c.loop-at.rows c.loop-at-test.false ∙ c.loop-at.invariant.goes_on

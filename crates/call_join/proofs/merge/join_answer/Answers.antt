-- `call_join::merge::join_answer`: each return is a case of the answer. Assumes nothing.
use mathlib.Core.Path.{◌≡◌, ap, ◌∙◌}
use mathlib.Core.List.{List}
use Prim.Native.Nat.{ℕ, ◌+◌, ◌≤◌}
use native.Mathlib.Omega.{arith}
use Rattle.std.specs.Prelude.{Ok, Err}
use Rattle.call_join.specs.Join.{call_count, first_bad_call, first_below}
use Rattle.call_join.specs.declared.JoinRefusal.TheVariants.{OutOfOrder}
use Rattle.call_join.proofs.Answers.{below_first, below_second, joined_fits, joined_short}
use Rattle.call_join.proofs.merge.join_answer.Goals as goal
use Rattle.call_join.proofs.merge.join_answer.Goals.{After-first_below-below_second}

-- what was found of the two lists
module _ (c : After-first_below-below_second) where
  abbrev first : List ℕ
  first = c.args.first.now

  abbrev second : List ℕ
  second = c.args.second.now

  counts : (c.record_count-n.result ≡ call_count first) × (c.record_count-m.result ≡ call_count second)
  counts = (c.record_count-n.ensures, c.record_count-m.ensures)

  bad : (c.first_bad-bad_first.result ≡ first_bad_call first) × (c.first_bad-bad_second.result ≡ first_bad_call second)
  bad = (c.first_bad-bad_first.ensures, c.first_bad-bad_second.ensures)

  below : (c.first_below-below_first.result ≡ first_below first) × (c.first_below-below_second.result ≡ first_below second)
  below = (c.first_below-below_first.ensures, c.first_below-below_second.ensures)

  few_first : call_count first ≤ c.args.limit
  few_first = omega (arith, counts.0)

  few_second : call_count second ≤ c.args.limit
  few_second = omega (arith, counts.1)

pub returns-then-below_first-n : goal.returns-then-below_first-n
returns-then-below_first-n c =
    let found = (goal.at.returns-then-below_first-n c).After-first_below-below_second in
    ap (λ k. Err (OutOfOrder k)) (below found).0
    ∙ below_first _ _ _ c.args.room (few_first found) (few_second found)
    (omega (arith, counts found, bad found)) (omega (arith, counts found, bad found))
    (omega (arith, counts found, below found))

pub returns-then-below_second-m : goal.returns-then-below_second-m
returns-then-below_second-m c =
    let found = (goal.at.returns-then-below_second-m c).After-first_below-below_second in
    ap (λ k. Err (OutOfOrder k)) (below found).1
    ∙ below_second _ _ _ c.args.room (few_first found) (few_second found)
    (omega (arith, counts found, bad found)) (omega (arith, counts found, bad found))
    (omega (arith, counts found, below found)) (omega (arith, counts found, below found))

pub returns-then-calls-room : goal.returns-then-calls-room
returns-then-calls-room c =
    let found = (goal.at.returns-then-calls-room c).After-first_below-below_second in
    (λ i. Ok ((counts found).0 i + (counts found).1 i))
    ∙ joined_fits _ _ _ c.args.room (few_first found) (few_second found)
    (omega (arith, counts found, bad found)) (omega (arith, counts found, bad found))
    (omega (arith, counts found, below found)) (omega (arith, counts found, below found)) (omega (arith, counts found))

pub returns : goal.returns
returns c =
    let found = (goal.at.returns c).After-first_below-below_second in
    joined_short _ _ _ c.args.room (few_first found) (few_second found)
    (omega (arith, counts found, bad found)) (omega (arith, counts found, bad found))
    (omega (arith, counts found, below found)) (omega (arith, counts found, below found)) (omega (arith, counts found))

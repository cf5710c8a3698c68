-- `routing::split::judge` meets its contract. The invariant: the counts are those of the records passed, and the lowest record that is
-- refused is the lowest from `k` on. Assumes nothing.
use mathlib.Core.Path.{◌≡◌, sym, ap, ◌∙◌}
use mathlib.Core.Bool.{true, not, ◌&&◌}
use mathlib.Core.List.{List}
use Prim.Native.Nat.{ℕ}
use native.Mathlib.Omega.{arith}
use Rattle.lists.specs.Lists.{at}
use Rattle.records.specs.Records.{record_at}
use Rattle.records.proofs.Records.{bad_start, bad_pass}
use Rattle.access.specs.Access.{BASE_ADDRESS, ACCESS_WIDTH, good_access}
use Rattle.access.specs.declared.AccessTable.TheVariants.{Register}
use Rattle.classify.specs.Classify.{is_register_op, is_aligned_op, table_for}
use Rattle.classify.specs.TableRecord.{address_fits}
use Rattle.routing.specs.Routing.{routable}
use Rattle.routing.specs.Inner.{table_by}
use Rattle.routing.specs.declared.RouteRefusal.TheVariants.{BadRecord, BadAddress}
use Rattle.routing.proofs.Routes.{table_by_lem, counted_start, counted_next, counted_few}
use Rattle.routing.proofs.Judging.{misplaced, bad_refused, misplaced_refused, placed_routable, judged_stop, judged_end}
use Rattle.routing.proofs.split.judge.Goals as goal
use Rattle.routing.proofs.split.judge.Goals.{After-record_at-op, Else-not-good_access, After-address_fits}

-- record k of the list
abbrev record_k : After-record_at-op → List ℕ
record_k c = record_at ACCESS_WIDTH c.args.accesses.now c.loop-k.k

-- past the first test it is good
good_at : (c : Else-not-good_access) → good_access (record_at ACCESS_WIDTH c.args.accesses.now c.loop-k.k) ≡ true
good_at c = sym (c.good_access.ensures ∙ ap good_access c.record_at-op.ensures) ∙ c.if-not-good_access.false

-- what the two tests say of it
misplaced_at : (c : After-address_fits) → c.is_register_op-to_register.result && not c.address_fits.result
    ≡ misplaced (record_at ACCESS_WIDTH c.args.accesses.now c.loop-k.k)
misplaced_at c =
    let is_register = c.is_register_op-to_register.ensures ∙ ap is_register_op c.record_at-op.ensures in
    let fits = c.address_fits.ensures ∙ ap (λ (r : List ℕ). address_fits Register (at r BASE_ADDRESS)) c.record_at-op.ensures in
    λ i. is_register i && not (fits i)

pub loop-k-init : goal.loop-k-init
loop-k-init c =
    let l = c.args.accesses.now in
    record { counted = counted_start l; passed = bad_start ACCESS_WIDTH routable l }

pub returns-then-not-good_access : goal.returns-then-not-good_access
returns-then-not-good_access c =
    let k = c.loop-k.k in
    let bad = sym (c.good_access.ensures ∙ ap good_access c.record_at-op.ensures) ∙ c.if-not-good_access.true in
    let s = bad_refused (record_k (goal.at.returns-then-not-good_access c).After-record_at-op) bad in
    judged_stop c.args.accesses.now k (BadRecord k) (omega arith) c.loop-k.invariant.passed s.0 (s.1 k)

pub returns-then-to_register-address_fits : goal.returns-then-to_register-address_fits
returns-then-to_register-address_fits c =
    let at_goal = goal.at.returns-then-to_register-address_fits c in
    let k = c.loop-k.k in
    let s =
    misplaced_refused (record_k at_goal.After-record_at-op) (good_at at_goal.Else-not-good_access)
    (sym (misplaced_at at_goal.After-address_fits) ∙ c.if-to_register-address_fits.true) in
    judged_stop c.args.accesses.now k (BadAddress k) (omega arith) c.loop-k.invariant.passed s.0 (s.1 k)

pub one_more-counts-requires : goal.one_more-counts-requires
one_more-counts-requires c =
    counted_few c.args.accesses.now c.loop-k.counts c.loop-k.k c.loop-k.invariant.counted (omega arith)

pub loop-k-preserved : goal.loop-k-preserved
loop-k-preserved c =
    let at_goal = goal.at.loop-k-preserved c in
    let l = c.args.accesses.now in
    let k = c.loop-k.k in
    let record_at_k = record_k at_goal.After-record_at-op in
    let is_register = c.is_register_op-to_register.ensures ∙ ap is_register_op c.record_at-op.ensures in
    let is_aligned = c.is_aligned_op-to_aligned.ensures ∙ ap is_aligned_op c.record_at-op.ensures in
    let table : table_by c.is_register_op-to_register.result c.is_aligned_op-to_aligned.result ≡ table_for record_at_k =
    (λ i. table_by (is_register i) (is_aligned i)) ∙ table_by_lem record_at_k in
    let fine =
    placed_routable record_at_k (good_at at_goal.Else-not-good_access)
    (sym (misplaced_at at_goal.After-address_fits) ∙ c.if-to_register-address_fits.false) in record {
      counted = counted_next l k _ table c.loop-k.counts c.one_more-counts.result c.one_more-counts.ensures c.loop-k.invariant.counted;
      passed = c.loop-k.invariant.passed ∙ bad_pass ACCESS_WIDTH routable l k (omega arith) fine;
    }

pub returns : goal.returns
returns c = judged_end c.args.accesses.now c.loop-k.k c.loop-k.counts (omega arith) c.loop-k.invariant.counted c.loop-k.invariant.passed

-- `routing::split::write_routes` meets its contract. The invariant: each lent list has those of the records passed that go to it.
-- Assumes nothing.
use mathlib.Core.Path.{◌≡◌, ap, ◌∙◌}
use mathlib.Core.Bool.{true}
use mathlib.Core.List.{List}
use Prim.Native.Nat.{ℕ, ◌<◌}
use native.Mathlib.Omega.{arith}
use Rattle.lists.specs.Lists.{store}
use Rattle.records.specs.Records.{record_count, record_at}
use Rattle.access.specs.Access.{ACCESS_WIDTH, good_access}
use Rattle.routing.specs.Routing.{Lists, lists, list_of, routed_of}
use Rattle.routing.proofs.Routes.{all_filled_start, all_filled_next, all_filled_room, filled_counted, counted_few}
use Rattle.routing.proofs.split.write_routes.Goals as goal

pub loop-k-init : goal.loop-k-init
loop-k-init c = all_filled_start _ _

pub put_access-ends-requires : goal.put_access-ends-requires
put_access-ends-requires c =
    let accesses : List ℕ = c.args.accesses.now in
    let lent : Lists = let a = c.args in lists a.register.now a.aligned.now a.general.now in
    let so_far : Lists = lists c.loop-k.register c.loop-k.aligned c.loop-k.general in
    let good : (j : ℕ) → j < record_count ACCESS_WIDTH accesses → good_access (record_at ACCESS_WIDTH accesses j) ≡ true = c.requires.1 in
    let k = c.loop-k.k in
    let e = c.record_at-op.ensures in
    let h : k < record_count ACCESS_WIDTH accesses = omega arith in (
      rw e (good k h),
      counted_few accesses c.loop-k.ends k (filled_counted accesses lent so_far c.loop-k.ends k c.loop-k.invariant)
          (omega (arith, c.requires.0)),
      all_filled_room accesses lent so_far c.loop-k.ends k (λ j l. good j (omega arith)) c.loop-k.invariant _ e h c.requires.2,
    )

pub loop-k-preserved : goal.loop-k-preserved
loop-k-preserved c =
    let accesses : List ℕ = c.args.accesses.now in
    let lent : Lists = let a = c.args in lists a.register.now a.aligned.now a.general.now in
    let so_far : Lists = lists c.loop-k.register c.loop-k.aligned c.loop-k.general in
    let good : (j : ℕ) → j < record_count ACCESS_WIDTH accesses → good_access (record_at ACCESS_WIDTH accesses j) ≡ true = c.requires.1 in
    let put = c.put_access-ends in
    all_filled_next accesses lent so_far c.loop-k.ends c.loop-k.k (λ j l. good j (omega arith)) c.loop-k.invariant
    _ c.record_at-op.ensures _ put.result put.ensures

pub returns : goal.returns
unfolding routed_of
returns c =
    let accesses : List ℕ = c.args.accesses.now in
    let lent : Lists = let a = c.args in lists a.register.now a.aligned.now a.general.now in
    let e : c.loop-k.k ≡ record_count ACCESS_WIDTH accesses = omega arith in
    λ t. (c.loop-k.invariant t).filled ∙ ap (λ m. store (list_of t lent) 0 (routed_of t accesses m)) e

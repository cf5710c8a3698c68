-- `lookups::pairs::write_pairs` meets its contract. The invariant: the buffer has the pairs of the records passed, `end` of them.
-- Assumes nothing.
use mathlib.Core.Path.{◌≡◌, refl, sym, ap, ◌∙◌}
use mathlib.Core.List.{List}
use Prim.Native.Nat.{ℕ, ◌≤◌, ◌<◌}
use native.Mathlib.Omega.{arith}
use Rattle.lists.specs.Lists.{store}
use Rattle.lists.specs.Inner.{one_more, placed}
use Rattle.lists.proofs.Filled as loop
use Rattle.lists.proofs.Flat.{counted_le}
use Rattle.records.specs.Records.{record_count, record_at}
use Rattle.access.specs.Access.{ACCESS_WIDTH}
use Rattle.access.specs.declared.AccessTable.TheVariants.{Register}
use Rattle.routing.specs.Routing.{goes_to, count_of}
use Rattle.lookups.specs.Lookups.{PAIR_WIDTH, pair_of, lookups_of}
use Rattle.lookups.specs.Inner.{wanted}
use Rattle.lookups.proofs.pairs.write_pairs.Goals as goal

-- the pair of record k
abbrev pair_of_record : List ℕ → ℕ → List ℕ
pair_of_record l k = pair_of (record_at ACCESS_WIDTH l k)

pub loop-k-init : goal.loop-k-init
loop-k-init c = loop.filled_start _ _ _

pub put_pair-end-requires : goal.put_pair-end-requires
unfolding count_of
put_pair-end-requires c =
    let accesses : List ℕ = c.args.accesses.now in
    let few : c.loop-k.end ≤ c.loop-k.k = omega (arith, c.loop-k.invariant.count, counted_le (goes_to Register accesses) c.loop-k.k) in
    let k = c.loop-k.k in
    let e = c.record_at-op.ensures in
    let h : k < record_count ACCESS_WIDTH accesses = omega arith in (
      rw e (c.requires.1 k h),
      omega (arith, few, c.requires.0),
      λ yes.
          loop.filled_room PAIR_WIDTH (goes_to Register accesses) (pair_of_record accesses) _ _ c.loop-k.end k (λ i z. refl)
          c.loop-k.invariant (record_count ACCESS_WIDTH accesses) h c.requires.2 (ap wanted (sym e) ∙ yes),
    )

pub loop-k-preserved : goal.loop-k-preserved
loop-k-preserved c =
    let accesses : List ℕ = c.args.accesses.now in
    let k = c.loop-k.k in
    let e = c.record_at-op.ensures in
    let done = c.put_pair-end.ensures in
    loop.filled_next PAIR_WIDTH (goes_to Register accesses) (pair_of_record accesses) _ _ c.loop-k.end k (λ i z. refl)
    c.loop-k.invariant _ _ (done.count ∙ ap (λ r. one_more (wanted r) c.loop-k.end) e)
    (done.pairs ∙ ap (λ r. placed (wanted r) PAIR_WIDTH c.loop-k.end (pair_of r) c.loop-k.lookups) e)

pub returns : goal.returns
unfolding lookups_of
returns c =
    let accesses : List ℕ = c.args.accesses.now in
    let e : c.loop-k.k ≡ record_count ACCESS_WIDTH accesses = omega arith in
    c.loop-k.invariant.filled ∙ ap (λ m. store c.args.lookups.now 0 (lookups_of accesses m)) e

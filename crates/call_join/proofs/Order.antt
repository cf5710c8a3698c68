-- What the search for a call stamped below the one before it says of the order of a list. Assumes nothing.
use mathlib.Core.Path.{◌≡◌, sym, ap, ◌∙◌}
use mathlib.Core.Bool.{true, false}
use mathlib.Core.List.{List}
use Prim.Native.Nat.{ℕ, zero, suc, ◌+◌, ◌-◌, ◌≤◌, ◌<◌}
use native.Mathlib.Nat.{lt_of_not-le}
use native.Mathlib.Omega.{arith}
use borrow.Author.Tests.{ltb-true, ltb-false, le-ltb}
use lib.Dec.{ltb}
use Rattle.lists.specs.Lists.{Lowest}
use Rattle.lists.proofs.First.{first_lowest, first_none_lem, first_all}
use Rattle.records.proofs.RecordList.{records_count_lem, records_at}
use Rattle.call.specs.Flat.{HANDED_WIDTH}
use Rattle.call_join.specs.Join.{stamp_of, call_records, call_count, stamp_at, is_below, first_below}
use Rattle.call_join.specs.JoinLaws.{stamp_in, StampsInOrder, FirstBelow}

module _ (l : List ℕ) where
  -- the stamp of call k of the records is that of call k of the list
  stamp_at_lem : (k : ℕ) → k < call_count l → stamp_in (call_records l) k ≡ stamp_at l k
  stamp_at_lem k h = ap stamp_of (records_at HANDED_WIDTH l k h)

  -- the call before call k + 1 is call k
  below_next : (k : ℕ) → is_below l (suc k) ≡ ltb (stamp_at l (suc k)) (stamp_at l k)
  below_next k = let e : suc k - 1 ≡ k = omega arith in ap (λ (j : ℕ). ltb (stamp_at l (suc k)) (stamp_at l j)) e

  -- a call that is not below the one before it, and one that is
  not_below : (k : ℕ) → suc k < call_count l → is_below l (suc k) ≡ false → stamp_in (call_records l) k ≤ stamp_in (call_records l) (suc k)
  not_below k h e = omega (arith, stamp_at_lem k (omega arith), stamp_at_lem (suc k) h, ltb-false (stamp_at l (suc k)) (stamp_at l k) (sym (below_next k) ∙ e))

  is_below_lem : (k : ℕ) → suc k < call_count l → is_below l (suc k) ≡ true → stamp_in (call_records l) (suc k) < stamp_in (call_records l) k
  is_below_lem k h e = omega (arith, stamp_at_lem k (omega arith), stamp_at_lem (suc k) h, ltb-true (stamp_at l (suc k)) (stamp_at l k) (sym (below_next k) ∙ e))

  pub in_order_of : call_count l ≤ first_below l → StampsInOrder (call_records l)
  unfolding first_below
  in_order_of h k z =
      let inside : suc k < call_count l = omega (arith, records_count_lem HANDED_WIDTH l) in
      not_below k inside (first_none_lem (is_below l) 1 (call_count l - 1) (suc k) (omega arith) (omega arith) (omega arith))

  pub none_below : StampsInOrder (call_records l) → call_count l ≤ first_below l
  unfolding first_below
  none_below o = omega (arith, first_all (is_below l) 1 (call_count l - 1) each)
    where
      each : (j : ℕ) → 1 ≤ j → j < 1 + (call_count l - 1) → is_below l j ≡ false
      each zero a b = absurd (omega arith)
      each (suc k) a b =
          below_next k
          ∙ le-ltb (stamp_at l (suc k)) (stamp_at l k)
          (omega (
            arith,
            o k (omega (arith, records_count_lem HANDED_WIDTH l)),
            stamp_at_lem k (omega arith),
            stamp_at_lem (suc k) (omega arith),
          ))

  pub below_at : (place : ℕ) → FirstBelow (call_records l) place → first_below l ≡ place
  unfolding first_below
  below_at place f = omega (arith, lt_of_not-le not_later, lt_of_not-le not_earlier)
    where
      found : Lowest (is_below l) 1 (call_count l - 1) (first_below l)
      found = first_lowest (is_below l) 1 (call_count l - 1)

      inside : place < call_count l
      inside = omega (arith, f.inside, records_count_lem HANDED_WIDTH l)

      not_earlier : suc (first_below l) ≤ place → ⊥
      not_earlier h = at (first_below l) found.least h (found.meets (omega (arith, inside)))
        where
          at : (r : ℕ) → 1 ≤ r → suc r ≤ place → is_below l r ≡ true → ⊥
          at zero a b e = omega arith
          at (suc k) a b e = omega (arith, is_below_lem k (omega (arith, inside)) e, f.none_earlier k (omega arith))

      not_later : suc place ≤ first_below l → ⊥
      not_later h =
          let k = f.before in
          let in_turn = not_below k (omega (arith, inside, f.later)) (ap (is_below l) (sym f.later) ∙ found.before place (omega (arith, f.later)) h) in
          omega (arith, in_turn, f.below, ap (stamp_in (call_records l)) f.later)

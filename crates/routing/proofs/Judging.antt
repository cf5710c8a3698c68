-- What is said of one record and of all of them, case by case, and what a list that is routed says of itself. Document 01: refusals 8,
-- 10, 11, 9, "lowest record first, 10 before 11 in one". Assumes nothing.
use mathlib.Core.Path.{◌≡◌, refl, sym, ap, ◌∙◌, subst}
use mathlib.Core.Bool.{Bool, true, false, cond, not, ◌&&◌, and-eq-true_iff, true≢false}
use mathlib.Core.List.{List}
use Prim.Native.Nat.{ℕ, ◌-◌, ◌≤◌, ◌<◌}
use Rattle.std.specs.Prelude.{Ok, Err}
use Rattle.std.specs.Result.{IsErr}
use native.Mathlib.Omega.{arith}
use borrow.Author.Tests.{lt-ltb, le-ltb, ltb-false, leb-true}
use lib.Dec.{ltb}
use Rattle.lists.specs.Lists.{first, at}
use Rattle.records.specs.Records.{record_count, record_at}
use Rattle.records.proofs.Records.{bad_at, all_good, bad_stop, bad_end}
use Rattle.access.specs.Access.{BASE_ADDRESS, ACCESS_WIDTH, good_access}
use Rattle.access.specs.declared.AccessTable.{AccessTable}
use Rattle.access.specs.declared.AccessTable.TheVariants.{General, Aligned, Register}
use Rattle.classify.specs.Classify.{is_register_op, is_aligned_op, table_for}
use Rattle.classify.specs.TableRecord.{address_fits}
use Rattle.routing.specs.Routing.{three, count_in, count_of, counts_of, Lists, RouteAnswer, routable, record_refusal, first_refused, fits, all_fit, routed, route_answer, lists_after}
use Rattle.routing.specs.Inner.{judged, table_by, Holds}
use Rattle.routing.specs.declared.RouteRefusal.{RouteRefusal}
use Rattle.routing.specs.declared.RouteRefusal.TheVariants.{TooManyRecords, BadRecord, BadAddress, BufferShort}
use Rattle.routing.specs.declared.split.Counts.{Counts}
use Rattle.routing.proofs.Routes.{table_by_lem, by_table, count_le, Counted}

-- One record

module _ (r : List ℕ) where
  -- it is in the register table, and its address has no place there
  abbrev pub misplaced : Bool
  misplaced = is_register_op r && not (address_fits Register (at r BASE_ADDRESS))

  fits_by : address_fits (table_for r) (at r BASE_ADDRESS) ≡ not misplaced
  fits_by =
      ap (λ t. address_fits t (at r BASE_ADDRESS)) (sym (table_by_lem r))
      ∙ step (is_register_op r) (is_aligned_op r) (address_fits Register (at r BASE_ADDRESS)) refl
    where
      step : (a b f : Bool) → address_fits Register (at r BASE_ADDRESS) ≡ f → address_fits (table_by a b) (at r BASE_ADDRESS) ≡ not (a && not f)
      step true b true e = e
      step true b false e = e
      step false true f e = refl
      step false false f e = refl

  -- 10 before 11: the refusal of a record that is not good, then of one that is misplaced
  pub bad_refused : good_access r ≡ false → (routable r ≡ false) × ((k : ℕ) → record_refusal r k ≡ BadRecord k)
  unfolding routable
  bad_refused e = (rw e, λ k. rw e)

  pub misplaced_refused : good_access r ≡ true → misplaced ≡ true → (routable r ≡ false) × ((k : ℕ) → record_refusal r k ≡ BadAddress k)
  unfolding routable
  misplaced_refused e m = (rw (e, fits_by, m), λ k. rw e)

  pub placed_routable : good_access r ≡ true → misplaced ≡ false → routable r ≡ true
  unfolding routable
  placed_routable e m = rw (e, fits_by, m)

  pub routable_good : routable r ≡ true → good_access r ≡ true
  unfolding routable
  routable_good e = ((and-eq-true_iff (good_access r) (address_fits (table_for r) (at r BASE_ADDRESS))).0 e).0

-- All records: a loop that is at record k

module _ (l : List ℕ) (k : ℕ) where
  -- it stops there
  pub judged_stop : (a : RouteRefusal) → k < record_count ACCESS_WIDTH l
      → first_refused l ≡ first (bad_at ACCESS_WIDTH routable l) k (record_count ACCESS_WIDTH l - k)
      → routable (record_at ACCESS_WIDTH l k) ≡ false → record_refusal (record_at ACCESS_WIDTH l k) k ≡ a → Err a ≡ judged l
  unfolding judged
  judged_stop a h q refused e =
      let z : first_refused l ≡ k = q ∙ bad_stop ACCESS_WIDTH routable l k h refused in
      rw (z, lt-ltb k (record_count ACCESS_WIDTH l) h) (ap Err (sym e))

  -- or all are passed, and counted
  pub judged_end : (c : Counts) → k ≡ record_count ACCESS_WIDTH l → Counted l c k
      → first_refused l ≡ first (bad_at ACCESS_WIDTH routable l) k (record_count ACCESS_WIDTH l - k) → routed c ≡ judged l
  unfolding judged
  judged_end c e counted q =
      let z : first_refused l ≡ k = q ∙ bad_end ACCESS_WIDTH routable l k (omega arith) in
      rw (le-ltb (first_refused l) (record_count ACCESS_WIDTH l) (omega arith))
      (λ i. routed (three (all Register i) (all Aligned i) (all General i)))
    where
      all : (t : AccessTable) → count_in t c ≡ count_of t l (record_count ACCESS_WIDTH l)
      all t = counted t ∙ ap (count_of t l) e

Bounded : List ℕ → RouteAnswer → Type 0
Bounded l (Ok c) = (t : AccessTable) → count_in t c ≤ record_count ACCESS_WIDTH l
Bounded l (Err why) = Unit {0}

judged_le : (l : List ℕ) (c : Counts) → judged l ≡ routed c → (t : AccessTable) → count_in t c ≤ record_count ACCESS_WIDTH l
unfolding judged Bounded
judged_le l c e = subst (Bounded l) e (step (ltb (first_refused l) (record_count ACCESS_WIDTH l)))
  where
    step : (b : Bool) → Bounded l (cond b (Err (record_refusal (record_at ACCESS_WIDTH l (first_refused l)) (first_refused l))) (routed (counts_of l)))
    step true = tt
    step false =
        by_table (λ t. count_in t (counts_of l) ≤ record_count ACCESS_WIDTH l) (count_le Register l _) (count_le Aligned l _) (count_le General l _)

-- no count is above the record count
pub judged_few : (l : List ℕ) (c : Counts) → judged l ≡ routed c
    → (c.register ≤ record_count ACCESS_WIDTH l) × ((c.aligned ≤ record_count ACCESS_WIDTH l) × (c.general ≤ record_count ACCESS_WIDTH l))
judged_few l c e = (judged_le l c e Register, (judged_le l c e Aligned, judged_le l c e General))

-- The answer

module _ (limit : ℕ) (l : List ℕ) (rooms : Counts) where
  pub answer_over : limit < record_count ACCESS_WIDTH l → Err TooManyRecords ≡ route_answer limit l rooms
  unfolding route_answer
  answer_over h = rw (lt-ltb limit (record_count ACCESS_WIDTH l) h)

  -- what the lengths of the lent lists make of the counts
  abbrev pub roomed : RouteAnswer → RouteAnswer
  roomed (Ok c) = cond (all_fit c rooms) (Ok c) (Err BufferShort)
  roomed (Err why) = Err why

  answer_roomed : record_count ACCESS_WIDTH l ≤ limit → roomed (judged l) ≡ route_answer limit l rooms
  unfolding route_answer judged
  answer_roomed h = rw (le-ltb limit (record_count ACCESS_WIDTH l) h) (step (ltb (first_refused l) (record_count ACCESS_WIDTH l)))
    where
      step : (b : Bool) → let refusal = Err (record_refusal (record_at ACCESS_WIDTH l (first_refused l)) (first_refused l)) in
          roomed (cond b refusal (routed (counts_of l))) ≡ cond b refusal (roomed (routed (counts_of l)))
      step true = refl
      step false = refl

  answer_is : record_count ACCESS_WIDTH l ≤ limit → (a : RouteAnswer) → judged l ≡ a → roomed a ≡ route_answer limit l rooms
  answer_is h a e = ap roomed (sym e) ∙ answer_roomed h

  pub answer_refused : (why : RouteRefusal) → record_count ACCESS_WIDTH l ≤ limit → judged l ≡ Err why → Err why ≡ route_answer limit l rooms
  answer_refused why h e = answer_is h (Err why) e

  pub answer_fits : (c : Counts) → record_count ACCESS_WIDTH l ≤ limit → judged l ≡ Ok c → all_fit c rooms ≡ true → Ok c ≡ route_answer limit l rooms
  answer_fits c h e fit = sym (ap (λ b. cond b (Ok c) (Err BufferShort)) fit) ∙ answer_is h (Ok c) e

  pub answer_short : (c : Counts) → record_count ACCESS_WIDTH l ≤ limit → judged l ≡ Ok c → all_fit c rooms ≡ false
      → Err BufferShort ≡ route_answer limit l rooms
  answer_short c h e short = sym (ap (λ b. cond b (Ok c) (Err BufferShort)) short) ∙ answer_is h (Ok c) e

  -- a list that is routed
  pub record RoutedFacts (c : Counts) : Type 0 where
    pub allowed : record_count ACCESS_WIDTH l ≤ limit
    pub fine : record_count ACCESS_WIDTH l ≤ first_refused l
    pub counts : (t : AccessTable) → count_in t c ≡ count_of t l (record_count ACCESS_WIDTH l)
    pub holds : (t : AccessTable) → Holds t l rooms

  Facts : RouteAnswer → Type 0
  Facts (Ok c) = RoutedFacts c
  Facts (Err why) = Unit {0}

  facts : Facts (route_answer limit l rooms)
  unfolding Facts route_answer
  facts = step _ _ _ refl refl refl
    where
      step : (x y z : Bool) → ltb limit (record_count ACCESS_WIDTH l) ≡ x → ltb (first_refused l) (record_count ACCESS_WIDTH l) ≡ y
          → all_fit (counts_of l) rooms ≡ z
          → let refusal = Err (record_refusal (record_at ACCESS_WIDTH l (first_refused l)) (first_refused l)) in
          Facts (cond x (Err TooManyRecords) (cond y refusal (cond z (routed (counts_of l)) (Err BufferShort))))
      step true y z hx hy hz = tt
      step false true z hx hy hz = tt
      step false false false hx hy hz = tt
      step false false true hx hy hz =
          let a = (and-eq-true_iff (fits Register (counts_of l) rooms) _).0 hz in
          let b = (and-eq-true_iff (fits Aligned (counts_of l) rooms) (fits General (counts_of l) rooms)).0 a.1 in
          record {
            allowed = ltb-false limit (record_count ACCESS_WIDTH l) hx;
            fine = ltb-false (first_refused l) (record_count ACCESS_WIDTH l) hy;
            counts = by_table (λ t. count_in t (counts_of l) ≡ count_of t l (record_count ACCESS_WIDTH l)) refl refl refl;
            holds = by_table (λ t. Holds t l rooms) (leb-true _ _ a.0) (leb-true _ _ b.0) (leb-true _ _ b.1);
          }

  pub routed_facts : (c : Counts) → route_answer limit l rooms ≡ routed c → RoutedFacts c
  unfolding Facts
  routed_facts c e = subst Facts e facts

-- a refusal writes nothing
pub lists_kept : (l : List ℕ) (a : RouteAnswer) (ls : Lists) → IsErr a → ls ≡ lists_after l a ls
unfolding lists_after
lists_kept l (Ok c) ls e = absurd (true≢false (sym e))
lists_kept l (Err why) ls e = refl

-- where no record is refused, each is good
pub all_routable : (l : List ℕ) → record_count ACCESS_WIDTH l ≤ first_refused l → (k : ℕ) → k < record_count ACCESS_WIDTH l
    → good_access (record_at ACCESS_WIDTH l k) ≡ true
all_routable l h k z = routable_good _ (all_good ACCESS_WIDTH routable l h k z)

-- Joined lists, both ways. The properties by places are turned into ones by the head of a list, and back; by the head, each call that is put
-- ahead keeps them, and they leave no choice. Assumes nothing.
use mathlib.Core.Path.{◌≡◌, refl, sym, ap, subst, ◌∙◌}
use mathlib.Core.Bool.{Bool, true, false, not, true≢false, false≢true}
use mathlib.Core.Logic.{⊎_elim}
use mathlib.Core.List.{List, [], ◌∷◌, map}
use Prim.Native.Nat.{ℕ, zero, suc, ◌≤◌, ◌<◌}
use native.Mathlib.Nat.{eq-or-lt_of_le}
use native.Mathlib.Omega.{arith}
use borrow.Author.Tests.{leb-true, leb-false}
use lib.ListN.{length, get_or}
use Rattle.lists.specs.Lists.{All}
use Rattle.call_join.specs.Join.{stamp_of, joined_calls}
use Rattle.call_join.specs.JoinLaws.{stamp_in, StampsInOrder, marked, IsJoined}
use Rattle.call_join.proofs.Next.{takes_first, no_first, next_first, next_second, takes_first_lem, takes_second}

-- calls that are stamped no earlier than s, and later
abbrev From : ℕ → List (List ℕ) → Type 0
From s zs = All (λ z. s ≤ stamp_of z) zs

abbrev Above : ℕ → List (List ℕ) → Type 0
Above s zs = All (λ z. s < stamp_of z) zs

pub all_map : {P Q : List ℕ → Type 0} → ((z : List ℕ) → P z → Q z) → (zs : List (List ℕ)) → All P zs → All Q zs
all_map f [] h = tt
all_map f (z ∷ zs) h = (f z h.0, all_map f zs h.1)

-- Order, by the head

abbrev Sorted : List (List ℕ) → Type 0
Sorted [] = Unit {0}
Sorted (z ∷ zs) = From (stamp_of z) zs × Sorted zs

-- all are stamped from s on, if the first is
from_head : (s : ℕ) (zs : List (List ℕ)) → StampsInOrder zs → (0 < length zs → s ≤ stamp_in zs 0) → From s zs
from_head s [] o h = tt
from_head s (z ∷ zs) o h =
    let here : s ≤ stamp_of z = h (omega arith) in
    (here, from_head s zs (λ k l. o (suc k) (omega arith)) (λ l. omega (arith, here, o 0 (omega arith))))

sorted : (zs : List (List ℕ)) → StampsInOrder zs → Sorted zs
sorted [] o = tt
sorted (z ∷ zs) o =
    let later : StampsInOrder zs = λ k l. o (suc k) (omega arith) in
    (from_head (stamp_of z) zs later (λ l. o 0 (omega arith)), sorted zs later)

in_order : (zs : List (List ℕ)) → Sorted zs → StampsInOrder zs
in_order [] s k l = absurd (omega arith)
in_order (z ∷ []) s k l = absurd (omega arith)
in_order (z ∷ (y ∷ zs)) s zero l = s.0.0
in_order (z ∷ (y ∷ zs)) s (suc k) l = in_order (y ∷ zs) s.1 k (omega arith)

-- Marked calls

module _ (P : List ℕ → Type 0) where
  marked_all : (ms : List Bool) (zs : List (List ℕ)) → ((j : ℕ) → j < length zs → get_or ms j false ≡ true → P (get_or zs j [])) → All P (marked ms zs)
  marked_all [] zs h = tt
  marked_all (m ∷ ms) [] h = tt
  marked_all (true ∷ ms) (z ∷ zs) h = (h 0 (omega arith) refl, marked_all ms zs (λ j l e. h (suc j) (omega arith) e))
  marked_all (false ∷ ms) (z ∷ zs) h = marked_all ms zs (λ j l e. h (suc j) (omega arith) e)

  marked_each : (ms : List Bool) (zs : List (List ℕ)) → All P (marked ms zs) → (j : ℕ) → j < length zs → get_or ms j false ≡ true → P (get_or zs j [])
  marked_each [] zs h j l e = absurd (false≢true e)
  marked_each (m ∷ ms) [] h j l e = absurd (omega arith)
  marked_each (true ∷ ms) (z ∷ zs) h zero l e = h.0
  marked_each (false ∷ ms) (z ∷ zs) h zero l e = absurd (false≢true e)
  marked_each (true ∷ ms) (z ∷ zs) h (suc j) l e = marked_each ms zs h.1 j (omega arith) e
  marked_each (false ∷ ms) (z ∷ zs) h (suc j) l e = marked_each ms zs h j (omega arith) e

  -- what holds of all holds of those that are marked
  marked_of : (ms : List Bool) (zs : List (List ℕ)) → All P zs → All P (marked ms zs)
  marked_of [] zs h = tt
  marked_of (m ∷ ms) [] h = tt
  marked_of (true ∷ ms) (z ∷ zs) h = (h.0, marked_of ms zs h.1)
  marked_of (false ∷ ms) (z ∷ zs) h = marked_of ms zs h.1

  -- and what holds of the marked and of the others holds of all
  pub marked_both : (ms : List Bool) (zs : List (List ℕ)) → length ms ≡ length zs → All P (marked ms zs) → All P (marked (map not ms) zs) → All P zs
  marked_both [] [] e h g = tt
  marked_both [] (z ∷ zs) e h g = absurd (omega arith)
  marked_both (m ∷ ms) [] e h g = absurd (omega arith)
  marked_both (true ∷ ms) (z ∷ zs) e h g = (h.0, marked_both ms zs (omega arith) h.1 g)
  marked_both (false ∷ ms) (z ∷ zs) e h g = (g.0, marked_both ms zs (omega arith) h g.1)

-- The first list's calls ahead, by the head

abbrev Ahead : List Bool → List (List ℕ) → Type 0
Ahead [] zs = Unit {0}
Ahead (m ∷ ms) [] = Unit {0}
Ahead (true ∷ ms) (z ∷ zs) = Ahead ms zs
Ahead (false ∷ ms) (z ∷ zs) = Above (stamp_of z) (marked ms zs) × Ahead ms zs

-- and by places, as `IsJoined` has it
abbrev AheadAt : List Bool → List (List ℕ) → Type 0
AheadAt ms zs =
    (i j : ℕ) → i < j → j < length zs → get_or ms i true ≡ false → get_or ms j false ≡ true → stamp_in zs i ≡ stamp_in zs j → ⊥

later_ahead : (m : Bool) (ms : List Bool) (z : List ℕ) (zs : List (List ℕ)) → AheadAt (m ∷ ms) (z ∷ zs) → AheadAt ms zs
later_ahead m ms z zs h i j l k e f q = h (suc i) (suc j) (omega arith) (omega arith) e f q

by_head : (ms : List Bool) (zs : List (List ℕ)) → Sorted zs → AheadAt ms zs → Ahead ms zs
by_head [] zs s h = tt
by_head (m ∷ ms) [] s h = tt
by_head (true ∷ ms) (z ∷ zs) s h = by_head ms zs s.1 (later_ahead true ms z zs h)
by_head (false ∷ ms) (z ∷ zs) s h = (
  marked_all (λ x. stamp_of z < stamp_of x) ms zs
      (λ j l e. ⊎_elim (λ q. absurd (h 0 (suc j) (omega arith) (omega arith) refl e q)) (λ b. b) (eq-or-lt_of_le (each zs s.0 j l))),
  by_head ms zs s.1 (later_ahead false ms z zs h),
)
  where
    each : (zs : List (List ℕ)) → From (stamp_of z) zs → (j : ℕ) → j < length zs → stamp_of z ≤ stamp_in zs j
    each [] g j l = absurd (omega arith)
    each (y ∷ ys) g zero l = g.0
    each (y ∷ ys) g (suc j) l = each ys g.1 j (omega arith)

by_places : (ms : List Bool) (zs : List (List ℕ)) → Ahead ms zs → AheadAt ms zs
by_places [] zs h i j l k e f q = true≢false e
by_places (m ∷ ms) [] h i j l k e f q = omega arith
by_places (m ∷ ms) (z ∷ zs) h i zero l k e f q = omega arith
by_places (true ∷ ms) (z ∷ zs) h zero (suc j) l k e f q = true≢false e
by_places (true ∷ ms) (z ∷ zs) h (suc i) (suc j) l k e f q = by_places ms zs h i j (omega arith) (omega arith) e f q
by_places (false ∷ ms) (z ∷ zs) h zero (suc j) l k e f q =
    let above : stamp_of z < stamp_in zs j = marked_each (λ x. stamp_of z < stamp_of x) ms zs h.0 j (omega arith) f in omega arith
by_places (false ∷ ms) (z ∷ zs) h (suc i) (suc j) l k e f q = by_places ms zs h.1 i j (omega arith) (omega arith) e f q

-- No other list

only_marked : (ms : List Bool) (zs : List (List ℕ)) → length ms ≡ length zs → Sorted zs → Ahead ms zs
    → zs ≡ joined_calls (marked ms zs) (marked (map not ms) zs)
only_marked [] [] e s a = sym (no_first [])
only_marked [] (z ∷ zs) e s a = absurd (omega arith)
only_marked (m ∷ ms) [] e s a = absurd (omega arith)
only_marked (true ∷ ms) (z ∷ zs) e s a =
    let others = marked (map not ms) zs in
    let taken = takes_first_lem z (marked ms zs) others (marked_of (λ y. stamp_of z ≤ stamp_of y) (map not ms) zs s.0) in
    ap (λ l. z ∷ l) (only_marked ms zs (omega arith) s.1 a) ∙ sym (next_first z (marked ms zs) others taken)
only_marked (false ∷ ms) (z ∷ zs) e s a =
    let others = marked (map not ms) zs in
    ap (λ l. z ∷ l) (only_marked ms zs (omega arith) s.1 a.1)
    ∙ sym (next_second (marked ms zs) z others (takes_second (marked ms zs) z others a.0))

pub joined_only : (xs ys zs : List (List ℕ)) → IsJoined xs ys zs → zs ≡ joined_calls xs ys
joined_only xs ys zs j =
    let s = sorted zs j.order in
    only_marked j.of_first zs j.each s (by_head j.of_first zs s j.ahead)
    ∙ (λ i. joined_calls (j.all_first i) (j.all_second i))

-- And this one

-- joined, by the head
record Made (xs ys zs : List (List ℕ)) : Type 0 where
  pub of_first : List Bool
  pub each : length of_first ≡ length zs
  pub all_first : marked of_first zs ≡ xs
  pub all_second : marked (map not of_first) zs ≡ ys
  pub in_turn : Sorted zs
  pub ahead : Ahead of_first zs

made_is : (xs ys zs : List (List ℕ)) → Made xs ys zs → IsJoined xs ys zs
made_is xs ys zs m =
    record {
      of_first = m.of_first;
      each = m.each;
      all_first = m.all_first;
      all_second = m.all_second;
      order = in_order zs m.in_turn;
      ahead = by_places m.of_first zs m.ahead;
    }

-- what is stamped from s on in both lists is so in the joined one
made_from : (s : ℕ) (xs ys zs : List (List ℕ)) → Made xs ys zs → From s xs → From s ys → From s zs
made_from s xs ys zs m h g =
    marked_both (λ z. s ≤ stamp_of z) m.of_first zs m.each (subst (From s) (sym m.all_first) h) (subst (From s) (sym m.all_second) g)

-- one more call of the first list, stamped no later than any
more_first : (x : List ℕ) (xs ys zs : List (List ℕ)) → From (stamp_of x) xs → From (stamp_of x) ys → Made xs ys zs → Made (x ∷ xs) ys (x ∷ zs)
more_first x xs ys zs h g m =
    record {
      of_first = true ∷ m.of_first;
      each = ap suc m.each;
      all_first = ap (λ l. x ∷ l) m.all_first;
      all_second = m.all_second;
      in_turn = (made_from (stamp_of x) xs ys zs m h g, m.in_turn);
      ahead = m.ahead;
    }

-- one more of the second, stamped below all of the first
more_second : (y : List ℕ) (xs ys zs : List (List ℕ)) → Above (stamp_of y) xs → From (stamp_of y) ys → Made xs ys zs → Made xs (y ∷ ys) (y ∷ zs)
more_second y xs ys zs h g m =
    record {
      of_first = false ∷ m.of_first;
      each = ap suc m.each;
      all_first = m.all_first;
      all_second = ap (λ l. y ∷ l) m.all_second;
      in_turn = (made_from (stamp_of y) xs ys zs m (all_map (λ z l. omega arith) xs h) g, m.in_turn);
      ahead = (subst (Above (stamp_of y)) (sym m.all_first) h, m.ahead);
    }

made_second : (ys : List (List ℕ)) → Sorted ys → Made [] ys ys
made_second [] s = record { of_first = []; each = refl; all_first = refl; all_second = refl; in_turn = tt; ahead = tt }
made_second (y ∷ ys) s = more_second y [] ys ys tt s.0 (made_second ys s.1)

-- with x ahead of xs, which may be joined to any list
made_with : (x : List ℕ) (xs : List (List ℕ)) → From (stamp_of x) xs → ((ys : List (List ℕ)) → Sorted ys → Made xs ys (joined_calls xs ys))
    → (ys : List (List ℕ)) → Sorted ys → Made (x ∷ xs) ys (joined_calls (x ∷ xs) ys)
made_with x xs h rest [] s = subst (Made (x ∷ xs) []) (sym (next_first x xs [] refl)) (more_first x xs [] (joined_calls xs []) h tt (rest [] tt))
made_with x xs h rest (y ∷ ys) s = step (takes_first (x ∷ xs) (y ∷ ys)) refl (made_with x xs h rest ys s.1)
  where
    step : (b : Bool) → takes_first (x ∷ xs) (y ∷ ys) ≡ b → Made (x ∷ xs) ys (joined_calls (x ∷ xs) ys)
        → Made (x ∷ xs) (y ∷ ys) (joined_calls (x ∷ xs) (y ∷ ys))
    step true e later =
        let l : stamp_of x ≤ stamp_of y = leb-true (stamp_of x) (stamp_of y) e in
        subst (Made (x ∷ xs) (y ∷ ys)) (sym (next_first x xs (y ∷ ys) e))
        (more_first x xs (y ∷ ys) (joined_calls xs (y ∷ ys)) h (l, all_map (λ z k. omega arith) ys s.0) (rest (y ∷ ys) s))
    step false e later =
        let l : stamp_of y < stamp_of x = leb-false (stamp_of x) (stamp_of y) e in
        subst (Made (x ∷ xs) (y ∷ ys)) (sym (next_second (x ∷ xs) y ys e))
        (more_second y (x ∷ xs) ys (joined_calls (x ∷ xs) ys) (l, all_map (λ z k. omega arith) xs h) s.0 later)

made : (xs ys : List (List ℕ)) → Sorted xs → Sorted ys → Made xs ys (joined_calls xs ys)
made [] ys s t = subst (Made [] ys) (sym (no_first ys)) (made_second ys t)
made (x ∷ xs) ys s t = made_with x xs s.0 (λ zs u. made xs zs s.1 u) ys t

pub joined_is : (xs ys : List (List ℕ)) → StampsInOrder xs → StampsInOrder ys → IsJoined xs ys (joined_calls xs ys)
joined_is xs ys o p = made_is xs ys (joined_calls xs ys) (made xs ys (sorted xs o) (sorted ys p))

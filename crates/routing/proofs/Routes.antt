-- Laws of the three lists, one law for all tables: how wide a list's records are, how counts and list grow by a record, and where the record
-- is written. Document 01: "Three lists in arrival order". Assumes nothing.
use mathlib.Core.Path.{◌≡◌, refl, sym, ap, ◌∙◌, subst}
use mathlib.Core.Bool.{Bool, true, false, cond, not, ◌&&◌, ◌||◌}
use mathlib.Core.List.{List}
use Prim.Native.Nat.{ℕ, ◌+◌, ◌*◌, ◌^◌, ◌≤◌, ◌<◌}
use native.Mathlib.Omega.{arith}
use lib.ListN.{length}
use Rattle.lists.specs.Lists.{store}
use Rattle.lists.specs.Inner.{one_more, placed}
use Rattle.lists.proofs.Flat.{picked_length, counted_none, counted_le}
use Rattle.lists.proofs.Filled as loop
use Rattle.records.specs.Records.{record_count, record_at}
use Rattle.access.specs.Access.{ACCESS_WIDTH, good_access}
use Rattle.access.specs.Tables.{record_width, same_table}
use Rattle.access.specs.declared.AccessTable.{AccessTable}
use Rattle.access.specs.declared.AccessTable.TheVariants.{General, Aligned, Register}
use Rattle.access.proofs.Good.{good_length}
use Rattle.classify.specs.Classify.{is_register_op, is_aligned_op, classify, table_of, table_for}
use Rattle.classify.specs.declared.MemwRoute.TheVariants as route
use Rattle.classify.specs.TableRecord.{table_record}
use Rattle.routing.specs.Routing.{three, count_in, Lists, list_of, rooms_of, goes_to, listed_as, routed_of, count_of}
use Rattle.routing.specs.Inner.{table_by, with_one, Few, RoomFor, Holds, Put}
use Rattle.routing.specs.declared.split.Counts.{Counts}

-- the table of an access is the one that its two tests lead to
pub table_by_lem : (r : List ℕ) → table_by (is_register_op r) (is_aligned_op r) ≡ table_for r
unfolding classify
table_by_lem r = step (is_register_op r) (is_aligned_op r)
  where
    step : (a b : Bool) → table_by a b ≡ table_of (cond a route.Register (cond b route.Aligned route.General))
    step true b = refl
    step false true = refl
    step false false = refl

module _ (r : List ℕ) where
  pub table_register : is_register_op r ≡ true → table_for r ≡ Register
  table_register e = sym (table_by_lem r) ∙ ap (λ a. table_by a (is_aligned_op r)) e

  pub table_aligned : is_register_op r ≡ false → is_aligned_op r ≡ true → table_for r ≡ Aligned
  table_aligned e f = sym (table_by_lem r) ∙ (λ i. table_by (e i) (f i))

  pub table_general : is_register_op r ≡ false → is_aligned_op r ≡ false → table_for r ≡ General
  table_general e f = sym (table_by_lem r) ∙ (λ i. table_by (e i) (f i))

-- what holds of each table holds of all
pub by_table : (P : AccessTable → Type 0) → P Register → P Aligned → P General → (t : AccessTable) → P t
by_table P r a g General = g
by_table P r a g Aligned = a
by_table P r a g Register = r

-- a whole record is as long in its table's list as the table's width says
pub record_wide : (t : AccessTable) (r : List ℕ) → length r ≡ ACCESS_WIDTH → length (table_record t r) ≡ record_width t
record_wide General r e = e
record_wide Aligned r e = e
record_wide Register r e = refl

-- the room of a table's list
room_of : (t : AccessTable) (ls : Lists) → length (list_of t ls) ≡ count_in t (rooms_of ls)
room_of General ls = refl
room_of Aligned ls = refl
room_of Register ls = refl

-- Counts

module _ (t : AccessTable) (l : List ℕ) where
  pub count_none : count_of t l 0 ≡ 0
  unfolding count_of
  count_none = counted_none (goes_to t l)

  pub count_le : (k : ℕ) → count_of t l k ≤ k
  unfolding count_of
  count_le k = counted_le (goes_to t l) k

  pub routed_length : (n : ℕ) → ((k : ℕ) → k < n → good_access (record_at ACCESS_WIDTH l k) ≡ true)
      → length (routed_of t l n) ≡ record_width t * count_of t l n
  unfolding routed_of count_of
  routed_length n good =
      picked_length (record_width t) (goes_to t l) (listed_as t l) n
      (λ k h. record_wide t (record_at ACCESS_WIDTH l k) (good_length (record_at ACCESS_WIDTH l k) (good k h)))

-- one record more for table s
pub one_more_count : (t s : AccessTable) (c : Counts) → count_in t (with_one s c) ≡ one_more (same_table t s) (count_in t c)
one_more_count Register Register c = refl
one_more_count Register Aligned c = refl
one_more_count Register General c = refl
one_more_count Aligned Register c = refl
one_more_count Aligned Aligned c = refl
one_more_count Aligned General c = refl
one_more_count General Register c = refl
one_more_count General Aligned c = refl
one_more_count General General c = refl

-- as the three counts grow side by side
pub counts_with_one : (a b : Bool) (c : Counts)
    → three (one_more a c.register) (one_more (b && not a) c.aligned) (one_more (not (a || b)) c.general) ≡ with_one (table_by a b) c
counts_with_one true true c = refl
counts_with_one true false c = refl
counts_with_one false true c = refl
counts_with_one false false c = refl

-- no record yet, and record k more
abbrev pub Counted : List ℕ → Counts → ℕ → Type 0
Counted l c k = (t : AccessTable) → count_in t c ≡ count_of t l k

pub counted_start : (l : List ℕ) → Counted l (three 0 0 0) 0
counted_start l =
    by_table (λ t. count_in t (three 0 0 0) ≡ count_of t l 0) (sym (count_none Register l)) (sym (count_none Aligned l)) (sym (count_none General l))

module _ (l : List ℕ) (k : ℕ) (s : AccessTable) (goes : s ≡ table_for (record_at ACCESS_WIDTH l k)) (c c' : Counts) (more : c' ≡ with_one s c) where
  count_is : (t : AccessTable) → count_in t c' ≡ one_more (goes_to t l k) (count_in t c)
  count_is t = ap (count_in t) more ∙ one_more_count t s c ∙ ap (λ x. one_more (same_table t x) (count_in t c)) goes

  pub counted_next : Counted l c k → Counted l c' (k + 1)
  unfolding count_of
  counted_next e t = loop.count_next (goes_to t l) k (count_in t c) (count_in t c') (e t) (count_is t)

pub counted_few : (l : List ℕ) (c : Counts) (k : ℕ) → Counted l c k → k < 2 ^ 20 → Few c
counted_few l c k e h t = omega (arith, e t, count_le t l k)

-- The lists

-- after k records each lent list has those that go there
abbrev pub AllFilled : List ℕ → Lists → Lists → Counts → ℕ → Type 0
AllFilled l ls₀ ls c k = (t : AccessTable) → loop.Filled (goes_to t l) (listed_as t l) (list_of t ls₀) (list_of t ls) (count_in t c) k

pub all_filled_start : (l : List ℕ) (ls : Lists) → AllFilled l ls ls (three 0 0 0) 0
all_filled_start l ls =
    by_table (λ t. loop.Filled (goes_to t l) (listed_as t l) (list_of t ls) (list_of t ls) (count_in t (three 0 0 0)) 0)
    (loop.filled_start _ _ _) (loop.filled_start _ _ _) (loop.filled_start _ _ _)

pub filled_counted : (l : List ℕ) (ls₀ ls : Lists) (c : Counts) (k : ℕ) → AllFilled l ls₀ ls c k → Counted l c k
unfolding count_of
filled_counted l ls₀ ls c k f t = (f t).count

-- record k is r
module _
    (l : List ℕ) (ls₀ ls : Lists) (c : Counts) (k : ℕ) (good : (j : ℕ) → j < k → good_access (record_at ACCESS_WIDTH l j) ≡ true)
    (f : AllFilled l ls₀ ls c k) (r : List ℕ) (here : r ≡ record_at ACCESS_WIDTH l k) where
  wide : (t : AccessTable) (j : ℕ) → j < k → length (listed_as t l j) ≡ record_width t
  wide t j h = record_wide t (record_at ACCESS_WIDTH l j) (good_length (record_at ACCESS_WIDTH l j) (good j h))

  pub all_filled_next : (ls' : Lists) (c' : Counts) → Put r c ls ls' c' → AllFilled l ls₀ ls' c' (k + 1)
  all_filled_next ls' c' put t =
      loop.filled_next (record_width t) (goes_to t l) (listed_as t l) (list_of t ls₀) (list_of t ls) (count_in t c) k (wide t) (f t)
      (list_of t ls') (count_in t c') (count_is l k (table_for r) (ap table_for here) c c' put.counts t)
      (put.lists t ∙ ap (λ x. placed (same_table t (table_for x)) (record_width t) (count_in t c) (table_record t x) (list_of t ls)) here)

  -- it fits
  pub all_filled_room : k < record_count ACCESS_WIDTH l → ((t : AccessTable) → Holds t l (rooms_of ls₀)) → (t : AccessTable) → RoomFor t r c (rooms_of ls)
  unfolding count_of
  all_filled_room h holds t goes =
      subst (λ (n : ℕ). record_width t * count_in t c + record_width t ≤ n) (room_of t ls)
      (loop.filled_room (record_width t) (goes_to t l) (listed_as t l) (list_of t ls₀) (list_of t ls) (count_in t c) k (wide t) (f t)
      (record_count ACCESS_WIDTH l) h (subst (λ (n : ℕ). record_width t * count_of t l (record_count ACCESS_WIDTH l) ≤ n) (sym (room_of t ls₀)) (holds t))
      (ap (λ x. same_table t (table_for x)) (sym here) ∙ goes))

-- One record written

module _ (t s : AccessTable) (r : List ℕ) (c : Counts) (l : List ℕ) (e : table_for r ≡ s) where
  pub placed_here : same_table t s ≡ true → (k : List ℕ) → k ≡ store l (record_width t * count_in t c) (table_record t r)
      → k ≡ placed (same_table t (table_for r)) (record_width t) (count_in t c) (table_record t r) l
  placed_here same k put = put ∙ sym (ap (λ (b : Bool). placed b (record_width t) (count_in t c) (table_record t r) l) (ap (same_table t) e ∙ same))

  pub placed_not : same_table t s ≡ false → l ≡ placed (same_table t (table_for r)) (record_width t) (count_in t c) (table_record t r) l
  placed_not other = sym (ap (λ (b : Bool). placed b (record_width t) (count_in t c) (table_record t r) l) (ap (same_table t) e ∙ other))

-- put table by table
pub put_of : {r : List ℕ} {c : Counts} {before after : Lists} {later : Counts} → later ≡ with_one (table_for r) c
    → after.register ≡ placed (same_table Register (table_for r)) (record_width Register) c.register (table_record Register r) before.register
    → after.aligned ≡ placed (same_table Aligned (table_for r)) (record_width Aligned) c.aligned (table_record Aligned r) before.aligned
    → after.general ≡ placed (same_table General (table_for r)) (record_width General) c.general (table_record General r) before.general
    → Put r c before after later
put_of {r} {c} {before} {after} {later} e x y z =
    record {
      counts = e;
      lists =
          by_table (λ t. list_of t after ≡ placed (same_table t (table_for r)) (record_width t) (count_in t c) (table_record t r) (list_of t before)) x y z;
    }

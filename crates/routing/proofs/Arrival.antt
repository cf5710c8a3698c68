-- Every list that is routed is in arrival order, and no record is lost: the parts that a loop picks are the records that are kept, and
-- each record is counted for one table. Assumes nothing.
use mathlib.Core.Path.{◌≡◌, refl, sym, ap, ◌∙◌}
use mathlib.Core.Bool.{Bool, true, false, cond}
use mathlib.Core.List.{List, flat_map}
use Prim.Native.Nat.{ℕ, zero, suc, ◌+◌, ◌*◌, ◌≤◌}
use native.Mathlib.Nat.{add-zero}
use native.Mathlib.Numerals.{add-one}
use native.Mathlib.Omega.{arith}
use lib.ListN.{length, take, drop}
use lib.Seq.{take_at}
use Rattle.lists.specs.Lists.{store}
use Rattle.lists.proofs.Store.{store_eq}
use Rattle.lists.proofs.Flat.{counted_more}
use Rattle.lists.proofs.Listed.{picked_kept, kept_count}
use Rattle.words.specs.Words.{bit}
use Rattle.records.specs.Records.{record_count, record_at, records_in}
use Rattle.access.specs.Access.{ACCESS_WIDTH}
use Rattle.access.specs.Tables.{record_width, same_table}
use Rattle.access.specs.declared.AccessTable.{AccessTable}
use Rattle.access.specs.declared.AccessTable.TheVariants.{General, Aligned, Register}
use Rattle.classify.specs.Classify.{table_for}
use Rattle.classify.specs.TableRecord.{table_record}
use Rattle.routing.specs.Routing.{count_in, list_of, rooms_of, goes_to, routed_of, count_of, routed, filled_list, lists_after}
use Rattle.routing.specs.InOrder.{records_to, RoutedInOrder}
use Rattle.routing.proofs.Routes.{by_table, count_none, routed_length}
use Rattle.routing.proofs.Judging.{RoutedFacts, routed_facts, all_routable}

-- Each record is counted once

count_more : (t : AccessTable) (l : List ℕ) (k : ℕ) → count_of t l (k + 1) ≡ count_of t l k + bit (goes_to t l k)
unfolding count_of
count_more t l k = counted_more (goes_to t l) k ∙ step (goes_to t l k)
  where
    step : (b : Bool) → cond b (count_of t l k + 1) (count_of t l k) ≡ count_of t l k + bit b
    step true = refl
    step false = sym (add-zero (count_of t l k))

one_table : (t : AccessTable) → bit (same_table Register t) + bit (same_table Aligned t) + bit (same_table General t) ≡ 1
one_table Register = refl
one_table Aligned = refl
one_table General = refl

counts_add_up : (l : List ℕ) (n : ℕ) → count_of Register l n + count_of Aligned l n + count_of General l n ≡ n
counts_add_up l zero = (λ i. count_none Register l i + count_none Aligned l i + count_none General l i)
counts_add_up l (suc n) =
    rw (← add-one n)
    (omega (
      arith,
      count_more Register l n,
      count_more Aligned l n,
      count_more General l n,
      one_table (table_for (record_at ACCESS_WIDTH l n)),
      counts_add_up l n,
    ))

-- The three lists

-- what was written is what is read
stored_taken : (buffer xs : List ℕ) (m : ℕ) → length xs ≡ m → m ≤ length buffer → take m (store buffer 0 xs) ≡ xs
stored_taken buffer xs m e fits = ap (take m) (store_eq buffer 0 xs (omega arith)) ∙ take_at xs (drop (0 + length xs) buffer) m e

module _ (t : AccessTable) (l : List ℕ) where
  routed_kept : routed_of t l (record_count ACCESS_WIDTH l) ≡ flat_map (table_record t) (records_to t l)
  unfolding routed_of records_in
  routed_kept = picked_kept (λ r. same_table t (table_for r)) (table_record t) (record_at ACCESS_WIDTH l) (record_count ACCESS_WIDTH l)

  records_count_lem : length (records_to t l) ≡ count_of t l (record_count ACCESS_WIDTH l)
  unfolding count_of records_in
  records_count_lem = kept_count (λ r. same_table t (table_for r)) (record_at ACCESS_WIDTH l) (record_count ACCESS_WIDTH l)

pub routed_in_order : RoutedInOrder
unfolding lists_after
routed_in_order limit l before c e =
    record {
      all_records_lem = (λ i. f.counts Register i + f.counts Aligned i + f.counts General i) ∙ counts_add_up l (record_count ACCESS_WIDTH l);
      in_list =
          by_table (λ t. take (record_width t * count_in t c) (list_of t (lists_after l (routed c) before)) ≡ flat_map (table_record t) (records_to t l))
          (in_list Register (f.holds Register)) (in_list Aligned (f.holds Aligned)) (in_list General (f.holds General));
      in_count = λ t. records_count_lem t l ∙ sym (f.counts t);
    }
  where
    f : RoutedFacts limit l (rooms_of before) c
    f = routed_facts limit l (rooms_of before) c e

    in_list : (t : AccessTable) → record_width t * count_of t l (record_count ACCESS_WIDTH l) ≤ length (list_of t before)
        → take (record_width t * count_in t c) (filled_list t l before) ≡ flat_map (table_record t) (records_to t l)
    in_list t holds =
        let n = record_count ACCESS_WIDTH l in
        let w : record_width t * count_in t c ≡ record_width t * count_of t l n = ap (λ (k : ℕ). record_width t * k) (f.counts t) in
        stored_taken (list_of t before) (routed_of t l n) (record_width t * count_in t c)
        (routed_length t l n (all_routable l f.fine) ∙ sym w) (omega arith)
        ∙ routed_kept t l

-- What a routed list means: "Three lists in arrival order", and no record lost. A consequence of the contract of `route_accesses`, which
-- `routed_in_order_holds` in theorems carries. Assumes nothing.
use Rattle.std.specs.Prelude.{◌≡◌, ℕ, ◌+◌, ◌*◌, length, take}
use mathlib.Core.List.{List, flat_map}
use Rattle.lists.specs.Lists.{kept}
use Rattle.records.specs.Records.{record_count, records_in}
use Rattle.access.specs.Access.{ACCESS_WIDTH}
use Rattle.access.specs.Tables.{record_width, same_table}
use Rattle.access.specs.declared.AccessTable.{AccessTable}
use Rattle.classify.specs.Classify.{table_for}
use Rattle.classify.specs.TableRecord.{table_record}
use Rattle.routing.specs.Routing.{count_in, Lists, list_of, rooms_of, routed, route_answer, lists_after}
use Rattle.routing.specs.declared.split.Counts.{Counts}

-- the records of a list that go to table t, in arrival order
abbrev pub records_to : AccessTable → List ℕ → List (List ℕ)
records_to t l = kept (λ r. same_table t (table_for r)) (records_in ACCESS_WIDTH l)

-- so many records went to the three lists, which are afterwards `after`
pub record InOrder (l : List ℕ) (after : Lists) (c : Counts) : Type 0 where
  -- every record is in one list
  pub all_records_lem : c.register + c.aligned + c.general ≡ record_count ACCESS_WIDTH l
  -- each list has those that go there: the register table's as their 8 numbers, the other two as they came
  pub in_list : (t : AccessTable) → take (record_width t * count_in t c) (list_of t after) ≡ flat_map (table_record t) (records_to t l)
  pub in_count : (t : AccessTable) → length (records_to t l) ≡ count_in t c

-- of every list that is routed, within any limit and into any three lent lists
abbrev pub RoutedInOrder : Type 0
RoutedInOrder =
    (limit : ℕ) (l : List ℕ) (before : Lists) (c : Counts) → route_answer limit l (rooms_of before) ≡ routed c
    → InOrder l (lists_after l (routed c) before) c

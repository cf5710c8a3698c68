-- What one record does to the counts and to the lent lists: cited by the contracts of inner functions alone. Assumes nothing.
use Rattle.std.specs.Prelude.{◌≡◌, ℕ, ◌+◌, ◌*◌, ◌^◌, ◌≤◌, ◌<◌, Bool, true, cond, List, ltb, Err}
use Rattle.lists.specs.Inner.{placed}
use Rattle.records.specs.Records.{record_count, record_at}
use Rattle.access.specs.Access.{ACCESS_WIDTH}
use Rattle.access.specs.Tables.{record_width, same_table}
use Rattle.access.specs.declared.AccessTable.{AccessTable}
use Rattle.access.specs.declared.AccessTable.TheVariants.{General, Aligned, Register}
use Rattle.classify.specs.Classify.{table_for}
use Rattle.classify.specs.TableRecord.{table_record}
use Rattle.routing.specs.Routing.{three, count_in, Lists, list_of, count_of, counts_of, RouteAnswer, first_refused, record_refusal, routed, filled_list}
use Rattle.routing.specs.declared.split.Counts.{Counts}

-- the refusal of the lowest record that is refused, or the counts
unfoldable pub judged : List ℕ → RouteAnswer
judged l =
    cond (ltb (first_refused l) (record_count ACCESS_WIDTH l)) (Err (record_refusal (record_at ACCESS_WIDTH l (first_refused l)) (first_refused l)))
    (routed (counts_of l))

-- the table that an access's two tests lead to: register first
abbrev pub table_by : Bool → Bool → AccessTable
table_by register aligned = cond register Register (cond aligned Aligned General)

-- one record more for table t
abbrev pub with_one : AccessTable → Counts → Counts
with_one General c = three c.register c.aligned (c.general + 1)
with_one Aligned c = three c.register (c.aligned + 1) c.general
with_one Register c = three (c.register + 1) c.aligned c.general

-- few enough that one more can be counted
abbrev pub Few : Counts → Type 0
Few c = (t : AccessTable) → count_in t c < 2 ^ 20

-- record r fits into the list of table t behind the c there are, if it goes there
abbrev pub RoomFor : AccessTable → List ℕ → Counts → Counts → Type 0
RoomFor t r c rooms = same_table t (table_for r) ≡ true → record_width t * count_in t c + record_width t ≤ count_in t rooms

-- all that goes there fits
abbrev pub Holds : AccessTable → List ℕ → Counts → Type 0
Holds t l rooms = record_width t * count_of t l (record_count ACCESS_WIDTH l) ≤ count_in t rooms

-- record r was put behind the c that each list had
pub record Put (r : List ℕ) (c : Counts) (before after : Lists) (later : Counts) : Type 0 where
  pub counts : later ≡ with_one (table_for r) c
  pub lists : (t : AccessTable) → list_of t after ≡ placed (same_table t (table_for r)) (record_width t) (count_in t c) (table_record t r) (list_of t before)

-- all records were
abbrev pub Written : List ℕ → Lists → Lists → Type 0
Written l before after = (t : AccessTable) → list_of t after ≡ filled_list t l before

-- A list of access records routed into three lists. Document 01: "Three lists in arrival order"; refusals 8, 10, 11 and 9, "lowest record
-- first, 10 before 11 in one". What is said of one list is said of the list of any table. The limit on the records is a parameter (65,536
-- for callers). Assumes nothing.
use Rattle.std.specs.Prelude.{◌≡◌, ℕ, ◌*◌, Bool, cond, ◌&&◌, List, ltb, leb, length, Result, Ok, Err}
use Rattle.answer.specs.Numbers.{refused}
use Rattle.answer.specs.declared.Answer.{Answer}
use Rattle.lists.specs.Lists.{store, picked, counted, at}
use Rattle.records.specs.Records.{record_count, record_at, first_bad}
use Rattle.access.specs.Access.{BASE_ADDRESS, ACCESS_WIDTH, good_access}
use Rattle.access.specs.Tables.{record_width, same_table}
use Rattle.access.specs.declared.AccessTable.{AccessTable}
use Rattle.access.specs.declared.AccessTable.TheVariants.{General, Aligned, Register}
use Rattle.classify.specs.Classify.{table_for}
use Rattle.classify.specs.TableRecord.{table_record, address_fits}
use Rattle.routing.specs.declared.RouteNumbers.{RouteNumbers}
use Rattle.routing.specs.declared.RouteRefusal.{RouteRefusal}
use Rattle.routing.specs.declared.RouteRefusal.TheVariants.{TooManyRecords, BadRecord, BadAddress, BufferShort}
use Rattle.routing.specs.declared.split.Counts.{Counts}

-- Three of each

-- a number for each table, and the one for table t
abbrev pub three : ℕ → ℕ → ℕ → Counts
three r a g = record { register = r; aligned = a; general = g }

abbrev pub count_in : AccessTable → Counts → ℕ
count_in General c = c.general
count_in Aligned c = c.aligned
count_in Register c = c.register

-- the three lent lists, and the one of table t
pub record Lists : Type 0 where
  pub register : List ℕ
  pub aligned : List ℕ
  pub general : List ℕ

abbrev pub lists : List ℕ → List ℕ → List ℕ → Lists
lists r a g = record { register = r; aligned = a; general = g }

abbrev pub list_of : AccessTable → Lists → List ℕ
list_of General ls = ls.general
list_of Aligned ls = ls.aligned
list_of Register ls = ls.register

-- how long they are
abbrev pub rooms_of : Lists → Counts
rooms_of ls = three (length ls.register) (length ls.aligned) (length ls.general)

-- What goes where

-- whether record k of l goes to table t, and the record as that table's list has it
abbrev pub goes_to : AccessTable → List ℕ → ℕ → Bool
goes_to t l k = same_table t (table_for (record_at ACCESS_WIDTH l k))

abbrev pub listed_as : AccessTable → List ℕ → ℕ → List ℕ
listed_as t l k = table_record t (record_at ACCESS_WIDTH l k)

-- those of the first n records that go to table t, in arrival order; and how many they are
unfoldable pub routed_of : AccessTable → List ℕ → ℕ → List ℕ
routed_of t l n = picked (goes_to t l) (listed_as t l) n

unfoldable pub count_of : AccessTable → List ℕ → ℕ → ℕ
count_of t l n = counted (goes_to t l) n

-- how many of all records go to each table
abbrev pub counts_of : List ℕ → Counts
counts_of l =
    let n = record_count ACCESS_WIDTH l in
    three (count_of Register l n) (count_of Aligned l n) (count_of General l n)

-- The answer: how many records each list gets, or a refusal

abbrev pub RouteAnswer : Type 0
RouteAnswer = Result Counts RouteRefusal

-- whether a record is neither refused with 10 nor with 11
unfoldable pub routable : List ℕ → Bool
routable r = good_access r && address_fits (table_for r) (at r BASE_ADDRESS)

-- the refusal of a record that is not routable: 10 before 11
abbrev pub record_refusal : List ℕ → ℕ → RouteRefusal
record_refusal r place = cond (good_access r) (BadAddress place) (BadRecord place)

-- the lowest index of a record that is refused, or the record count
abbrev pub first_refused : List ℕ → ℕ
first_refused l = first_bad ACCESS_WIDTH routable l

-- whether so many records fit into a list of so many numbers, and all three
abbrev pub fits : AccessTable → Counts → Counts → Bool
fits t counts rooms = leb (record_width t * count_in t counts) (count_in t rooms)

abbrev pub all_fit : Counts → Counts → Bool
all_fit counts rooms = fits Register counts rooms && (fits Aligned counts rooms && fits General counts rooms)

abbrev pub routed : Counts → RouteAnswer
routed c = Ok c

-- what `route_accesses` answers, for three lent lists of so many numbers
unfoldable pub route_answer : ℕ → List ℕ → Counts → RouteAnswer
route_answer limit l rooms =
    cond (ltb limit (record_count ACCESS_WIDTH l)) (Err TooManyRecords)
    (cond (ltb (first_refused l) (record_count ACCESS_WIDTH l)) (Err (record_refusal (record_at ACCESS_WIDTH l (first_refused l)) (first_refused l)))
    (cond (all_fit (counts_of l) rooms) (routed (counts_of l)) (Err BufferShort)))

-- the list of table t with all that goes there
abbrev pub filled_list : AccessTable → List ℕ → Lists → List ℕ
filled_list t l ls = store (list_of t ls) 0 (routed_of t l (record_count ACCESS_WIDTH l))

-- the lent lists afterwards: a refusal writes nothing, and numbers past the result keep their values
unfoldable pub lists_after : List ℕ → RouteAnswer → Lists → Lists
lists_after l (Ok counts) ls = lists (filled_list Register l ls) (filled_list Aligned l ls) (filled_list General l ls)
lists_after l (Err why) ls = ls

-- document 01's number and place of each refusal; `over` is the number of the refusal of too many records, 8 for the limit 65,536
abbrev pub route_refusal_numbers : ℕ → RouteRefusal → Answer
route_refusal_numbers over TooManyRecords = refused over 0
route_refusal_numbers over (BadRecord k) = refused 10 k
route_refusal_numbers over (BadAddress k) = refused 11 k
route_refusal_numbers over BufferShort = refused 9 0

-- and of an answer, with the three counts
abbrev pub refused_route : Answer → RouteNumbers
refused_route a = record { number = a.number; place = a.place; register = 0; aligned = 0; general = 0 }

abbrev pub route_numbers : ℕ → RouteAnswer → RouteNumbers
route_numbers over (Ok c) = record { number = 0; place = 0; register = c.register; aligned = c.aligned; general = c.general }
route_numbers over (Err why) = refused_route (route_refusal_numbers over why)

-- what a function that routes has to show: the numbers that it answers, and the three lists when it is done
pub record RouteDone (limit over : ℕ) (l : List ℕ) (before : Lists) (numbers : RouteNumbers) (after : Lists) : Type 0 where
  pub answer : numbers ≡ route_numbers over (route_answer limit l (rooms_of before))
  pub lists : after ≡ lists_after l (route_answer limit l (rooms_of before)) before

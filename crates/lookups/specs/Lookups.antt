-- The lookups of an access list. Document 02: "The neighbouring half-word lookup wants, for each register row that is not padding, the low
-- stamp difference less one. .. Add a call that writes an access list's lookups, low byte then high byte, one pair for each register record
-- in arrival order. It refuses as routing does". The limit on the records is a parameter (65,536 for callers), and so is the number of its
-- refusal. Assumes nothing.
use Rattle.std.specs.Prelude.{◌≡◌, ℕ, ◌*◌, cond, List, ltb, leb, length, Result, Ok, Err}
use Rattle.answer.specs.Numbers.{accepted}
use Rattle.answer.specs.declared.Answer.{Answer}
use Rattle.lists.specs.Lists.{store, picked, at}
use Rattle.words.specs.Words.{digits}
use Rattle.records.specs.Records.{record_count, record_at}
use Rattle.access.specs.Access.{TIMESTAMP, OLD_TIMESTAMP, ACCESS_WIDTH}
use Rattle.access.specs.declared.AccessTable.TheVariants.{Register}
use Rattle.classify.specs.Classify.{delta_less_one}
use Rattle.routing.specs.Routing.{goes_to, count_of, record_refusal, first_refused, route_refusal_numbers}
use Rattle.routing.specs.declared.RouteRefusal.{RouteRefusal}
use Rattle.routing.specs.declared.RouteRefusal.TheVariants.{TooManyRecords, BufferShort}

-- The pairs

-- numbers of a pair
abbrev pub PAIR_WIDTH : ℕ
PAIR_WIDTH = 2

-- "low byte then high byte" of the low stamp difference less one of a register record
abbrev pub pair_of : List ℕ → List ℕ
pair_of r = digits 8 2 (delta_less_one (at r TIMESTAMP) (at r OLD_TIMESTAMP))

-- "one pair for each register record in arrival order": of the first n records; and how many there are of all
unfoldable pub lookups_of : List ℕ → ℕ → List ℕ
lookups_of l n = picked (goes_to Register l) (λ k. pair_of (record_at ACCESS_WIDTH l k)) n

abbrev pub pair_count : List ℕ → ℕ
pair_count l = count_of Register l (record_count ACCESS_WIDTH l)

-- The answer: how many pairs are written, or a refusal of routing's, 9 being for the lookups' own buffer

abbrev pub LookupAnswer : Type 0
LookupAnswer = Result ℕ RouteRefusal

-- what `register_lookups` answers, for a lent buffer of so many numbers: 8, the lowest record that 10 or 11 refuses, then 9
unfoldable pub lookup_answer : ℕ → List ℕ → ℕ → LookupAnswer
lookup_answer limit l room =
    cond (ltb limit (record_count ACCESS_WIDTH l)) (Err TooManyRecords)
    (cond (ltb (first_refused l) (record_count ACCESS_WIDTH l)) (Err (record_refusal (record_at ACCESS_WIDTH l (first_refused l)) (first_refused l)))
    (cond (leb (PAIR_WIDTH * pair_count l) room) (Ok (pair_count l)) (Err BufferShort)))

-- the lent buffer with all pairs
abbrev pub filled_lookups : List ℕ → List ℕ → List ℕ
filled_lookups l lookups = store lookups 0 (lookups_of l (record_count ACCESS_WIDTH l))

-- the lent buffer afterwards: a refusal writes nothing, and numbers past the result keep their values
unfoldable pub lookups_after : List ℕ → LookupAnswer → List ℕ → List ℕ
lookups_after l (Ok pairs) lookups = filled_lookups l lookups
lookups_after l (Err why) lookups = lookups

-- document 01's number, place and value of each case; `over` is the number of the refusal of too many records, 8 for the limit 65,536
abbrev pub lookup_numbers : ℕ → LookupAnswer → Answer
lookup_numbers over (Ok pairs) = accepted pairs
lookup_numbers over (Err why) = route_refusal_numbers over why

-- what a function that looks up has to show: the numbers that it answers, and the lent buffer when it is done
pub record LookupsDone (limit over : ℕ) (l lookups : List ℕ) (numbers : Answer) (after : List ℕ) : Type 0 where
  pub answer : numbers ≡ lookup_numbers over (lookup_answer limit l (length lookups))
  pub written : after ≡ lookups_after l (lookup_answer limit l (length lookups)) lookups

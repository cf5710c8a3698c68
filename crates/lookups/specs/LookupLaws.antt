-- The lookups in document 02's words, held against routing on the same list: the same refusals, a pair for each record that `route_accesses`
-- puts into the register list, in its place, and two bytes that rebuild the record's low stamp difference less one. `lookup_laws_hold` in
-- theorems carries them. Assumes nothing.
use Rattle.std.specs.Prelude.{◌≡◌, true, ℕ, ◌+◌, ◌*◌, ◌≤◌, ◌<◌, length, take, Ok, Err}
use mathlib.Core.List.{List, flat_map}
use Rattle.lists.specs.Lists.{at}
use Rattle.words.specs.Words.{low_word}
use Rattle.records.specs.Records.{record_at}
use Rattle.access.specs.Tables.{REGISTER_WIDTH}
use Rattle.access.specs.declared.AccessTable.TheVariants.{Register}
use Rattle.routing.specs.Routing.{counts_of, Lists, rooms_of, all_fit, routed, route_answer, lists_after, route_numbers}
use Rattle.routing.specs.InOrder.{records_to}
use Rattle.routing.specs.declared.split.Counts.{Counts}
use Rattle.lookups.specs.Lookups.{PAIR_WIDTH, pair_of, lookup_answer, lookups_after, lookup_numbers}
use Rattle.routing.specs.declared.RouteRefusal.TheVariants.{BufferShort}

-- Refusals

-- a number that refuses the list itself: 8, 10 or 11, and not a buffer
abbrev pub RefusesList : ℕ → Type 0
RefusesList n = (n ≡ 0 → ⊥) × (n ≡ 9 → ⊥)

-- "It refuses as routing does": what routing answers, and what the lookups answer, on one list, with lent lists of any length on both sides
pub record AsRouting (limit over : ℕ) (l : List ℕ) (rooms : Counts) (room : ℕ) : Type 0 where
  -- where one of the two refuses the list, the other does so with the same number and place
  pub as_routing : let n = route_numbers over (route_answer limit l rooms) in let m = lookup_numbers over (lookup_answer limit l room) in
      RefusesList n.number → (m.number ≡ n.number) × (m.place ≡ n.place)
  pub routing_as : let n = route_numbers over (route_answer limit l rooms) in let m = lookup_numbers over (lookup_answer limit l room) in
      RefusesList m.number → (n.number ≡ m.number) × (n.place ≡ m.place)
  -- where routing refuses nothing, the lookups are written if the pairs fit, and else refused with 9
  pub served : (c : Counts) → route_answer limit l rooms ≡ routed c → PAIR_WIDTH * c.register ≤ room → lookup_answer limit l room ≡ Ok c.register
  pub nine : (c : Counts) → route_answer limit l rooms ≡ routed c → room < PAIR_WIDTH * c.register → lookup_answer limit l room ≡ Err BufferShort
  -- and where they are written, routing refuses nothing, if its three lists are long enough
  pub back : (pairs : ℕ) → lookup_answer limit l room ≡ Ok pairs → all_fit (counts_of l) rooms ≡ true
      → (route_answer limit l rooms ≡ routed (counts_of l)) × ((counts_of l).register ≡ pairs)

-- Pairs

-- two bytes that rebuild the difference less one of a low stamp and a low old stamp, and no other two do
pub record Rebuilds (pair : List ℕ) (low old : ℕ) : Type 0 where
  pub low_byte : at pair 0 < 256
  pub high_byte : at pair 1 < 256
  pub rebuilt : old + (at pair 0 + 256 * at pair 1) + 1 ≡ low
  pub only : (a b : ℕ) → a < 256 → b < 256 → old + (a + 256 * b) + 1 ≡ low → (a ≡ at pair 0) × (b ≡ at pair 1)

-- pair j of a buffer
abbrev pub pair_at : List ℕ → ℕ → List ℕ
pair_at lookups j = record_at PAIR_WIDTH lookups j

-- record j of the register list, and where two of its numbers stand: "index (16 bits), timestamp, values, olds, low old stamp, is_read"
abbrev pub register_at : Lists → ℕ → List ℕ
register_at ls j = record_at REGISTER_WIDTH ls.register j

abbrev pub REGISTER_TIMESTAMP : ℕ
REGISTER_TIMESTAMP = 1

abbrev pub REGISTER_OLD_LO : ℕ
REGISTER_OLD_LO = 6

-- so many pairs in the buffer `lookups`, beside the lists `ls` with so many records in the register list
pub record PairsBeside (lookups : List ℕ) (pairs : ℕ) (ls : Lists) (registers : ℕ) : Type 0 where
  -- "one pair for each register record"
  pub counted : pairs ≡ registers
  -- "each pair rebuilds the difference less one": of the record that routing puts at that place
  pub each : (j : ℕ) → j < pairs
      → Rebuilds (pair_at lookups j) (low_word (at (register_at ls j) REGISTER_TIMESTAMP)) (at (register_at ls j) REGISTER_OLD_LO)

pub record LookupLaws : Type 0 where
  pub refusals : (limit over : ℕ) (l : List ℕ) (rooms : Counts) (room : ℕ) → AsRouting limit over l rooms room
  -- "in arrival order"
  pub in_order : (limit : ℕ) (l lookups : List ℕ) (pairs : ℕ) → lookup_answer limit l (length lookups) ≡ Ok pairs
      → take (PAIR_WIDTH * pairs) (lookups_after l (Ok pairs) lookups) ≡ flat_map pair_of (records_to Register l)
  -- beside what routing writes, into any lists and within any limit
  pub beside : (limit : ℕ) (l lookups : List ℕ) (pairs : ℕ) → lookup_answer limit l (length lookups) ≡ Ok pairs
      → (most : ℕ) (before : Lists) (c : Counts) → route_answer most l (rooms_of before) ≡ routed c
      → PairsBeside (lookups_after l (Ok pairs) lookups) pairs (lists_after l (routed c) before) c.register

-- The laws of the lookups, as specs/LookupLaws states them. Routing and the lookups pick their records by the same test, so that pair j and
-- record j of the register list are made of the same access, whose stamps are in range. Assumes nothing.
use mathlib.Core.Path.{◌≡◌, refl, sym, ap, subst, ◌∙◌}
use mathlib.Core.Bool.{Bool, true, false, cond}
use mathlib.Core.List.{List, [], flat_map}
use Prim.Native.Nat.{ℕ, ◌+◌, ◌-◌, ◌*◌, ◌≤◌, ◌<◌}
use Rattle.std.specs.Prelude.{Ok, Err}
use native.Mathlib.Omega.{arith}
use borrow.Author.Tests.{le-ltb, le-leb, lt-leb}
use lib.Dec.{ltb, leb}
use lib.ListN.{length, take, get_or}
use Rattle.lists.specs.Lists.{at}
use Rattle.lists.proofs.All.{all_of, all_at}
use Rattle.lists.proofs.Flat.{picked_length}
use Rattle.lists.proofs.Listed.{picked_kept, kept_count, all_kept}
use Rattle.lists.proofs.Store.{store_front}
use Rattle.words.specs.Words.{low_word, digits}
use Rattle.records.specs.Records.{record_count, record_at, records_in}
use Rattle.records.proofs.RecordList.{front_at}
use Rattle.access.specs.Access.{TIMESTAMP, OLD_TIMESTAMP, ACCESS_WIDTH}
use Rattle.access.specs.Tables.{REGISTER_WIDTH, same_table}
use Rattle.access.specs.declared.AccessTable.TheVariants.{Register}
use Rattle.classify.specs.Classify.{table_for}
use Rattle.classify.specs.TableRecord.{register_record}
use Rattle.classify.proofs.RouteLaws.{register_by}
use Rattle.classify.proofs.Stamps.{delta_bounds, register_delta}
use Rattle.routing.specs.Routing.{goes_to, counts_of, count_of, Lists, rooms_of, RouteAnswer, record_refusal, first_refused, all_fit, routed, route_answer, lists_after, route_numbers}
use Rattle.routing.specs.InOrder.{records_to, InOrder}
use Rattle.routing.specs.declared.RouteRefusal.{RouteRefusal}
use Rattle.routing.specs.declared.RouteRefusal.TheVariants.{TooManyRecords, BufferShort}
use Rattle.routing.specs.declared.split.Counts.{Counts}
use Rattle.routing.proofs.Judging.{RoutedFacts, routed_facts}
use Rattle.routing.proofs.Arrival.{routed_in_order}
use Rattle.lookups.specs.Lookups.{PAIR_WIDTH, pair_of, pair_count, lookups_of, LookupAnswer, lookup_answer, lookups_after, lookup_numbers}
use Rattle.lookups.specs.LookupLaws.{RefusesList, AsRouting, Rebuilds, register_at, REGISTER_TIMESTAMP, REGISTER_OLD_LO, PairsBeside, LookupLaws}
use Rattle.lookups.proofs.Answered.{wanted_register}
use Rattle.lookups.proofs.Answers.{WrittenFacts, written_facts}

-- Refusals

module _ (limit over : ℕ) (l : List ℕ) (rooms : Counts) (room : ℕ) where
  -- the refusal of the lowest record that is refused
  abbrev refusal : RouteRefusal
  refusal = record_refusal (record_at ACCESS_WIDTH l (first_refused l)) (first_refused l)

  -- both answers by their tests: too many records, one that is refused, and the room
  abbrev routing_by : Bool → Bool → Bool → RouteAnswer
  routing_by x y z = cond x (Err TooManyRecords) (cond y (Err refusal) (cond z (routed (counts_of l)) (Err BufferShort)))

  abbrev lookups_by : Bool → Bool → Bool → LookupAnswer
  lookups_by x y z = cond x (Err TooManyRecords) (cond y (Err refusal) (cond z (Ok (pair_count l)) (Err BufferShort)))

  as_routing_by : (x y z w : Bool) → let n = route_numbers over (routing_by x y z) in let m = lookup_numbers over (lookups_by x y w) in
      RefusesList n.number → (m.number ≡ n.number) × (m.place ≡ n.place)
  as_routing_by true y z w h = (refl, refl)
  as_routing_by false true z w h = (refl, refl)
  as_routing_by false false true w h = absurd (h.0 refl)
  as_routing_by false false false w h = absurd (h.1 refl)

  routing_as_by : (x y z w : Bool) → let n = route_numbers over (routing_by x y z) in let m = lookup_numbers over (lookups_by x y w) in
      RefusesList m.number → (n.number ≡ m.number) × (n.place ≡ m.place)
  routing_as_by true y z w h = (refl, refl)
  routing_as_by false true z w h = (refl, refl)
  routing_as_by false false z true h = absurd (h.0 refl)
  routing_as_by false false z false h = absurd (h.1 refl)

  -- past 8, 10 and 11 the room decides
  by_room : record_count ACCESS_WIDTH l ≤ limit → record_count ACCESS_WIDTH l ≤ first_refused l
      → lookup_answer limit l room ≡ cond (leb (PAIR_WIDTH * pair_count l) room) (Ok (pair_count l)) (Err BufferShort)
  unfolding lookup_answer
  by_room h f = rw (le-ltb limit (record_count ACCESS_WIDTH l) h, le-ltb (first_refused l) (record_count ACCESS_WIDTH l) f)

  module _ (c : Counts) (e : route_answer limit l rooms ≡ routed c) where
    abbrev facts : RoutedFacts limit l rooms c
    facts = routed_facts limit l rooms c e

    served_by : PAIR_WIDTH * c.register ≤ room → lookup_answer limit l room ≡ Ok c.register
    served_by h =
        by_room facts.allowed facts.fine
        ∙ rw (le-leb (PAIR_WIDTH * pair_count l) room (omega (arith, facts.counts Register))) (ap Ok (sym (facts.counts Register)))

    short_by : room < PAIR_WIDTH * c.register → lookup_answer limit l room ≡ Err BufferShort
    short_by h = by_room facts.allowed facts.fine ∙ rw (lt-leb (PAIR_WIDTH * pair_count l) room (omega (arith, facts.counts Register)))

  back_by : (pairs : ℕ) → lookup_answer limit l room ≡ Ok pairs → all_fit (counts_of l) rooms ≡ true
      → (route_answer limit l rooms ≡ routed (counts_of l)) × ((counts_of l).register ≡ pairs)
  unfolding route_answer
  back_by pairs e fit =
      let f = written_facts limit l room pairs e in
      (rw (le-ltb limit (record_count ACCESS_WIDTH l) f.allowed, le-ltb (first_refused l) (record_count ACCESS_WIDTH l) f.fine, fit), sym f.counted)

  refuses_alike : AsRouting limit over l rooms room
  unfolding route_answer lookup_answer
  refuses_alike =
      let n = record_count ACCESS_WIDTH l in
      let fit = all_fit (counts_of l) rooms in
      let long = leb (PAIR_WIDTH * pair_count l) room in
      record {
        as_routing = as_routing_by (ltb limit n) (ltb (first_refused l) n) fit long;
        routing_as = routing_as_by (ltb limit n) (ltb (first_refused l) n) fit long;
        served = served_by;
        nine = short_by;
        back = back_by;
      }

-- Pairs

pub pair_wide : (r : List ℕ) → length (pair_of r) ≡ PAIR_WIDTH
pair_wide r = refl

pub register_wide : (r : List ℕ) → length (register_record r) ≡ REGISTER_WIDTH
register_wide r = refl

-- two bytes of a difference that is in range
bytes_rebuild : (low old : ℕ) → old < low → low ≤ old + 65536 → Rebuilds (digits 8 2 (low - old - 1)) low old
bytes_rebuild low old above near =
    record {
      low_byte = omega arith;
      high_byte = omega arith;
      rebuilt = omega arith;
      only = λ a b p q e. (omega arith, omega arith);
    }

pub pair_rebuilds : (r : List ℕ) → same_table Register (table_for r) ≡ true → Rebuilds (pair_of r) (low_word (at r TIMESTAMP)) (low_word (at r OLD_TIMESTAMP))
pair_rebuilds r e =
    let range = delta_bounds (at r TIMESTAMP) (at r OLD_TIMESTAMP) (register_delta r (register_by r (wanted_register r e))) in
    bytes_rebuild (low_word (at r TIMESTAMP)) (low_word (at r OLD_TIMESTAMP)) range.0 range.1

module _ (limit : ℕ) (l lookups : List ℕ) (pairs : ℕ) (e : lookup_answer limit l (length lookups) ≡ Ok pairs) where
  abbrev told : WrittenFacts limit l (length lookups) pairs
  told = written_facts limit l (length lookups) pairs e

  abbrev after : List ℕ
  after = lookups_after l (Ok pairs) lookups

  pub arrival : take (PAIR_WIDTH * pairs) after ≡ flat_map pair_of (records_to Register l)
  unfolding lookups_after lookups_of records_in count_of
  arrival =
      let n = record_count ACCESS_WIDTH l in
      let long : length (lookups_of l n) ≡ PAIR_WIDTH * pair_count l =
      picked_length PAIR_WIDTH (goes_to Register l) (λ k. pair_of (record_at ACCESS_WIDTH l k)) n (λ k h. refl) in
      let front : PAIR_WIDTH * pairs ≡ 0 + length (lookups_of l n) = omega (arith, told.counted) in
      ap (λ m. take m after) front
      ∙ store_front lookups 0 (lookups_of l n) (omega (arith, told.fits))
      ∙ picked_kept (λ r. same_table Register (table_for r)) pair_of (record_at ACCESS_WIDTH l) n

  pub pairs_count : length (records_to Register l) ≡ pairs
  unfolding records_in count_of
  pairs_count =
      kept_count (λ r. same_table Register (table_for r)) (record_at ACCESS_WIDTH l) (record_count ACCESS_WIDTH l) ∙ sym told.counted

  module _ (most : ℕ) (before : Lists) (c : Counts) (q : route_answer most l (rooms_of before) ≡ routed c) where
    abbrev order : InOrder l (lists_after l (routed c) before) c
    order = routed_in_order most l before c q

    -- pair j, and record j of the register list, are of the same access
    module _ (j : ℕ) (h : j < pairs) where
      abbrev here : j < length (records_to Register l)
      here = omega (arith, pairs_count)

      abbrev source : List ℕ
      source = get_or (records_to Register l) j []

      pub pair_of_lem : record_at PAIR_WIDTH after j ≡ pair_of source
      pair_of_lem =
          front_at PAIR_WIDTH (omega arith) pair_of [] (records_to Register l) after (PAIR_WIDTH * pairs) (all_of pair_wide (records_to Register l))
          arrival j here

      pub record_of : record_at REGISTER_WIDTH (lists_after l (routed c) before).register j ≡ register_record source
      record_of =
          front_at REGISTER_WIDTH (omega arith) register_record [] (records_to Register l) _ (REGISTER_WIDTH * c.register)
          (all_of register_wide (records_to Register l)) (order.in_list Register) j here

      pub source_wanted : same_table Register (table_for source) ≡ true
      source_wanted = all_at (λ r. same_table Register (table_for r) ≡ true) [] (records_to Register l) (all_kept _ (records_in ACCESS_WIDTH l)) j here

    beside_routing : PairsBeside after pairs (lists_after l (routed c) before) c.register
    beside_routing =
        record {
          counted = sym pairs_count ∙ order.in_count Register;
          each = λ j h.
              let g = register_at (lists_after l (routed c) before) j in
              subst (λ (p : List ℕ). Rebuilds p (low_word (at g REGISTER_TIMESTAMP)) (at g REGISTER_OLD_LO)) (sym (pair_of_lem j h))
              (subst (λ (r : List ℕ). Rebuilds (pair_of (source j h)) (low_word (at r REGISTER_TIMESTAMP)) (at r REGISTER_OLD_LO)) (sym (record_of j h))
              (pair_rebuilds (source j h) (source_wanted j h)));
        }

pub lookup_laws : LookupLaws
lookup_laws = record { refusals = refuses_alike; in_order = arrival; beside = beside_routing }

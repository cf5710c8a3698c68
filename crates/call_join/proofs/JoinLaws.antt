-- The join in document 02's words: proved from the two ways of the definition, the search for a call out of order, and the cases of the
-- answer. Assumes nothing.
use mathlib.Core.Path.{◌≡◌, refl, sym, ap, ap₂, subst, ◌∙◌}
use mathlib.Core.Bool.{Bool, true, false, not}
use mathlib.Core.List.{List, [], ◌∷◌, map}
use Prim.Native.Nat.{ℕ, ◌+◌, ◌*◌, ◌≤◌}
use Rattle.std.specs.Prelude.{Ok, Err}
use native.Mathlib.Omega.{arith}
use lib.ListN.{length, take}
use Rattle.lists.specs.Lists.{All}
use Rattle.lists.proofs.Joined.{flat_map_length}
use Rattle.lists.proofs.Listed.{all_listed}
use Rattle.lists.proofs.Store.{store_front}
use Rattle.records.specs.Records.{record_at, records_in}
use Rattle.records.proofs.Records.{all_good, none_bad}
use Rattle.records.proofs.RecordList.{records_joined, records_count_lem, each_record}
use Rattle.call.specs.Flat.{HANDED_WIDTH, good_call}
use Rattle.call.proofs.GoodCalls.{good_whole}
use Rattle.call_join.specs.Join.{joined_calls, call_records, call_count, in_numbers, first_bad_call, JoinAnswer, join_answer, filled_joined, joined_after, join_numbers}
use Rattle.call_join.specs.JoinLaws.{marked, IsJoined, Admitted, OrderJudged, JoinWritten, JoinLaws}
use Rattle.call_join.specs.declared.JoinRefusal.TheVariants.{TooManyRecords, BadRecord, OutOfOrder, BufferShort}
use Rattle.call_join.proofs.Joining.{all_map, marked_both, joined_is, joined_only}
use Rattle.call_join.proofs.Order.{in_order_of, none_below, below_at}
use Rattle.call_join.proofs.Answers.{below_first, below_second, joined_fits, joined_short, JoinedFacts, joined_facts}

-- Admitted lists

good_calls : (l : List ℕ) → call_count l ≤ first_bad_call l → All (λ r. good_call r ≡ true) (call_records l)
unfolding records_in
good_calls l h =
    all_listed (λ r. good_call r ≡ true) (record_at HANDED_WIDTH l) 0 (call_count l)
    (λ k a b. all_good HANDED_WIDTH good_call l h k (omega arith))

calls_good : (l : List ℕ) → All (λ r. good_call r ≡ true) (call_records l) → call_count l ≤ first_bad_call l
calls_good l h = omega (arith, none_bad HANDED_WIDTH good_call l (each_record HANDED_WIDTH (λ r. good_call r ≡ true) l h))

order_judged : (limit : ℕ) (first second : List ℕ) (room : ℕ) → Admitted limit first → Admitted limit second → OrderJudged limit first second room
order_judged limit first second room a b =
    let c = calls_good first a.good in
    let d = calls_good second b.good in
    record {
      of_first_lem = λ place f.
          let e = below_at first place f in
          sym (below_first limit first second room a.few b.few c d (omega (arith, e, f.inside, records_count_lem HANDED_WIDTH first))) ∙ ap (λ k. Err (OutOfOrder k)) e;
      of_second = λ place o f.
          let e = below_at second place f in
          sym (below_second limit first second room a.few b.few c d (none_below first o)
          (omega (arith, e, f.inside, records_count_lem HANDED_WIDTH second)))
          ∙ ap (λ k. Err (OutOfOrder k)) e;
      served = λ o p h. sym (joined_fits limit first second room a.few b.few c d (none_below first o) (none_below second p) h);
      short = λ o p h. sym (joined_short limit first second room a.few b.few c d (none_below first o) (none_below second p) h);
    }

-- What is written

map_self : (zs : List (List ℕ)) → map (λ z. z) zs ≡ zs
map_self [] = refl
map_self (z ∷ zs) = ap (λ l. z ∷ l) (map_self zs)

-- the marked calls and the others are as many as all
marked_count : (ms : List Bool) (zs : List (List ℕ)) → length ms ≡ length zs → length (marked ms zs) + length (marked (map not ms) zs) ≡ length zs
marked_count [] [] e = refl
marked_count [] (z ∷ zs) e = absurd (omega arith)
marked_count (m ∷ ms) [] e = absurd (omega arith)
marked_count (true ∷ ms) (z ∷ zs) e = omega (arith, marked_count ms zs (omega arith))
marked_count (false ∷ ms) (z ∷ zs) e = omega (arith, marked_count ms zs (omega arith))

module _ (xs ys zs : List (List ℕ)) (j : IsJoined xs ys zs) where
  joined_count : length zs ≡ length xs + length ys
  joined_count =
      sym (marked_count j.of_first zs j.each) ∙ ap₂ (λ (a b : ℕ). a + b) (ap length j.all_first) (ap length j.all_second)

  -- of whole calls
  joined_whole : All (λ z. length z ≡ HANDED_WIDTH) xs → All (λ z. length z ≡ HANDED_WIDTH) ys → All (λ z. length z ≡ HANDED_WIDTH) zs
  joined_whole h g =
      marked_both (λ z. length z ≡ HANDED_WIDTH) j.of_first zs j.each
      (subst (All (λ z. length z ≡ HANDED_WIDTH)) (sym j.all_first) h) (subst (All (λ z. length z ≡ HANDED_WIDTH)) (sym j.all_second) g)

join_written : (limit : ℕ) (first second joined : List ℕ) (calls : ℕ) → join_answer limit first second (length joined) ≡ Ok calls
    → JoinWritten limit first second (take (HANDED_WIDTH * calls) (joined_after first second (Ok calls) joined)) calls
unfolding joined_after filled_joined
join_written limit first second joined calls e =
    record {
      counted = f.counted;
      admitted = (record { few = f.few_first; good = good_first }, record { few = f.few_second; good = good_second });
      is = subst (IsJoined (call_records first) (call_records second)) (sym are) is;
      only = λ ws j. joined_only (call_records first) (call_records second) ws j ∙ sym are;
    }
  where
    f : JoinedFacts limit first second (length joined) calls
    f = joined_facts limit first second (length joined) calls e

    zs : List (List ℕ)
    zs = joined_calls (call_records first) (call_records second)

    good_first : All (λ r. good_call r ≡ true) (call_records first)
    good_first = good_calls first f.good_first

    good_second : All (λ r. good_call r ≡ true) (call_records second)
    good_second = good_calls second f.good_second

    is : IsJoined (call_records first) (call_records second) zs
    is = joined_is (call_records first) (call_records second) (in_order_of first f.order_first) (in_order_of second f.order_second)

    whole : All (λ z. length z ≡ HANDED_WIDTH) zs
    whole =
        joined_whole (call_records first) (call_records second) zs is (all_map good_whole (call_records first) good_first)
        (all_map good_whole (call_records second) good_second)

    long : length (in_numbers zs) ≡ HANDED_WIDTH * calls
    long =
        flat_map_length HANDED_WIDTH (λ z. z) zs whole
        ∙ omega (
          arith,
          f.counted,
          joined_count (call_records first) (call_records second) zs is,
          records_count_lem HANDED_WIDTH first,
          records_count_lem HANDED_WIDTH second,
        )

    front : take (HANDED_WIDTH * calls) (joined_after first second (Ok calls) joined) ≡ in_numbers zs
    front =
        let n : HANDED_WIDTH * calls ≡ 0 + length (in_numbers zs) = omega (arith, long) in
        ap (λ (m : ℕ). take m (joined_after first second (Ok calls) joined)) n
        ∙ store_front joined 0 (in_numbers zs) (omega (arith, long, f.fits, f.counted))

    are : call_records (take (HANDED_WIDTH * calls) (joined_after first second (Ok calls) joined)) ≡ zs
    are = ap call_records front ∙ records_joined HANDED_WIDTH (omega arith) (λ z. z) zs whole ∙ map_self zs

-- Numbers that it never answers

never_answered : (a : JoinAnswer) → 1 ≤ (join_numbers 8 a).number → (join_numbers 8 a).number ≤ 7 → ⊥
never_answered (Ok calls) h g = omega arith
never_answered (Err TooManyRecords) h g = omega arith
never_answered (Err (BadRecord place)) h g = omega arith
never_answered (Err (OutOfOrder place)) h g = omega arith
never_answered (Err BufferShort) h g = omega arith

pub join_laws : JoinLaws
join_laws =
    record {
      is = joined_is;
      only = joined_only;
      order = order_judged;
      written = join_written;
      never = λ limit first second room. never_answered (join_answer limit first second room);
    }

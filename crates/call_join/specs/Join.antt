-- Two lists of calls made into one. Document 02: "A cutting room joins a day shift's calls and an evening shift's. Both lists are in order
-- of stamp, equal stamps allowed. The joined list is in order, has each call of both once and no other, keeps each list's own order and puts
-- the first list's call ahead at equal stamps." The limit on the calls of a list is a parameter (65,536 for callers), and so is the number
-- of its refusal. Assumes nothing.
use Rattle.std.specs.Prelude.{◌≡◌, Bool, cond, ℕ, ◌+◌, ◌-◌, ◌*◌, ltb, leb, length, Result, Ok, Err}
use mathlib.Core.List.{List, [], ◌∷◌, flat_map}
use Rattle.answer.specs.Numbers.{accepted, refused}
use Rattle.answer.specs.declared.Answer.{Answer}
use Rattle.lists.specs.Lists.{store, first as lowest}
use Rattle.records.specs.Records.{record_count, record_at, records_in, first_bad}
use Rattle.call.specs.Flat.{HANDED_WIDTH, call_from, good_call}
use Rattle.call_join.specs.declared.JoinRefusal.{JoinRefusal}
use Rattle.call_join.specs.declared.JoinRefusal.TheVariants.{TooManyRecords, BadRecord, OutOfOrder, BufferShort}

-- The joined list

-- the stamp of a call as it is handed in
abbrev pub stamp_of : List ℕ → ℕ
stamp_of r = (call_from r).stamp

-- the joined list of calls ys and those that begin with x; `rest` joins what follows x to what is left of ys
unfoldable pub joined_with : List ℕ → (List (List ℕ) → List (List ℕ)) → List (List ℕ) → List (List ℕ)
joined_with x rest [] = x ∷ rest []
joined_with x rest (y ∷ ys) = cond (leb (stamp_of x) (stamp_of y)) (x ∷ rest (y ∷ ys)) (y ∷ joined_with x rest ys)

-- the lower stamp goes ahead, at equal stamps the first list's call
unfoldable pub joined_calls : List (List ℕ) → List (List ℕ) → List (List ℕ)
joined_calls [] ys = ys
joined_calls (x ∷ xs) ys = joined_with x (joined_calls xs) ys

-- the calls of a flat list, and how many there are, a cut last one counted
abbrev pub call_records : List ℕ → List (List ℕ)
call_records l = records_in HANDED_WIDTH l

abbrev pub call_count : List ℕ → ℕ
call_count l = record_count HANDED_WIDTH l

-- calls one behind the other, as a flat list
abbrev pub in_numbers : List (List ℕ) → List ℕ
in_numbers zs = flat_map (λ z. z) zs

-- The answer: how many calls are written, or a refusal

abbrev pub JoinAnswer : Type 0
JoinAnswer = Result ℕ JoinRefusal

-- the lowest call that is cut or has a field outside its values, or the count
abbrev pub first_bad_call : List ℕ → ℕ
first_bad_call l = first_bad HANDED_WIDTH good_call l

-- whether call k is "stamped below the one before it"
abbrev pub stamp_at : List ℕ → ℕ → ℕ
stamp_at l k = stamp_of (record_at HANDED_WIDTH l k)

abbrev pub is_below : List ℕ → ℕ → Bool
is_below l k = ltb (stamp_at l k) (stamp_at l (k - 1))

-- the lowest such, from call 1 on; not below the count where there is none
unfoldable pub first_below : List ℕ → ℕ
first_below l = lowest (is_below l) 1 (call_count l - 1)

-- what `join_calls` answers, for a lent buffer of so many numbers. "20, a list out of order, place the first call stamped below the one
-- before it; tested after 10 and before 9. Each of 8, 10 and 20 judges the first list before the second, its place counted in that list."
unfoldable pub join_answer : ℕ → List ℕ → List ℕ → ℕ → JoinAnswer
join_answer limit first second room =
    cond (ltb limit (call_count first)) (Err TooManyRecords)
    (cond (ltb limit (call_count second)) (Err TooManyRecords)
    (cond (ltb (first_bad_call first) (call_count first)) (Err (BadRecord (first_bad_call first)))
    (cond (ltb (first_bad_call second) (call_count second)) (Err (BadRecord (first_bad_call second)))
    (cond (ltb (first_below first) (call_count first)) (Err (OutOfOrder (first_below first)))
    (cond (ltb (first_below second) (call_count second)) (Err (OutOfOrder (first_below second)))
    (cond (leb (HANDED_WIDTH * (call_count first + call_count second)) room) (Ok (call_count first + call_count second)) (Err BufferShort)))))))

-- the lent buffer with the joined list in it
unfoldable pub filled_joined : List ℕ → List ℕ → List ℕ → List ℕ
filled_joined first second joined = store joined 0 (in_numbers (joined_calls (call_records first) (call_records second)))

-- the lent buffer afterwards: a refusal writes nothing, and numbers past the result keep their values
unfoldable pub joined_after : List ℕ → List ℕ → JoinAnswer → List ℕ → List ℕ
joined_after first second (Ok calls) joined = filled_joined first second joined
joined_after first second (Err why) joined = joined

-- the number, place and value of each case; `over` is the number of the refusal of too many calls, 8 for the limit 65,536
abbrev pub join_numbers : ℕ → JoinAnswer → Answer
join_numbers over (Ok calls) = accepted calls
join_numbers over (Err TooManyRecords) = refused over 0
join_numbers over (Err (BadRecord place)) = refused 10 place
join_numbers over (Err (OutOfOrder place)) = refused 20 place
join_numbers over (Err BufferShort) = refused 9 0

-- what a function that joins has to show: the numbers that it answers, and the lent buffer when it is done
pub record JoinDone (limit over : ℕ) (first second joined : List ℕ) (numbers : Answer) (after : List ℕ) : Type 0 where
  pub answer : numbers ≡ join_numbers over (join_answer limit first second (length joined))
  pub written : after ≡ joined_after first second (join_answer limit first second (length joined)) joined

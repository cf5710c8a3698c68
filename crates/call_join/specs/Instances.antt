-- Small lists of calls and what joining them answers and writes, computed over the definitions. `join_laws_hold` in theorems carries them.
-- Assumes nothing.
use Rattle.std.specs.Prelude.{◌≡◌, List, [], ◌∷◌, ◌++◌, map, ℕ, ◌-◌, ◌^◌, replicate, Ok, Err}
use Rattle.answer.specs.Numbers.{accepted, refused}
use Rattle.answer.specs.declared.Answer.{Answer}
use Rattle.call.specs.Flat.{handed_numbers, call_from}
use Rattle.registers.specs.Step.{new_state, wrote}
use Rattle.registers.specs.declared.RegisterState.{RegisterState}
use Rattle.call_join.specs.Join.{call_records, join_answer, joined_after, join_numbers}
use Rattle.call_join.specs.JoinLaws.{StampsInOrder, FirstBelow, Admitted}
use Rattle.call_join.specs.Steps.{steps_in_turn}
use Rattle.call_join.specs.declared.JoinRefusal.TheVariants.{TooManyRecords, BadRecord, OutOfOrder, BufferShort}

-- Calls

-- a call of a kind at a stamp with this dst, as it is handed in
abbrev pub handed_call : (kind stamp dst : ℕ) → List ℕ
handed_call kind stamp dst = handed_numbers (record { kind = kind; stamp = stamp; src = 0; dst = dst; count = 1 })

-- Copies whose dst tells them apart: at 4, 8 and 8, and at 4, 8 and 12
abbrev pub day : List ℕ
day = handed_call 0 4 1 ++ (handed_call 0 8 2 ++ handed_call 0 8 3)

abbrev pub evening : List ℕ
evening = handed_call 0 4 4 ++ (handed_call 0 8 5 ++ handed_call 0 12 6)

-- stamps that fall at call 1, and at call 2
abbrev pub falls : List ℕ
falls = handed_call 0 8 1 ++ handed_call 0 7 2

abbrev pub falls_late : List ℕ
falls_late = handed_call 0 8 1 ++ (handed_call 0 8 2 ++ handed_call 0 7 3)

-- no kind has the number 3
abbrev pub no_call : List ℕ
no_call = handed_call 3 0 1

-- six calls and two numbers past them, of 9
abbrev pub joined_six : List ℕ
joined_six = joined_after day evening (join_answer 3 day evening 32) (replicate 32 9)

-- Writes

-- x10 holds 1, the output's number, and the commit index is 0
abbrev pub ready : RegisterState
ready = wrote 10 1 1 (new_state 0 0)

abbrev pub write_at : ℕ → ℕ → List ℕ
write_at stamp index = handed_call 2 stamp index

-- what the register step answers for the calls of a list, one after the other
abbrev pub steps : List ℕ → List Answer
steps l = steps_in_turn ready (map call_from (call_records l))

-- and for the calls of two lists of one call each, joined
abbrev pub steps_joined : List ℕ → List ℕ → List Answer
steps_joined first second = steps (joined_after first second (join_answer 1 first second 10) (replicate 10 9))

pub record Instances : Type 0 where
  -- the first list's calls ahead at the stamps 4 and 8; the numbers past the calls stay
  pub six : joined_six
      ≡ (handed_call 0 4 1 ++ (handed_call 0 4 4 ++ (handed_call 0 8 2 ++ (handed_call 0 8 3 ++ (handed_call 0 8 5 ++ (handed_call 0 12 6 ++ (9 ∷ 9 ∷ [])))))))
  pub served : join_answer 3 day evening 32 ≡ Ok 6
  -- and the other way round
  pub turned : joined_after evening day (join_answer 3 evening day 30) (replicate 30 9)
      ≡ (handed_call 0 4 4 ++ (handed_call 0 4 1 ++ (handed_call 0 8 5 ++ (handed_call 0 8 2 ++ (handed_call 0 8 3 ++ handed_call 0 12 6)))))
  -- thirty numbers are room enough, twenty-nine are not, and a refusal writes nothing
  pub just_enough : join_answer 3 day evening 30 ≡ Ok 6
  pub short : join_answer 3 day evening 29 ≡ Err BufferShort
  pub kept : joined_after day evening (join_answer 3 day evening 29) (replicate 29 9) ≡ replicate 29 9
  -- an empty list joined gives the other, and two empty ones no call, in no room
  pub no_first : joined_after [] day (join_answer 3 [] day 15) (replicate 15 9) ≡ day
  pub no_second : joined_after day [] (join_answer 3 day [] 15) (replicate 15 9) ≡ day
  pub none : join_answer 0 [] [] 0 ≡ Ok 0
  -- 8: a list above the limit, be it the first or the second, a cut call counted; the limit is each list's own, not that of both
  pub over_first : join_answer 2 day [] 99 ≡ Err TooManyRecords
  pub over_second : join_answer 2 [] day 99 ≡ Err TooManyRecords
  pub cut_over : join_answer 3 [] (day ++ (0 ∷ [])) 99 ≡ Err TooManyRecords
  -- 10: a kind above 2, or a cut call, which is the last
  pub kind_three : join_answer 4 [] (day ++ no_call) 99 ≡ Err (BadRecord 3)
  pub cut : join_answer 4 (day ++ (0 ∷ [])) [] 99 ≡ Err (BadRecord 3)
  -- 20: the later of the two calls; stamps are plain numbers
  pub falls_first : join_answer 3 falls day 99 ≡ Err (OutOfOrder 1)
  pub falls_second : join_answer 3 day falls_late 99 ≡ Err (OutOfOrder 2)
  pub no_wrap_lem : join_answer 3 (handed_call 0 (2 ^ 64 - 1) 1 ++ handed_call 0 0 2) [] 99 ≡ Err (OutOfOrder 1)
  -- the number decides before the list: 8 of the second before 10 and 20 of the first, and 10 of the second before 20 of the first
  pub eight_before_ten : join_answer 2 no_call day 0 ≡ Err TooManyRecords
  pub eight_before_twenty : join_answer 3 falls (day ++ no_call) 0 ≡ Err TooManyRecords
  pub ten_before_twenty : join_answer 4 falls (day ++ no_call) 0 ≡ Err (BadRecord 3)
  -- and for one number, the list: the first one's place
  pub two_bad : join_answer 4 no_call (day ++ no_call) 0 ≡ Err (BadRecord 0)
  pub two_fall : join_answer 4 falls falls_late 0 ≡ Err (OutOfOrder 1)
  -- 20 before 9
  pub twenty_before_nine : join_answer 4 day falls_late 0 ≡ Err (OutOfOrder 2)
  -- the numbers of the refusals, that of 8 as it is given
  pub eight : join_numbers 8 (Err TooManyRecords) ≡ refused 8 0
  pub ten : join_numbers 8 (Err (BadRecord 3)) ≡ refused 10 3
  pub twenty : join_numbers 8 (Err (OutOfOrder 2)) ≡ refused 20 2
  pub nine : join_numbers 8 (Err BufferShort) ≡ refused 9 0
  pub six_calls : join_numbers 8 (Ok 6) ≡ accepted 6
  -- what the laws suppose of a list: that 8 and 10 let it pass, and that it is in order, or that it is not and where
  pub admitted : Admitted 3 day
  pub in_order : StampsInOrder (call_records day)
  pub out_of_order : FirstBelow (call_records falls_late) 2
  -- "a joined list may meet 4 although neither did": each Write alone begins at index 0, and the later one finds index 1
  pub day_step : steps (write_at 4 0) ≡ accepted 4 ∷ []
  pub evening_step : steps (write_at 8 0) ≡ accepted 4 ∷ []
  pub meets_4 : steps_joined (write_at 4 0) (write_at 8 0) ≡ accepted 4 ∷ refused 4 0 ∷ []
  -- and one that met 4 alone may not meet it behind the other: it is the joined order that counts
  pub met_alone : steps (write_at 8 1) ≡ refused 4 0 ∷ []
  pub behind : steps_joined (write_at 8 1) (write_at 4 0) ≡ accepted 4 ∷ accepted 4 ∷ []

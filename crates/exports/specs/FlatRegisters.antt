-- A register state as 68 numbers, and the register step on it, as callers on the other side of the C boundary have them. What a number
-- can be and a kind or a commit index cannot is refused with 10, place 0, before anything else. Assumes nothing.
use Rattle.std.specs.Prelude.{◌≡◌, ℕ, ◌-◌, ◌^◌, cond, ◌||◌, List, [], ◌∷◌, ◌++◌, eqb, ltb, take, drop}
use Rattle.answer.specs.Numbers.{refused}
use Rattle.answer.specs.declared.Answer.{Answer}
use Rattle.lists.specs.Lists.{at}
use Rattle.call.specs.Calls.{Call, no_kind, kind_of}
use Rattle.registers.specs.Step.{register_step, step_numbers}
use Rattle.registers.specs.declared.RegisterState.{RegisterState}
use Rattle.registers.specs.declared.RegisterStep.{RegisterStep}

-- where the commit index stands among the 68 numbers
abbrev pub STATE_INDEX : ℕ
STATE_INDEX = 64

-- 68 numbers as a state: 32 values, 32 stamps, then index, index stamp, program counter and its stamp
abbrev pub state_of : List ℕ → RegisterState
state_of l =
    record {
      values = take 32 (drop 0 l);
      stamps = take 32 (drop 32 l);
      index = at l STATE_INDEX;
      index_stamp = at l 65;
      pc = at l 66;
      pc_stamp = at l 67;
    }

-- and back
abbrev pub state_numbers : RegisterState → List ℕ
state_numbers s = s.values ++ (s.stamps ++ (s.index ∷ s.index_stamp ∷ s.pc ∷ s.pc_stamp ∷ []))

-- the step of a call whose kind is a number
unfoldable pub flat_step : Call → List ℕ → RegisterStep
flat_step c l = register_step (kind_of c.kind) c.stamp c.src c.dst c.count (state_of l)

-- its answer, behind 10 for a kind above 2 or an index of 2^32 or more
unfoldable pub flat_answer : Call → List ℕ → Answer
flat_answer c l = cond (no_kind c.kind || ltb (2 ^ 32 - 1) (at l STATE_INDEX)) (refused 10 0) (step_numbers (flat_step c l).answer)

-- what the function has to show: its answer, and the state's numbers and the four records when it is done; a refusal writes nothing
pub record FlatStepped (c : Call) (state records : List ℕ) (r : Answer) (state_later records_later : List ℕ) : Type 0 where
  pub answer : r ≡ flat_answer c state
  pub stepped : state_later ≡ cond (eqb (flat_answer c state).number 0) (state_numbers (flat_step c state).state) state
  pub written : records_later ≡ cond (eqb (flat_answer c state).number 0) (flat_step c state).records records

-- The register step afterwards. Document 02: "Write calls are still judged by the register step afterwards, in the joined order, so a joined
-- list may meet 4 although neither did." Assumes nothing.
use Rattle.std.specs.Prelude.{List, [], ◌∷◌}
use Rattle.answer.specs.declared.Answer.{Answer}
use Rattle.call.specs.Calls.{Call, kind_of}
use Rattle.registers.specs.Step.{step_numbers, register_step}
use Rattle.registers.specs.declared.RegisterState.{RegisterState}
use Rattle.registers.specs.declared.RegisterStep.{RegisterStep}

-- the register step of a call
abbrev pub step_of : Call → RegisterState → RegisterStep
step_of c s = register_step (kind_of c.kind) c.stamp c.src c.dst c.count s

-- what the steps of calls answer, one after the other; each finds the state that the one before left
abbrev pub steps_in_turn : RegisterState → List Call → List Answer
steps_in_turn s [] = []
steps_in_turn s (c ∷ cs) = step_numbers (step_of c s).answer ∷ steps_in_turn (step_of c s).state cs

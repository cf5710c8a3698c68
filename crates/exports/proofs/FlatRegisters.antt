-- The ways out of the flat register step, by what the code has tested. Assumes nothing.
use mathlib.Core.Path.{◌≡◌, refl, sym, ◌∙◌}
use mathlib.Core.Bool.{true, false}
use mathlib.Core.List.{List}
use Prim.Native.Nat.{ℕ, ◌-◌, ◌^◌, ◌≤◌, ◌<◌}
use native.Mathlib.Omega.{arith}
use borrow.Author.Tests.{eq-eqb, ne_eqb, lt-ltb, le-ltb}
use Rattle.std.specs.Prelude.{Result, Ok, Err}
use Rattle.answer.specs.Numbers.{accepted, refused}
use Rattle.answer.specs.declared.Answer.{Answer}
use Rattle.answer.proofs.Parts.{number_same}
use Rattle.lists.specs.Lists.{at}
use Rattle.call.specs.Calls.{Call, no_kind, kind_of}
use Rattle.call.specs.declared.Functionality.{Functionality}
use Rattle.registers.specs.Step.{register_step, step_refusal_numbers, step_numbers}
use Rattle.registers.specs.declared.StepRefusal.{StepRefusal}
use Rattle.registers.specs.declared.RegisterState.{RegisterState}
use Rattle.exports.specs.FlatRegisters.{STATE_INDEX, state_of, state_numbers, flat_step, flat_answer, FlatStepped}

-- what a step answers, in numbers
pub told : (found : Result ℕ StepRefusal) (r : Answer) → ((v : ℕ) → found ≡ Ok v → r ≡ accepted v)
    → ((why : StepRefusal) → found ≡ Err why → r ≡ step_refusal_numbers why) → r ≡ step_numbers found
told (Ok v) r ok err = ok v refl
told (Err why) r ok err = err why refl

module _ (c : Call) (l records : List ℕ) where
  pub kind_refused : no_kind c.kind ≡ true → flat_answer c l ≡ refused 10 0
  unfolding flat_answer
  kind_refused h = rw h

  pub index_refused : no_kind c.kind ≡ false → 2 ^ 32 - 1 < at l STATE_INDEX → flat_answer c l ≡ refused 10 0
  unfolding flat_answer
  index_refused h g = rw (h, lt-ltb (2 ^ 32 - 1) (at l STATE_INDEX) g)

  -- the step of a kind and a state that the numbers stand for, and its answer
  pub same_step : (k : Functionality) (s : RegisterState) → k ≡ kind_of c.kind → s ≡ state_of l
      → register_step k c.stamp c.src c.dst c.count s ≡ flat_step c l
  unfolding flat_step
  same_step k s e f = λ i. register_step (e i) c.stamp c.src c.dst c.count (f i)

  pub same_answer : no_kind c.kind ≡ false → at l STATE_INDEX ≤ 2 ^ 32 - 1 → step_numbers (flat_step c l).answer ≡ flat_answer c l
  unfolding flat_answer
  same_answer h g = rw (h, le-ltb (2 ^ 32 - 1) (at l STATE_INDEX) g)

  -- an answer, and both arrays as they were
  pub step_refused_lem : (r : Answer) → r ≡ flat_answer c l → (r.number ≡ 0 → ⊥) → FlatStepped c l records r l records
  step_refused_lem r e other =
      let no = ne_eqb (flat_answer c l).number 0 (λ z. other (number_same e ∙ z)) in
      record { answer = e; stepped = rw no; written = rw no }

  pub ten : (r : Answer) → r ≡ refused 10 0 → flat_answer c l ≡ refused 10 0 → FlatStepped c l records r l records
  ten r e f = step_refused_lem r (e ∙ sym f) (λ z. omega (arith, number_same e))

  pub step_taken : (r : Answer) → r ≡ flat_answer c l → r.number ≡ 0 → (state later : List ℕ)
      → state ≡ state_numbers (flat_step c l).state → later ≡ (flat_step c l).records → FlatStepped c l records r state later
  step_taken r e none state later x y =
      let yes = eq-eqb (flat_answer c l).number 0 (sym (number_same e) ∙ none) in
      record { answer = e; stepped = rw yes x; written = rw yes y }

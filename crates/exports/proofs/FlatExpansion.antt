-- The three ways out, by what the code has tested. Assumes nothing.
use mathlib.Core.Path.{◌≡◌, sym, ap, ◌∙◌}
use mathlib.Core.Bool.{true, false}
use mathlib.Core.List.{List, [], ◌∷◌}
use Prim.Native.Nat.{ℕ}
use borrow.Author.Tests.{eq-eqb, ne_eqb}
use native.Mathlib.Omega.{arith}
use Rattle.answer.specs.Numbers.{accepted, refused}
use Rattle.answer.specs.declared.Answer.{Answer}
use Rattle.call.specs.Calls.{no_kind}
use Rattle.expansion.specs.Tries.{under, Lent, Try}
use Rattle.expansion.specs.Refusals.{ExpansionNumbers, refusal_number}
use Rattle.expansion.specs.declared.ExpansionRefusal.{ExpansionRefusal}
use Rattle.expansion.specs.declared.ExpansionRefusal.TheVariants.{GapTooLarge, BadWindow, LastStamp, NotGapApart, PastIndex, OutsideWindow, BufferShort}
use Rattle.expansion.specs.Expansion.{Done}
use Rattle.exports.specs.FlatExpansion.{flat_numbers, flat_after, FlatDone}

module _ (gap : ℕ) (t : Try) (counts : List ℕ) where
  -- a number that is no kind
  pub ten : no_kind t.call.kind ≡ true → (r : Answer) → r ≡ refused 10 0 → FlatDone gap t counts r t.slices counts
  unfolding flat_numbers flat_after
  ten h r e = record { answer = rw h e; slices = rw h; counts = rw h }

  -- the expansion's numbers n, and what it left
  module _ (h : no_kind t.call.kind ≡ false) (n : ExpansionNumbers) (after : Lent) (done : Done (under gap) t n after) (r : Answer) (e : r ≡ n.answer) where
    same : n ≡ flat_numbers gap t
    unfolding flat_numbers
    same = rw h done.answer

    left : after ≡ flat_after gap t
    unfolding flat_after
    left = rw h done.slices

    answer : r ≡ (flat_numbers gap t).answer
    answer = e ∙ ap (λ (x : ExpansionNumbers). x.answer) same

    pub refused_flat : (r.number ≡ 0 → ⊥) → FlatDone gap t counts r after counts
    refused_flat other =
        let number = ap (λ (x : Answer). x.number) answer in
        record { answer = answer; slices = left; counts = rw (ne_eqb (flat_numbers gap t).answer.number 0 (λ z. other (number ∙ z))) }

    pub taken_flat : (ops accesses : ℕ) → r ≡ accepted ops → accesses ≡ n.accesses → FlatDone gap t counts r after (ops ∷ accesses ∷ [])
    taken_flat ops accesses is q =
        let told = sym is ∙ answer in
        let number = ap (λ (x : Answer). x.number) told in
        let value = ap (λ (x : Answer). x.value) told in
        let count = q ∙ ap (λ (x : ExpansionNumbers). x.accesses) same in
        record {
          answer = answer;
          slices = left;
          counts = rw (eq-eqb (flat_numbers gap t).answer.number 0 (sym number)) (λ i. value i ∷ count i ∷ []);
        }

-- a refusal of the expansion has a number
pub refusal_is_none : (why : ExpansionRefusal) → refusal_number why ≡ 0 → ⊥
refusal_is_none GapTooLarge z = omega arith
refusal_is_none BadWindow z = omega arith
refusal_is_none LastStamp z = omega arith
refusal_is_none NotGapApart z = omega arith
refusal_is_none PastIndex z = omega arith
refusal_is_none OutsideWindow z = omega arith
refusal_is_none BufferShort z = omega arith

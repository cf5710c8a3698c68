-- The answers of a field operation by the lowest input that is no element (document 01's refusal 14). Assumes nothing.
use Rattle.std.proofs.Common.{◌≡◌, ℕ, ◌<◌, ◌≤◌, Bool, true, false, cond, ltb, ap, ◌∙◌, subst, le-ltb, lt-ltb}
use Rattle.field.specs.Field.{p}
use Rattle.field.specs.Answers.{first_none, field_answer, elements_answer}
use Rattle.std.specs.Prelude.{Result, Ok, Err}
use Rattle.field.specs.declared.NotElement.{NotElement}

module _ {A : Type 0} (a b : ℕ) (v : A) where
  pub first_refused : p ≤ a → Err (record { place = 0 }) ≡ field_answer a b v
  unfolding field_answer first_none
  first_refused h = simp (le-ltb a p h)

  pub second_refused : a < p → p ≤ b → Err (record { place = 1 }) ≡ field_answer a b v
  unfolding field_answer first_none
  second_refused h k = simp (lt-ltb a p h, le-ltb b p k)

  pub found : a < p → b < p → Ok v ≡ field_answer a b v
  unfolding field_answer first_none
  found h k = simp (lt-ltb a p h, lt-ltb b p k)

-- what was found of both as elements, and where one is none
module _ (a b : ℕ) where
  pub found_of : {A : Type 0} (f : ℕ → ℕ → A) {x y : ℕ} → x ≡ a → y ≡ b → x < p → y < p → Ok (f x y) ≡ field_answer a b (f a b)
  found_of f e q h k = ap Ok (λ i. f (e i) (q i)) ∙ found a b (f a b) (subst (λ (n : ℕ). n < p) e h) (subst (λ (n : ℕ). n < p) q k)

  pub refused_answer : {A : Type 0} (v : A) {why : NotElement} → Err why ≡ elements_answer a b → Err why ≡ field_answer a b v
  unfolding field_answer
  refused_answer {A = A} v {why = why} h = go (ltb (first_none a b) 2) h
    where
      none : NotElement
      none = record { place = first_none a b }

      before : Bool → Result (Unit {0}) NotElement
      before s = cond s (Err none) (Ok tt)

      go : (s : Bool) → Err why ≡ before s → Err why ≡ cond s (Err none) (Ok v)
      go true h = ap Err cc
      go false h = absurd cc

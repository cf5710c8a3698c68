-- Laws of `sum_p`: what a counting loop needs that adds elements up. Assumes nothing.
use mathlib.Core.Path.{◌≡◌, refl, sym, ap, ◌∙◌}
use Prim.Native.Nat.{ℕ, ◌+◌}
use native.Mathlib.Numerals.{add-one}
use Rattle.field.specs.Field.{add_p}
use Rattle.operands.specs.Operands.{sum_p}

module _ (f : ℕ → ℕ) where
  pub sum_none : 0 ≡ sum_p f 0
  unfolding sum_p
  sum_none = refl

  pub sum_next : (k : ℕ) {total t r : ℕ} → r ≡ add_p total t → total ≡ sum_p f k → t ≡ f k → r ≡ sum_p f (k + 1)
  unfolding sum_p
  sum_next k e g h = e ∙ (λ j. add_p (g j) (h j)) ∙ sym (ap (sum_p f) (add-one k))

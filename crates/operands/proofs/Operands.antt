-- What refusal 12 asks of a sum, taken apart. Assumes nothing.
use Rattle.std.proofs.Common.{◌≡◌, ℕ, ◌<◌, ◌≤◌, Bool, true, false, ◌&&◌, leb, List, sym, ap, ◌∙◌, le-leb, leb-true}
use mathlib.Core.Bool.{and-false}
use borrow.Author.Tests.{lt-leb}
use Rattle.operands.specs.Operands.{term_at, TERMS, every, term_in_row, sum_in_row}
use Rattle.operands.specs.declared.AddLinearTerm.{AddLinearTerm}
use Rattle.operands.proofs.Every.{both, every_miss, every_end, every_at}

module _ (terms : List AddLinearTerm) (n : ℕ) where
  abbrev ok : ℕ → Bool
  ok k = term_in_row (term_at terms k)

  -- a sum that is judged
  pub sum_many : TERMS < n → false ≡ sum_in_row terms n
  unfolding sum_in_row
  sum_many h = simp (lt-leb n TERMS h)

  pub sum_miss : (k : ℕ) → k < n → ok k ≡ false → false ≡ sum_in_row terms n
  unfolding sum_in_row
  sum_miss k h e = sym (and-false (leb n TERMS)) ∙ ap (λ b. leb n TERMS && b) (every_miss ok k n h e)

  pub sum_all : (k : ℕ) → n ≤ TERMS → k ≡ n → every ok k ≡ true → true ≡ sum_in_row terms n
  unfolding sum_in_row
  sum_all k h e a = simp (le-leb n TERMS h) (every_end ok k n e a)

  -- a sum that is in the row
  module _ (e : sum_in_row terms n ≡ true) where
    pub sum_few : n ≤ TERMS
    unfolding sum_in_row
    sum_few = leb-true n TERMS (both (leb n TERMS) (every ok n) e).0

    pub sum_term : (k : ℕ) → k < n → ok k ≡ true
    unfolding sum_in_row
    sum_term k h = every_at ok n (both (leb n TERMS) (every ok n) e).1 k h

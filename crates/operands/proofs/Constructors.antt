-- The values of operands by their constructors, on a row of elements. Assumes nothing.
use mathlib.Core.Path.{◌≡◌, refl, sym, ap, ◌∙◌}
use mathlib.Core.List.{List, [], ◌∷◌}
use Prim.Native.Nat.{ℕ, ◌+◌, ◌<◌}
use lib.IntN.{pos}
use Rattle.lists.specs.Lists.{at}
use Rattle.field.specs.Field.{p, add_p, mul_p}
use Rattle.field.proofs.Laws.{zero_add_p, one_mul_p, mul_below}
use Rattle.operands.specs.Operands.{signed_p, sum_p, term_value, low_of, high_of, low_value, high_value}
use Rattle.operands.specs.Constructors.{cells, dword, linear, constant, from_dword_hl}
use Rattle.operands.specs.declared.AddLinearTerm.{AddLinearTerm}
use Rattle.operands.specs.declared.AddLinearTerm.TheVariants.{Constant}

module _ (row : List ℕ) where
  pub dword_low : (c : ℕ) → at row c ≡ low_value row (dword c)
  unfolding low_of dword
  dword_low c = refl

  pub dword_high : (c : ℕ) → at row (c + 1) ≡ high_value row (dword c)
  unfolding high_of dword
  dword_high c = refl

  -- a low sum of two terms, and no high one
  pub two_low : (s t : AddLinearTerm) → term_value row s < p
      → add_p (term_value row s) (term_value row t) ≡ low_value row (linear (s ∷ t ∷ []) [])
  unfolding low_of linear cells sum_p
  two_low s t h = ap (λ x. add_p x (term_value row t)) (sym (zero_add_p (term_value row s) h))

  pub none_high : (low : List AddLinearTerm) → 0 ≡ high_value row (linear low [])
  unfolding high_of linear cells sum_p
  none_high low = refl

  pub constant_low : (n : ℕ) → n < p → n ≡ low_value row (constant (pos n))
  unfolding constant low_of linear cells sum_p term_value signed_p
  constant_low n h = sym (zero_add_p n h)

  pub constant_high : (n : ℕ) → 0 ≡ high_value row (constant (pos n))
  unfolding constant
  constant_high n = none_high (Constant (pos n) ∷ [])

  -- two halves, the first of them times 1
  two_halves : (a b : ℕ) → a < p → add_p a (mul_p 65536 b) ≡ add_p (add_p 0 (mul_p 1 a)) (mul_p 65536 b)
  two_halves a b h = ap (λ x. add_p x (mul_p 65536 b)) (sym (zero_add_p (mul_p 1 a) (mul_below 1 a) ∙ one_mul_p a h))

  pub halves_low : (c : ℕ) → at row c < p → add_p (at row c) (mul_p 65536 (at row (c + 1))) ≡ low_value row (from_dword_hl c)
  unfolding from_dword_hl low_of linear cells sum_p term_value signed_p
  halves_low c h = two_halves (at row c) (at row (c + 1)) h

  pub halves_high : (c : ℕ) → at row (c + 2) < p
      → add_p (at row (c + 2)) (mul_p 65536 (at row (c + 3))) ≡ high_value row (from_dword_hl c)
  unfolding from_dword_hl high_of linear cells sum_p term_value signed_p
  halves_high c h = two_halves (at row (c + 2)) (at row (c + 3)) h

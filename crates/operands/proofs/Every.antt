-- Laws of `every`: what a counting loop needs that tests each number below n, and what a test of all says of one. Assumes nothing.
use mathlib.Core.Path.{◌≡◌, refl, sym, ap, ◌∙◌}
use mathlib.Core.Logic.{⊎_elim}
use mathlib.Core.Bool.{Bool, true, false, ◌&&◌, and-false, false≢true}
use Prim.Native.Nat.{ℕ, zero, suc, ◌+◌, ◌<◌}
use native.Mathlib.Nat.{le_of_suc-le-suc, eq-or-lt_of_le}
use native.Mathlib.Numerals.{add-one}
use native.Mathlib.Omega.{arith}
use Rattle.operands.specs.Operands.{every}

-- two tests that both hold
pub both : (a b : Bool) → (a && b) ≡ true → (a ≡ true) × (b ≡ true)
both true b e = (refl, e)
both false b e = absurd (false≢true e)

module _ (test : ℕ → Bool) where
  -- none below 0
  pub every_none : every test 0 ≡ true
  unfolding every
  every_none = refl

  pub every_next : (k : ℕ) → every test k ≡ true → test k ≡ true → every test (k + 1) ≡ true
  unfolding every
  every_next k e t = rw (add-one k, t, e)

  pub every_end : (k n : ℕ) → k ≡ n → every test k ≡ true → true ≡ every test n
  every_end k n h e = sym e ∙ ap (every test) h

  -- one that fails is enough
  pub every_miss : (k n : ℕ) → k < n → test k ≡ false → false ≡ every test n
  unfolding every
  every_miss k zero h t = absurd (let z : k < 0 = h in omega arith)
  every_miss k (suc n) h t =
      ⊎_elim (λ (q : k ≡ n). ap (λ b. b && every test n) (sym t ∙ ap test q))
      (λ (l : k < n). sym (and-false (test n)) ∙ ap (λ b. test n && b) (every_miss k n l t)) (eq-or-lt_of_le (le_of_suc-le-suc h))

  pub every_at : (n : ℕ) → every test n ≡ true → (k : ℕ) → k < n → test k ≡ true
  unfolding every
  every_at zero e k h = absurd (let z : k < 0 = h in omega arith)
  every_at (suc n) e k h =
      let t = both (test n) (every test n) e in
      ⊎_elim (λ (q : k ≡ n). ap test q ∙ t.0) (λ (l : k < n). every_at n t.1 k l) (eq-or-lt_of_le (le_of_suc-le-suc h))

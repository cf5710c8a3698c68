-- The walk over the terms of a flat list, term by term. Assumes nothing.
use Rattle.std.proofs.Common.{◌≡◌, ℕ, zero, suc, ◌+◌, ◌-◌, ◌<◌, ◌≤◌, List, refl, sym, ap, ◌∙◌, arith}
use Rattle.std.specs.Prelude.{Option, Some, None}
use Rattle.add_pair.specs.Flat.{after_term, after_terms}

module _ (l : List ℕ) where
  nowhere : (n : ℕ) → None ≡ after_terms l None n
  unfolding after_terms after_term
  nowhere zero = refl
  nowhere (suc n) = nowhere n

  terms_next : (place : Option ℕ) (k n : ℕ) → k < n → after_terms l place (n - k) ≡ after_terms l (after_term l place) (n - (k + 1))
  unfolding after_terms
  terms_next place k n h = let s : n - k ≡ suc (n - (k + 1)) = omega arith in rw s

  -- a loop over the terms that is at term k of n
  module _ (start : Option ℕ) (i k n : ℕ) (inv : after_terms l start n ≡ after_terms l (Some i) (n - k)) where
    pub walk_stops : k < n → None ≡ after_term l (Some i) → None ≡ after_terms l start n
    walk_stops h e =
        nowhere (n - (k + 1)) ∙ ap (λ w. after_terms l w (n - (k + 1))) e ∙ sym (inv ∙ terms_next (Some i) k n h)

    pub walk_goes_on : {j : ℕ} → k < n → Some j ≡ after_term l (Some i) → after_terms l start n ≡ after_terms l (Some j) (n - (k + 1))
    walk_goes_on h e = inv ∙ terms_next (Some i) k n h ∙ ap (λ w. after_terms l w (n - (k + 1))) (sym e)

    pub walk_ends : n ≤ k → Some i ≡ after_terms l start n
    unfolding after_terms
    walk_ends h = let s : n - k ≡ 0 = omega arith in sym (inv ∙ ap (after_terms l (Some i)) s)

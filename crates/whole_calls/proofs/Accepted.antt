-- Accepted calls fit, and what they wrote are the records of their cuts. Assumes nothing.
use mathlib.Core.Path.{◌≡◌, refl, sym, ap, ap₂, ◌∙◌}
use mathlib.Core.Logic.{◌⊎◌, inl, inr}
use mathlib.Core.List.{List, [], ◌∷◌, ◌++◌, map, flat_map}
use Prim.Native.Nat.{ℕ}
use borrow.Author.Tests.{eqb-true}
use lib.Dec.{lit<}
use Rattle.lists.specs.Lists.{All}
use Rattle.lists.proofs.Joined.{flat_map_append}
use Rattle.call.specs.Ops.{op_record}
use Rattle.call.specs.Flat.{call_numbers}
use Rattle.call.specs.Cuts.{CutCall, cut_from, ops_of, calls_of, Fits}
use Rattle.expansion.specs.Tries.{Setting, under, Try, Typed}
use Rattle.expansion.specs.Consequences.{cut_call}
use Rattle.expansion.proofs.Outcome.{Refused, Taken, outcome}
use Rattle.expansion.proofs.Cut.{cut, fits}
use Rattle.calls_in_turn.specs.Accepted.{accepted_of, ops_written, accepted_ops, accepted_calls}
use Rattle.calls_in_turn.proofs.Written.{taken_wrote}

-- the cut call of an accepted one
abbrev pub cut_try : Try → CutCall
cut_try t = cut_call t.call t.slices.bytes

module _ (gap : ℕ) where
  abbrev s : Setting
  s = under gap

  -- One accepted call

  module _ (t : Try) (typed : Typed t) (k : Taken s t) where
    pub try_fits : Fits gap (cut_try t)
    try_fits = fits s (lit< tt) t typed.words typed.bytes (eqb-true _ _ k.number)

    -- what it wrote are the records of its cut
    try_wrote : ops_written s t ≡ flat_map op_record (cut_from t.call 1 (cut_try t).pieces)
    try_wrote = taken_wrote s t k ∙ ap (flat_map op_record) (cut t.call t.slices.bytes typed.bytes)

  -- All accepted ones

  pub tries_fit : (tries : List Try) → All Typed tries → All (Fits gap) (map cut_try (accepted_of s tries))
  tries_fit [] typed = tt
  tries_fit (t ∷ tries) typed = go (outcome s t) (tries_fit tries typed.1)
    where
      go : Refused s t ⊎ Taken s t → All (Fits gap) (map cut_try (accepted_of s tries)) → All (Fits gap) (map cut_try (accepted_of s (t ∷ tries)))
      go (inl r) later = rw r.number later
      go (inr k) later = rw k.number (try_fits t typed.0 k, later)

  pub tries_wrote : (tries : List Try) → All Typed tries → accepted_ops s tries ≡ flat_map op_record (ops_of (map cut_try (accepted_of s tries)))
  unfolding flat_map
  tries_wrote [] typed = refl
  tries_wrote (t ∷ tries) typed = go (outcome s t) (tries_wrote tries typed.1)
    where
      go : Refused s t ⊎ Taken s t → accepted_ops s tries ≡ flat_map op_record (ops_of (map cut_try (accepted_of s tries)))
          → accepted_ops s (t ∷ tries) ≡ flat_map op_record (ops_of (map cut_try (accepted_of s (t ∷ tries))))
      go (inl r) later = rw r.number later
      go (inr k) later =
          rw k.number
          (ap₂ (λ (a b : List ℕ). a ++ b) (try_wrote t typed.0 k) later
          ∙ sym (flat_map_append op_record (cut_from t.call 1 (cut_try t).pieces) (ops_of (map cut_try (accepted_of s tries)))))

  pub tries_handed : (tries : List Try) → accepted_calls s tries ≡ flat_map call_numbers (calls_of (map cut_try (accepted_of s tries)))
  unfolding flat_map
  tries_handed tries = go (accepted_of s tries)
    where
      go : (ts : List Try) → flat_map (λ t. call_numbers t.call) ts ≡ flat_map call_numbers (calls_of (map cut_try ts))
      go [] = refl
      go (t ∷ ts) = ap (λ l. call_numbers t.call ++ l) (go ts)

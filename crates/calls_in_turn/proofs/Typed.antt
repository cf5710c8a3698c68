-- Calls whose numbers fit their types: they are read as they were handed in, and over a window of bytes they find a window of bytes each.
-- Assumes nothing.
use mathlib.Core.Logic.{◌⊎◌, inl, inr}
use mathlib.Core.Bool.{Bool, true, false, cond}
use mathlib.Core.Path.{◌≡◌, refl, ap, ap₂, ◌∙◌}
use mathlib.Core.List.{List, [], ◌∷◌, map, flat_map}
use Prim.Native.Nat.{ℕ}
use native.Mathlib.Omega.{arith}
use Rattle.lists.specs.Lists.{All}
use Rattle.lists.proofs.All.{all_of}
use Rattle.words.specs.Words.{Bytes}
use Rattle.records.proofs.RecordList.{records_joined}
use Rattle.call.specs.Calls.{Call}
use Rattle.call.specs.Flat.{HANDED_WIDTH, handed_numbers, call_from, good_call}
use Rattle.call.specs.Cuts.{FitsTypes}
use Rattle.call.proofs.GoodCalls.{good_words, handed_call_lem, handed_good}
use Rattle.expansion_rows.specs.Rows.{widths_of}
use Rattle.expansion.specs.Tries.{Setting, Lent, Try, try_of, Typed}
use Rattle.expansion.specs.Expansion.{expanded, lent_after}
use Rattle.expansion.proofs.Outcome.{Refused, Taken, outcome}
use Rattle.expansion.proofs.CallBytes.{call_bytes_lem}
use Rattle.calls_in_turn.specs.InTurn.{calls_from, calls_in, leaves, tries_of}

-- the calls of a flat list are good ones
pub calls_words : (rs : List (List ℕ)) → All FitsTypes (calls_from rs)
unfolding calls_from
calls_words [] = tt
calls_words (r ∷ rs) = go (good_call r) refl (calls_words rs)
  where
    go : (b : Bool) → good_call r ≡ b → All FitsTypes (calls_from rs) → All FitsTypes (cond b (call_from r ∷ calls_from rs) (calls_from rs))
    go true e later = (good_words r e, later)
    go false e later = later

-- calls whose numbers fit their types, written as they are handed in, are read as these calls
pub calls_handed_lem : (cs : List Call) → All FitsTypes cs → calls_in (flat_map handed_numbers cs) ≡ cs
unfolding calls_from
calls_handed_lem cs w =
    ap calls_from (records_joined HANDED_WIDTH (omega arith) handed_numbers cs (all_of (λ c. refl) cs)) ∙ go cs w
  where
    go : (cs : List Call) → All FitsTypes cs → calls_from (map handed_numbers cs) ≡ cs
    go [] w = refl
    go (c ∷ cs) w = rw (handed_good c w.0) (ap₂ (λ d ds. d ∷ ds) (handed_call_lem c) (go cs w.1))

module _ (s : Setting) where
  leaves_bytes : (t : Try) → Bytes t.slices.bytes → Bytes (leaves s t).bytes
  unfolding leaves expanded
  leaves_bytes t h = go (outcome s t)
    where
      go : Refused s t ⊎ Taken s t → Bytes (lent_after s t).bytes
      go (inl r) = rw r.kept h
      go (inr k) = rw k.after (call_bytes_lem t.call (widths_of t.call) t.slices.bytes h)

  pub tries_typed : (cs : List Call) (l : Lent) → All FitsTypes cs → Bytes l.bytes → All Typed (tries_of s cs l)
  unfolding tries_of
  tries_typed [] l w h = tt
  tries_typed (c ∷ cs) l w h =
      (record { words = w.0; bytes = h }, tries_typed cs (leaves s (try_of c l)) w.1 (leaves_bytes (try_of c l) h))

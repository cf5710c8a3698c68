-- One record of a flat list of calls: what it adds, writes and leaves, and what the records behind it then do. A record that is no call
-- adds nothing. Assumes nothing.
use mathlib.Core.Path.{◌≡◌, refl, sym, ap, ◌∙◌}
use mathlib.Core.Bool.{Bool, true, false, cond}
use mathlib.Core.List.{List, [], ◌∷◌, ◌++◌}
use Prim.Native.Nat.{ℕ, ◌+◌, ◌-◌, ◌*◌}
use native.Mathlib.Omega.{arith}
use lib.Dec.{ltb}
use lib.ListN.{length}
use Rattle.words.specs.Words.{bit}
use Rattle.call.specs.Ops.{OP_WIDTH}
use Rattle.call.specs.Flat.{call_from, good_call}
use Rattle.expansion.specs.Tries.{Setting, Lent, Lengths, lengths_are, lengths, try_of}
use Rattle.expansion.specs.Refusals.{answer_by}
use Rattle.calls_in_turn.specs.Accepted.{ops_written, accepted_ops}
use Rattle.calls_in_turn.specs.InTurn.{calls_from, leaves, tries_of, last_leaves}
use Rattle.calls_in_turn.specs.Counts.{behind, all_records, all_calls}
use Rattle.calls_in_turn.specs.Inner.{added_by, written_by, left_by}
use Rattle.calls_in_turn.proofs.Written.{written_length, leaves_lengths, ops_more}

pub behind_none : (n : Lengths) → behind n 0 ≡ n
behind_none n = let e : n.ops - OP_WIDTH * 0 ≡ n.ops = omega arith in λ i. lengths_are n.cells n.stamped (e i) n.accesses

pub behind_more : (n : Lengths) (j k : ℕ) → behind (behind n j) k ≡ behind n (j + k)
behind_more n j k =
    let e : n.ops - OP_WIDTH * j - OP_WIDTH * k ≡ n.ops - OP_WIDTH * (j + k) = omega arith in
    λ i. lengths_are n.cells n.stamped (e i) n.accesses

module _ (s : Setting) (r : List ℕ) where
  -- counts, by the lengths alone
  module _ (rs : List (List ℕ)) (n : Lengths) where
    pub records_step : all_records s (calls_from (r ∷ rs)) n ≡ added_by s r n + all_records s (calls_from rs) (behind n (added_by s r n))
    unfolding calls_from all_records added_by
    records_step = go (good_call r)
      where
        go : (b : Bool) → all_records s (cond b (call_from r ∷ calls_from rs) (calls_from rs)) n
            ≡ cond b (answer_by s (call_from r) n).value 0 + all_records s (calls_from rs) (behind n (cond b (answer_by s (call_from r) n).value 0))
        go true = refl
        go false = ap (all_records s (calls_from rs)) (sym (behind_none n)) ∙ omega arith

    pub calls_step : all_calls s (calls_from (r ∷ rs)) n ≡ bit (ltb 0 (added_by s r n)) + all_calls s (calls_from rs) (behind n (added_by s r n))
    unfolding calls_from all_calls added_by
    calls_step = go (good_call r)
      where
        go : (b : Bool) → all_calls s (cond b (call_from r ∷ calls_from rs) (calls_from rs)) n
            ≡ bit (ltb 0 (cond b (answer_by s (call_from r) n).value 0)) + all_calls s (calls_from rs) (behind n (cond b (answer_by s (call_from r) n).value 0))
        go true = refl
        go false = ap (all_calls s (calls_from rs)) (sym (behind_none n)) ∙ omega arith

  -- what it writes and leaves
  module _ (rs : List (List ℕ)) (l : Lent) where
    pub ops_step : accepted_ops s (tries_of s (calls_from (r ∷ rs)) l) ≡ written_by s r l ++ accepted_ops s (tries_of s (calls_from rs) (left_by s r l))
    unfolding calls_from tries_of written_by left_by
    ops_step = go (good_call r)
      where
        go : (b : Bool) → accepted_ops s (tries_of s (cond b (call_from r ∷ calls_from rs) (calls_from rs)) l)
            ≡ cond b (ops_written s (try_of (call_from r) l)) [] ++ accepted_ops s (tries_of s (calls_from rs) (cond b (leaves s (try_of (call_from r) l)) l))
        go true = ops_more s (try_of (call_from r) l) (tries_of s (calls_from rs) (leaves s (try_of (call_from r) l)))
        go false = refl

    pub left_step : last_leaves s (calls_from (r ∷ rs)) l ≡ last_leaves s (calls_from rs) (left_by s r l)
    unfolding calls_from last_leaves left_by
    left_step = go (good_call r)
      where
        go : (b : Bool) → last_leaves s (cond b (call_from r ∷ calls_from rs) (calls_from rs)) l
            ≡ last_leaves s (calls_from rs) (cond b (leaves s (try_of (call_from r) l)) l)
        go true = refl
        go false = refl

  pub written_wide : (l : Lent) → length (written_by s r l) ≡ OP_WIDTH * added_by s r (lengths l)
  unfolding written_by added_by
  written_wide l = go (good_call r)
    where
      go : (b : Bool) → length (cond b (ops_written s (try_of (call_from r) l)) []) ≡ OP_WIDTH * cond b (answer_by s (call_from r) (lengths l)).value 0
      go true = written_length s (try_of (call_from r) l)
      go false = refl

  pub left_lengths : (l : Lent) → lengths (left_by s r l) ≡ behind (lengths l) (added_by s r (lengths l))
  unfolding left_by added_by
  left_lengths l = go (good_call r)
    where
      go : (b : Bool) → lengths (cond b (leaves s (try_of (call_from r) l)) l)
          ≡ behind (lengths l) (cond b (answer_by s (call_from r) (lengths l)).value 0)
      go true = leaves_lengths s (try_of (call_from r) l)
      go false = sym (behind_none (lengths l))

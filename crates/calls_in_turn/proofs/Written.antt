-- What one call writes and leaves, refused or taken, and what that makes of a list of tries. Assumes nothing.
use mathlib.Core.Path.{◌≡◌, sym, ap, ◌∙◌}
use mathlib.Core.Logic.{◌⊎◌, inl, inr}
use mathlib.Core.List.{List, [], ◌∷◌, ◌++◌, flat_map}
use Prim.Native.Nat.{ℕ, ◌-◌, ◌*◌, ◌≤◌}
use native.Mathlib.Omega.{arith}
use borrow.Author.Tests.{lt-ltb}
use lib.Dec.{ltb}
use lib.ListN.{length, take, length-drop}
use lib.Seq.{take_at, length-take-le}
use Rattle.answer.specs.declared.Answer.{Answer}
use Rattle.words.specs.Words.{bit}
use Rattle.lists.specs.Lists.{store}
use Rattle.lists.proofs.Store.{store_none, store_eq}
use Rattle.call.specs.Ops.{op_record, OP_WIDTH}
use Rattle.call.specs.Flat.{CALL_WIDTH}
use Rattle.expansion.specs.Tries.{Setting, Lent, Lengths, lengths_are, lengths, Try}
use Rattle.expansion.specs.Refusals.{op_count, answered}
use Rattle.expansion.specs.Expansion.{call_ops, expanded, lent_after}
use Rattle.expansion.proofs.Outcome.{Refused, Taken, outcome, after_lengths}
use Rattle.expansion.proofs.Cut.{op_count_pos, records_length}
use Rattle.calls_in_turn.specs.Accepted.{ops_written, accepted_ops, accepted_calls}
use Rattle.calls_in_turn.specs.InTurn.{leaves}
use Rattle.calls_in_turn.specs.Counts.{behind}

module _ (s : Setting) (t : Try) where
  abbrev value : ℕ
  value = (answered s t).value

  -- a call that is taken counts its own records
  pub taken_value : Taken s t → value ≡ op_count t.call
  taken_value k = ap (λ (a : Answer). a.value) k.answer

  -- and writes them
  pub taken_wrote : Taken s t → ops_written s t ≡ flat_map op_record (call_ops t.call t.slices.bytes)
  unfolding expanded
  taken_wrote k =
      let records = flat_map op_record (call_ops t.call t.slices.bytes) in
      let wide = records_length t.call t.slices.bytes in
      (λ i. take (OP_WIDTH * taken_value k i) (k.after i).ops)
      ∙ ap (take (OP_WIDTH * op_count t.call)) (store_eq t.slices.ops 0 records (omega (arith, k.room.ops)))
      ∙ take_at records _ (OP_WIDTH * op_count t.call) wide

  -- a call that is refused writes none
  refused_wrote : Refused s t → ops_written s t ≡ []
  refused_wrote r = ap (λ (n : ℕ). take (OP_WIDTH * n) (lent_after s t).ops) r.none

  -- either way the records fit
  pub written_room : OP_WIDTH * value ≤ length t.slices.ops
  written_room = go (outcome s t)
    where
      go : Refused s t ⊎ Taken s t → OP_WIDTH * value ≤ length t.slices.ops
      go (inl r) = omega (arith, r.none)
      go (inr k) = omega (arith, k.room.ops, taken_value k)

  pub written_length : length (ops_written s t) ≡ OP_WIDTH * value
  written_length = length-take-le _ _ (omega (arith, written_room, ap (λ (n : Lengths). n.ops) (after_lengths s t)))

  -- and stand at the front of the buffer
  pub written_stored : (lent_after s t).ops ≡ store t.slices.ops 0 (ops_written s t)
  unfolding expanded
  written_stored = go (outcome s t)
    where
      go : Refused s t ⊎ Taken s t → (lent_after s t).ops ≡ store t.slices.ops 0 (ops_written s t)
      go (inl r) =
          ap (λ (x : Lent). x.ops) r.kept ∙ sym (ap (store t.slices.ops 0) (refused_wrote r) ∙ store_none t.slices.ops 0)
      go (inr k) = ap (λ (x : Lent). x.ops) k.after ∙ ap (store t.slices.ops 0) (sym (taken_wrote k))

  -- a call that is accepted adds a record
  pub one_call : length (accepted_calls s (t ∷ [])) ≡ CALL_WIDTH * bit (ltb 0 value)
  unfolding flat_map
  one_call = go (outcome s t)
    where
      go : Refused s t ⊎ Taken s t → length (accepted_calls s (t ∷ [])) ≡ CALL_WIDTH * bit (ltb 0 value)
      go (inl r) = rw (r.number, r.none)
      go (inr k) = rw (k.number, lt-ltb 0 value (omega (arith, taken_value k, op_count_pos t.call)))

  -- the lengths of what it leaves
  pub leaves_lengths : lengths (leaves s t) ≡ behind (lengths t.slices) value
  unfolding leaves
  leaves_lengths =
      let same = after_lengths s t in
      let ops = length-drop (OP_WIDTH * value) (lent_after s t).ops in
      λ i. lengths_are (same i).cells (same i).stamped ((ops ∙ ap (λ (n : Lengths). n.ops - OP_WIDTH * value) same) i) (same i).accesses

  -- one more try in front
  module _ (tries : List Try) where
    pub ops_more : accepted_ops s (t ∷ tries) ≡ ops_written s t ++ accepted_ops s tries
    unfolding flat_map
    ops_more = go (outcome s t)
      where
        go : Refused s t ⊎ Taken s t → accepted_ops s (t ∷ tries) ≡ ops_written s t ++ accepted_ops s tries
        go (inl r) = rw (r.number, refused_wrote r)
        go (inr k) = rw k.number

    pub calls_more : accepted_calls s (t ∷ tries) ≡ accepted_calls s (t ∷ []) ++ accepted_calls s tries
    unfolding flat_map
    calls_more = go (outcome s t)
      where
        go : Refused s t ⊎ Taken s t → accepted_calls s (t ∷ tries) ≡ accepted_calls s (t ∷ []) ++ accepted_calls s tries
        go (inl r) = rw r.number
        go (inr k) = rw k.number

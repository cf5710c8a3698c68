-- The counts of specs/Counts.antt are those of what the expansion accepts in turn. Assumes nothing.
use mathlib.Core.Path.{◌≡◌, refl, ap, ◌∙◌}
use mathlib.Core.List.{List, [], ◌∷◌, flat_map}
use Prim.Native.Nat.{◌*◌, ◌≤◌}
use native.Mathlib.Omega.{arith}
use lib.ListN.{length, length-append}
use Rattle.call.specs.Calls.{Call}
use Rattle.call.specs.Ops.{OP_WIDTH}
use Rattle.call.specs.Flat.{CALL_WIDTH}
use Rattle.expansion.specs.Tries.{Setting, Lent, Lengths, lengths, try_of}
use Rattle.calls_in_turn.specs.Accepted.{ops_written, accepted_ops, accepted_calls}
use Rattle.calls_in_turn.specs.InTurn.{leaves, tries_of}
use Rattle.calls_in_turn.specs.Counts.{all_records, all_calls}
use Rattle.calls_in_turn.proofs.Written.{written_length, written_room, one_call, leaves_lengths, ops_more, calls_more}

module _ (s : Setting) where
  pub records_counted : (cs : List Call) (l : Lent) → length (accepted_ops s (tries_of s cs l)) ≡ OP_WIDTH * all_records s cs (lengths l)
  unfolding tries_of flat_map all_records
  records_counted [] l = refl
  records_counted (c ∷ cs) l =
      let t = try_of c l in
      let rest = tries_of s cs (leaves s t) in
      let later = records_counted cs (leaves s t) ∙ ap (λ (n : Lengths). OP_WIDTH * all_records s cs n) (leaves_lengths s t) in
      ap length (ops_more s t rest) ∙ length-append (ops_written s t) (accepted_ops s rest) ∙ omega (arith, later, written_length s t)

  pub calls_counted : (cs : List Call) (l : Lent) → length (accepted_calls s (tries_of s cs l)) ≡ CALL_WIDTH * all_calls s cs (lengths l)
  unfolding tries_of flat_map all_calls
  calls_counted [] l = refl
  calls_counted (c ∷ cs) l =
      let t = try_of c l in
      let rest = tries_of s cs (leaves s t) in
      let later = calls_counted cs (leaves s t) ∙ ap (λ (n : Lengths). CALL_WIDTH * all_calls s cs n) (leaves_lengths s t) in
      ap length (calls_more s t rest)
      ∙ length-append (accepted_calls s (t ∷ [])) (accepted_calls s rest)
      ∙ omega (arith, later, one_call s t)

  -- the records fit into the buffer
  pub records_fit : (cs : List Call) (l : Lent) → length (accepted_ops s (tries_of s cs l)) ≤ length l.ops
  unfolding tries_of flat_map
  records_fit [] l = omega arith
  records_fit (c ∷ cs) l =
      let t = try_of c l in
      let rest = tries_of s cs (leaves s t) in
      let later = records_fit cs (leaves s t) in
      let left = ap (λ (n : Lengths). n.ops) (leaves_lengths s t) in
      let both = ap length (ops_more s t rest) ∙ length-append (ops_written s t) (accepted_ops s rest) in
      omega (arith, both, written_length s t, written_room s t)

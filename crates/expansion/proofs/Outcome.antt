-- What a try comes to: it is refused and the slices are kept, or it is taken, with all that this means. Assumes nothing.
use mathlib.Core.Path.{◌≡◌, refl, sym, ap, ◌∙◌}
use mathlib.Core.Logic.{◌⊎◌, inl, inr}
use mathlib.Core.Bool.{Bool, true, false}
use mathlib.Core.List.{flat_map}
use Prim.Native.Nat.{◌*◌, ◌≤◌}
use native.Mathlib.Omega.{arith}
use borrow.Author.Tests.{eqb-true}
use lib.Dec.{eqb}
use Rattle.answer.specs.Numbers.{accepted}
use Rattle.answer.specs.declared.Answer.{Answer}
use Rattle.answer.proofs.Refusals.{value_of}
use Rattle.lists.proofs.Store.{length_store}
use Rattle.call.specs.Calls.{Call}
use Rattle.call.specs.Ops.{op_record, OP_WIDTH}
use Rattle.access.specs.Access.{access_record}
use Rattle.window.specs.Window.{window_of}
use Rattle.expansion_rows.specs.Rows.{widths_of}
use Rattle.expansion_rows.specs.Inner.{rows_of}
use Rattle.expansion_rows.specs.Turns.{pass_bytes, pass_stamps}
use Rattle.expansion_rows.proofs.Lengths.{pass_bytes_length, pass_stamps_length, held_bytes_length, held_stamps_length}
use Rattle.expansion.specs.Tries.{Setting, Lent, Lengths, lengths_are, lengths, Try}
use Rattle.expansion.specs.Refusals.{op_count, refusals, answer_by, answered, with_accesses, ExpansionNumbers, refusal_number, expansion_numbers}
use Rattle.expansion.specs.Expansion.{deferred_by, bytes_by, stamps_by, call_ops, call_accesses, expanded, lent_after}
use Rattle.std.specs.Prelude.{Ok, Err}
use Rattle.expansion.specs.declared.Expanded.{Expanded}
use Rattle.expansion.specs.declared.ExpansionRefusal.{ExpansionRefusal}
use Rattle.expansion.specs.declared.ExpansionRefusal.TheVariants.{GapTooLarge, BadWindow, LastStamp, NotGapApart, PastIndex, OutsideWindow, BufferShort}
use Rattle.expansion.proofs.Judged.{Fair, Room, accepted_fair, fair_accepted}

pub record Refused (s : Setting) (t : Try) : Type 0 where
  pub number : eqb (answered s t).number 0 ≡ false
  pub none : (answered s t).value ≡ 0
  pub kept : lent_after s t ≡ t.slices

pub record Taken (s : Setting) (t : Try) : Type 0 where
  pub number : eqb (answered s t).number 0 ≡ true
  pub answer : answered s t ≡ accepted (op_count t.call)
  pub fair : Fair s t.call (lengths t.slices)
  pub room : Room t.call (lengths t.slices)
  pub after : lent_after s t ≡ expanded t.call t.slices

module _ (s : Setting) (t : Try) where
  -- an answer with a number
  pub refused_try : eqb (answered s t).number 0 ≡ false → Refused s t
  unfolding lent_after answer_by
  refused_try e = record { number = e; none = value_of (refusals s t.call (lengths t.slices)) _ refl e; kept = rw e }

  -- an answer without
  pub taken_try : eqb (answered s t).number 0 ≡ true → Taken s t
  unfolding lent_after
  taken_try e =
      let f = accepted_fair s t.call (lengths t.slices) (eqb-true _ _ e) in
      record { number = e; answer = fair_accepted s t.call (lengths t.slices) f.0 f.1; fair = f.0; room = f.1; after = rw e }

  pub outcome : Refused s t ⊎ Taken s t
  outcome = go (eqb (answered s t).number 0) refl
    where
      go : (b : Bool) → eqb (answered s t).number 0 ≡ b → Refused s t ⊎ Taken s t
      go true e = inr (taken_try e)
      go false e = inl (refused_try e)

-- Whatever is answered, the records that it counts fit into their buffer

pub answer_room : (s : Setting) (c : Call) (n : Lengths) → OP_WIDTH * (answer_by s c n).value ≤ n.ops
unfolding answer_by
answer_room s c n = go (eqb (answer_by s c n).number 0) refl
  where
    go : (b : Bool) → eqb (answer_by s c n).number 0 ≡ b → OP_WIDTH * (answer_by s c n).value ≤ n.ops
    go true e =
        let f = accepted_fair s c n (eqb-true _ _ e) in
        let counted = ap (λ (a : Answer). a.value) (fair_accepted s c n f.0 f.1) in
        omega (arith, counted, f.1.ops)
    go false e = omega (arith, value_of (refusals s c n) (accepted (op_count c)) refl e)

-- The lengths of the slices never change

expanded_lengths : (c : Call) (l : Lent) → lengths (expanded c l) ≡ lengths l
unfolding expanded bytes_by stamps_by
expanded_lengths c l =
    let bytes = held_bytes_length (deferred_by c (widths_of c) l.bytes) (pass_bytes (rows_of c) l.bytes) ∙ pass_bytes_length (rows_of c) l.bytes in
    let stamps = held_stamps_length (deferred_by c (widths_of c) l.bytes) (pass_stamps (rows_of c) l.stamps) ∙ pass_stamps_length (rows_of c) l.stamps in
    let records = length_store l.ops 0 (flat_map op_record (call_ops c l.bytes)) in
    let accesses = length_store l.accesses 0 (flat_map access_record (call_accesses c (window_of l.bytes l.stamps))) in
    λ i. lengths_are (bytes i) (stamps i) (records i) (accesses i)

pub after_lengths : (s : Setting) (t : Try) → lengths (lent_after s t) ≡ lengths t.slices
after_lengths s t = go (outcome s t)
  where
    go : Refused s t ⊎ Taken s t → lengths (lent_after s t) ≡ lengths t.slices
    go (inl r) = ap lengths r.kept
    go (inr k) = ap lengths k.after ∙ expanded_lengths t.call t.slices

-- The code's answer: a refusal has a number, which is not 0

refusing_number : (why : ExpansionRefusal) → eqb (refusal_number why) 0 ≡ false
refusing_number GapTooLarge = refl
refusing_number BadWindow = refl
refusing_number LastStamp = refl
refusing_number NotGapApart = refl
refusing_number PastIndex = refl
refusing_number OutsideWindow = refl
refusing_number BufferShort = refl

module _ (s : Setting) (t : Try) where
  -- it is refused
  pub refused_as : (why : ExpansionRefusal) → expansion_numbers (Err why) ≡ with_accesses t.call (answered s t) → Refused s t
  refused_as why e =
      refused_try s t (sym (ap (λ (n : ExpansionNumbers). eqb n.answer.number 0) e) ∙ refusing_number why)

  -- it is taken, with so many records
  pub taken_as : (found : Expanded) → expansion_numbers (Ok found) ≡ with_accesses t.call (answered s t) → Taken s t × (found.ops ≡ op_count t.call)
  taken_as found e =
      let k = taken_try s t (sym (ap (λ (n : ExpansionNumbers). eqb n.answer.number 0) e)) in
      (k, ap (λ (n : ExpansionNumbers). n.answer.value) e ∙ ap (λ (x : Answer). x.value) k.answer)

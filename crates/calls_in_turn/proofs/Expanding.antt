-- The loop of `expand_all`, over plain lists and numbers. The invariant: finishing from here gives the whole. Assumes nothing.
use mathlib.Core.Path.{◌≡◌, refl, sym, ap, ◌∙◌}
use mathlib.Core.Bool.{true, false}
use mathlib.Core.List.{List, ◌∷◌, flat_map}
use Prim.Native.Nat.{ℕ, ◌+◌, ◌*◌, ◌≤◌, ◌<◌}
use native.Mathlib.Omega.{arith}
use lib.ListN.{length}
use Rattle.lists.specs.Lists.{store}
use Rattle.lists.proofs.Store.{store_none, store_append, length_store}
use Rattle.lists.proofs.Listed.{listed_left, listed_over}
use Rattle.records.specs.Records.{record_count, record_at, records_in}
use Rattle.call.specs.Calls.{Call}
use Rattle.call.specs.Ops.{OP_WIDTH}
use Rattle.call.specs.Flat.{HANDED_WIDTH, call_from, good_call}
use Rattle.expansion.specs.Tries.{Setting, Lent, lent, lengths, Try, try_of, Lengths}
use Rattle.expansion.specs.Refusals.{answered, ExpansionNumbers}
use Rattle.expansion.specs.Expansion.{Done}
use Rattle.calls_in_turn.specs.Accepted.{ops_written, accepted_ops}
use Rattle.calls_in_turn.specs.InTurn.{calls_from, calls_in, behind_ops, leaves, tries_of, last_leaves, all_expanded}
use Rattle.calls_in_turn.specs.Inner.{written_by, left_by, Turned}
use Rattle.calls_in_turn.proofs.Written.{written_length}
use Rattle.calls_in_turn.proofs.Behind.{part_of, back_in, stood}
use Rattle.calls_in_turn.proofs.Records.{ops_step, left_step, left_lengths}
use Rattle.calls_in_turn.proofs.Counting.{left, left_all}

-- One record

module _ (s : Setting) (r : List ℕ) (done : ℕ) (l : Lent) (fits : OP_WIDTH * done ≤ length l.ops) where
  -- what is no call changes nothing
  pub turned_none : good_call r ≡ false → Turned s r done l l 0
  unfolding written_by left_by
  turned_none bad =
      let same : done + 0 ≡ done = omega arith in
      record { count = rw bad; room = omega arith; stored = rw (bad, store_none); left = rw (bad, same) }

  -- a call, expanded over the part of the buffer behind the records
  pub turned_one : good_call r ≡ true → (c : Call) → c ≡ call_from r → (numbers : ExpansionNumbers) (after : Lent)
      → Done s (try_of c (part_of done l)) numbers after → (n : ℕ) → n ≡ numbers.answer.value → Turned s r done l (back_in done l after) n
  unfolding written_by left_by
  turned_one good c same numbers after told n value =
      let t = try_of (call_from r) (behind_ops done l) in
      let k = stood s c done l fits after told.slices n (value ∙ ap (λ (x : ExpansionNumbers). x.answer.value) told.answer) in
      let here : try_of c (behind_ops done l) ≡ t = ap (λ x. try_of x (behind_ops done l)) same in
      let wide = written_length s t ∙ ap (λ m. OP_WIDTH * m) (sym (k.value ∙ ap (λ (x : Try). (answered s x).value) here)) in
      record {
        count = rw good (sym wide);
        room = k.room;
        stored = k.stored ∙ ap (λ (x : Try). store l.ops (OP_WIDTH * done) (ops_written s x)) here ∙ rw good;
        left = k.left ∙ ap (leaves s) here ∙ rw good;
      }

-- All records

-- k of n records are done, into `done` operation records
pub record Going (s : Setting) (calls : List ℕ) (l₀ : Lent) (n : ℕ) (l : Lent) (done k : ℕ) : Type 0 where
  pub whole : n ≡ record_count HANDED_WIDTH calls
  pub upto : k ≤ n
  pub room : OP_WIDTH * done ≤ length l.ops
  pub bytes_same : length l.bytes ≡ length l₀.bytes
  pub stamps_same : length l.stamps ≡ length l₀.stamps
  pub ops_same : length l.ops ≡ length l₀.ops
  pub accesses_same : length l.accesses ≡ length l₀.accesses
  pub ops_go : store l.ops (OP_WIDTH * done) (accepted_ops s (tries_of s (calls_from (left calls n k)) (behind_ops done l)))
      ≡ store l₀.ops 0 (accepted_ops s (tries_of s (calls_in calls) l₀))
  pub left_go : last_leaves s (calls_from (left calls n k)) (behind_ops done l) ≡ last_leaves s (calls_in calls) l₀

module _ (s : Setting) (calls : List ℕ) (l₀ : Lent) where
  pub going_start : (n : ℕ) → n ≡ record_count HANDED_WIDTH calls → Going s calls l₀ n l₀ 0 0
  going_start n whole =
      let all : left calls n 0 ≡ records_in HANDED_WIDTH calls = ap (λ m. left calls m 0) whole ∙ left_all calls in
      record {
        whole = whole;
        upto = omega arith;
        room = omega arith;
        bytes_same = refl;
        stamps_same = refl;
        ops_same = refl;
        accesses_same = refl;
        ops_go = ap (λ rs. store l₀.ops 0 (accepted_ops s (tries_of s (calls_from rs) l₀))) all;
        left_go = ap (λ rs. last_leaves s (calls_from rs) l₀) all;
      }

  module _ (n : ℕ) (l : Lent) (done k : ℕ) (going : Going s calls l₀ n l done k) where
    pub going_turn : k < n → (r : List ℕ) → r ≡ record_at HANDED_WIDTH calls k → (after : Lent) (added : ℕ) → Turned s r done l after added
        → Going s calls l₀ n after (done + added) (k + 1)
    going_turn h r e after added t =
        let rs = left calls n (k + 1) in
        let here = behind_ops done l in
        let front : left calls n k ≡ r ∷ rs = listed_left (record_at HANDED_WIDTH calls) n k h ∙ ap (λ x. x ∷ rs) (sym e) in
        let xs = written_by s r here in
        let ys = accepted_ops s (tries_of s (calls_from rs) (left_by s r here)) in
        let place : OP_WIDTH * (done + added) ≡ OP_WIDTH * done + length xs = omega (arith, t.count) in
        let kept : length after.ops ≡ length l.ops = ap length t.stored ∙ length_store l.ops (OP_WIDTH * done) xs in
        let others = ap lengths t.left ∙ left_lengths s r here in
        record {
          whole = going.whole;
          upto = omega arith;
          room = omega (arith, t.room);
          bytes_same = ap (λ (m : Lengths). m.cells) others ∙ going.bytes_same;
          stamps_same = ap (λ (m : Lengths). m.stamped) others ∙ going.stamps_same;
          ops_same = kept ∙ going.ops_same;
          accesses_same = ap (λ (m : Lengths). m.accesses) others ∙ going.accesses_same;
          ops_go =
              ap (λ (x : Lent). store after.ops (OP_WIDTH * (done + added)) (accepted_ops s (tries_of s (calls_from rs) x))) t.left
              ∙ ap (λ x. store x (OP_WIDTH * (done + added)) ys) t.stored
              ∙ ap (λ i. store (store l.ops (OP_WIDTH * done) xs) i ys) place
              ∙ sym (store_append l.ops (OP_WIDTH * done) xs ys)
              ∙ ap (store l.ops (OP_WIDTH * done)) (sym (ops_step s r rs here))
              ∙ ap (λ x. store l.ops (OP_WIDTH * done) (accepted_ops s (tries_of s (calls_from x) here))) (sym front)
              ∙ going.ops_go;
          left_go =
              ap (last_leaves s (calls_from rs)) t.left
              ∙ sym (left_step s r rs here)
              ∙ ap (λ x. last_leaves s (calls_from x) here) (sym front)
              ∙ going.left_go;
        }

    pub going_end : n ≤ k → l ≡ all_expanded s (calls_in calls) l₀
    unfolding all_expanded tries_of last_leaves calls_from flat_map
    going_end h =
        let here = behind_ops done l in
        let none = listed_over (record_at HANDED_WIDTH calls) n k h in
        let stored =
        sym (store_none l.ops (OP_WIDTH * done))
        ∙ ap (λ x. store l.ops (OP_WIDTH * done) (accepted_ops s (tries_of s (calls_from x) here))) (sym none)
        ∙ going.ops_go in
        let left = ap (λ x. last_leaves s (calls_from x) here) (sym none) ∙ going.left_go in
        λ i. lent (left i).bytes (left i).stamps (stored i) (left i).accesses

-- A call expanded over the part of a record buffer that is behind the records so far: where its records stand, and what it leaves. Assumes
-- nothing.
use mathlib.Core.Path.{◌≡◌, refl, sym, ap, ◌∙◌}
use mathlib.Core.List.{List, ◌++◌, append-nil}
use Prim.Native.Nat.{ℕ, ◌+◌, ◌-◌, ◌*◌, ◌≤◌}
use native.Mathlib.Omega.{arith}
use lib.ListN.{length, take, drop, length-drop, drop_of_length-le}
use lib.Seq.{take_all, drop-drop, drop_at, length-take-le}
use Rattle.lists.specs.Lists.{store}
use Rattle.lists.proofs.Store.{store_eq, part_store}
use Rattle.call.specs.Calls.{Call}
use Rattle.call.specs.Ops.{OP_WIDTH}
use Rattle.expansion.specs.Tries.{Setting, Lent, lent, Try, try_of}
use Rattle.expansion.specs.Refusals.{answered}
use Rattle.expansion.specs.Expansion.{lent_after}
use Rattle.calls_in_turn.specs.Accepted.{ops_written}
use Rattle.calls_in_turn.specs.InTurn.{behind_ops, leaves}
use Rattle.calls_in_turn.proofs.Written.{written_room, written_length, written_stored}

-- the slices as they are lent, with the part of the record buffer that is behind n records; and as they are once that part came back
abbrev pub part_of : ℕ → Lent → Lent
part_of n l =
    lent l.bytes l.stamps (take (length l.ops - OP_WIDTH * n) (drop (OP_WIDTH * n) l.ops)) l.accesses

abbrev pub back_in : ℕ → Lent → Lent → Lent
back_in n l after =
    let p = OP_WIDTH * n in
    lent after.bytes after.stamps (take p l.ops ++ (after.ops ++ drop (length l.ops - p) (drop p l.ops))) after.accesses

short : (n : ℕ) (l : Lent) → length (drop (OP_WIDTH * n) l.ops) ≤ length l.ops - OP_WIDTH * n
short n l = omega (arith, length-drop (OP_WIDTH * n) l.ops)

-- the part is all that is behind them
pub part_whole : (n : ℕ) (l : Lent) → part_of n l ≡ behind_ops n l
part_whole n l =
    ap (λ x. lent l.bytes l.stamps x l.accesses) (take_all (length l.ops - OP_WIDTH * n) (drop (OP_WIDTH * n) l.ops) (short n l))

-- what was stored at the front of the rest stands behind the first p numbers
rest_back : (l xs : List ℕ) (p : ℕ) → p + length xs ≤ length l
    → take p l ++ (store (drop p l) 0 xs ++ drop (length l - p) (drop p l)) ≡ store l p xs
rest_back l xs p h =
    let long : length (drop p l) ≤ length l - p = omega (arith, length-drop p l) in
    let none : 0 + length xs ≡ length xs = omega arith in
    ap (λ (r : List ℕ). take p l ++ (store (drop p l) 0 xs ++ r)) (drop_of_length-le (drop p l) long)
    ∙ ap (λ (r : List ℕ). take p l ++ r) (append-nil (store (drop p l) 0 xs) ∙ store_eq (drop p l) 0 xs (omega (arith, length-drop p l)))
    ∙ ap (λ n. take p l ++ (xs ++ drop n (drop p l))) none
    ∙ part_store l xs p (length xs) refl h

-- a call of n records behind `done` others
pub record Stood (s : Setting) (c : Call) (done : ℕ) (l after : Lent) (n : ℕ) : Type 0 where
  pub value : n ≡ (answered s (try_of c (behind_ops done l))).value
  pub room : OP_WIDTH * (done + n) ≤ length l.ops
  pub stored : after.ops ≡ store l.ops (OP_WIDTH * done) (ops_written s (try_of c (behind_ops done l)))
  pub left : behind_ops (done + n) after ≡ leaves s (try_of c (behind_ops done l))

module _ (s : Setting) (c : Call) (done : ℕ) (l : Lent) (fits : OP_WIDTH * done ≤ length l.ops) where
  abbrev p : ℕ
  p = OP_WIDTH * done

  -- behind the records of this call stands what it leaves of the part
  back_left : (after : Lent) (n : ℕ) → drop (OP_WIDTH * (done + n)) (back_in done l after).ops ≡ drop (OP_WIDTH * n) after.ops
  back_left after n =
      let rest = after.ops ++ drop (length l.ops - p) (drop p l.ops) in
      let place : OP_WIDTH * (done + n) ≡ p + OP_WIDTH * n = omega arith in
      ap (λ k. drop k (take p l.ops ++ rest)) place
      ∙ sym (drop-drop (OP_WIDTH * n) p (take p l.ops ++ rest))
      ∙ ap (drop (OP_WIDTH * n))
      (drop_at (take p l.ops) rest p (length-take-le p l.ops fits)
      ∙ ap (λ x. after.ops ++ x) (drop_of_length-le (drop p l.ops) (short done l))
      ∙ append-nil after.ops)

  pub stood : (after : Lent) → after ≡ lent_after s (try_of c (part_of done l)) → (n : ℕ) → n ≡ (answered s (try_of c (part_of done l))).value
      → Stood s c done l (back_in done l after) n
  unfolding leaves
  stood after came n value =
      let t = try_of c (behind_ops done l) in
      let whole = ap (try_of c) (part_whole done l) in
      let n_is : n ≡ (answered s t).value = value ∙ ap (λ (x : Try). (answered s x).value) whole in
      let after_is : after ≡ lent_after s t = came ∙ ap (lent_after s) whole in
      let wide : length (ops_written s t) ≡ OP_WIDTH * n = written_length s t ∙ ap (λ k. OP_WIDTH * k) (sym n_is) in
      let inside : p + length (ops_written s t) ≤ length l.ops = omega (arith, written_room s t, written_length s t, length-drop p l.ops) in
      record {
        value = n_is;
        room = omega arith;
        stored =
            ap (λ (x : Lent). (back_in done l x).ops) after_is
            ∙ ap (λ x. take p l.ops ++ (x ++ drop (length l.ops - p) (drop p l.ops))) (written_stored s t)
            ∙ rest_back l.ops (ops_written s t) p inside;
        left =
            ap (λ x. lent after.bytes after.stamps x after.accesses) (back_left after n)
            ∙ ap (behind_ops n) after_is
            ∙ ap (λ k. behind_ops k (lent_after s t)) n_is;
      }

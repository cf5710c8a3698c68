-- The first 2,995 bytes of an input decide its output. Line 1 with its newline has at most 25 bytes and each call line at most 90, or the
-- line is refused, in the prefix as in the whole. Each accepted call takes room, and there is room for 32 rows, so the 34th line, which is
-- the 33rd call line, is refused at the latest: 25 + 33 * 90 = 2,995. Assumes nothing.
use mathlib.Core.Path.{◌≡◌, refl, sym, ap, ◌∙◌}
use mathlib.Core.Bool.{Bool, true, false, cond}
use mathlib.Core.List.{List, [], ◌∷◌}
use Prim.Native.Nat.{ℕ, zero, suc, ◌+◌, ◌-◌, ◌*◌, ◌^◌, ◌≤◌, ◌<◌, min}
use native.Mathlib.Nat.{sub-zero, zero-sub, suc-sub-suc}
use native.Mathlib.Omega.{arith}
use borrow.Author.Tests.{ltb-true, ltb-false, leb-true, leb-false}
use lib.Dec.{eqb, ltb, leb}
use lib.ListN.{length, take, drop, length-take}
use lib.Seq.{take-take, take-nil}
use Rattle.call.specs.Calls as calls
use Rattle.std.specs.Prelude.{Option, Some, None}
use Rattle.call.specs.Ops.{OP_WIDTH}
use Rattle.expansion.specs.Tries.{Setting, under, Lent, Lengths, Try, try_of}
use Rattle.expansion.specs.Refusals.{answered}
use Rattle.expansion.proofs.Outcome.{taken_try}
use Rattle.expansion.proofs.Cut.{op_count_pos}
use Rattle.calls_in_turn.specs.Accepted.{ops_written}
use Rattle.calls_in_turn.specs.InTurn.{leaves}
use Rattle.calls_in_turn.proofs.Written.{taken_value, leaves_lengths}
use Rattle.text.specs.Pieces.{index_of, before, after}
use Rattle.text.specs.Lines.{lines, gap_of, call_line}
use Rattle.text.specs.declared.CallLine.{CallLine}
use Rattle.text.proofs.Pieces.{lines_first, index_le}
use Rattle.text.specs.RowLines.{refused_text}
use Rattle.callcheck_text.specs.Run.{refused, in_front, on_answer, call_of, on_line, lines_from}
use Rattle.callcheck_text.specs.Output.{ending_text, start, on_gap, output_of, PrefixDecides}
use Rattle.callcheck_text.proofs.Lengths.{call_long, gap_long}

-- The first line of a prefix, and what is after it

index_take : (b n : ℕ) (l : List ℕ) → index_of b (take n l) ≡ min n (index_of b l)
unfolding index_of
index_take b zero l = omega arith
index_take b (suc n) [] = omega arith
index_take b (suc n) (x ∷ l) = go (eqb x b) (index_take b n l)
  where
    go : (t : Bool) → index_of b (take n l) ≡ min n (index_of b l)
        → cond t 0 (suc (index_of b (take n l))) ≡ min (suc n) (cond t 0 (suc (index_of b l)))
    go true e = omega arith
    go false e = omega arith

drop_take : (m n : ℕ) (l : List ℕ) → drop m (take n l) ≡ take (n - m) (drop m l)
drop_take zero n l = rw sub-zero
drop_take (suc m) zero l = rw zero-sub
drop_take (suc m) (suc n) [] = sym (take-nil (suc n - suc m))
drop_take (suc m) (suc n) (x ∷ l) = rw suc-sub-suc (drop_take m n l)

line_length : (l : List ℕ) → length (before 10 l) ≡ index_of 10 l
unfolding before
line_length l = let h = index_le 10 l in simp length-take (omega arith)

-- a first line that the prefix holds whole
module _ (n : ℕ) (l : List ℕ) (inside : index_of 10 l < n) where
  same_index : index_of 10 (take n l) ≡ index_of 10 l
  same_index = omega (arith, index_take 10 n l)

  before_take : before 10 (take n l) ≡ before 10 l
  unfolding before
  before_take = rw same_index (take-take (index_of 10 l) n l (omega arith))

  after_take : after 10 (take n l) ≡ take (n - (index_of 10 l + 1)) (after 10 l)
  unfolding after
  after_take = rw same_index (drop_take (index_of 10 l + 1) n l)

-- One line, and two texts after it that come to the same

module _
    (s : Setting) (line : ℕ) (l : Lent) (x : List ℕ) (rest all : List (List ℕ))
    (after_it : length x ≤ 89 → (c : calls.Call) → eqb (answered s (try_of c l)).number 0 ≡ true
    → lines_from s (line + 1) rest (leaves s (try_of c l)) ≡ lines_from s (line + 1) all (leaves s (try_of c l))) where
  line_short : (call : CallLine) → call_line x ≡ Some call → length x ≤ 89
  line_short call e = go (leb (length x) 89) refl
    where
      go : (t : Bool) → leb (length x) 89 ≡ t → length x ≤ 89
      go true f = leb-true (length x) 89 f
      go false f =
          let other : call_line x ≡ None = call_long x (leb-false (length x) 89 f) in
          let z : ◌≡◌ {A = ℕ} 0 1 = cc in
          absurd (omega arith)

  same_after : lines_from s line (x ∷ rest) l ≡ lines_from s line (x ∷ all) l
  unfolding lines_from
  same_after = go (call_line x) refl
    where
      by_answer : (c : calls.Call) → length x ≤ 89 → (b : Bool) → eqb (answered s (try_of c l)).number 0 ≡ b
          → let t = try_of c l in
          cond b (in_front (ops_written s t) (lines_from s (line + 1) rest (leaves s t))) (refused (answered s t).number line)
          ≡ cond b (in_front (ops_written s t) (lines_from s (line + 1) all (leaves s t))) (refused (answered s t).number line)
      by_answer c h true e = ap (in_front (ops_written s (try_of c l))) (after_it h c e)
      by_answer c h false e = refl

      go : (p : Option CallLine) → call_line x ≡ p
          → on_line p line
          (λ c. let t = try_of c l in on_answer (answered s t) line (in_front (ops_written s t) (lines_from s (line + 1) rest (leaves s t))))
          ≡ on_line p line
          (λ c. let t = try_of c l in on_answer (answered s t) line (in_front (ops_written s t) (lines_from s (line + 1) all (leaves s t))))
      go None e = refl
      go (Some call) e =
          let c = call_of call in
          by_answer c (line_short call e) (eqb (answered s (try_of c l)).number 0) refl

-- two first lines that are both too long are refused alike
both_long : (s : Setting) (line : ℕ) (l : Lent) (x y : List ℕ) (xs ys : List (List ℕ)) → 89 < length x → 89 < length y
    → lines_from s line (x ∷ xs) l ≡ lines_from s line (y ∷ ys) l
unfolding lines_from
both_long s line l x y xs ys h k = rw (call_long x h, call_long y k)

-- an accepted call takes at least a record's numbers of the room
room_falls : (s : Setting) (t : Try) → eqb (answered s t).number 0 ≡ true → length (leaves s t).ops + OP_WIDTH ≤ length t.slices.ops
room_falls s t e =
    let k = taken_try s t e in
    let left = ap (λ (n : Lengths). n.ops) (leaves_lengths s t) in
    omega (arith, left, taken_value s t k, op_count_pos t.call, k.room.ops)

-- The call lines: 90 bytes for each row that there may still be, and for one line more

calls_prefix : (m : ℕ) (s : Setting) (line n : ℕ) (text : List ℕ) (l : Lent) → 90 * m ≤ n → length l.ops < OP_WIDTH * m
    → lines_from s line (lines (take n text)) l ≡ lines_from s line (lines text) l
calls_prefix zero s line n text l h r = absurd (omega arith)
calls_prefix (suc m) s line zero text l h r = absurd (omega arith)
calls_prefix (suc m) s line (suc n) [] l h r = refl
calls_prefix (suc m) s line (suc n) (x ∷ xs) l h r =
    ap (λ (ls : List (List ℕ)). lines_from s line ls l) (lines_first x (take n xs))
    ∙ go (ltb (index_of 10 (x ∷ xs)) (suc n)) refl (λ k ys later. calls_prefix m s (line + 1) k ys later)
    ∙ sym (ap (λ (ls : List (List ℕ)). lines_from s line ls l) (lines_first x xs))
  where
    go : (t : Bool) → ltb (index_of 10 (x ∷ xs)) (suc n) ≡ t
        → ((k : ℕ) (ys : List ℕ) (later : Lent) → 90 * m ≤ k → length later.ops < OP_WIDTH * m
        → lines_from s (line + 1) (lines (take k ys)) later ≡ lines_from s (line + 1) (lines ys) later)
        → lines_from s line (before 10 (take (suc n) (x ∷ xs)) ∷ lines (after 10 (take (suc n) (x ∷ xs)))) l
        ≡ lines_from s line (before 10 (x ∷ xs) ∷ lines (after 10 (x ∷ xs))) l
    go true e shorter =
        let text = x ∷ xs in
        let near = ltb-true (index_of 10 text) (suc n) e in
        rw (before_take (suc n) text near, after_take (suc n) text near)
        (same_after s line l (before 10 text) _ _
        (λ short c accepted.
        shorter (suc n - (index_of 10 text + 1)) (after 10 text) (leaves s (try_of c l)) (omega (arith, line_length text))
        (omega (arith, room_falls s (try_of c l) accepted))))
    go false e shorter =
        let text = x ∷ xs in
        let far = ltb-false (index_of 10 text) (suc n) e in
        both_long s line l _ _ _ _ (omega (arith, line_length (take (suc n) text), index_take 10 (suc n) text)) (omega (arith, line_length text))

-- The whole input

same_gap : (p : Option ℕ) (f g : ℕ → List ℕ) → ((gap : ℕ) → f gap ≡ g gap) → on_gap p f ≡ on_gap p g
same_gap (Some gap) f g h = ap (cond (leb (2 ^ 32) gap) (refused_text 7 1)) (h gap)
same_gap None f g h = refl

pub prefix_decides : PrefixDecides
unfolding output_of
prefix_decides n l h = go (ltb (index_of 10 l) 25) refl
  where
    go : (t : Bool) → ltb (index_of 10 l) 25 ≡ t → output_of (take n l) ≡ output_of l
    go true e =
        let near = ltb-true (index_of 10 l) 25 e in
        let inside : index_of 10 l < n = omega arith in
        rw (before_take n l inside, after_take n l inside)
        (same_gap (gap_of (before 10 l)) _ _
        (λ gap. ap (ending_text gap) (calls_prefix 33 (under gap) 2 (n - (index_of 10 l + 1)) (after 10 l) start (omega arith) (omega arith))))
    go false e =
        let far = ltb-false (index_of 10 l) 25 e in
        let prefix = gap_long (before 10 (take n l)) (omega (arith, line_length (take n l), index_take 10 n l)) in
        rw (prefix, gap_long (before 10 l) (omega (arith, line_length l)))

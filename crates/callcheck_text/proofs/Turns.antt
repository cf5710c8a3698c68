-- A turn of the loop over the call lines, over plain lists and numbers: what a line comes to, and that finishing from here gives the whole.
-- Assumes nothing.
use mathlib.Core.Path.{◌≡◌, refl, sym, ap, ap₂, ◌∙◌}
use mathlib.Core.Bool.{Bool, true, false, cond}
use mathlib.Core.List.{List, [], ◌∷◌, ◌++◌, append-nil, append_assoc}
use Prim.Native.Nat.{ℕ, ◌+◌, ◌-◌, ◌*◌, ◌≤◌, ◌<◌}
use native.Mathlib.Omega.{arith}
use lib.Dec.{eqb}
use lib.ListN.{length, take, drop, length-drop, drop_of_length-le}
use Rattle.answer.specs.declared.Answer.{Answer}
use Rattle.lists.proofs.Store.{store_front, length_store}
use Rattle.std.specs.Prelude.{Option, Some, None, Result, Ok, Err}
use Rattle.call.specs.Calls as calls
use Rattle.call.specs.Ops.{OP_WIDTH}
use Rattle.expansion.specs.Tries.{Setting, Lent, lengths_are, lengths, Try, try_of, Lengths}
use Rattle.expansion.specs.Refusals.{answered}
use Rattle.expansion.specs.Expansion.{lent_after}
use Rattle.expansion.proofs.Outcome.{taken_try}
use Rattle.expansion.proofs.Cut.{op_count_pos}
use Rattle.calls_in_turn.specs.Accepted.{ops_written}
use Rattle.calls_in_turn.specs.InTurn.{behind_ops, leaves}
use Rattle.calls_in_turn.proofs.Written.{taken_value, written_length, written_room, leaves_lengths}
use Rattle.calls_in_turn.proofs.Behind.{part_of, back_in, part_whole, Stood, stood}
use Rattle.text.specs.Pieces.{before, after}
use Rattle.text.specs.Lines.{lines, call_line}
use Rattle.text.specs.declared.CallLine.{CallLine}
use Rattle.callcheck_text.specs.declared.Refused.{Refused}
use Rattle.text.proofs.Pieces.{lines_at, rest_is}
use Rattle.callcheck_text.specs.Inner.{step_of, line_step, line_after}
use Rattle.callcheck_text.specs.Run.{Ending, done, refused, in_front, on_answer, call_of, on_line, lines_from}

-- Records in front

pub front_none : (e : Ending) → in_front [] e ≡ e
front_none (done records) = refl
front_none (refused number line) = refl

pub front_join : (xs ys : List ℕ) (e : Ending) → in_front xs (in_front ys e) ≡ in_front (xs ++ ys) e
front_join xs ys (done records) = ap done (sym (append_assoc xs ys records))
front_join xs ys (refused number line) = refl

-- What a step says of the answer

stops : (a : Answer) (line : ℕ) (why : Refused) (next : Ending) → step_of line a ≡ Err why → on_answer a line next ≡ refused why.number why.line
stops a line why next = go (eqb a.number 0)
  where
    go : (b : Bool) → cond {A = Result ℕ Refused} b (Ok a.value) (Err (record { number = a.number; line = line })) ≡ Err why
        → cond b next (refused a.number line) ≡ refused why.number why.line
    go true e = absurd (cc)
    go false e = cc

goes : (a : Answer) (line m : ℕ) → step_of line a ≡ Ok m → (eqb a.number 0 ≡ true) × (a.value ≡ m)
goes a line m = go (eqb a.number 0) refl
  where
    go : (b : Bool) → eqb a.number 0 ≡ b → cond {A = Result ℕ Refused} b (Ok a.value) (Err (record { number = a.number; line = line })) ≡ Ok m
        → (eqb a.number 0 ≡ true) × (a.value ≡ m)
    go true e f = (e, cc)
    go false e f = absurd (cc)

-- One line

-- a line whose call is accepted, with m rows
pub record Went (s : Setting) (line m : ℕ) (x : List ℕ) (l : Lent) : Type 0 where
  pub call : calls.Call
  pub value : (answered s (try_of call l)).value ≡ m
  pub some : 0 < m
  pub after : (other : Lent) → line_after s (call_line x) other ≡ lent_after s (try_of call other)
  pub goes_on : (xs : List (List ℕ))
      → lines_from s line (x ∷ xs) l
      ≡ in_front (ops_written s (try_of call l)) (lines_from s (line + 1) xs (leaves s (try_of call l)))

module _ (s : Setting) (line : ℕ) (x : List ℕ) (l : Lent) where
  pub line_stops : (why : Refused) (xs : List (List ℕ)) → line_step s line (call_line x) l ≡ Err why
      → lines_from s line (x ∷ xs) l ≡ refused why.number why.line
  unfolding lines_from
  line_stops why xs = go (call_line x)
    where
      go : (p : Option CallLine) → line_step s line p l ≡ Err why
          → on_line p line
          (λ c. let t = try_of c l in on_answer (answered s t) line (in_front (ops_written s t) (lines_from s (line + 1) xs (leaves s t))))
          ≡ refused why.number why.line
      go None e = cc
      go (Some call) e =
          let t = try_of (call_of call) l in
          stops (answered s t) line why (in_front (ops_written s t) (lines_from s (line + 1) xs (leaves s t))) e

  pub line_went : (m : ℕ) → line_step s line (call_line x) l ≡ Ok m → Went s line m x l
  unfolding lines_from
  line_went m = go (call_line x) refl
    where
      go : (p : Option CallLine) → call_line x ≡ p → line_step s line p l ≡ Ok m → Went s line m x l
      go None q e = absurd (cc)
      go (Some call) q e =
          let c = call_of call in
          let g = goes (answered s (try_of c l)) line m e in
          let k = taken_try s (try_of c l) g.0 in
          record {
            call = c;
            value = g.1;
            some = omega (arith, g.1, taken_value s (try_of c l) k, op_count_pos c);
            after = λ other. ap (λ (p : Option CallLine). line_after s p other) q;
            goes_on = λ xs. rw (q, g.0);
          }

-- A turn of the loop, at index `at` of the text and with so many rows so far

-- the records so far
abbrev pub so_far : Lent → ℕ → List ℕ
so_far l rows = take (OP_WIDTH * rows) l.ops

-- what the lines from here on come to, those so far with them
abbrev pub ending : Setting → List ℕ → Lent → (at line rows : ℕ) → Ending
ending s text l at line rows = in_front (so_far l rows) (lines_from s line (lines (drop at text)) (behind_ops rows l))

-- what is known when the line has been taken
pub record Turn (s : Setting) (at line rows : ℕ) (text : List ℕ) (l : Lent) (piece : List ℕ) (step : Result ℕ Refused) : Type 0 where
  pub more : at < length text
  pub fits : OP_WIDTH * rows ≤ length l.ops
  pub first : piece ≡ before 10 (take (length text - at) (drop at text))
  pub came : step ≡ line_step s line (call_line piece) (part_of rows l)

module _
    {s : Setting} {at line rows : ℕ} {text : List ℕ} {l : Lent} {piece : List ℕ} {step : Result ℕ Refused}
    (t : Turn s at line rows text l piece step) where
  abbrev first : List ℕ
  first = before 10 (drop at text)

  -- the piece is the first line that is left
  piece_is : piece ≡ first
  piece_is = t.first ∙ ap (before 10) (rest_is text at)

  here : (x : Result ℕ Refused) → step ≡ x → line_step s line (call_line first) (behind_ops rows l) ≡ x
  here x e =
      sym (ap₂ (λ (p : List ℕ) (k : Lent). line_step s line (call_line p) k) piece_is (part_whole rows l))
      ∙ sym t.came
      ∙ e

  -- the line is refused
  pub turn_stops : (why : Refused) → step ≡ Err why → refused why.number why.line ≡ ending s text l at line rows
  turn_stops why e =
      sym
      (ap (λ (ls : List (List ℕ)). in_front (so_far l rows) (lines_from s line ls (behind_ops rows l))) (lines_at text at t.more)
      ∙ ap (in_front (so_far l rows)) (line_stops s line first (behind_ops rows l) why (lines (after 10 (drop at text))) (here (Err why) e)))

  module _ (m : ℕ) (e : step ≡ Ok m) where
    went : Went s line m first (behind_ops rows l)
    went = line_went s line first (behind_ops rows l) m (here (Ok m) e)

    pub turn_fits : (0 < m) × (OP_WIDTH * (rows + m) ≤ length l.ops)
    turn_fits =
        let value = written_length s (try_of went.call (behind_ops rows l)) in
        let room = written_room s (try_of went.call (behind_ops rows l)) in
        (went.some, omega (arith, room, went.value, t.fits, length-drop (OP_WIDTH * rows) l.ops))

    -- the line's call is accepted, and the slices came back
    module _ (bs : Lent) (f : bs ≡ line_after s (call_line piece) (part_of rows l)) where
      abbrev back : Lent
      back = back_in rows l bs

      abbrev u : Try
      u = try_of went.call (behind_ops rows l)

      stands : Stood s went.call rows l back m
      stands =
          stood s went.call rows l t.fits bs
          (f ∙ ap (λ (p : List ℕ). line_after s (call_line p) (part_of rows l)) piece_is ∙ went.after (part_of rows l))
          m
          (sym (ap (λ (k : Lent). (answered s (try_of went.call k)).value) (part_whole rows l) ∙ went.value))

      pub turn_same : lengths back ≡ lengths l
      turn_same =
          let others = ap lengths stands.left ∙ leaves_lengths s u in
          let ops = ap length stands.stored ∙ length_store l.ops (OP_WIDTH * rows) (ops_written s u) in
          λ i. lengths_are (others i).cells (others i).stamped (ops i) (others i).accesses

      joined : so_far back (rows + m) ≡ so_far l rows ++ ops_written s u
      joined =
          let n : OP_WIDTH * (rows + m) ≡ OP_WIDTH * rows + length (ops_written s u) = omega (arith, written_length s u, went.value) in
          ap₂ take n stands.stored ∙ store_front l.ops (OP_WIDTH * rows) (ops_written s u) (omega (arith, turn_fits.1))

      pub turn_goes : (next : ℕ) → drop next text ≡ after 10 (drop at text) → ending s text back next (line + 1) (rows + m) ≡ ending s text l at line rows
      turn_goes next q =
          let left = lines (after 10 (drop at text)) in
          let rest = lines_from s (line + 1) left (leaves s u) in
          ap₂ (λ (x : List ℕ) (k : Lent). in_front (so_far back (rows + m)) (lines_from s (line + 1) (lines x) k)) q stands.left
          ∙ ap (λ (x : List ℕ). in_front x rest) joined
          ∙ sym (front_join (so_far l rows) (ops_written s u) rest)
          ∙ sym (ap (in_front (so_far l rows)) (went.goes_on left))
          ∙ sym (ap (λ (ls : List (List ℕ)). in_front (so_far l rows) (lines_from s line ls (behind_ops rows l))) (lines_at text at t.more))

-- no line is left
pub turns_end : (s : Setting) (text : List ℕ) (l : Lent) (at line rows : ℕ) → length text ≤ at → done (so_far l rows) ≡ ending s text l at line rows
unfolding lines_from lines
turns_end s text l at line rows h = rw (drop_of_length-le text h) (ap done (sym (append-nil (so_far l rows))))

-- What holds at the head of the loop

pub record Running (s : Setting) (text : List ℕ) (l₀ l : Lent) (at line rows : ℕ) : Type 0 where
  pub upto : at ≤ length text
  pub bytes_same : length l.bytes ≡ length l₀.bytes
  pub stamps_same : length l.stamps ≡ length l₀.stamps
  pub ops_same : length l.ops ≡ length l₀.ops
  pub accesses_same : length l.accesses ≡ length l₀.accesses
  pub room : OP_WIDTH * rows ≤ length l.ops
  pub few : line ≤ rows + 2
  pub goes_on : ending s text l at line rows ≡ lines_from s 2 (lines text) l₀

pub running_start : (s : Setting) (text : List ℕ) (l : Lent) → Running s text l l 0 2 0
running_start s text l =
    record {
      upto = omega arith;
      bytes_same = refl;
      stamps_same = refl;
      ops_same = refl;
      accesses_same = refl;
      room = omega arith;
      few = omega arith;
      goes_on = front_none (lines_from s 2 (lines text) l);
    }

pub running_turn : {s : Setting} {at line rows : ℕ} {text : List ℕ} {l : Lent} {piece : List ℕ} {step : Result ℕ Refused} (l₀ : Lent)
    → Running s text l₀ l at line rows → (t : Turn s at line rows text l piece step) (m : ℕ) → step ≡ Ok m
    → (bs : Lent) → bs ≡ line_after s (call_line piece) (part_of rows l)
    → (next : ℕ) → next ≤ length text → drop next text ≡ after 10 (drop at text)
    → Running s text l₀ (back_in rows l bs) next (line + 1) (rows + m)
running_turn l₀ r t m e bs f next upto q =
    let fits = turn_fits t m e in
    let same = turn_same t m e bs f in
    record {
      upto = upto;
      bytes_same = ap (λ (n : Lengths). n.cells) same ∙ r.bytes_same;
      stamps_same = ap (λ (n : Lengths). n.stamped) same ∙ r.stamps_same;
      ops_same = ap (λ (n : Lengths). n.ops) same ∙ r.ops_same;
      accesses_same = ap (λ (n : Lengths). n.accesses) same ∙ r.accesses_same;
      room = omega (arith, fits.1, ap (λ (n : Lengths). n.ops) same);
      few = omega (arith, fits.0, r.few);
      goes_on = turn_goes t m e bs f next q ∙ r.goes_on;
    }

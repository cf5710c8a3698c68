-- What a call leaves alone, however it is cut: bytes outside its destination, stamps outside its source and destination. Row by row: a row
-- writes its destination, if it is a Set's, and then puts its source bytes back where they stood. Assumes nothing.
use mathlib.Core.Path.{◌≡◌, refl, sym, ap, ◌∙◌}
use mathlib.Core.Logic.{inl, inr}
use mathlib.Core.Bool.{Bool, true, false, cond}
use mathlib.Core.List.{List, [], ◌∷◌}
use Prim.Native.Nat.{ℕ, ◌+◌, ◌-◌, ◌≤◌, ◌<◌}
use native.Mathlib.Omega.{arith}
use borrow.Author.Tests.{eqb-true, eqb-false}
use lib.Dec.{eqb}
use lib.ListN.{length, get_or}
use Rattle.lists.proofs.Places.{Where, below, inside, above, where_is}
use Rattle.call.specs.Calls.{Call}
use Rattle.call.specs.Cuts.{rest, CutInto}
use Rattle.call.proofs.Cuts.{first_eight, first_within, rest_cut}
use Rattle.window.specs.Window.{write_bytes, write_stamps}
use Rattle.window.proofs.WindowLaws.{length_cells, length_bytes}
use Rattle.window.proofs.SingleCells.{cells_at_lem, write_below, write_above, write_inside, stamps_below, stamps_above}
use Rattle.expansion_rows.specs.Rows.{row_with, rows_by}
use Rattle.expansion_rows.specs.Turns.{inverted, read_stamp, write_stamp, value_at, turn_bytes, turn_stamps, row_op, row_ops, pass_bytes, pass_stamps}
use Rattle.expansion_rows.specs.Held.{held_bytes, held_stamps, held_all_bytes, held_all_stamps}
use Rattle.expansion_rows.proofs.Lengths.{turn_bytes_length}
use Rattle.expansion.specs.Expansion.{deferred_by}
use Rattle.expansion.specs.Consequences.{Outside}

-- Outside a range, outside its parts

first_part : {a n i : ℕ} (w : ℕ) → w ≤ n → Outside a n i → Outside a w i
first_part w h (inl l) = inl l
first_part w h (inr l) = inr (omega arith)

last_part : {a n i : ℕ} (w : ℕ) → w ≤ n → Outside a n i → Outside (a + w) (n - w) i
last_part w h (inl l) = inl (omega arith)
last_part w h (inr l) = inr (omega arith)

-- Bytes

write_kept : (l : List ℕ) (a w : ℕ) (v : List ℕ) (i : ℕ) → w ≤ length v → Outside a w i → get_or (write_bytes l a w v) i 0 ≡ get_or l i 0
write_kept l a w v i long (inl h) = write_below l a w v long i h
write_kept l a w v i long (inr h) = write_above l a w v long i h

module _ (c : Call) (w : ℕ) (b : List ℕ) (wide : w ≤ 8) where
  value_long : w ≤ length (value_at c w b)
  value_long = omega (arith, length_cells b c.src w)

  abbrev destined : Bool → List ℕ
  destined t = cond t (write_bytes b c.dst w (value_at c w b)) b

  destined_length : (t : Bool) → length (destined t) ≡ length b
  destined_length true = length_bytes b c.dst w (value_at c w b)
  destined_length false = refl

  pub turn_kept : (i : ℕ) → i < length b → Outside c.dst w i → get_or (turn_bytes c w b) i 0 ≡ get_or b i 0
  unfolding turn_bytes
  turn_kept i h out = step (inverted c) (where_is c.src w i)
    where
      dest_kept : (t : Bool) → get_or (destined t) i 0 ≡ get_or b i 0
      dest_kept true = write_kept b c.dst w (value_at c w b) i value_long out
      dest_kept false = refl

      step : (t : Bool) → Where c.src w i → get_or (write_bytes (destined t) c.src w (value_at c w b)) i 0 ≡ get_or b i 0
      step t (below l) = write_below (destined t) c.src w (value_at c w b) value_long i l ∙ dest_kept t
      step t (above l) = write_above (destined t) c.src w (value_at c w b) value_long i l ∙ dest_kept t
      step t (inside j l e) =
          ap (λ (n : ℕ). get_or (write_bytes (destined t) c.src w (value_at c w b)) n 0) e
          ∙ write_inside (destined t) c.src w (value_at c w b) value_long j l (omega (arith, destined_length t))
          ∙ cells_at_lem b c.src w j l wide
          ∙ ap (λ (n : ℕ). get_or b n 0) (sym e)

  -- a Set's destination behind its source gets the source's bytes
  pub turn_dest : c.kind ≡ 1 → (j : ℕ) → j < w → c.dst + j < length b → c.src + w ≤ c.dst + j
      → get_or (turn_bytes c w b) (c.dst + j) 0 ≡ get_or b (c.src + j) 0
  unfolding turn_bytes
  turn_dest set j h fits past = step (inverted c) refl
    where
      step : (t : Bool) → inverted c ≡ t → get_or (write_bytes (destined t) c.src w (value_at c w b)) (c.dst + j) 0 ≡ get_or b (c.src + j) 0
      step true e =
          write_above (destined true) c.src w (value_at c w b) value_long (c.dst + j) past
          ∙ write_inside b c.dst w (value_at c w b) value_long j h fits
          ∙ cells_at_lem b c.src w j h wide
      step false e = absurd (eqb-false c.kind 1 e set)

module _ {n w : ℕ} {ws : List ℕ} (cut : CutInto n (w ∷ ws)) {a i : ℕ} (out : Outside a n i) where
  here : Outside a w i
  here = first_part w (first_within cut) out

  behind : Outside (a + w) (n - w) i
  behind = last_part w (first_within cut) out

pub pass_kept : (ws : List ℕ) (c : Call) (f : ℕ) (b : List ℕ) (i : ℕ) → CutInto c.count ws → i < length b → Outside c.dst c.count i
    → get_or (pass_bytes (rows_by c f ws) b) i 0 ≡ get_or b i 0
unfolding rows_by pass_bytes
pass_kept [] c f b i cut h out = refl
pass_kept (w ∷ ws) c f b i cut h out =
    pass_kept ws (rest c w) 0 (turn_bytes c w b) i (rest_cut cut) (omega (arith, turn_bytes_length c w b)) (behind cut out)
    ∙ turn_kept c w b (first_eight cut) i h (here cut out)

held_kept : (ws : List ℕ) (c : Call) (f : ℕ) (b d : List ℕ) (i : ℕ) → CutInto c.count ws → Outside c.dst c.count i
    → get_or (held_all_bytes (row_ops (rows_by c f ws) b) d) i 0 ≡ get_or d i 0
unfolding rows_by row_ops held_all_bytes
held_kept [] c f b d i cut out = refl
held_kept (w ∷ ws) c f b d i cut out =
    let wide = first_eight cut in
    held_kept ws (rest c w) 0 (turn_bytes c w b) (held_bytes (row_op (row_with c w f) b) d) i (rest_cut cut) (behind cut out)
    ∙ write_kept d c.dst w (value_at c w b) i (omega (arith, length_cells b c.src w)) (here cut out)

pub deferred_kept : (ws : List ℕ) (c : Call) (b d : List ℕ) (i : ℕ) → CutInto c.count ws → Outside c.dst c.count i
    → get_or (held_all_bytes (deferred_by c ws b) d) i 0 ≡ get_or d i 0
unfolding held_all_bytes
deferred_kept ws c b d i cut out = step (eqb c.kind 0)
  where
    step : (t : Bool) → get_or (held_all_bytes (cond t (row_ops (rows_by c 1 ws) b) []) d) i 0 ≡ get_or d i 0
    step true = held_kept ws c 1 b d i cut out
    step false = refl

-- Stamps

stamp_kept : (l : List ℕ) (a w t i : ℕ) → Outside a w i → get_or (write_stamps l a w t) i 0 ≡ get_or l i 0
stamp_kept l a w t i (inl h) = stamps_below l a w t i h
stamp_kept l a w t i (inr h) = stamps_above l a w t i h

turn_stamps_kept : (c : Call) (w : ℕ) (s : List ℕ) (i : ℕ) → Outside c.src w i → (c.kind ≡ 1 → Outside c.dst w i)
    → get_or (turn_stamps c w s) i 0 ≡ get_or s i 0
unfolding turn_stamps
turn_stamps_kept c w s i source dest = stamp_kept _ c.src w (read_stamp c) i source ∙ step (inverted c) refl (write_stamp c)
  where
    step : (t : Bool) → inverted c ≡ t → (n : ℕ) → get_or (cond t (write_stamps s c.dst w n) s) i 0 ≡ get_or s i 0
    step true e n = stamp_kept s c.dst w n i (dest (eqb-true c.kind 1 e))
    step false e n = refl

pub pass_stamps_kept : (ws : List ℕ) (c : Call) (f : ℕ) (s : List ℕ) (i : ℕ) → CutInto c.count ws → Outside c.src c.count i
    → (c.kind ≡ 1 → Outside c.dst c.count i) → get_or (pass_stamps (rows_by c f ws) s) i 0 ≡ get_or s i 0
unfolding rows_by pass_stamps
pass_stamps_kept [] c f s i cut source dest = refl
pass_stamps_kept (w ∷ ws) c f s i cut source dest =
    pass_stamps_kept ws (rest c w) 0 (turn_stamps c w s) i (rest_cut cut) (behind cut source) (λ set. behind cut (dest set))
    ∙ turn_stamps_kept c w s i (here cut source) (λ set. here cut (dest set))

held_stamps_kept : (ws : List ℕ) (c : Call) (f : ℕ) (b s : List ℕ) (i : ℕ) → CutInto c.count ws → Outside c.dst c.count i
    → get_or (held_all_stamps (row_ops (rows_by c f ws) b) s) i 0 ≡ get_or s i 0
unfolding rows_by row_ops held_all_stamps
held_stamps_kept [] c f b s i cut out = refl
held_stamps_kept (w ∷ ws) c f b s i cut out =
    held_stamps_kept ws (rest c w) 0 (turn_bytes c w b) (held_stamps (row_op (row_with c w f) b) s) i (rest_cut cut) (behind cut out)
    ∙ stamp_kept s c.dst w (write_stamp c) i (here cut out)

pub deferred_stamps_kept : (ws : List ℕ) (c : Call) (b s : List ℕ) (i : ℕ) → CutInto c.count ws
    → (c.kind ≡ 0 → Outside c.dst c.count i) → get_or (held_all_stamps (deferred_by c ws b) s) i 0 ≡ get_or s i 0
unfolding held_all_stamps
deferred_stamps_kept ws c b s i cut out = step (eqb c.kind 0) refl
  where
    step : (t : Bool) → eqb c.kind 0 ≡ t → get_or (held_all_stamps (cond t (row_ops (rows_by c 1 ws) b) []) s) i 0 ≡ get_or s i 0
    step true e = held_stamps_kept ws c 1 b s i cut (out (eqb-true c.kind 0 e))
    step false e = refl

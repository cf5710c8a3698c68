-- The bytes that a Set moves, however it is cut. Before the row that starts at byte r, a cell behind src + r holds what an earlier row has moved there, if
-- one has, and else what it held before the call; a row that reads such cells moves them on by the gap. Assumes nothing.
use mathlib.Core.Path.{◌≡◌, refl, sym, ap, ◌∙◌, subst}
use mathlib.Core.Logic.{inl, inr}
use mathlib.Core.Bool.{Bool, true, false, cond, ◌&&◌}
use mathlib.Core.List.{List, [], ◌∷◌, ◌++◌, flat_map, append_assoc}
use Prim.Native.Nat.{ℕ, ◌+◌, ◌-◌, ◌≤◌, ◌<◌}
use native.Mathlib.Nat.{zero-add}
use native.Mathlib.Omega.{arith}
use borrow.Author.Tests.{lt-ltb, le-ltb, ltb-true, ltb-false, le-leb, lt-leb, leb-true, leb-false}
use lib.Dec.{leb, ltb}
use lib.ListN.{length, take, get_or, length-append, get_or-append}
use lib.Seq.{get_or-append-add, get_or-take, length-take-le}
use Rattle.lists.proofs.Places.{Where, below, inside, above, where_is}
use Rattle.call.specs.Calls.{Call, Op}
use Rattle.call.specs.Cuts.{rest, CutInto}
use Rattle.call.proofs.Cuts.{nothing_cut, first_eight, first_within, rest_cut}
use Rattle.window.proofs.WindowLaws.{length_cells}
use Rattle.window.proofs.SingleCells.{cells_at_lem}
use Rattle.expansion_rows.specs.Rows.{Row, rows_by}
use Rattle.expansion_rows.specs.Turns.{value_at, turn_bytes, row_ops, pass_bytes}
use Rattle.expansion_rows.proofs.Lengths.{turn_bytes_length}
use Rattle.expansion.specs.Consequences.{Outside, place_in}
use Rattle.expansion.proofs.Kept.{turn_kept, turn_dest, pass_kept}

-- the bytes that rows move, joined
abbrev moved : List Row → List ℕ → List ℕ
moved rs b = flat_map (λ (o : Op). take o.piece.width o.piece.value) (row_ops rs b)

-- those of one row
abbrev run : Call → ℕ → List ℕ → List ℕ
run c w b = take w (value_at c w b)

run_length : (c : Call) (w : ℕ) (b : List ℕ) → w ≤ 8 → length (run c w b) ≡ w
run_length c w b wide = length-take-le w _ (omega (arith, length_cells b c.src w))

run_at : (c : Call) (w : ℕ) (b : List ℕ) (j : ℕ) → w ≤ 8 → j < w → get_or (run c w b) j 0 ≡ get_or b (c.src + j) 0
run_at c w b j wide h = get_or-take w _ j 0 h ∙ cells_at_lem b c.src w j h wide

-- Choices between what was moved and what stood there

-- what stands at byte y once r bytes were moved, if `stood` stood there before the call
abbrev byte_now : ℕ → ℕ → List ℕ → ℕ → ℕ → ℕ
byte_now g r done y stood = cond (leb g y && ltb (y - g) r) (get_or done (y - g) 0) stood

-- a byte that was moved
byte_moved : (g r : ℕ) (done : List ℕ) (y stood : ℕ) → g ≤ y → y - g < r → byte_now g r done y stood ≡ get_or done (y - g) 0
byte_moved g r done y stood h k = rw (le-leb g y h, lt-ltb (y - g) r k)

-- a byte that was not, for want of distance or of rows
byte_near : (g r : ℕ) (done : List ℕ) (y stood : ℕ) → y < g → byte_now g r done y stood ≡ stood
byte_near g r done y stood h = rw (lt-leb g y h)

byte_far : (g r : ℕ) (done : List ℕ) (y stood : ℕ) → g ≤ y → r ≤ y - g → byte_now g r done y stood ≡ stood
byte_far g r done y stood h k = rw (le-leb g y h, le-ltb (y - g) r k)

-- V at byte n, p being its place in its row, all that is moved being l
abbrev Says : List ℕ → ℕ → ℕ → List ℕ → ℕ → ℕ → Type 0
Says b₀ g s l n p = get_or l n 0 ≡ cond (leb g n && ltb p g) (get_or l (n - g) 0) (get_or b₀ (s + n) 0)

-- byte x in a row of width w, or behind it
by_row : (b₀ : List ℕ) (g s : ℕ) (done row more : List ℕ) (r w x p : ℕ) (t : Bool) → ltb x w ≡ t
    → (x < w → Says b₀ g s (done ++ (row ++ more)) (r + x) x)
    → (w ≤ x → Says b₀ g s ((done ++ row) ++ more) (r + w + (x - w)) p)
    → Says b₀ g s (done ++ (row ++ more)) (r + x) (cond t x p)
by_row b₀ g s done row more r w x p true e here there = here (ltb-true x w e)
by_row b₀ g s done row more r w x p false e here there =
    let l : w ≤ x = ltb-false x w e in
    let n : r + w + (x - w) ≡ r + x = omega arith in
    subst (λ (k : ℕ). Says b₀ g s (done ++ (row ++ more)) k p) n
    (subst (λ (k : List ℕ). Says b₀ g s k (r + w + (x - w)) p) (append_assoc done row more) (there l))

-- The bytes behind the row

-- b before the row at r of a Set that started at s, on bytes b₀, and has moved `done`
abbrev Before : List ℕ → List ℕ → ℕ → ℕ → ℕ → List ℕ → Type 0
Before b₀ b g s r done = (y : ℕ) → r ≤ y → s + y < length b → get_or b (s + y) 0 ≡ byte_now g r done y (get_or b₀ (s + y) 0)

module _
    (c : Call) (w : ℕ) (b₀ b : List ℕ) (g s r : ℕ) (done : List ℕ) (set : c.kind ≡ 1) (wide : w ≤ 8) (src : c.src ≡ s + r)
    (apart : c.dst ≡ c.src + g) (long : length done ≡ r) (before : Before b₀ b g s r done) where
  before_next : Before b₀ (turn_bytes c w b) g s (r + w) (done ++ run c w b)
  before_next y h fits = step (where_is c.dst w (s + y)) (leb g y) refl
    where
      fits_b : s + y < length b
      fits_b = omega (arith, turn_bytes_length c w b)

      earlier : (n : ℕ) → n < r → get_or (done ++ run c w b) n 0 ≡ get_or done n 0
      earlier n l = get_or-append done (run c w b) 0 n (omega arith)

      kept : Outside c.dst w (s + y) → get_or (turn_bytes c w b) (s + y) 0 ≡ byte_now g r done y (get_or b₀ (s + y) 0)
      kept out = turn_kept c w b wide (s + y) fits_b out ∙ before y (omega arith) fits_b

      step : Where c.dst w (s + y) → (t : Bool) → leb g y ≡ t
          → get_or (turn_bytes c w b) (s + y) 0 ≡ byte_now g (r + w) (done ++ run c w b) y (get_or b₀ (s + y) 0)
      step (below l) true e =
          let up : g ≤ y = leb-true g y e in
          kept (inl l)
          ∙ byte_moved g r done y _ up (omega arith)
          ∙ sym (earlier (y - g) (omega arith))
          ∙ sym (byte_moved g (r + w) (done ++ run c w b) y _ up (omega arith))
      step (below l) false e =
          let near : y < g = leb-false g y e in
          kept (inl l) ∙ byte_near g r done y _ near ∙ sym (byte_near g (r + w) (done ++ run c w b) y _ near)
      step (above l) t e =
          let up : g ≤ y = omega arith in
          kept (inr l)
          ∙ byte_far g r done y _ up (omega arith)
          ∙ sym (byte_far g (r + w) (done ++ run c w b) y _ up (omega arith))
      step (inside j l q) t e =
          let up : g ≤ y = omega arith in
          let place : length done + j ≡ y - g = omega arith in
          ap (λ (n : ℕ). get_or (turn_bytes c w b) n 0) q
          ∙ turn_dest c w b wide set j l (omega (arith, fits_b)) (omega arith)
          ∙ sym (run_at c w b j wide l)
          ∙ sym (get_or-append-add done (run c w b) j 0)
          ∙ ap (λ (n : ℕ). get_or (done ++ run c w b) n 0) place
          ∙ sym (byte_moved g (r + w) (done ++ run c w b) y _ up (omega arith))

  -- byte x of the row at r, all that is moved being `done`, the row and `more`
  row_byte : (more : List ℕ) (x : ℕ) → x < w → s + (r + x) < length b → Says b₀ g s (done ++ (run c w b ++ more)) (r + x) x
  row_byte more x h fits = here ∙ step (leb g (r + x)) (ltb x g) refl refl
    where
      here : get_or (done ++ (run c w b ++ more)) (r + x) 0 ≡ byte_now g r done (r + x) (get_or b₀ (s + (r + x)) 0)
      here =
          let e : r + x ≡ length done + x = omega arith in
          let q : c.src + x ≡ s + (r + x) = omega arith in
          ap (λ (n : ℕ). get_or (done ++ (run c w b ++ more)) n 0) e
          ∙ get_or-append-add done (run c w b ++ more) x 0
          ∙ get_or-append (run c w b) more 0 x (omega (arith, run_length c w b wide))
          ∙ run_at c w b x wide h
          ∙ ap (λ (n : ℕ). get_or b n 0) q
          ∙ before (r + x) (omega arith) fits

      step : (t u : Bool) → leb g (r + x) ≡ t → ltb x g ≡ u
          → byte_now g r done (r + x) (get_or b₀ (s + (r + x)) 0)
          ≡ cond (leb g (r + x) && ltb x g) (get_or (done ++ (run c w b ++ more)) (r + x - g) 0) (get_or b₀ (s + (r + x)) 0)
      step false u e f = byte_near g r done (r + x) _ (leb-false g (r + x) e) ∙ rw e
      step true true e f =
          let up : g ≤ r + x = leb-true g (r + x) e in
          let l : x < g = ltb-true x g f in
          byte_moved g r done (r + x) _ up (omega arith)
          ∙ sym (get_or-append done (run c w b ++ more) 0 (r + x - g) (omega arith))
          ∙ rw (e, f)
      step true false e f =
          let up : g ≤ r + x = leb-true g (r + x) e in
          let l : g ≤ x = ltb-false x g f in
          byte_far g r done (r + x) _ up (omega arith) ∙ rw (e, f)

-- Row by row

pub moves_from : (ws : List ℕ) (c : Call) (f : ℕ) (b₀ b : List ℕ) (g s r : ℕ) (done : List ℕ) → CutInto c.count ws → c.kind ≡ 1
    → c.src ≡ s + r → c.dst ≡ c.src + g → length done ≡ r → (0 < c.count → c.dst + c.count ≤ length b) → Before b₀ b g s r done
    → (x : ℕ) → x < c.count → Says b₀ g s (done ++ moved (rows_by c f ws) b) (r + x) (place_in ws x)
unfolding rows_by row_ops flat_map
moves_from [] c f b₀ b g s r done cut set src apart long fits before x h = absurd (omega (arith, nothing_cut cut))
moves_from (w ∷ ws) c f b₀ b g s r done cut set src apart long fits before x h =
    let within : w ≤ c.count = first_within cut in
    let wide : w ≤ 8 = first_eight cut in
    let b₁ = turn_bytes c w b in
    let more = moved (rows_by (rest c w) 0 ws) b₁ in
    let room = fits (omega arith) in
    let next = before_next c w b₀ b g s r done set wide src apart long before in
    let long₁ : length (done ++ run c w b) ≡ r + w = length-append done (run c w b) ∙ omega (arith, run_length c w b wide) in
    let here : x < w → Says b₀ g s (done ++ (run c w b ++ more)) (r + x) x =
    λ l. row_byte c w b₀ b g s r done set wide src apart long before more x l (omega arith) in
    let there : w ≤ x → Says b₀ g s ((done ++ run c w b) ++ more) (r + w + (x - w)) (place_in ws (x - w)) =
    λ l.
    moves_from ws (rest c w) 0 b₀ b₁ g s (r + w) (done ++ run c w b) (rest_cut cut) set (omega arith) (omega arith) long₁
    (λ q. omega (arith, turn_bytes_length c w b)) next (x - w) (omega arith) in
    by_row b₀ g s done (run c w b) more r w x (place_in ws (x - w)) (ltb x w) refl here there

-- from the first row on
pub moves_all : (ws : List ℕ) (c : Call) (b : List ℕ) (g : ℕ) → CutInto c.count ws → c.kind ≡ 1 → c.dst ≡ c.src + g
    → (0 < c.count → c.dst + c.count ≤ length b)
    → (x : ℕ) → x < c.count → Says b g c.src (moved (rows_by c 1 ws) b) x (place_in ws x)
moves_all ws c b g cut set apart fits x h =
    subst (λ (n : ℕ). Says b g c.src (moved (rows_by c 1 ws) b) n (place_in ws x)) (zero-add x)
    (moves_from ws c 1 b b g c.src 0 [] cut set (omega arith) apart refl fits start x h)
  where
    start : Before b b g c.src 0 []
    start y up fits = step (leb g y) refl
      where
        step : (t : Bool) → leb g y ≡ t → get_or b (c.src + y) 0 ≡ byte_now g 0 [] y (get_or b (c.src + y) 0)
        step true e = sym (byte_far g 0 [] y _ (leb-true g y e) (omega arith))
        step false e = sym (byte_near g 0 [] y _ (leb-false g y e))

-- Gaps of 8 and more: no row reaches back over the gap

pub fills : (ws : List ℕ) (c : Call) (f : ℕ) (b : List ℕ) (g : ℕ) → CutInto c.count ws → c.kind ≡ 1 → c.dst ≡ c.src + g → 8 ≤ g
    → (0 < c.count → c.dst + c.count ≤ length b) → (x : ℕ) → x < c.count
    → get_or (pass_bytes (rows_by c f ws) b) (c.dst + x) 0 ≡ get_or (pass_bytes (rows_by c f ws) b) (c.src + x) 0
unfolding rows_by pass_bytes
fills [] c f b g cut set apart far fits x h = absurd (omega (arith, nothing_cut cut))
fills (w ∷ ws) c f b g cut set apart far fits x h =
    let within : w ≤ c.count = first_within cut in
    let wide : w ≤ 8 = first_eight cut in
    let room = fits (omega arith) in
    let b₁ = turn_bytes c w b in
    let same : length b₁ ≡ length b = turn_bytes_length c w b in
    let after = pass_bytes (rows_by (rest c w) 0 ws) b₁ in
    let kept : (i : ℕ) → i < c.dst + w → i < length b → get_or after i 0 ≡ get_or b₁ i 0 =
    λ i l m. pass_kept ws (rest c w) 0 b₁ i (rest_cut cut) (omega arith) (inl l) in
    let here : x < w → get_or after (c.dst + x) 0 ≡ get_or after (c.src + x) 0 =
    λ l.
    kept (c.dst + x) (omega arith) (omega arith)
    ∙ turn_dest c w b wide set x l (omega arith) (omega arith)
    ∙ sym (turn_kept c w b wide (c.src + x) (omega arith) (inl (omega arith)))
    ∙ sym (kept (c.src + x) (omega arith) (omega arith)) in
    let there : w ≤ x → get_or after (c.dst + w + (x - w)) 0 ≡ get_or after (c.src + w + (x - w)) 0 =
    λ l. fills ws (rest c w) 0 b₁ g (rest_cut cut) set (omega arith) far (λ q. omega arith) (x - w) (omega arith) in
    split after c.dst c.src w x (ltb x w) refl here there
  where
    split : (l : List ℕ) (d s w x : ℕ) (t : Bool) → ltb x w ≡ t → (x < w → get_or l (d + x) 0 ≡ get_or l (s + x) 0)
        → (w ≤ x → get_or l (d + w + (x - w)) 0 ≡ get_or l (s + w + (x - w)) 0) → get_or l (d + x) 0 ≡ get_or l (s + x) 0
    split l d s w x true e here there = here (ltb-true x w e)
    split l d s w x false e here there =
        let up : w ≤ x = ltb-false x w e in
        let p : d + x ≡ d + w + (x - w) = omega arith in
        let q : s + w + (x - w) ≡ s + x = omega arith in
        ap (λ (n : ℕ). get_or l n 0) p ∙ there up ∙ ap (λ (n : ℕ). get_or l n 0) q

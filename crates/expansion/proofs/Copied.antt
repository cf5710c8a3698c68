-- The bytes that a Copy and a Write leave, however they are cut. Their reads change no byte, so a Copy's rows hold what the source held
-- before the call, and writing them one behind the other writes all of it. Assumes nothing.
use mathlib.Core.Path.{◌≡◌, refl, sym, ap, ◌∙◌}
use mathlib.Core.List.{List, [], ◌∷◌, ◌++◌}
use Prim.Native.Nat.{ℕ, ◌+◌, ◌-◌, ◌≤◌, ◌<◌}
use native.Mathlib.Omega.{arith}
use lib.ListN.{length, take, drop}
use lib.Seq.{take-add, drop-drop}
use Rattle.lists.specs.Lists.{store}
use Rattle.lists.proofs.Store.{store_none, store_append, run_length}
use Rattle.call.specs.Calls.{Call}
use Rattle.call.specs.Cuts.{rest, CutInto}
use Rattle.call.proofs.Cuts.{nothing_cut, first_pos, first_eight, first_within, rest_cut}
use Rattle.window.specs.Window.{write_bytes}
use Rattle.window.proofs.WindowLaws.{cells_run}
use Rattle.expansion_rows.specs.Rows.{row_with, rows_by}
use Rattle.expansion_rows.specs.Turns.{turn_bytes, row_op, row_ops, pass_bytes}
use Rattle.expansion_rows.specs.Held.{held_bytes, held_all_bytes}
use Rattle.expansion_rows.proofs.OneTurn.{read_bytes}

-- the source lies in the window, if there is one
abbrev pub SourceIn : Call → List ℕ → Type 0
SourceIn c b = 0 < c.count → c.src + c.count ≤ length b

-- the first row of some
module _ (c : Call) (b : List ℕ) {w : ℕ} {ws : List ℕ} (cut : CutInto c.count (w ∷ ws)) (source : SourceIn c b) where
  first_in : c.src + w ≤ length b
  first_in = let some = first_pos cut in let within = first_within cut in omega (arith, source (omega arith))

  turn_same : (c.kind ≡ 1 → ⊥) → turn_bytes c w b ≡ b
  turn_same other = read_bytes c w b [] other (first_eight cut) first_in

  rest_in : SourceIn (rest c w) b
  rest_in more = let within = first_within cut in omega (arith, source (omega arith))

-- a pass of reads alone changes no byte
pub pass_same : (ws : List ℕ) (c : Call) (f : ℕ) (b : List ℕ) → CutInto c.count ws → (c.kind ≡ 1 → ⊥) → SourceIn c b
    → pass_bytes (rows_by c f ws) b ≡ b
unfolding rows_by pass_bytes
pass_same [] c f b cut other source = refl
pass_same (w ∷ ws) c f b cut other source =
    ap (pass_bytes (rows_by (rest c w) 0 ws)) (turn_same c b cut source other)
    ∙ pass_same ws (rest c w) 0 b (rest_cut cut) other (rest_in c b cut source)

-- the deferred writes of a Copy, into d
pub held_copy : (ws : List ℕ) (c : Call) (f : ℕ) (b d : List ℕ) → CutInto c.count ws → c.kind ≡ 0 → SourceIn c b
    → held_all_bytes (row_ops (rows_by c f ws) b) d ≡ store d c.dst (take c.count (drop c.src b))
unfolding rows_by row_ops held_all_bytes write_bytes
held_copy [] c f b d cut copy source =
    sym (store_none d c.dst) ∙ sym (ap (λ (n : ℕ). store d c.dst (take n (drop c.src b))) (nothing_cut cut))
held_copy (w ∷ ws) c f b d cut copy source =
    let within : w ≤ c.count = first_within cut in
    let fits = first_in c b cut source in
    let run = take w (drop c.src b) in
    let more = take (c.count - w) (drop (c.src + w) b) in
    let d₁ = held_bytes (row_op (row_with c w f) b) d in
    let n : length run ≡ w = run_length b c.src w fits in
    let z : c.dst + w ≡ c.dst + length run = omega arith in
    let k : w + (c.count - w) ≡ c.count = omega arith in
    ap (λ (l : List ℕ). held_all_bytes (row_ops (rows_by (rest c w) 0 ws) l) d₁) (turn_same c b cut source (λ q. omega arith))
    ∙ held_copy ws (rest c w) 0 b d₁ (rest_cut cut) copy (rest_in c b cut source)
    ∙ ap (λ (v : List ℕ). store (store d c.dst v) (c.dst + w) more) (cells_run b c.src w (first_eight cut) fits)
    ∙ ap (λ (i : ℕ). store (store d c.dst run) i more) z
    ∙ sym (store_append d c.dst run more)
    ∙ ap (λ (l : List ℕ). store d c.dst (run ++ take (c.count - w) l)) (sym (drop-drop w c.src b))
    ∙ ap (λ (l : List ℕ). store d c.dst l) (sym (take-add w (c.count - w) (drop c.src b)))
    ∙ ap (λ (i : ℕ). store d c.dst (take i (drop c.src b))) k

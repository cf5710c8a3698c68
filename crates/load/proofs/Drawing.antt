-- What one step and four draws give, and that draws from a state on are those from an earlier one, later: so the draws from the state
-- before call k make call k. Assumes nothing.
use mathlib.Core.Path.{◌≡◌, refl, sym, ap, ◌∙◌}
use mathlib.Core.Bool.{Bool, true, false, cond}
use mathlib.Core.List.{[], ◌∷◌}
use Prim.Native.Nat.{ℕ, zero, suc, ◌+◌, ◌*◌, ◌/◌, ◌%◌, ◌^◌, ◌≤◌}
use native.Mathlib.Nat.{add-zero, mod-add-mod}
use native.Mathlib.Omega.{arith}
use lib.Dec.{eqb}
use Rattle.call.specs.Flat.{handed_numbers}
use Rattle.load.specs.Load.{stepped, state_after, draw, kind_drawn, count_drawn, src_drawn, dst_drawn, indexed, index_at, replaced, load_call}
use Rattle.load.specs.Inner.{stepped_by, drawn_call}
use Rattle.load.specs.declared.draws.Load.{Load}

-- One step

pub stepped_once : (s : ℕ) → (s * 6364136223846793005 % 2 ^ 64 + 1442695040888963407) % 2 ^ 64 ≡ state_after s 1
unfolding state_after stepped
stepped_once s = mod-add-mod _ _ _

pub drawn_once : (s next : ℕ) → next ≡ state_after s 1 → next / 2 ^ 32 ≡ draw s 0
unfolding draw
drawn_once s next e = ap (λ x. x / 2 ^ 32) e

-- More steps

-- n steps, and m more
state_more : (s n m : ℕ) → state_after (state_after s n) m ≡ state_after s (n + m)
unfolding state_after
state_more s n zero = ap (state_after s) (sym (add-zero n))
state_more s n (suc m) =
    let e : suc (n + m) ≡ n + suc m = omega arith in
    ap stepped (state_more s n m) ∙ ap (state_after s) e

draw_more : (s n m : ℕ) → draw (state_after s n) m ≡ draw s (n + m)
unfolding draw
draw_more s n m =
    let e : n + (m + 1) ≡ n + m + 1 = omega arith in
    ap (λ x. x / 2 ^ 32) (state_more s n (m + 1) ∙ ap (state_after s) e)

-- one step and one draw from the state that n steps led to
step_at : (s n state : ℕ) → state ≡ state_after s n → state_after state 1 ≡ state_after s (n + 1)
step_at s n state e = ap (λ x. state_after x 1) e ∙ state_more s n 1

draw_at : (s n state : ℕ) → state ≡ state_after s n → draw state 0 ≡ draw s n
draw_at s n state e = ap (λ x. draw x 0) e ∙ draw_more s n 0 ∙ ap (draw s) (add-zero n)

-- The four draws of a call, `l` being the load before them, and `l₁` to `l₄` the loads after each

module _ (stamp kind count src dst : ℕ) (l l₁ l₂ l₃ l₄ : Load)
    (k : kind ≡ draw l.state 0 % 3) (e₁ : l₁ ≡ stepped_by l 1) (n : count ≡ draw l₁.state 0 % 33) (e₂ : l₂ ≡ stepped_by l₁ 1)
    (r : src ≡ draw l₂.state 0 % 900) (e₃ : l₃ ≡ stepped_by l₂ 1) (d : dst ≡ draw l₃.state 0 % 900) (e₄ : l₄ ≡ stepped_by l₃ 1) where
  after_kind : l₁.state ≡ state_after l.state 1
  after_kind = ap (λ (x : Load). x.state) e₁

  after_count : l₂.state ≡ state_after l.state 2
  after_count = ap (λ (x : Load). x.state) e₂ ∙ step_at l.state 1 l₁.state after_kind

  after_src : l₃.state ≡ state_after l.state 3
  after_src = ap (λ (x : Load). x.state) e₃ ∙ step_at l.state 2 l₂.state after_count

  pub after_dst : l₄.state ≡ state_after l.state 4
  after_dst = ap (λ (x : Load). x.state) e₄ ∙ step_at l.state 3 l₃.state after_src

  -- a draw leaves the index as it is
  pub same_index : l₄.index ≡ l.index
  same_index = cc

  is_count : count ≡ count_drawn l.state 0
  is_count = n ∙ ap (λ x. x % 33) (draw_at l.state 1 l₁.state after_kind)

  is_src : src ≡ src_drawn l.state 0
  is_src = r ∙ ap (λ x. x % 900) (draw_at l.state 2 l₂.state after_count)

  is_dst : dst ≡ dst_drawn l.state 0
  is_dst = d ∙ ap (λ x. x % 900) (draw_at l.state 3 l₃.state after_src)

  pub call_numbers_lem : kind ∷ stamp ∷ src ∷ replaced kind src dst l.index ∷ count ∷ [] ≡ handed_numbers (drawn_call l.state l.index stamp)
  call_numbers_lem = λ i. k i ∷ stamp ∷ is_src i ∷ replaced (k i) (is_src i) (is_dst i) l.index ∷ is_count i ∷ []

  pub call_indexed : indexed kind count ≡ indexed (kind_drawn l.state 0) (count_drawn l.state 0)
  call_indexed = λ i. indexed (k i) (is_count i)

-- Call k

-- the state before the next call
pub state_next : (s k : ℕ) → state_after (state_after s (4 * k)) 4 ≡ state_after s (4 * (k + 1))
state_next s k =
    let e : 4 * k + 4 ≡ 4 * (k + 1) = omega arith in
    state_more s (4 * k) 4 ∙ ap (state_after s) e

module _ (s k : ℕ) where
  abbrev before : ℕ
  before = state_after s (4 * k)

  kind_same : kind_drawn before 0 ≡ kind_drawn s k
  kind_same = ap (λ x. x % 3) (draw_at s (4 * k) before refl)

  count_same : count_drawn before 0 ≡ count_drawn s k
  count_same = ap (λ x. x % 33) (draw_more s (4 * k) 1)

  src_same : src_drawn before 0 ≡ src_drawn s k
  src_same = ap (λ x. x % 900) (draw_more s (4 * k) 2)

  dst_same : dst_drawn before 0 ≡ dst_drawn s k
  dst_same = ap (λ x. x % 900) (draw_more s (4 * k) 3)

  pub call_drawn : drawn_call before (index_at s k) (4 * k) ≡ load_call s k
  unfolding load_call
  call_drawn =
      λ i. record {
        kind = kind_same i;
        stamp = 4 * k;
        src = src_same i;
        dst = replaced (kind_same i) (src_same i) (dst_same i) (index_at s k);
        count = count_same i;
      }

  pub index_next : index_at s k + indexed (kind_drawn before 0) (count_drawn before 0) ≡ index_at s (k + 1)
  unfolding index_at
  index_next =
      let e : suc k ≡ k + 1 = omega arith in
      (λ i. index_at s k + indexed (kind_same i) (count_same i)) ∙ ap (index_at s) e

-- How large they are

pub indexed_small : (kind count : ℕ) → count ≤ 32 → indexed kind count ≤ 32
indexed_small kind count h = step (eqb kind 2)
  where
    step : (b : Bool) → cond b count 0 ≤ 32
    step true = h
    step false = omega arith

pub index_small : (s k : ℕ) → index_at s k ≤ 32 * k
unfolding index_at
index_small s zero = omega arith
index_small s (suc k) = omega (arith, index_small s k, indexed_small (kind_drawn s k) (count_drawn s k) (omega arith))

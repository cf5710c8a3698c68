-- The widths that the rule gives, behind three laws: where nothing remains there is none, else there is one and those of the rest, and
-- all of them are a cut of the call. Nothing after them looks at how many rows are allowed. Assumes nothing.
use mathlib.Core.Path.{◌≡◌, refl, sym, ap, ◌∙◌, subst}
use mathlib.Core.Bool.{Bool, true, false, cond}
use mathlib.Core.List.{List, [], ◌∷◌}
use Prim.Native.Nat.{ℕ, zero, suc, ◌+◌, ◌-◌, ◌≤◌, ◌<◌}
use native.Mathlib.Omega.{arith}
use lib.Dec.{eqb}
use lib.ListN.{length}
use borrow.Author.Tests.{eq-eqb, ne_eqb, eqb-true, eqb-false}
use Rattle.call.specs.Calls.{Call}
use Rattle.call.specs.Cuts.{rest, CutInto}
use Rattle.call.proofs.Cuts.{width_pos}
use Rattle.expansion_rows.specs.Rows.{copy_row_width, widths_within, widths_of}
use Rattle.expansion_rows.proofs.Width.{width_cases, width_within}

rule_pos : (c : Call) → 0 < copy_row_width c
rule_pos c = width_pos (width_cases c)

within_none : (n : ℕ) (c : Call) → c.count ≡ 0 → widths_within n c ≡ []
unfolding widths_within
within_none zero c e = refl
within_none (suc n) c e = rw (eq-eqb c.count 0 e)

within_more : (n : ℕ) (c : Call) → 0 < c.count → widths_within (suc n) c ≡ copy_row_width c ∷ widths_within n (rest c (copy_row_width c))
unfolding widths_within
within_more n c h = rw (ne_eqb c.count 0 (λ q. omega arith))

-- more rows allowed than bytes remain change nothing
enough : (g h : ℕ) (c : Call) → c.count ≤ g → c.count ≤ h → widths_within g c ≡ widths_within h c
enough zero h c p q = within_none zero c (omega arith) ∙ sym (within_none h c (omega arith))
enough (suc g) zero c p q = within_none (suc g) c (omega arith) ∙ sym (within_none zero c (omega arith))
enough (suc g) (suc h) c p q =
    let pos : 0 < copy_row_width c = rule_pos c in
    step c.count refl (enough g h (rest c (copy_row_width c)) (omega arith) (omega arith))
  where
    step : (n : ℕ) → c.count ≡ n → widths_within g (rest c (copy_row_width c)) ≡ widths_within h (rest c (copy_row_width c))
        → widths_within (suc g) c ≡ widths_within (suc h) c
    step zero e same = within_none (suc g) c e ∙ sym (within_none (suc h) c e)
    step (suc n) e same =
        within_more g c (omega arith)
        ∙ ap (λ (ws : List ℕ). copy_row_width c ∷ ws) same
        ∙ sym (within_more h c (omega arith))

-- The three laws

pub widths_none : (c : Call) → c.count ≡ 0 → widths_of c ≡ []
unfolding widths_of
widths_none c e = within_none c.count c e

-- the width as the code has it, a number that is the rule's
pub widths_next : (c : Call) (w : ℕ) → w ≡ copy_row_width c → 0 < c.count → widths_of c ≡ w ∷ widths_of (rest c w)
unfolding widths_of
widths_next c w e h = step c.count refl
  where
    step : (n : ℕ) → c.count ≡ n → widths_within c.count c ≡ w ∷ widths_within (c.count - w) (rest c w)
    step zero q = absurd (omega arith)
    step (suc n) q =
        let pos : 0 < copy_row_width c = rule_pos c in
        ap (λ (k : ℕ). widths_within k c) q
        ∙ within_more n c h
        ∙ ap (λ (x : ℕ). x ∷ widths_within n (rest c x)) (sym e)
        ∙ ap (λ (ws : List ℕ). w ∷ ws) (enough n (c.count - w) (rest c w) (omega arith) (omega arith))

cut_within : (n : ℕ) (c : Call) → c.count ≤ n → CutInto c.count (widths_within n c)
unfolding widths_within
cut_within zero c h = record { wide = tt; sums = omega arith }
cut_within (suc n) c h =
    step (eqb c.count 0) refl (cut_within n (rest c (copy_row_width c)) (omega (arith, rule_pos c)))
  where
    step : (b : Bool) → eqb c.count 0 ≡ b
        → CutInto (c.count - copy_row_width c) (widths_within n (rest c (copy_row_width c)))
        → CutInto c.count (cond b [] (copy_row_width c ∷ widths_within n (rest c (copy_row_width c))))
    step true e later = record { wide = tt; sums = sym (eqb-true c.count 0 e) }
    step false e later =
        let some : 0 < c.count = omega (arith, eqb-false c.count 0 e) in
        record { wide = (width_cases c, later.wide); sums = omega (arith, width_within c some, later.sums) }

pub widths_cut : (c : Call) → CutInto c.count (widths_of c)
unfolding widths_of
widths_cut c = cut_within c.count c (omega arith)

-- The loop that counts: n rows are counted, and c remains of c₀

pub record RowCountAt (c₀ c : Call) (n : ℕ) : Type 0 where
  pub rows : n + length (widths_of c) ≡ length (widths_of c₀)
  pub bytes : n + c.count ≤ c₀.count
  pub src_end : c.src + c.count ≡ c₀.src + c₀.count
  pub dst_end : c.dst + c.count ≡ c₀.dst + c₀.count

pub row_count_start : (c₀ : Call) → RowCountAt c₀ c₀ 0
row_count_start c₀ = record { rows = omega arith; bytes = omega arith; src_end = refl; dst_end = refl }

pub row_count_turn : (c₀ c c' : Call) (w n : ℕ) → w ≡ copy_row_width c → 0 < c.count → c' ≡ rest c w → RowCountAt c₀ c n → RowCountAt c₀ c' (n + 1)
row_count_turn c₀ c c' w n e h q at =
    let pos : 0 < w = omega (arith, rule_pos c) in
    let within : w ≤ c.count = omega (arith, width_within c h) in
    let more = ap (λ (ws : List ℕ). length ws) (widths_next c w e h) in
    subst (λ (x : Call). RowCountAt c₀ x (n + 1)) (sym q)
    record {
      rows = omega (arith, at.rows);
      bytes = omega (arith, at.bytes);
      src_end = omega (arith, at.src_end);
      dst_end = omega (arith, at.dst_end);
    }

pub row_count_end : (c₀ c : Call) (n : ℕ) → c.count ≡ 0 → RowCountAt c₀ c n → n ≡ length (widths_of c₀)
row_count_end c₀ c n e at = omega (arith, at.rows, ap (λ (ws : List ℕ). length ws) (widths_none c e))

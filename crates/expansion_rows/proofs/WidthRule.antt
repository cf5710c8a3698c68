-- The rule that is computed is the one of document 02's words. Assumes nothing.
use mathlib.Core.Path.{◌≡◌, refl}
use mathlib.Core.Logic.{inl, inr}
use mathlib.Core.Bool.{Bool, true, false, cond, ◌&&◌, ◌||◌, true≢false}
use Prim.Native.Nat.{ℕ, ◌/◌}
use native.Mathlib.Omega.{arith}
use borrow.Author.Tests.{leb-true, le-leb, eqb-true, eqb-false, ne_eqb}
use lib.Dec.{leb, eqb}
use Rattle.call.specs.Calls.{Call}
use Rattle.call.specs.Cuts.{OneOrEight}
use Rattle.expansion_rows.specs.Rows.{PAGE, last_byte, one_page, copy_row_width}
use Rattle.expansion_rows.specs.WidthRule.{BothSides, Wide, WidthRule, WidthCases}
use Rattle.expansion_rows.proofs.Width.{width_cases}
use Rattle.expansion_rows.proofs.Widths.{widths_none, widths_next}
use Rattle.expansion_rows.proofs.Computing.{computing}

-- Eight bytes in one page

pub one_side : (a : ℕ) → one_page a ≡ true → BothSides a → ⊥
one_side a e (k, below, reached) = omega (arith, eqb-true (a / PAGE) (last_byte a / PAGE) e)

one_page_lem : (a : ℕ) → (BothSides a → ⊥) → one_page a ≡ true
one_page_lem a apart = step (one_page a) refl
  where
    step : (b : Bool) → one_page a ≡ b → b ≡ true
    step true e = refl
    step false e =
        let other = eqb-false (a / PAGE) (last_byte a / PAGE) e in
        absurd (apart (last_byte a / PAGE, omega (arith, other), omega arith))

-- The tests of a wide row

tests : (remain source write dest : Bool) → ◌≡◌ {A = ℕ} (cond (remain && (source && (write || dest))) 8 1) 8
    → (remain ≡ true) × (source ≡ true) × (write ≡ false → dest ≡ true)
tests true true true dest e = (refl, refl, λ q. absurd (true≢false q))
tests true true false true e = (refl, refl, λ q. refl)
tests true true false false e = absurd (omega arith)
tests true false write dest e = absurd (omega arith)
tests false source write dest e = absurd (omega arith)

module _ (c : Call) where
  eight_is : copy_row_width c ≡ 8 → Wide c
  unfolding copy_row_width
  eight_is e =
      let all = tests (leb 8 c.count) (one_page c.src) (eqb c.kind 2) (one_page c.dst) e in
      record {
        remain = leb-true 8 c.count all.0;
        source = one_side c.src all.1;
        dest = λ other. one_side c.dst (all.2 (ne_eqb c.kind 2 other));
      }

  pub is_eight : Wide c → copy_row_width c ≡ 8
  unfolding copy_row_width
  is_eight w = rw (le-leb 8 c.count w.remain, one_page_lem c.src w.source) (step (eqb c.kind 2) refl)
    where
      step : (write : Bool) → eqb c.kind 2 ≡ write → ◌≡◌ {A = ℕ} (cond (write || one_page c.dst) 8 1) 8
      step true e = refl
      step false e = rw (one_page_lem c.dst (w.dest (eqb-false c.kind 2 e)))

  pub is_one : (Wide c → ⊥) → copy_row_width c ≡ 1
  is_one other = step (width_cases c)
    where
      step : OneOrEight (copy_row_width c) → copy_row_width c ≡ 1
      step (inl e) = e
      step (inr e) = absurd (other (eight_is e))

pub width_rule : WidthRule
width_rule =
    record {
      wide = λ c. (eight_is c, is_eight c);
      narrow = is_one;
      next = λ c some. widths_next c (copy_row_width c) refl some;
      none = widths_none;
    }

pub width_instances : WidthCases
unfolding computing
width_instances =
    record {
      stays = refl;
      takes_eight = refl;
      last_byte_lem = refl;
      past = refl;
      copied_to = refl;
      set_to = refl;
      written_at = refl;
      written_from = refl;
      again = refl;
      both_edges = refl;
    }

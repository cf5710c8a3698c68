-- What a good access record says of its numbers. Document 01: "is_register, base address, 8 value words, timestamp, width (1, 2, 4, 8),
-- is_read, 8 old words, 8 old stamps". Assumes nothing.
use mathlib.Core.Path.{◌≡◌, refl, sym, subst}
use mathlib.Core.Bool.{Bool, true, false, ◌||◌, and-eq-true_iff}
use mathlib.Core.List.{List}
use Prim.Native.Nat.{ℕ, ◌≤◌, ◌<◌}
use native.Mathlib.Omega.{arith}
use borrow.Author.Tests.{eqb-true}
use lib.Dec.{eqb}
use lib.ListN.{length}
use Rattle.lists.specs.Lists.{at}
use Rattle.records.specs.Records.{within}
use Rattle.records.proofs.Records.{within_length, within_at}
use Rattle.access.specs.Access.{WIDTH, IS_READ, ACCESS_WIDTH, access_limits, is_width, good_access}

-- The width

-- what holds of 1, 2, 4 and 8 holds of every width
pub by_width : (P : ℕ → Type 0) (w : ℕ) → is_width w ≡ true → P 1 → P 2 → P 4 → P 8 → P w
by_width P w e p1 p2 p4 p8 = step _ _ _ _ refl refl refl refl e
  where
    step : (a b c d : Bool) → eqb w 1 ≡ a → eqb w 2 ≡ b → eqb w 4 ≡ c → eqb w 8 ≡ d → a || (b || (c || d)) ≡ true → P w
    step true b c d ha hb hc hd e = subst P (sym (eqb-true w 1 ha)) p1
    step false true c d ha hb hc hd e = subst P (sym (eqb-true w 2 hb)) p2
    step false false true d ha hb hc hd e = subst P (sym (eqb-true w 4 hc)) p4
    step false false false true ha hb hc hd e = subst P (sym (eqb-true w 8 hd)) p8
    step false false false false ha hb hc hd e = absurd (let q : ◌≡◌ {A = ℕ} 0 1 = cc in omega arith)

pub width_bounds : (w : ℕ) → is_width w ≡ true → (0 < w) × (w ≤ 8)
width_bounds w e =
    by_width (λ n. (0 < n) × (n ≤ 8)) w e (omega arith, omega arith) (omega arith, omega arith) (omega arith, omega arith) (omega arith, omega arith)

-- The numbers of a good record

module _ (r : List ℕ) where
  pub good_length : good_access r ≡ true → length r ≡ ACCESS_WIDTH
  unfolding good_access access_limits
  good_length e = within_length access_limits r ((and-eq-true_iff _ _).0 e).0

  pub good_width : good_access r ≡ true → is_width (at r WIDTH) ≡ true
  unfolding good_access
  good_width e = ((and-eq-true_iff (within access_limits r) (is_width (at r WIDTH))).0 e).1

  pub good_read : good_access r ≡ true → at r IS_READ ≤ 1
  unfolding good_access access_limits
  good_read e = within_at access_limits r ((and-eq-true_iff _ _).0 e).0 IS_READ (omega arith)

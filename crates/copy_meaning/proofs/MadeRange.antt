-- The columns of the row of a record with a good piece lie below their limits, whatever its call: digits are below their base, whatever
-- the width, and flags are bits. Assumes nothing.
use mathlib.Core.Path.{◌≡◌, sym, subst}
use mathlib.Core.Bool.{Bool, true, false, cond, ◌&&◌}
use mathlib.Core.List.{List, [], ◌∷◌, ◌++◌}
use Prim.Native.Nat.{ℕ, zero, suc, ◌/◌, ◌^◌, ◌≤◌, ◌<◌}
use native.Mathlib.Nat.{mod-lt}
use native.Mathlib.Omega.{arith}
use lib.Dec.{eqb}
use lib.ListN.{length, get_or, take, replicate}
use lib.Pow.{pow_pos}
use Rattle.lists.specs.Lists.{at, eight_at, All}
use Rattle.lists.proofs.Numbers.{eight_back}
use Rattle.words.specs.Words.{digits, bit}
use Rattle.call.specs.Calls.{Op}
use Rattle.call.specs.Cuts.{PieceOk}
use Rattle.copy_row.specs.Columns.{FIRST, COLUMNS}
use Rattle.copy_row.specs.Rows.{wrapped, dst_res, mu_com, row_of}
use Rattle.copy_residues.specs.Range.{column_limits}

-- each number is below the limit that stands in its place
infixr 5 ◌&◌
infixr 5 ◌&&&◌
data Under : List ℕ → List ℕ → Type 0 where
  none : Under [] []
  ◌&◌ : {x m : ℕ} {xs ms : List ℕ} → x < m → Under xs ms → Under (x ∷ xs) (m ∷ ms)

under_at : {xs ms : List ℕ} → Under xs ms → (c : ℕ) → c < length ms → get_or xs c 0 < get_or ms c 0
under_at none c h = absurd (omega arith)
under_at (l & u) zero h = l
under_at (l & u) (suc c) h = under_at u c (omega arith)

-- two runs, one behind the other
◌&&&◌ : {xs ms ys ns : List ℕ} → Under xs ms → Under ys ns → Under (xs ++ ys) (ms ++ ns)
none &&& v = v
(l & u) &&& v = l & (u &&& v)

digits_under : (w n x : ℕ) → Under (digits w n x) (replicate n (2 ^ w))
digits_under w zero x = none
digits_under w (suc n) x = mod-lt x (pow_pos w) & digits_under w n (x / 2 ^ w)

all_under : (m : ℕ) (v : List ℕ) → All (λ (b : ℕ). b < m) v → Under v (replicate (length v) m)
all_under m [] a = none
all_under m (x ∷ xs) a = a.0 & all_under m xs a.1

bytes_under : (v : List ℕ) → length v ≡ 8 → All (λ (b : ℕ). b < 256) v → Under (eight_at v 0) (replicate 8 256)
bytes_under v e a =
    subst (λ (l : List ℕ). Under l (replicate 8 256)) (sym (eight_back v e))
    (subst (λ (n : ℕ). Under v (replicate n 256)) e (all_under 256 v a))

bit_under : (t : Bool) (m : ℕ) → 2 ≤ m → bit t < m
bit_under true m h = omega arith
bit_under false m h = omega arith

chosen_under : (t : Bool) (f m : ℕ) → f < m → cond t f 0 < m
chosen_under true f m h = h
chosen_under false f m h = omega arith

-- the limits of the columns, m for the nine flags
abbrev pub limits_to : ℕ → List ℕ
limits_to m = take FIRST column_limits ++ replicate 9 m

module _ (mu : ℕ) (o : Op) (ok : PieceOk o.piece) (m : ℕ) (bits : 2 ≤ m) (live : mu < m) (first : o.first < m) (end : o.end < m) where
  under : Under (row_of mu o) (limits_to m)
  unfolding row_of column_limits
  under =
      digits_under 32 2 o.call.stamp
      &&& bytes_under o.piece.value ok.eight ok.bytes
      &&& digits_under 32 2 o.call.src
      &&& digits_under 16 4 (wrapped o).src
      &&& digits_under 32 2 o.call.dst
      &&& digits_under 16 4 (wrapped o).dst
      &&& digits_under 32 2 o.call.count
      &&& digits_under 16 4 (wrapped o).count
      &&& digits_under 16 4 (dst_res o.call)
      &&& first
      & end
      & bit_under (eqb o.piece.width 1) m bits
      & bit_under (eqb o.call.kind 1) m bits
      & bit_under (eqb o.call.kind 2) m bits
      & chosen_under (eqb o.call.kind 2) o.first m first
      & live
      & bit_under (mu_com o.call) m bits
      & bit_under (mu_com o.call && eqb o.piece.width 8) m bits
      & none

  pub made_below : (c : ℕ) → c < COLUMNS → at (row_of mu o) c < get_or (limits_to m) c 0
  made_below c h = under_at under c (unfold column_limits in h)

-- Laws of cuts: a row moves a byte and at most eight, what is behind the first width is a cut of what remains, the cases of `Cut`, and
-- that a sound call has a row. Assumes nothing.
use mathlib.Core.Path.{◌≡◌, refl, sym}
use mathlib.Core.List.{List, [], ◌∷◌}
use mathlib.Core.Logic.{inl, inr}
use Prim.Native.Nat.{ℕ, zero, suc, ◌+◌, ◌-◌, ◌≤◌, ◌<◌}
use native.Mathlib.Omega.{arith}
use lib.ListN.{length}
use Rattle.lists.specs.Lists.{All}
use Rattle.call.specs.Calls.{Piece}
use Rattle.call.specs.Cuts.{OneOrEight, CutInto, CutCall, total, Cut, Fits, HasRow}

-- Widths

pub width_pos : {w : ℕ} → OneOrEight w → 0 < w
width_pos wide = elim wide [ inl e ↦ omega arith | inr e ↦ omega arith ]

pub width_eight : {w : ℕ} → OneOrEight w → w ≤ 8
width_eight wide = elim wide [ inl e ↦ omega arith | inr e ↦ omega arith ]

pub nothing_cut : {n : ℕ} → CutInto n [] → n ≡ 0
nothing_cut k = sym k.sums

-- the first of some widths, and those behind it
module _ {n w : ℕ} {ws : List ℕ} (k : CutInto n (w ∷ ws)) where
  pub first_pos : 0 < w
  first_pos = width_pos k.wide.0

  pub first_eight : w ≤ 8
  first_eight = width_eight k.wide.0

  pub first_within : w ≤ n
  first_within = omega (arith, k.sums)

  pub rest_cut : CutInto (n - w) ws
  rest_cut = record { wide = k.wide.1; sums = omega (arith, k.sums) }

-- Pieces

-- the two ways of a cut
pub data Ways (n : ℕ) (piece : Piece) (pieces : List Piece) : Type 0 where
  whole : piece.width + total pieces ≡ n → 0 < n → Ways n piece pieces
  single : n ≡ 0 → pieces ≡ [] → Ways n piece pieces

none_left : (pieces : List Piece) → suc (length pieces) ≡ 1 → pieces ≡ []
none_left [] e = refl
none_left (piece ∷ pieces) e = absurd (omega arith)

pub cut_none : (n : ℕ) → Cut n [] → ⊥
cut_none zero e = omega arith
cut_none (suc n) e = omega arith

pub cut_ways : (n : ℕ) (piece : Piece) (pieces : List Piece) → Cut n (piece ∷ pieces) → Ways n piece pieces
cut_ways zero piece pieces e = single refl (none_left pieces e)
cut_ways (suc n) piece pieces e = whole e (omega arith)

pub cut_whole : (n : ℕ) (pieces : List Piece) → 0 < n → total pieces ≡ n → Cut n pieces
cut_whole zero pieces z e = absurd (omega arith)
cut_whole (suc n) pieces z e = e

pub cut_single : (n : ℕ) (pieces : List Piece) → n ≡ 0 → length pieces ≡ 1 → Cut n pieces
cut_single zero pieces z e = e
cut_single (suc n) pieces z e = absurd (omega arith)

pub fits_has_row : (gap : ℕ) (k : CutCall) → Fits gap k → HasRow k
fits_has_row gap k fits = step k.pieces fits.cut
  where
    step : (pieces : List Piece) → Cut k.call.count pieces → 0 < length pieces
    step [] cut = absurd (cut_none k.call.count cut)
    step (piece ∷ pieces) cut = omega arith

pub all_have_rows : (gap : ℕ) (ks : List CutCall) → All (Fits gap) ks → All HasRow ks
all_have_rows gap [] fits = tt
all_have_rows gap (k ∷ ks) fits = (fits_has_row gap k fits.0, all_have_rows gap ks fits.1)

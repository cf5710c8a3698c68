-- Single cells after numbers were written: those that were written, and those that were not. Assumes nothing.
use mathlib.Core.Path.{◌≡◌, refl, ◌∙◌}
use mathlib.Core.List.{List, [], ◌∷◌, ◌++◌}
use Prim.Native.Nat.{ℕ, zero, suc, ◌+◌, ◌≤◌, ◌<◌}
use native.Mathlib.Omega.{arith}
use lib.ListN.{length, take, drop, get_or, replicate, length-replicate}
use lib.Seq.{get_or-take, get_or-drop, length-take-le}
use Rattle.lists.proofs.Store.{store_below, store_above, store_inside}
use Rattle.window.specs.Window.{eight_cells, cells_at, write_bytes, write_stamps}

-- Cells read

padded : (xs : List ℕ) (n j : ℕ) → get_or (xs ++ replicate n 0) j 0 ≡ get_or xs j 0
padded [] zero j = refl
padded [] (suc n) zero = refl
padded [] (suc n) (suc j) = padded [] n j
padded (x ∷ xs) n zero = refl
padded (x ∷ xs) n (suc j) = padded xs n j

pub cells_at_lem : (l : List ℕ) (a w j : ℕ) → j < w → w ≤ 8 → get_or (cells_at l a w) j 0 ≡ get_or l (a + j) 0
unfolding eight_cells
cells_at_lem l a w j h wide =
    get_or-take 8 (take w (drop a l) ++ replicate 8 0) j 0 (omega arith)
    ∙ padded (take w (drop a l)) 8 j
    ∙ get_or-take w (drop a l) j 0 h
    ∙ get_or-drop a l j 0

-- Cells written

module _ (l : List ℕ) (a w : ℕ) (v : List ℕ) (long : w ≤ length v) where
  pub write_below : (i : ℕ) → i < a → get_or (write_bytes l a w v) i 0 ≡ get_or l i 0
  unfolding write_bytes
  write_below i h = store_below l (take w v) a i h

  pub write_above : (i : ℕ) → a + w ≤ i → get_or (write_bytes l a w v) i 0 ≡ get_or l i 0
  unfolding write_bytes
  write_above i h = store_above l (take w v) a i (omega (arith, length-take-le w v long))

  pub write_inside : (j : ℕ) → j < w → a + j < length l → get_or (write_bytes l a w v) (a + j) 0 ≡ get_or v j 0
  unfolding write_bytes
  write_inside j h k = store_inside l (take w v) a j (omega (arith, length-take-le w v long)) k ∙ get_or-take w v j 0 h

module _ (l : List ℕ) (a w t i : ℕ) where
  pub stamps_below : i < a → get_or (write_stamps l a w t) i 0 ≡ get_or l i 0
  unfolding write_stamps
  stamps_below h = store_below l (replicate w t) a i h

  pub stamps_above : a + w ≤ i → get_or (write_stamps l a w t) i 0 ≡ get_or l i 0
  unfolding write_stamps
  stamps_above h = store_above l (replicate w t) a i (omega (arith, length-replicate {A = ℕ} w t))

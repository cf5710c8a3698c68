-- The rows of a list of widths: as many as widths; and those that the expansion has left, the first of them and those behind it. And a test
-- as the number that code makes of it. Assumes nothing.
use mathlib.Core.Path.{◌≡◌, refl, ap}
use mathlib.Core.Bool.{Bool, true, false}
use mathlib.Core.List.{List, [], ◌∷◌}
use mir.Val.{bool_byte}
use Rattle.words.specs.Words.{bit}
use Prim.Native.Nat.{ℕ, suc, ◌<◌}
use lib.ListN.{length}
use Rattle.call.specs.Calls.{Call}
use Rattle.call.specs.Cuts.{rest}
use Rattle.expansion_rows.specs.Rows.{Row, row_with, rows_by, copy_row_width, widths_of}
use Rattle.expansion_rows.proofs.Widths.{widths_none, widths_next}

pub rows_length : (ws : List ℕ) (c : Call) (f : ℕ) → length (rows_by c f ws) ≡ length ws
unfolding rows_by
rows_length [] c f = refl
rows_length (w ∷ ws) c f = ap suc (rows_length ws (rest c w) 0)

-- what the expansion has left, c being what remains of the call and f the FIRST of the next row
abbrev pub rows_from : Call → ℕ → List Row
rows_from c f = rows_by c f (widths_of c)

pub rows_none : (c : Call) (f : ℕ) → c.count ≡ 0 → rows_from c f ≡ []
unfolding rows_by
rows_none c f e = ap (rows_by c f) (widths_none c e)

pub rows_next : (c : Call) (w f : ℕ) → w ≡ copy_row_width c → 0 < c.count → rows_from c f ≡ row_with c w f ∷ rows_from (rest c w) 0
unfolding rows_by
rows_next c w f e h = ap (rows_by c f) (widths_next c w e h)

pub bit_lem : (b : Bool) → bool_byte b ≡ bit b
bit_lem true = refl
bit_lem false = refl

-- The two laws of the width rule. Nothing else looks at the rule but what is said of the rule itself (WidthRule.antt), so a replacement of it
-- ends here. Assumes nothing.
use mathlib.Core.Path.{◌≡◌, refl}
use mathlib.Core.Logic.{inl, inr}
use mathlib.Core.Bool.{Bool, true, false, cond, ◌&&◌}
use Prim.Native.Nat.{◌≤◌, ◌<◌}
use lib.Dec.{leb}
use borrow.Author.Tests.{leb-true}
use Rattle.call.specs.Calls.{Call}
use Rattle.call.specs.Cuts.{OneOrEight}
use Rattle.expansion_rows.specs.Rows.{is_wide, copy_row_width}

-- 1 or 8
pub width_cases : (c : Call) → OneOrEight (copy_row_width c)
unfolding copy_row_width
width_cases c = step (is_wide c)
  where
    step : (b : Bool) → OneOrEight (cond b 8 1)
    step true = inr refl
    step false = inl refl

-- at most what remains
pub width_within : (c : Call) → 0 < c.count → copy_row_width c ≤ c.count
unfolding copy_row_width
width_within c h = step (leb 8 c.count) _ refl
  where
    step : (remain pages : Bool) → leb 8 c.count ≡ remain → cond (remain && pages) 8 1 ≤ c.count
    step true true e = leb-true 8 c.count e
    step true false e = h
    step false pages e = h

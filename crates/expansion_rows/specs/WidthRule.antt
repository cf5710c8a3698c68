-- The width rule in document 02's own words, beside the definition that computes it, with the request's cases and some more computed.
-- `width_rule_holds` in theorems carries both. Assumes nothing.
use Rattle.std.specs.Prelude.{◌≡◌, ◌↔◌, List, [], ◌∷◌, ◌++◌, ℕ, ◌+◌, ◌*◌, ◌≤◌, ◌<◌, replicate}
use Rattle.call.specs.Calls.{Call}
use Rattle.call.specs.Cuts.{rest}
use Rattle.expansion_rows.specs.Rows.{copy_row_width, widths_of}

-- eight bytes from a on "lie on both sides of a multiple of 4,096": the first below it, the last not
abbrev pub BothSides : ℕ → Type 0
BothSides a = (k : ℕ) × (a < 4096 * k) × (4096 * k ≤ a + 7)

-- "8 or more bytes remain and neither its source bytes nor, for Copy and Set, its destination bytes lie on both sides of a multiple of
-- 4,096", c being the call as it remains at the row
pub record Wide (c : Call) : Type 0 where
  pub remain : 8 ≤ c.count
  pub source : BothSides c.src → ⊥
  pub dest : (c.kind ≡ 2 → ⊥) → BothSides c.dst → ⊥

pub record WidthRule : Type 0 where
  -- "An expanded row has width 8 exactly if"
  pub wide : (c : Call) → (copy_row_width c ≡ 8) ↔ Wide c
  -- "Otherwise its width is 1."
  pub narrow : (c : Call) → (Wide c → ⊥) → copy_row_width c ≡ 1
  -- each row is asked anew, with what remains at it, until nothing does
  pub next : (c : Call) → 0 < c.count → widths_of c ≡ copy_row_width c ∷ widths_of (rest c (copy_row_width c))
  pub none : (c : Call) → c.count ≡ 0 → widths_of c ≡ []

-- the widths of a call's rows
abbrev pub widths : (kind src dst count : ℕ) → List ℕ
widths kind src dst count = widths_of (record { kind = kind; stamp = 4; src = src; dst = dst; count = count })

pub record WidthCases : Type 0 where
  -- "both with dst 0: a copy of 8 from 4,088 stays one row; from 4,089 it takes eight rows of one byte"
  pub stays : widths 0 4088 0 8 ≡ 8 ∷ []
  pub takes_eight : widths 0 4089 0 8 ≡ replicate 8 1
  -- from 4,095 too; from 4,096 it is one row again
  pub last_byte_lem : widths 0 4095 0 8 ≡ replicate 8 1
  pub past : widths 0 4096 0 8 ≡ 8 ∷ []
  -- the destination of a Copy and of a Set; the index of a Write is not judged, its source is
  pub copied_to : widths 0 0 8185 8 ≡ replicate 8 1
  pub set_to : widths 1 4081 4089 8 ≡ replicate 8 1
  pub written_at : widths 2 0 4089 8 ≡ 8 ∷ []
  pub written_from : widths 2 4089 0 8 ≡ replicate 8 1
  -- behind the edge rows are wide again, be it source or destination that comes to one first
  pub again : widths 0 4089 0 16 ≡ replicate 7 1 ++ (8 ∷ 1 ∷ [])
  pub both_edges : widths 0 4090 8180 30 ≡ replicate 12 1 ++ (8 ∷ 8 ∷ 1 ∷ 1 ∷ [])

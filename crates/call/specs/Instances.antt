-- Small calls and cuts, computed over the definitions: sound ones, one that breaks each condition, and the rows of a cut.
-- `call_instances_hold` in theorems carries them. Assumes nothing.
use Rattle.std.specs.Prelude.{◌≡◌, [], ◌∷◌, ℕ, ◌-◌, ◌^◌, replicate}
use Rattle.call.specs.Calls.{Call, Piece, Op}
use Rattle.call.specs.Cuts.{cut_from, Cut, Sound}

-- eight equal bytes, and one byte
abbrev pub wide : ℕ → Piece
wide byte = record { width = 8; value = replicate 8 byte }

abbrev pub narrow : ℕ → Piece
narrow byte = record { width = 1; value = byte ∷ replicate 7 0 }

abbrev pub call_on : (kind src dst count : ℕ) → Call
call_on kind src dst count = record { kind = kind; stamp = 4; src = src; dst = dst; count = count }

abbrev pub op_on : Call → Piece → (first end : ℕ) → Op
op_on c piece first end = record { call = c; piece = piece; first = first; end = end }

pub record Instances : Type 0 where
  -- a Copy of nine bytes in two rows: src and dst rise and count falls, FIRST on the first, END on the last
  pub rows : cut_from (call_on 0 0 16 9) 1 (wide 5 ∷ narrow 6 ∷ [])
      ≡ op_on (call_on 0 0 16 9) (wide 5) 1 0 ∷ op_on (call_on 0 8 24 1) (narrow 6) 0 1 ∷ []
  pub nine : Cut 9 (wide 5 ∷ narrow 6 ∷ [])
  -- a call of count 0 has one row, of either width, and not none
  pub empty_wide : Cut 0 (wide 7 ∷ [])
  pub empty_narrow : Cut 0 (narrow 7 ∷ [])
  pub empty_none : Cut 0 [] → ⊥
  -- a Set is sound at the gap, which is 8, and nowhere else, even with count 0
  pub set_apart : Sound 8 (call_on 1 100 108 0)
  pub set_near : Sound 8 (call_on 1 100 107 0) → ⊥
  -- a source that ends at the last of 64 bits, one that ends past it, and one of no byte there
  pub to_top : Sound 8 (call_on 0 (2 ^ 64 - 9) 0 8)
  pub past_top : Sound 8 (call_on 0 (2 ^ 64 - 8) 0 8) → ⊥
  pub empty_top : Sound 8 (call_on 0 (2 ^ 64 - 1) 0 0)

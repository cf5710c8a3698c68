-- What a row that passes says of its operation record, in plain numbers: no field, no residue. Document 01's words on sound calls, seen
-- from one row. Assumes nothing.
use Rattle.std.specs.Prelude.{◌≡◌, ℕ, zero, suc, ◌+◌, ◌^◌, ◌≤◌, ◌<◌}
use Rattle.call.specs.Calls.{Op}
use Rattle.call.specs.Cuts.{FitsTypes, PieceOk}

-- the three ways in which a live row moves: an empty call's one row; a last row, which moves all that is left; a row with more to come
pub data Move (o : Op) : Type 0 where
  empty : o.call.count ≡ 0 → o.first ≡ 1 → o.end ≡ 1 → Move o
  ends : o.end ≡ 1 → o.call.count ≡ o.piece.width → o.call.src + o.piece.width < 2 ^ 64 → o.call.dst + o.piece.width < 2 ^ 64 → Move o
  more : o.end ≡ 0 → o.piece.width ≤ o.call.count → o.call.src + o.piece.width < 2 ^ 64 → o.call.dst + o.piece.width < 2 ^ 64 → Move o

-- a live row that passes
pub record LiveStep (gap : ℕ) (o : Op) : Type 0 where
  pub words : FitsTypes o.call
  pub gapped : o.call.kind ≡ 1 → o.call.dst ≡ o.call.src + gap
  pub piece : PieceOk o.piece
  pub bits : o.first ≤ 1
  pub move : Move o

-- a dead row that passes: not always padding
pub record DeadStep (o : Op) : Type 0 where
  pub words : FitsTypes o.call
  pub piece : PieceOk o.piece
  pub kind : o.call.kind ≡ 0
  pub first : o.first ≡ 0
  pub end : o.end ≡ 0
  pub enough : o.piece.width ≤ o.call.count

-- by MU: live means 1, dead 0, and there is no third
abbrev pub RowStep : ℕ → ℕ → Op → Type 0
RowStep gap zero o = DeadStep o
RowStep gap (suc zero) o = LiveStep gap o
RowStep gap (suc (suc mu)) o = ⊥

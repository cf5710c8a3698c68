-- Calls that are sound, and how they are cut into rows. Document 01: "It is cut into rows of widths 1 and 8 that sum to count; src and
-- dst rise and count falls by each width, FIRST on the first row, END on the last, width 1 with seven zero tail bytes." Assumes nothing.
use Rattle.std.specs.Prelude.{◌≡◌, ◌⊎◌, List, [], ◌∷◌, ◌++◌, map, ℕ, zero, suc, ◌+◌, ◌-◌, ◌^◌, ◌<◌, ◌≤◌, length, drop, replicate}
use Rattle.lists.specs.Lists.{All, sum}
use Rattle.words.specs.Words.{Bytes}
use Rattle.call.specs.Calls.{Call, Piece, Op}

-- a call and the pieces that its rows move, in order
pub record CutCall : Type 0 where
  pub call : Call
  pub pieces : List Piece

-- what is left of a call after a row of width w, in plain sums; a count below w leaves 0
abbrev pub rest : Call → ℕ → Call
rest c w = record { kind = c.kind; stamp = c.stamp; src = c.src + w; dst = c.dst + w; count = c.count - w }

-- END: 1 where no piece follows
abbrev pub is_last : List Piece → ℕ
is_last [] = 1
is_last (piece ∷ pieces) = 0

-- the operation records of the pieces, c being what is left of the call and f the FIRST of the first of them
abbrev pub cut_from : Call → ℕ → List Piece → List Op
cut_from c f [] = []
cut_from c f (piece ∷ pieces) =
    record { call = c; piece = piece; first = f; end = is_last pieces } ∷ cut_from (rest c piece.width) 0 pieces

-- the operation records of a list of cut calls
abbrev pub ops_of : List CutCall → List Op
ops_of [] = []
ops_of (k ∷ ks) = cut_from k.call 1 k.pieces ++ ops_of ks

-- and their calls
abbrev pub calls_of : List CutCall → List Call
calls_of ks = map (λ (k : CutCall). k.call) ks

-- a cut call with a row
abbrev pub HasRow : CutCall → Type 0
HasRow k = 0 < length k.pieces

-- the pieces of operation records, and their widths
abbrev pub pieces_of : List Op → List Piece
pieces_of os = map (λ (o : Op). o.piece) os

abbrev pub widths_in : List Piece → List ℕ
widths_in pieces = map (λ (piece : Piece). piece.width) pieces

-- the sum of the widths
abbrev pub total : List Piece → ℕ
total pieces = sum (widths_in pieces)

-- a row is 1 or 8 bytes wide
abbrev pub OneOrEight : ℕ → Type 0
OneOrEight w = (w ≡ 1) ⊎ (w ≡ 8)

-- widths of 1 and 8 that sum to n
pub record CutInto (n : ℕ) (ws : List ℕ) : Type 0 where
  pub wide : All OneOrEight ws
  pub sums : sum ws ≡ n

-- the widths sum to the count n; a call of count 0 has one row
abbrev pub Cut : ℕ → List Piece → Type 0
Cut zero pieces = length pieces ≡ 1
Cut (suc n) pieces = total pieces ≡ suc n

-- the numbers of a call fit their types
pub record FitsTypes (c : Call) : Type 0 where
  pub kind : c.kind ≤ 2
  pub stamp : c.stamp < 2 ^ 64
  pub src : c.src < 2 ^ 64
  pub dst : c.dst < 2 ^ 64
  pub count : c.count < 2 ^ 64

-- width 1 or 8 and eight bytes, "width 1 with seven zero tail bytes"
pub record PieceOk (piece : Piece) : Type 0 where
  pub wide : OneOrEight piece.width
  pub eight : length piece.value ≡ 8
  pub bytes : Bytes piece.value
  pub tail : piece.width ≡ 1 → drop 1 piece.value ≡ replicate 7 0

-- document 01: "A call is sound if two things hold. Unless count is 0, src + count and dst + count are below 2^64. If Set, even with
-- count 0, dst = src + gap as a plain sum." Its numbers fit their types
pub record Sound (gap : ℕ) (c : Call) : Type 0 where
  pub words : FitsTypes c
  pub reach : (c.count ≡ 0) ⊎ ((c.src + c.count < 2 ^ 64) × (c.dst + c.count < 2 ^ 64))
  pub gapped : c.kind ≡ 1 → c.dst ≡ c.src + gap

-- a sound call, cut into pieces of width 1 or 8
pub record Fits (gap : ℕ) (k : CutCall) : Type 0 where
  pub sound : Sound gap k.call
  pub cut : Cut k.call.count k.pieces
  pub pieces : All PieceOk k.pieces

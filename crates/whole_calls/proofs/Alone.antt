-- No other calls, widths and value bytes have the live rows of a list. From each row its width is read as SRC_INCR less SRC, its values
-- and its END; from the first row of a call the call. That gives back any calls that the rows are made of, sound or not, so two lists of
-- calls with the same rows are one. Assumes nothing.
use mathlib.Core.Path.{◌≡◌, refl, sym, ap, ◌∙◌}
use mathlib.Core.List.{List, [], ◌∷◌, ◌++◌, map}
use mathlib.Core.Logic.{inl, inr}
use Prim.Native.Nat.{ℕ, ◌+◌, ◌%◌, ◌^◌, ◌≤◌, ◌<◌}
use native.Mathlib.Omega.{arith}
use lib.ListN.{length}
use Rattle.lists.specs.Lists.{eight_at, All}
use Rattle.lists.proofs.Numbers.{eight_back}
use Rattle.words.specs.Words.{wrap_sub}
use Rattle.call.specs.Calls.{Call, Piece, Op}
use Rattle.call.specs.Cuts.{PieceOk, CutCall, rest, is_last, cut_from, ops_of, Fits}
use Rattle.call.proofs.Cuts.{fits_has_row}
use Rattle.copy_row.specs.Columns.{VALUE, SRC, SRC_INCR}
use Rattle.copy_row.specs.Rows.{row_of, table_row}
use Rattle.copy_meaning.specs.ReadRow.{words_at, halves_at, call_at, op_at}
use Rattle.copy_meaning.specs.RowIff.{CallRow}
use Rattle.copy_meaning.proofs.DstRes.{call_row}
use Rattle.copy_meaning.proofs.ReadBack.{src_modulo, end_back, call_back, src_incr_back}
use Rattle.call_chain.specs.OpChain.{group}
use Rattle.chain.specs.Chain.{table_rows}
use Rattle.read_back.specs.ReadBack.{live_rows}
use Rattle.whole_calls.specs.Demand.{Each, WholeCalls, AnyPiece, AnyCall}

-- the piece of a row, its width from SRC and SRC_INCR
piece_at : List ℕ → Piece
piece_at row = record { width = wrap_sub (halves_at row SRC_INCR) (words_at row SRC); value = eight_at row VALUE }

any_at : List ℕ → Op
any_at row = record { call = call_at row; piece = piece_at row; first = (op_at row).first; end = (op_at row).end }

width_back : (src w : ℕ) → w ≤ 255 → wrap_sub ((src + w) % 2 ^ 64) (src % 2 ^ 64) ≡ w
width_back src w h = omega arith

piece_back : (o : Op) → AnyPiece o.piece → piece_at (table_row o) ≡ o.piece
unfolding piece_at row_of
piece_back o any =
    let src = src_modulo 1 o in
    let incr = src_incr_back 1 o in
    let value = eight_back o.piece.value any.eight in
    let width : wrap_sub (halves_at (table_row o) SRC_INCR) (words_at (table_row o) SRC) ≡ o.piece.width =
    (λ i. wrap_sub (incr i) (src i)) ∙ width_back o.call.src o.piece.width any.width in
    λ i. record { width = width i; value = value i }

abbrev read_row : Op → Op
read_row o = any_at (table_row o)

group_row : (c : Call) (f : ℕ) (piece : Piece) (pieces : List Piece) (t : List Op) → All AnyPiece (piece ∷ pieces)
    → group (map read_row (cut_from c f (piece ∷ pieces) ++ t))
    ≡ record { call = call_at (table_row (record { call = c; piece = piece; first = f; end = is_last pieces })); pieces = piece ∷ pieces }
    ∷ group (map read_row t)
unfolding any_at
group_row c f piece [] t any =
    let o : Op = record { call = c; piece = piece; first = f; end = 1 } in
    rw (end_back 1 o, piece_back o any.0) refl
group_row c f piece (following ∷ pieces) t any =
    let o : Op = record { call = c; piece = piece; first = f; end = 0 } in
    rw (end_back 1 o, piece_back o any.0, group_row (rest c piece.width) 0 following pieces t any.1) refl

-- whatever calls rows are made of, they are read back
group_rows : (ks : List CutCall) → All AnyCall ks → group (map read_row (ops_of ks)) ≡ ks
group_rows [] any = refl
group_rows (k ∷ ks) any = go k.pieces any.0.pieces any.0.row (group_rows ks any.1)
  where
    go : (pieces : List Piece) → All AnyPiece pieces → 0 < length pieces → group (map read_row (ops_of ks)) ≡ ks
        → group (map read_row (cut_from k.call 1 pieces ++ ops_of ks)) ≡ record { call = k.call; pieces = pieces } ∷ ks
    go [] a row e = absurd (omega arith)
    go (piece ∷ pieces) a row e =
        rw (
          group_row k.call 1 piece pieces (ops_of ks) a,
          call_back 1 (record { call = k.call; piece = piece; first = 1; end = is_last pieces }) any.0.words,
          e,
        )
        refl

any_pieces : (pieces : List Piece) → All PieceOk pieces → All AnyPiece pieces
any_pieces [] ok = tt
any_pieces (piece ∷ pieces) ok = (
  record { width = elim ok.0.wide [ inl e ↦ omega arith | inr e ↦ omega arith ]; eight = ok.0.eight },
  any_pieces pieces ok.1,
)

pub any_calls : (gap : ℕ) (ks : List CutCall) → All (Fits gap) ks → All AnyCall ks
any_calls gap [] fits = tt
any_calls gap (k ∷ ks) fits = (
  record { words = fits.0.sound.words; pieces = any_pieces k.pieces fits.0.pieces; row = fits_has_row gap k fits.0 },
  any_calls gap ks fits.1,
)

map_read : (os : List Op) → map any_at (map table_row os) ≡ map read_row os
map_read [] = refl
map_read (o ∷ os) = ap (λ t. read_row o ∷ t) (map_read os)

-- the rows of any calls are their table rows
rows_are : (gap : ℕ) (os : List Op) (rows : List (List ℕ)) → Each (CallRow gap) os rows → rows ≡ map table_row os
rows_are gap [] [] each = refl
rows_are gap [] (row ∷ rows) each = absurd each
rows_are gap (o ∷ os) [] each = absurd each
rows_are gap (o ∷ os) (row ∷ rows) each = λ i. call_row gap o row each.0 i ∷ rows_are gap os rows each.1 i

pub alone : (gap : ℕ) (l : List ℕ) (ks : List CutCall) → WholeCalls gap l ks → (js : List CutCall) → All AnyCall js
    → Each (CallRow gap) (ops_of js) (live_rows (table_rows l)) → js ≡ ks
alone gap l ks w js any each =
    let same : map table_row (ops_of js) ≡ map table_row (ops_of ks) =
    sym (rows_are gap (ops_of js) (live_rows (table_rows l)) each) ∙ rows_are gap (ops_of ks) (live_rows (table_rows l)) w.live in
    sym (group_rows js any)
    ∙ ap group (sym (map_read (ops_of js)) ∙ ap (map any_at) same ∙ map_read (ops_of ks))
    ∙ group_rows ks (any_calls gap ks w.sound)

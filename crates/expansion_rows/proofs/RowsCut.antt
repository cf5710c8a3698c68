-- The rows of a call are a cut of it: each goes on where the one before it stopped, and END stands where nothing is left, which is where
-- no row follows. What a row takes from a window of bytes is a piece, and after its turn the window still holds bytes. Assumes nothing.
use mathlib.Core.Path.{◌≡◌, refl, sym, ap, ◌∙◌}
use mathlib.Core.Bool.{Bool, true, false, cond}
use mathlib.Core.Logic.{inl}
use mathlib.Core.List.{List, [], ◌∷◌, ◌++◌}
use Prim.Native.Nat.{ℕ, ◌-◌}
use native.Mathlib.Omega.{arith}
use borrow.Author.Tests.{leb-true, leb-false, le-leb, lt-leb}
use lib.Dec.{leb}
use lib.ListN.{take, drop, replicate}
use Rattle.lists.specs.Lists.{All}
use Rattle.words.specs.Words.{bit, Bytes}
use Rattle.call.specs.Calls.{Call, Op}
use Rattle.call.specs.Cuts.{OneOrEight, CutInto, PieceOk, pieces_of, rest, is_last, cut_from, total}
use Rattle.call.proofs.Cuts.{nothing_cut, first_pos, first_within, rest_cut, cut_whole}
use Rattle.window.specs.Window.{eight_cells, cells_at, write_bytes}
use Rattle.window.proofs.WindowLaws.{length_cells}
use Rattle.window.proofs.Bytes.{cells_bytes, written_bytes}
use Rattle.expansion_rows.specs.Rows.{rows_by}
use Rattle.expansion_rows.specs.Turns.{inverted, value_at, turn_bytes, row_ops}
use Rattle.expansion_rows.specs.RowsCut.{RowsAreCut}

-- Bytes

-- the piece of an empty call
pub zeros_ok : PieceOk (record { width = 1; value = replicate 8 0 })
zeros_ok = record { wide = inl refl; eight = refl; bytes = omega arith; tail = λ e. refl }

-- w cells, and zeros to eight
cells_ok : (l : List ℕ) (a w : ℕ) → OneOrEight w → Bytes l → PieceOk (record { width = w; value = cells_at l a w })
unfolding eight_cells
cells_ok l a w wide h =
    record { wide = wide; eight = length_cells l a w; bytes = cells_bytes l a w h; tail = λ e. rw e (tail (drop a l)) }
  where
    tail : (t : List ℕ) → drop 1 (take 8 (take 1 t ++ replicate 8 0)) ≡ replicate 7 0
    tail [] = refl
    tail (x ∷ t) = refl

pub turn_bytes_lem : (c : Call) (w : ℕ) (bytes : List ℕ) → Bytes bytes → Bytes (turn_bytes c w bytes)
unfolding turn_bytes
turn_bytes_lem c w bytes h = written_bytes _ c.src w _ value (destination (inverted c))
  where
    value : Bytes (value_at c w bytes)
    value = cells_bytes bytes c.src w h

    destination : (t : Bool) → Bytes (cond t (write_bytes bytes c.dst w (value_at c w bytes)) bytes)
    destination true = written_bytes bytes c.dst w (value_at c w bytes) value h
    destination false = h

-- Rows

-- the records of the rows from here on, c being what is left of the call
record CutFrom (c : Call) (f : ℕ) (os : List Op) : Type 0 where
  records : os ≡ cut_from c f (pieces_of os)
  sum : total (pieces_of os) ≡ c.count
  pieces : All PieceOk (pieces_of os)
  -- END of the row before them
  end : (n : ℕ) → c.count ≡ n → bit (leb n 0) ≡ is_last (pieces_of os)

-- the END of a row says whether anything is left after it
ends_where : (n w : ℕ) → leb n w ≡ leb (n - w) 0
ends_where n w = go (leb n w) refl
  where
    go : (t : Bool) → leb n w ≡ t → t ≡ leb (n - w) 0
    go true e = sym (le-leb (n - w) 0 (omega (arith, leb-true n w e)))
    go false e = sym (lt-leb (n - w) 0 (omega (arith, leb-false n w e)))

cut_from_lem : (ws : List ℕ) (c : Call) (f : ℕ) (bytes : List ℕ) → CutInto c.count ws → Bytes bytes → CutFrom c f (row_ops (rows_by c f ws) bytes)
unfolding rows_by row_ops
cut_from_lem [] c f bytes cut b =
    let none = nothing_cut cut in
    record { records = refl; sum = sym none; pieces = tt; end = λ n q. rw (le-leb n 0 (omega arith)) }
cut_from_lem (w ∷ ws) c f bytes cut b =
    let later = cut_from_lem ws (rest c w) 0 (turn_bytes c w bytes) (rest_cut cut) (turn_bytes_lem c w bytes b) in
    let within = first_within cut in
    let pos = first_pos cut in
    let end = ap bit (ends_where c.count w) ∙ later.end (c.count - w) refl in
    record {
      records =
          λ i.
          record { call = c; piece = record { width = w; value = value_at c w bytes }; first = f; end = end i } ∷ later.records i;
      sum = omega (arith, later.sum);
      pieces = (cells_ok bytes c.src w cut.wide.0 b, later.pieces);
      end = λ n q. rw (lt-leb n 0 (omega arith)) refl;
    }

pub rows_are_cut : RowsAreCut
rows_are_cut c ws bytes cut b some =
    let k = cut_from_lem ws c 1 bytes cut b in
    record { records = k.records; cut = cut_whole c.count _ some k.sum; pieces = k.pieces }

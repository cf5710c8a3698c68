-- A window of bytes stays one: after a call, as after each of its rows and each deferred write, it holds bytes. Assumes nothing.
use mathlib.Core.Bool.{Bool, true, false, cond}
use mathlib.Core.List.{List, [], ◌∷◌}
use Prim.Native.Nat.{ℕ}
use lib.Dec.{eqb}
use Rattle.lists.specs.Lists.{All}
use Rattle.words.specs.Words.{Bytes}
use Rattle.call.specs.Calls.{Call, Op}
use Rattle.window.proofs.Bytes.{cells_bytes, written_bytes}
use Rattle.expansion_rows.specs.Rows.{Row, rows_by}
use Rattle.expansion_rows.specs.Turns.{row_ops, pass_bytes}
use Rattle.expansion_rows.specs.Held.{held_bytes, held_all_bytes}
use Rattle.expansion_rows.proofs.RowsCut.{turn_bytes_lem}
use Rattle.expansion.specs.Expansion.{deferred_by, bytes_by}

-- an operation record whose values are bytes
abbrev ByteOp : Op → Type 0
ByteOp o = Bytes o.piece.value

row_bytes : (rs : List Row) (bytes : List ℕ) → Bytes bytes → All ByteOp (row_ops rs bytes) × Bytes (pass_bytes rs bytes)
unfolding row_ops pass_bytes
row_bytes [] bytes h = (tt, h)
row_bytes (r ∷ rs) bytes h =
    let later = row_bytes rs _ (turn_bytes_lem r.call r.width bytes h) in
    ((cells_bytes bytes r.call.src r.width h, later.0), later.1)

held_bytes_lem : (os : List Op) (bytes : List ℕ) → All ByteOp os → Bytes bytes → Bytes (held_all_bytes os bytes)
unfolding held_all_bytes
held_bytes_lem [] bytes values h = h
held_bytes_lem (o ∷ os) bytes values h =
    held_bytes_lem os (held_bytes o bytes) values.1 (written_bytes bytes o.call.dst o.piece.width o.piece.value values.0 h)

-- after a call
pub call_bytes_lem : (c : Call) (ws bytes : List ℕ) → Bytes bytes → Bytes (bytes_by c ws bytes)
unfolding bytes_by
call_bytes_lem c ws bytes h =
    let rows = row_bytes (rows_by c 1 ws) bytes h in
    held_bytes_lem (deferred_by c ws bytes) (pass_bytes (rows_by c 1 ws) bytes) (only (eqb c.kind 0) rows.0) rows.1
  where
    only : (b : Bool) → All ByteOp (row_ops (rows_by c 1 ws) bytes) → All ByteOp (cond b (row_ops (rows_by c 1 ws) bytes) [])
    only true h = h
    only false h = tt

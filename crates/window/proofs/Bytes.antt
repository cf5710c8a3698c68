-- A window of bytes: what is read of it are bytes, and it stays one when bytes are written. Assumes nothing.
use mathlib.Core.List.{List, ◌++◌}
use Prim.Native.Nat.{ℕ, ◌^◌, ◌<◌}
use native.Mathlib.Omega.{arith}
use lib.ListN.{take, drop, replicate}
use Rattle.lists.proofs.All.{all_append, all_take, all_drop, all_replicate, all_store}
use Rattle.words.specs.Words.{Bytes}
use Rattle.window.specs.Window.{eight_cells, cells_at, write_bytes}

abbrev Byte : ℕ → Type 0
Byte b = b < 2 ^ 8

pub cells_bytes : (l : List ℕ) (a w : ℕ) → Bytes l → Bytes (cells_at l a w)
unfolding eight_cells
cells_bytes l a w h =
    all_take Byte 8 (take w (drop a l) ++ replicate 8 0)
    (all_append Byte (take w (drop a l)) (replicate 8 0) (all_take Byte w (drop a l) (all_drop Byte a l h)) (all_replicate Byte 8 0 (omega arith)))

pub written_bytes : (l : List ℕ) (a w : ℕ) (v : List ℕ) → Bytes v → Bytes l → Bytes (write_bytes l a w v)
unfolding write_bytes
written_bytes l a w v g h = all_store Byte l a (take w v) (all_take Byte w v g) h

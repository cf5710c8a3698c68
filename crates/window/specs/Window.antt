-- Memory, and what is read from it, written to it and recorded of both. Document 01: "Memory is a window: cell a is byte a and stamp a
-- of two lent slices." Bytes never depend on stamps, so each of the two is written by a definition of its own. Assumes nothing.
use Rattle.std.specs.Prelude.{ℕ, List, ◌++◌, take, drop, replicate}
use Rattle.lists.specs.Lists.{store}
use Rattle.access.specs.Access.{Access}

-- the window: the byte and the stamp of each cell
pub record Window : Type 0 where
  pub bytes : List ℕ
  pub stamps : List ℕ

abbrev pub window_of : List ℕ → List ℕ → Window
window_of bytes stamps = record { bytes = bytes; stamps = stamps }

-- what w cells from cell a on have in the list l, and `nothing` to eight
unfoldable pub eight_cells : {A : Type 0} → A → List A → ℕ → ℕ → List A
eight_cells nothing l a w = take 8 (take w (drop a l) ++ replicate 8 nothing)

-- and with zeros, of bytes or of stamps (`read`)
abbrev pub cells_at : List ℕ → ℕ → ℕ → List ℕ
cells_at l a w = eight_cells 0 l a w

-- the bytes once the first w of eight values are written to the cells from a on, and the stamps once these bear stamp t (`write_bytes`)
unfoldable pub write_bytes : List ℕ → ℕ → ℕ → List ℕ → List ℕ
write_bytes bytes a w value = store bytes a (take w value)

unfoldable pub write_stamps : List ℕ → ℕ → ℕ → ℕ → List ℕ
write_stamps stamps a w t = store stamps a (replicate w t)

-- an access to w cells of memory from a on
abbrev pub memory_access : ℕ → List ℕ → ℕ → ℕ → ℕ → List ℕ → List ℕ → Access
memory_access a value t w is_read old oldStamps =
    record {
      is_register = 0;
      address = a;
      value = value;
      timestamp = t;
      width = w;
      is_read = is_read;
      old = old;
      old_timestamps = oldStamps;
    }

-- a read of them at stamp t, m being the window before it: the value is the old one
abbrev pub read_access : Window → ℕ → ℕ → ℕ → Access
read_access m a w t = memory_access a (cells_at m.bytes a w) t w 1 (cells_at m.bytes a w) (cells_at m.stamps a w)

-- a write of the first w of eight values to them at stamp t
abbrev pub write_access : Window → ℕ → ℕ → List ℕ → ℕ → Access
write_access m a w value t = memory_access a value t w 0 (cells_at m.bytes a w) (cells_at m.stamps a w)

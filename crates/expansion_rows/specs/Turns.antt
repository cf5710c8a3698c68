-- What the rows of a call do, one after the other. Document 01: "Order of reads, stamps and deferred writes as in the Rust." With T the
-- call's stamp: a row takes the bytes of its source and their stamps. A Set's row writes them to its destination at T; its read comes
-- last, at T + 1, writes the same bytes back to the source, and is recorded with the old bytes and stamps that were taken first. A row of
-- any other kind reads at T. A Copy's writes wait until all rows have read (Held.antt), and a Write has none. Assumes nothing.
use Rattle.std.specs.Prelude.{ℕ, ◌+◌, ◌-◌, Bool, cond, List, [], ◌∷◌, ◌++◌, leb, eqb}
use Rattle.words.specs.Words.{bit}
use Rattle.call.specs.Calls.{Call, Op}
use Rattle.access.specs.Access.{Access}
use Rattle.window.specs.Window.{Window, window_of, cells_at, write_bytes, write_stamps, read_access, write_access}
use Rattle.expansion_rows.specs.Rows.{Row}

-- a Set writes before it reads
abbrev pub inverted : Call → Bool
inverted c = eqb c.kind 1

-- T for the read and T + 1 for the write, or the other way round
abbrev pub read_stamp : Call → ℕ
read_stamp c = c.stamp + bit (inverted c)

abbrev pub write_stamp : Call → ℕ
write_stamp c = c.stamp + 1 - bit (inverted c)

-- Below, c is what remains of the call and w the row's width.

-- what the row moves: the bytes of its source as it finds them
abbrev pub value_at : Call → ℕ → List ℕ → List ℕ
value_at c w bytes = cells_at bytes c.src w

-- bytes and stamps after its turn: the destination, if a Set, and then the source
unfoldable pub turn_bytes : Call → ℕ → List ℕ → List ℕ
turn_bytes c w bytes =
    write_bytes (cond (inverted c) (write_bytes bytes c.dst w (value_at c w bytes)) bytes) c.src w (value_at c w bytes)

unfoldable pub turn_stamps : Call → ℕ → List ℕ → List ℕ
turn_stamps c w stamps =
    write_stamps (cond (inverted c) (write_stamps stamps c.dst w (write_stamp c)) stamps) c.src w (read_stamp c)

-- the accesses of its turn, m being the window before it
unfoldable pub turn_accesses : Call → ℕ → Window → List Access
turn_accesses c w m =
    cond (inverted c) (write_access m c.dst w (value_at c w m.bytes) (write_stamp c) ∷ []) []
    ++ (read_access m c.src w (read_stamp c) ∷ [])

-- its operation record; END where it moves all that remains
abbrev pub row_op : Row → List ℕ → Op
row_op r bytes =
    record {
      call = r.call;
      piece = record { width = r.width; value = value_at r.call r.width bytes };
      first = r.first;
      end = bit (leb r.call.count r.width);
    }

-- Turn after turn: the operation records, the bytes and the stamps at the end, the accesses.

unfoldable pub row_ops : List Row → List ℕ → List Op
row_ops [] bytes = []
row_ops (r ∷ rs) bytes = row_op r bytes ∷ row_ops rs (turn_bytes r.call r.width bytes)

unfoldable pub pass_bytes : List Row → List ℕ → List ℕ
pass_bytes [] bytes = bytes
pass_bytes (r ∷ rs) bytes = pass_bytes rs (turn_bytes r.call r.width bytes)

unfoldable pub pass_stamps : List Row → List ℕ → List ℕ
pass_stamps [] stamps = stamps
pass_stamps (r ∷ rs) stamps = pass_stamps rs (turn_stamps r.call r.width stamps)

unfoldable pub pass_accesses : List Row → Window → List Access
pass_accesses [] m = []
pass_accesses (r ∷ rs) m =
    turn_accesses r.call r.width m
    ++ pass_accesses rs (window_of (turn_bytes r.call r.width m.bytes) (turn_stamps r.call r.width m.stamps))

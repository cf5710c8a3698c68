-- The deferred writes of a Copy: those of its operation records, in their order, once all rows have read. The old words and stamps of
-- each are as they stand when it is done. Assumes nothing.
use Rattle.std.specs.Prelude.{ℕ, List, [], ◌∷◌}
use Rattle.call.specs.Calls.{Op}
use Rattle.access.specs.Access.{Access}
use Rattle.window.specs.Window.{Window, window_of, write_bytes, write_stamps, write_access}
use Rattle.expansion_rows.specs.Turns.{write_stamp}

-- bytes and stamps after the write of an operation record, and its access, m being the window before it
abbrev pub held_bytes : Op → List ℕ → List ℕ
held_bytes o bytes = write_bytes bytes o.call.dst o.piece.width o.piece.value

abbrev pub held_stamps : Op → List ℕ → List ℕ
held_stamps o stamps = write_stamps stamps o.call.dst o.piece.width (write_stamp o.call)

abbrev pub held_access : Op → Window → Access
held_access o m = write_access m o.call.dst o.piece.width o.piece.value (write_stamp o.call)

-- write after write

unfoldable pub held_all_bytes : List Op → List ℕ → List ℕ
held_all_bytes [] bytes = bytes
held_all_bytes (o ∷ os) bytes = held_all_bytes os (held_bytes o bytes)

unfoldable pub held_all_stamps : List Op → List ℕ → List ℕ
held_all_stamps [] stamps = stamps
held_all_stamps (o ∷ os) stamps = held_all_stamps os (held_stamps o stamps)

unfoldable pub held_accesses : List Op → Window → List Access
held_accesses [] m = []
held_accesses (o ∷ os) m = held_access o m ∷ held_accesses os (window_of (held_bytes o m.bytes) (held_stamps o m.stamps))

-- The expansion of one call over a window: operation records, accesses, and the window afterwards. Document 01: "Output: operation
-- records and access records, into two buffers, counts in the answer. An empty call gives one row of width 1, value 0, and no access."
-- The rows and what each does are told in expansion_rows (Rows, Turns, Held). Assumes nothing.
use Rattle.std.specs.Prelude.{◌≡◌, ℕ, cond, eqb, replicate}
use mathlib.Core.List.{List, [], ◌∷◌, ◌++◌, flat_map}
use Rattle.lists.specs.Lists.{store}
use Rattle.call.specs.Calls.{Call, Op}
use Rattle.call.specs.Ops.{op_record}
use Rattle.access.specs.Access.{Access, access_record}
use Rattle.window.specs.Window.{Window, window_of}
use Rattle.expansion_rows.specs.Rows.{rows_by, widths_of}
use Rattle.expansion_rows.specs.Turns.{row_ops, pass_bytes, pass_stamps, pass_accesses}
use Rattle.expansion_rows.specs.Held.{held_all_bytes, held_all_stamps, held_accesses}
use Rattle.expansion.specs.Tries.{Setting, Lent, lent, Try}
use Rattle.expansion.specs.Refusals.{answered, ExpansionNumbers, with_accesses}

-- the one operation record of an empty call
abbrev pub empty_op : Call → Op
empty_op c = record { call = c; piece = record { width = 1; value = replicate 8 0 }; first = 1; end = 1 }

abbrev pub or_empty : Call → List Op → List Op
or_empty c [] = empty_op c ∷ []
or_empty c (o ∷ os) = o ∷ os

-- A call that is cut into rows of the widths ws

-- its operation records: those of its rows, and one if there is none
unfoldable pub ops_by : Call → List ℕ → List ℕ → List Op
ops_by c ws bytes = or_empty c (row_ops (rows_by c 1 ws) bytes)

-- the deferred writes: a Copy's
abbrev pub deferred_by : Call → List ℕ → List ℕ → List Op
deferred_by c ws bytes = cond (eqb c.kind 0) (row_ops (rows_by c 1 ws) bytes) []

-- bytes, stamps and accesses: those of the rows' turns, and then of the deferred writes
unfoldable pub bytes_by : Call → List ℕ → List ℕ → List ℕ
bytes_by c ws bytes = held_all_bytes (deferred_by c ws bytes) (pass_bytes (rows_by c 1 ws) bytes)

unfoldable pub stamps_by : Call → List ℕ → Window → List ℕ
stamps_by c ws m = held_all_stamps (deferred_by c ws m.bytes) (pass_stamps (rows_by c 1 ws) m.stamps)

unfoldable pub accesses_by : Call → List ℕ → Window → List Access
accesses_by c ws m =
    pass_accesses (rows_by c 1 ws) m
    ++ held_accesses (deferred_by c ws m.bytes) (window_of (pass_bytes (rows_by c 1 ws) m.bytes) (pass_stamps (rows_by c 1 ws) m.stamps))

-- and these of the widths that the rule gives: the expansion

abbrev pub call_ops : Call → List ℕ → List Op
call_ops c bytes = ops_by c (widths_of c) bytes

abbrev pub call_bytes : Call → List ℕ → List ℕ
call_bytes c bytes = bytes_by c (widths_of c) bytes

abbrev pub call_stamps : Call → Window → List ℕ
call_stamps c m = stamps_by c (widths_of c) m

abbrev pub call_accesses : Call → Window → List Access
call_accesses c m = accesses_by c (widths_of c) m

-- after a call that is accepted: the window as the call leaves it, and its records in the buffers. Numbers past them keep their values
unfoldable pub expanded : Call → Lent → Lent
expanded c l =
    lent (call_bytes c l.bytes) (call_stamps c (window_of l.bytes l.stamps))
    (store l.ops 0 (flat_map op_record (call_ops c l.bytes)))
    (store l.accesses 0 (flat_map access_record (call_accesses c (window_of l.bytes l.stamps))))

-- the four slices after a try: a refusal leaves all as they were
unfoldable pub lent_after : Setting → Try → Lent
lent_after s t = cond (eqb (answered s t).number 0) (expanded t.call t.slices) t.slices

-- what a function that expands has to show: the numbers that it answers, and the four slices when it is done
pub record Done (s : Setting) (t : Try) (numbers : ExpansionNumbers) (after : Lent) : Type 0 where
  pub answer : numbers ≡ with_accesses t.call (answered s t)
  pub slices : after ≡ lent_after s t

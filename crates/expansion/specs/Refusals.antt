-- What the expansion answers. Document 01: "Order: .. expansion 7, 8, 1, 3, 5, 2, 9", "sums are plain, not wrapped". The answer depends
-- on the call, the gap and the lengths of the four lent slices alone. Assumes nothing.
use Rattle.std.specs.Prelude.{◌≡◌, ℕ, ◌+◌, ◌-◌, ◌*◌, ◌^◌, Bool, cond, not, ◌&&◌, ◌||◌, List, [], ◌∷◌, eqb, leb, ltb, length, Result, Ok, Err}
use Rattle.answer.specs.Numbers.{accepted, refused}
use Rattle.answer.specs.Refusals.{Refusal, refuse, first_of}
use Rattle.answer.specs.declared.Answer.{Answer}
use Rattle.call.specs.Calls.{Call}
use Rattle.call.specs.Ops.{OP_WIDTH}
use Rattle.access.specs.Access.{ACCESS_WIDTH}
use Rattle.expansion_rows.specs.Rows.{widths_of}
use Rattle.expansion.specs.Tries.{Setting, Lengths, Try, lengths}
use Rattle.expansion.specs.declared.Expanded.{Expanded}
use Rattle.expansion.specs.declared.ExpansionRefusal.{ExpansionRefusal}
use Rattle.expansion.specs.declared.ExpansionRefusal.TheVariants.{GapTooLarge, BadWindow, LastStamp, NotGapApart, PastIndex, OutsideWindow, BufferShort}

-- how many operation records a call has: one for each row, and one for an empty call
abbrev pub op_count : Call → ℕ
op_count c = cond (eqb c.count 0) 1 (length (widths_of c))

-- how many accesses: a read for each row, and a write unless it is a Write
abbrev pub access_count : Call → ℕ
access_count c = cond (eqb c.kind 2) (length (widths_of c)) (2 * length (widths_of c))

-- The tests, in document 01's words

-- 7: "gap is 2^32 or more"
abbrev pub gap_too_large : ℕ → Bool
gap_too_large gap = leb (2 ^ 32) gap

-- 8: "window slices unequal or above 65,536 cells"
abbrev pub bad_window : ℕ → Lengths → Bool
bad_window limit n = not (eqb n.cells n.stamped) || ltb limit n.cells

-- 1: "expansion with stamp 2^64 − 1"
abbrev pub last_stamp : Call → Bool
last_stamp c = eqb c.stamp (2 ^ 64 - 1)

-- 3: "Set, and dst is not src + gap as a plain sum"
abbrev pub not_gap_apart : ℕ → Call → Bool
not_gap_apart gap c = eqb c.kind 1 && not (eqb c.dst (c.src + gap))

-- 5: "Write, and dst + count above 2^32 − 1"
abbrev pub past_index : Call → Bool
past_index c = eqb c.kind 2 && ltb (2 ^ 32 - 1) (c.dst + c.count)

-- 2: "count not 0, and src + count, or for Copy and Set dst + count, is above the window's length"
abbrev pub outside_window : Call → ℕ → Bool
outside_window c cells =
    not (eqb c.count 0) && (ltb cells (c.src + c.count) || (not (eqb c.kind 2) && ltb cells (c.dst + c.count)))

-- 9: "an output buffer shorter than the result"
abbrev pub buffer_short : ℕ → ℕ → Lengths → Bool
buffer_short ops accesses n = ltb n.ops (OP_WIDTH * ops) || ltb n.accesses (ACCESS_WIDTH * accesses)

-- all refusals, in document 01's order
unfoldable pub refusals : Setting → Call → Lengths → List Refusal
refusals s c n =
    refuse 7 (gap_too_large s.gap)
    ∷ refuse 8 (bad_window s.limit n)
    ∷ refuse 1 (last_stamp c)
    ∷ refuse 3 (not_gap_apart s.gap c)
    ∷ refuse 5 (past_index c)
    ∷ refuse 2 (outside_window c n.cells)
    ∷ refuse 9 (buffer_short (op_count c) (access_count c) n)
    ∷ []

-- the answer by the lengths of the slices; its value is the number of operation records
unfoldable pub answer_by : Setting → Call → Lengths → Answer
answer_by s c n = first_of (refusals s c n) (accepted (op_count c))

-- the answer to a try
abbrev pub answered : Setting → Try → Answer
answered s t = answer_by s t.call (lengths t.slices)

-- document 01: "Accepted means that the expansion refuses nothing"
abbrev pub Accepts : Setting → Try → Type 0
Accepts s t = (answered s t).number ≡ 0

-- with the number of accesses, 0 where it is refused
pub record ExpansionNumbers : Type 0 where
  pub answer : Answer
  pub accesses : ℕ

abbrev pub with_accesses : Call → Answer → ExpansionNumbers
with_accesses c a = record { answer = a; accesses = cond (eqb a.number 0) (access_count c) 0 }

-- document 01's number, place and value of each case of the code's answer, and the number of accesses
abbrev pub refused_with : ℕ → ExpansionNumbers
refused_with n = record { answer = refused n 0; accesses = 0 }

abbrev pub refusal_number : ExpansionRefusal → ℕ
refusal_number GapTooLarge = 7
refusal_number BadWindow = 8
refusal_number LastStamp = 1
refusal_number NotGapApart = 3
refusal_number PastIndex = 5
refusal_number OutsideWindow = 2
refusal_number BufferShort = 9

abbrev pub expansion_refusal_numbers : ExpansionRefusal → Answer
expansion_refusal_numbers why = refused (refusal_number why) 0

abbrev pub expansion_numbers : Result Expanded ExpansionRefusal → ExpansionNumbers
expansion_numbers (Ok found) = record { answer = accepted found.ops; accesses = found.accesses }
expansion_numbers (Err why) = refused_with (refusal_number why)

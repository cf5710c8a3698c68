-- One line over the four slices that are lent for it, and all lines: cited by the contracts of inner functions alone. Assumes nothing.
use Rattle.std.specs.Prelude.{cond, List, ℕ, ◌*◌, eqb, take, Option, Some, None, Result, Ok, Err}
use Rattle.answer.specs.declared.Answer.{Answer}
use Rattle.call.specs.Ops.{OP_WIDTH}
use Rattle.expansion.specs.Tries.{Setting, Lent, try_of}
use Rattle.expansion.specs.Refusals.{answered}
use Rattle.expansion.specs.Expansion.{lent_after}
use Rattle.text.specs.declared.CallLine.{CallLine}
use Rattle.callcheck_text.specs.Run.{Ending, done, refused, call_of}
use Rattle.callcheck_text.specs.declared.Refused.{Refused}

-- how many rows an accepted call has, and the number and the line of a refusal
abbrev pub step_of : ℕ → Answer → Result ℕ Refused
step_of line a = cond (eqb a.number 0) (Ok a.value) (Err (record { number = a.number; line = line }))

-- the line's answer: the expansion's, and 10 for another form
abbrev pub line_step : Setting → ℕ → Option CallLine → Lent → Result ℕ Refused
line_step s line (Some c) l = step_of line (answered s (try_of (call_of c) l))
line_step s line None l = Err (record { number = 10; line = line })

-- the four slices afterwards
abbrev pub line_after : Setting → Option CallLine → Lent → Lent
line_after s (Some c) l = lent_after s (try_of (call_of c) l)
line_after s None l = l

-- the ending that the code's answer tells of, its buffer of operation records with it
abbrev pub ending_of : Result ℕ Refused → List ℕ → Ending
ending_of (Ok rows) ops = done (take (OP_WIDTH * rows) ops)
ending_of (Err why) ops = refused why.number why.line

abbrev pub rows_done : Result ℕ Refused → ℕ
rows_done (Ok rows) = rows
rows_done (Err why) = 0

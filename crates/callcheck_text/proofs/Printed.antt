-- The verdict as the code finds it, and the output of each way that the call lines end. Assumes nothing.
use mathlib.Core.Path.{◌≡◌, refl, sym, ap, ◌∙◌}
use mathlib.Core.List.{List}
use Prim.Native.Nat.{ℕ, ◌*◌, ◌^◌, ◌≤◌, ◌<◌}
use native.Mathlib.Omega.{arith}
use borrow.Author.Tests.{le-leb, lt-leb}
use lib.ListN.{take, replicate}
use Rattle.answer.specs.Numbers.{accepted}
use Rattle.answer.specs.declared.Answer.{Answer}
use Rattle.records.specs.Records.{LIMIT}
use Rattle.records.specs.Table.{TableAnswer, table_numbers}
use Rattle.records.specs.declared.TableRefusal.TheVariants.{TooManyRecords, BadRecord, BufferShort}
use Rattle.expansion.specs.Tries.{under}
use Rattle.copy_row.specs.Columns.{COLUMNS}
use Rattle.copy_row.specs.Trace.{copy_answer, copy_after}
use Rattle.copy_row.proofs.CopyTable.{made_facts}
use Rattle.chain.specs.Chain.{chain_answer, refusal_numbers, chain_numbers}
use Rattle.chain.specs.declared.ChainRefusal.{ChainRefusal}
use Rattle.text.specs.Pieces.{before, after}
use Rattle.text.specs.Lines.{lines, gap_of}
use Rattle.std.specs.Prelude.{Some, None, Result, Ok, Err}
use Rattle.std.specs.Result.{result_unwrap_or}
use Rattle.text.specs.RowLines.{refused_text}
use Rattle.callcheck_text.specs.Run.{lines_from}
use Rattle.callcheck_text.specs.Inner.{ending_of}
use Rattle.callcheck_text.specs.Output.{TABLE_ROOM, checked_rows, verdict_of, ending_text, start, output_of}
use Rattle.callcheck_text.specs.declared.Refused.{Refused}

-- The verdict

-- the rows that are made, and that they fit into the table
pub rows_of : (made : TableAnswer) → result_unwrap_or made 0 ≡ (table_numbers 8 made).value
rows_of (Ok rows) = refl
rows_of (Err TooManyRecords) = refl
rows_of (Err (BadRecord place)) = refl
rows_of (Err BufferShort) = refl

pub table_fits : (ops : List ℕ) (room : ℕ) → COLUMNS * (table_numbers 8 (copy_answer LIMIT ops room)).value ≤ room
table_fits ops room = go (copy_answer LIMIT ops room) refl
  where
    go : (a : TableAnswer) → copy_answer LIMIT ops room ≡ a → COLUMNS * (table_numbers 8 a).value ≤ room
    go (Ok rows) e = (made_facts LIMIT ops room rows e).fits
    go (Err TooManyRecords) e = omega arith
    go (Err (BadRecord place)) e = omega arith
    go (Err BufferShort) e = omega arith

pub verdict_is : (gap rows : ℕ) (ops table : List ℕ)
    → rows ≡ (table_numbers 8 (copy_answer LIMIT ops TABLE_ROOM)).value
    → table ≡ copy_after ops (copy_answer LIMIT ops TABLE_ROOM) (replicate TABLE_ROOM 0)
    → chain_numbers (chain_answer gap (take (COLUMNS * rows) table)) ≡ verdict_of gap ops
unfolding verdict_of checked_rows
verdict_is gap rows ops table e f = rw (e, f)

-- the numbers of what the chain check finds
pub told : (found : Result ℕ ChainRefusal) (a : Answer) → ((v : ℕ) → found ≡ Ok v → a ≡ accepted v)
    → ((why : ChainRefusal) → found ≡ Err why → a ≡ refusal_numbers why) → a ≡ chain_numbers found
told (Ok v) a f g = f v refl
told (Err why) a f g = g why refl

-- What is printed

-- the output for the call lines, by what they came to
module _ (gap : ℕ) (text ops : List ℕ) (r : Result ℕ Refused) (e : ending_of r ops ≡ lines_from (under gap) 2 (lines text) start) where
  pub ran_refused : (why : Refused) → r ≡ Err why
      → refused_text why.number why.line ≡ ending_text gap (lines_from (under gap) 2 (lines text) start)
  unfolding ending_text
  ran_refused why q = ap (ending_text gap) (sym (ap (λ (x : Result ℕ Refused). ending_of x ops) q) ∙ e)

-- The whole output, by line 1

module _ (input : List ℕ) where
  pub no_gap : gap_of (before 10 input) ≡ None → refused_text 10 1 ≡ output_of input
  unfolding output_of
  no_gap e = rw e

  pub wide_gap : (gap : ℕ) → gap_of (before 10 input) ≡ Some gap → 2 ^ 32 ≤ gap → refused_text 7 1 ≡ output_of input
  unfolding output_of
  wide_gap gap e h = rw (e, le-leb (2 ^ 32) gap h)

  pub good_gap : (gap : ℕ) → gap_of (before 10 input) ≡ Some gap → gap < 2 ^ 32
      → ending_text gap (lines_from (under gap) 2 (lines (after 10 input)) start) ≡ output_of input
  unfolding output_of
  good_gap gap e h = rw (e, lt-leb (2 ^ 32) gap h)

-- The chain check. Document 01: "chain check 7, 13, then row by row 14 to 17, then 18", "The check stops at the first row and, in it, the
-- first check that fails." Document 02: "The old entry calls both, row by row, in its old order": the row check, then the link check.
-- Assumes nothing.
use Rattle.std.specs.Prelude.{ℕ, ◌+◌, ◌%◌, ◌^◌, cond, List, [], ◌∷◌, eqb, leb, length, Result, Ok, Err}
use Rattle.std.proofs.Math.Option.{none, some}
use Rattle.answer.specs.Numbers.{accepted, refused}
use Rattle.answer.specs.declared.Answer.{Answer}
use Rattle.records.specs.Records.{records_in}
use Rattle.copy_row.specs.Columns.{COLUMNS}
use Rattle.copy_residues.specs.RowCheck.{row_fault}
use Rattle.copy_residues.specs.declared.faults.RowCheckRefusal.{RowCheckRefusal}
use Rattle.row_check.specs.RowAnswer.{fault_numbers}
use Rattle.chain.specs.Link.{Before, closed, before_of, link_fault}
use Rattle.chain.specs.declared.LinkRefusal.{LinkRefusal}
use Rattle.chain.specs.declared.LinkRefusal.TheVariants.{Broken, NotEnded}
use Rattle.chain.specs.declared.ChainRefusal.{ChainRefusal}
use Rattle.chain.specs.declared.ChainRefusal.TheVariants.{GapTooLarge, NotRows, Row, Link}

-- what the chain check answers: how many rows there are, or the first check that fails
abbrev pub ChainAnswer : Type 0
ChainAnswer = Result ℕ ChainRefusal

-- the rows of a list: "A row is a run of 41 numbers of the list"
abbrev pub table_rows : List ℕ → List (List ℕ)
table_rows l = records_in COLUMNS l

-- a row's fault refuses the list at row k; else `next` decides
abbrev pub on_row : Result (Unit {0}) RowCheckRefusal → ℕ → ChainAnswer → ChainAnswer
on_row (Ok fine) k next = next
on_row (Err why) k next = Err (Row k why)

-- so does a link's, at row k or at the end of k rows
abbrev pub on_link : Result (Unit {0}) LinkRefusal → ℕ → ChainAnswer → ChainAnswer
on_link (Ok linked) k next = next
on_link (Err why) k next = Err (Link k why)

-- the rows from row k on, b before them
unfoldable pub chain_from : ℕ → Before → ℕ → List (List ℕ) → ChainAnswer
chain_from gap b k [] = on_link (link_fault b none) k (Ok k)
chain_from gap b k (row ∷ rows) =
    on_row (row_fault gap row) k (on_link (link_fault b (some row)) k (chain_from gap (before_of row) (k + 1) rows))

-- the whole check
unfoldable pub chain_answer : ℕ → List ℕ → ChainAnswer
chain_answer gap l =
    cond (leb (2 ^ 32) gap) (Err GapTooLarge)
    (cond (eqb (length l % COLUMNS) 0) (chain_from gap closed 0 (table_rows l)) (Err NotRows))

-- document 01's number, place and value of a link that is refused
abbrev pub link_numbers : ℕ → LinkRefusal → Answer
link_numbers place Broken = refused 17 place
link_numbers place NotEnded = refused 18 place

-- of each refusal
abbrev pub refusal_numbers : ChainRefusal → Answer
refusal_numbers GapTooLarge = refused 7 0
refusal_numbers NotRows = refused 13 0
refusal_numbers (Row row why) = fault_numbers row why
refusal_numbers (Link place why) = link_numbers place why

-- and of each answer
abbrev pub chain_numbers : ChainAnswer → Answer
chain_numbers (Ok rows) = accepted rows
chain_numbers (Err why) = refusal_numbers why

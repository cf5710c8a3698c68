-- The chain check from row k on: what each finding on row k makes of the answer, and what the list's end does. Document 01: "The check
-- stops at the first row and, in it, the first check that fails." Assumes nothing.
use mathlib.Core.Path.{◌≡◌, sym, ap, ◌∙◌}
use mathlib.Core.List.{List}
use mathlib.Core.Option.{none, some}
use Prim.Native.Nat.{ℕ, ◌+◌, ◌-◌, ◌/◌, ◌%◌, ◌^◌, ◌≤◌, ◌<◌}
use native.Mathlib.Omega.{arith}
use borrow.Author.Tests.{eq-eqb, ne_eqb, le-leb, lt-leb}
use lib.ListN.{length}
use Rattle.std.specs.Prelude.{Ok, Err, Option, None}
use Rattle.lists.specs.Lists.{listed}
use Rattle.lists.proofs.Listed.{listed_left, listed_over, listed_length}
use Rattle.records.specs.Records.{record_count, record_at, records_in}
use Rattle.records.proofs.Records.{record_length}
use Rattle.copy_row.specs.Columns.{COLUMNS}
use Rattle.copy_residues.specs.RowCheck.{row_fault}
use Rattle.copy_residues.specs.declared.faults.RowCheckRefusal.{RowCheckRefusal}
use Rattle.row_test.specs.Inner.{Caps}
use Rattle.row_test.specs.declared.row.CappedRow.{CappedRow}
use Rattle.row_test.proofs.Columns.{caps_of_fine}
use Rattle.chain.specs.Link.{closed, before_of, link_fault}
use Rattle.chain.specs.Chain.{table_rows, on_row, on_link, chain_from, chain_answer}
use Rattle.chain.specs.Inner.{standing}
use Rattle.chain.specs.declared.LinkRefusal.{LinkRefusal}
use Rattle.chain.specs.declared.ChainRefusal.TheVariants.{GapTooLarge, NotRows, Row, Link}

-- the rows from row k on
abbrev pub rest_at : List ℕ → ℕ → List (List ℕ)
rest_at l k = listed (record_at COLUMNS l) k (length l / COLUMNS - k)

pub row_length : (l : List ℕ) (k : ℕ) → k < length l / COLUMNS → length (record_at COLUMNS l k) ≡ COLUMNS
row_length l k h = record_length COLUMNS l k (omega arith)

-- whole rows, from the first on
pub rest_all : (l : List ℕ) → length l % COLUMNS ≡ 0 → table_rows l ≡ rest_at l 0
unfolding records_in
rest_all l whole = let e : record_count COLUMNS l ≡ length l / COLUMNS - 0 = omega arith in ap (listed (record_at COLUMNS l) 0) e

pub rows_count_lem : (l : List ℕ) → length l % COLUMNS ≡ 0 → length (table_rows l) ≡ length l / COLUMNS
rows_count_lem l whole = ap length (rest_all l whole) ∙ listed_length (record_at COLUMNS l) 0 (length l / COLUMNS - 0) ∙ omega arith

-- What a walk over the rows has when it comes to row k: the answer is that of the rows from k on, behind the row before

abbrev pub Walk : ℕ → List ℕ → Option CappedRow → ℕ → Type 0
Walk gap l previous k = chain_answer gap l ≡ chain_from gap (standing previous) k (rest_at l k)

module _ (gap : ℕ) (l : List ℕ) where
  pub gap_large : 2 ^ 32 ≤ gap → Err GapTooLarge ≡ chain_answer gap l
  unfolding chain_answer
  gap_large h = rw (le-leb (2 ^ 32) gap h)

  pub not_rows : gap < 2 ^ 32 → (length l % COLUMNS ≡ 0 → ⊥) → Err NotRows ≡ chain_answer gap l
  unfolding chain_answer
  not_rows h n = rw (lt-leb (2 ^ 32) gap h, ne_eqb (length l % COLUMNS) 0 n)

  module _ (h : gap < 2 ^ 32) (whole : length l % COLUMNS ≡ 0) where
    pub checked : chain_answer gap l ≡ chain_from gap closed 0 (table_rows l)
    unfolding chain_answer
    checked = rw (lt-leb (2 ^ 32) gap h, eq-eqb (length l % COLUMNS) 0 whole)

    pub walk_start : Walk gap l None 0
    walk_start = checked ∙ ap (chain_from gap closed 0) (rest_all l whole)

-- At row k, and at the list's end

module _ (gap : ℕ) (l : List ℕ) (previous : Option CappedRow) (k : ℕ) (walk : Walk gap l previous k) where
  module _ (h : k < length l / COLUMNS) (row : List ℕ) (is : row ≡ record_at COLUMNS l k) where
    at_row : chain_answer gap l
        ≡ on_row (row_fault gap row) k (on_link (link_fault (standing previous) (some row)) k (chain_from gap (before_of row) (k + 1) (rest_at l (k + 1))))
    unfolding chain_from
    at_row = walk ∙ rw (is, listed_left (record_at COLUMNS l) (length l / COLUMNS) k h)

    pub from_row : (why : RowCheckRefusal) → row_fault gap row ≡ Err why → Err (Row k why) ≡ chain_answer gap l
    from_row why q = sym (at_row ∙ rw q)

    pub from_link : row_fault gap row ≡ Ok tt → (why : LinkRefusal) → link_fault (standing previous) (some row) ≡ Err why
        → Err (Link k why) ≡ chain_answer gap l
    from_link fine why q = sym (at_row ∙ rw (fine, q))

    -- a row that passed
    pub capped : gap < 2 ^ 32 → row_fault gap row ≡ Ok tt → Caps row
    capped small fine = caps_of_fine gap small row (ap length is ∙ row_length l k h) fine

    pub walk_on : row_fault gap row ≡ Ok tt → link_fault (standing previous) (some row) ≡ Ok tt
        → chain_answer gap l ≡ chain_from gap (before_of row) (k + 1) (rest_at l (k + 1))
    walk_on fine q = at_row ∙ rw (fine, q)

  module _ (h : k ≡ length l / COLUMNS) where
    at_end : chain_answer gap l ≡ on_link (link_fault (standing previous) none) (length l / COLUMNS) (Ok (length l / COLUMNS))
    unfolding chain_from
    at_end = walk ∙ rw (listed_over (record_at COLUMNS l) (length l / COLUMNS) k (omega arith), h)

    pub from_end : (why : LinkRefusal) → link_fault (standing previous) none ≡ Err why → Err (Link (length l / COLUMNS) why) ≡ chain_answer gap l
    from_end why q = sym (at_end ∙ rw q)

    pub all_passed : link_fault (standing previous) none ≡ Ok tt → Ok (length l / COLUMNS) ≡ chain_answer gap l
    all_passed q = sym (at_end ∙ rw q)

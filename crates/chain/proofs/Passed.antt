-- What a list that passes the chain check is: whole rows, nothing wrong in any by itself, and no link refused. And each refusal has a
-- number. Assumes nothing.
use mathlib.Core.Path.{◌≡◌, refl, sym, ap, ◌∙◌}
use mathlib.Core.Bool.{Bool, true, false, cond, false≢true}
use mathlib.Core.List.{List, [], ◌∷◌}
use mathlib.Core.Option.{some}
use Prim.Native.Nat.{ℕ, ◌+◌, ◌/◌, ◌%◌, ◌^◌, ◌<◌}
use native.Mathlib.Omega.{arith}
use borrow.Author.Tests.{leb-false, eqb-true, eq-eqb}
use lib.Dec.{eqb, leb}
use lib.ListN.{length}
use Rattle.std.specs.Prelude.{Result, Ok, Err}
use Rattle.lists.specs.Lists.{All}
use Rattle.records.proofs.RecordList.{records_whole}
use Rattle.copy_row.specs.Columns.{COLUMNS}
use Rattle.copy_residues.specs.RowCheck.{row_fault}
use Rattle.copy_residues.specs.declared.faults.RowCheckRefusal.{RowCheckRefusal}
use Rattle.row_test.specs.Inner.{Caps}
use Rattle.row_test.proofs.Columns.{caps_of_fine}
use Rattle.row_check.proofs.Answers.{fault_numbered}
use Rattle.chain.specs.Link.{Before, closed, link_fault, before_of, Unbroken}
use Rattle.chain.specs.Chain.{table_rows, on_row, on_link, ChainAnswer, chain_from, chain_answer, refusal_numbers, chain_numbers}
use Rattle.chain.specs.declared.LinkRefusal.{LinkRefusal}
use Rattle.chain.specs.declared.LinkRefusal.TheVariants.{Broken, NotEnded}
use Rattle.chain.specs.declared.ChainRefusal.{ChainRefusal}
use Rattle.chain.specs.declared.ChainRefusal.TheVariants.{GapTooLarge, NotRows, Row, Link}
use Rattle.chain.proofs.Rows.{rows_count_lem, checked}

pub refusal_numbered : (why : ChainRefusal) → eqb (refusal_numbers why).number 0 ≡ false
refusal_numbered GapTooLarge = refl
refusal_numbered NotRows = refl
refusal_numbered (Row row why) = fault_numbered row why
refusal_numbered (Link place Broken) = refl
refusal_numbered (Link place NotEnded) = refl

-- An answer that refuses nothing

abbrev pub Accepted : ChainAnswer → Type 0
Accepted v = (chain_numbers v).number ≡ 0

not_accepted : (why : ChainRefusal) → Accepted (Err why) → ⊥
not_accepted why e = false≢true (sym (refusal_numbered why) ∙ eq-eqb _ _ e)

row_accepted : (f : Result (Unit {0}) RowCheckRefusal) (k : ℕ) (v : ChainAnswer) → Accepted (on_row f k v) → (f ≡ Ok tt) × Accepted v
row_accepted (Ok fine) k v e = (refl, e)
row_accepted (Err why) k v e = absurd (not_accepted (Row k why) e)

link_accepted : (f : Result (Unit {0}) LinkRefusal) (k : ℕ) (v : ChainAnswer) → Accepted (on_link f k v) → (f ≡ Ok tt) × Accepted v
link_accepted (Ok linked) k v e = (refl, e)
link_accepted (Err why) k v e = absurd (not_accepted (Link k why) e)

-- The rows of a list that passes: nothing is wrong with any, and no link is refused

module _ (gap : ℕ) where
  abbrev pub FineRow : List ℕ → Type 0
  FineRow row = row_fault gap row ≡ Ok tt

  pub accepted_halves : (b : Before) (k : ℕ) (rows : List (List ℕ)) → Accepted (chain_from gap b k rows) → All FineRow rows × Unbroken b rows
  unfolding chain_from
  accepted_halves b k [] e = (tt, (link_accepted _ k (Ok k) e).0)
  accepted_halves b k (row ∷ rows) e =
      let later = chain_from gap (before_of row) (k + 1) rows in
      let f = row_accepted (row_fault gap row) k (on_link (link_fault b (some row)) k later) e in
      let l = link_accepted (link_fault b (some row)) k later f.1 in
      let halves = accepted_halves (before_of row) (k + 1) rows l.1 in
      ((f.0, halves.0), (l.0, halves.1))

  pub halves_pass : (b : Before) (k : ℕ) (rows : List (List ℕ)) → All FineRow rows → Unbroken b rows
      → chain_from gap b k rows ≡ Ok (k + length rows)
  unfolding chain_from
  halves_pass b k [] fine unbroken = rw unbroken (ap Ok (omega arith))
  halves_pass b k (row ∷ rows) fine unbroken =
      rw (fine.0, unbroken.0) (halves_pass (before_of row) (k + 1) rows fine.1 unbroken.1 ∙ ap Ok (omega arith))

pub record Passing (gap : ℕ) (l : List ℕ) : Type 0 where
  pub small : gap < 2 ^ 32
  pub whole : length l % COLUMNS ≡ 0
  pub fine : All (FineRow gap) (table_rows l)
  pub unbroken : Unbroken closed (table_rows l)

pub passing : (gap : ℕ) (l : List ℕ) → Accepted (chain_answer gap l) → Passing gap l
unfolding chain_answer
passing gap l e = go (leb (2 ^ 32) gap) (eqb (length l % COLUMNS) 0) refl refl e
  where
    go : (s t : Bool) → leb (2 ^ 32) gap ≡ s → eqb (length l % COLUMNS) 0 ≡ t
        → Accepted (cond s (Err GapTooLarge) (cond t (chain_from gap closed 0 (table_rows l)) (Err NotRows))) → Passing gap l
    go true t p q a = absurd (omega arith)
    go false false p q a = absurd (omega arith)
    go false true p q a =
        let halves = accepted_halves gap closed 0 (table_rows l) a in
        record { small = leb-false _ _ p; whole = eqb-true _ _ q; fine = halves.0; unbroken = halves.1 }

-- all its rows are counted
pub passing_answer : (gap : ℕ) (l : List ℕ) → Passing gap l → chain_answer gap l ≡ Ok (length l / COLUMNS)
passing_answer gap l p =
    checked gap l p.small p.whole
    ∙ halves_pass gap closed 0 (table_rows l) p.fine p.unbroken
    ∙ ap Ok (omega (arith, rows_count_lem l p.whole))

-- Their columns lie below their caps

rows_caps : (gap : ℕ) → gap < 2 ^ 32 → (rows : List (List ℕ)) → All (λ (row : List ℕ). length row ≡ COLUMNS) rows → All (FineRow gap) rows
    → All Caps rows
rows_caps gap small [] wide fine = tt
rows_caps gap small (row ∷ rows) wide fine = (caps_of_fine gap small row wide.0 fine.0, rows_caps gap small rows wide.1 fine.1)

pub passing_caps : (gap : ℕ) (l : List ℕ) → Passing gap l → All Caps (table_rows l)
passing_caps gap l p = rows_caps gap p.small (table_rows l) (records_whole COLUMNS (omega arith) l p.whole) p.fine

-- Laws of tables, for every record width, row width and limit: what a made table says of its input, what each row holds, and what
-- a loop needs that fills a table row by row. Assumes nothing.
use mathlib.Core.Path.{◌≡◌, refl, ap, ◌∙◌}
use mathlib.Core.Logic.{⊎_elim}
use mathlib.Core.Bool.{Bool, true, false, cond}
use mathlib.Core.List.{List, ◌++◌, append_assoc}
use Prim.Native.Nat.{ℕ, ◌+◌, ◌-◌, ◌*◌, ◌≤◌, ◌<◌, zero, suc}
use native.Mathlib.Omega.{arith}
use borrow.Author.Tests.{lt-ltb, le-ltb, le-leb, lt-leb, leb-true, ltb-true, ltb-false}
use lib.Dec.{ltb, leb}
use lib.ListN.{length, take, drop}
use native.Mathlib.Nat.{eq-or-lt_of_le, le_of_suc-le-suc}
use lib.Seq.{take_at, drop_at}
use Rattle.lists.specs.Lists.{store, flat}
use Rattle.lists.proofs.Store.{length_store, store_eq}
use Rattle.lists.proofs.Flat.{flat_length, flat_placed}
use Rattle.records.specs.Records.{record_count, record_at, first_bad}
use Rattle.records.specs.RowCount.{row_count}
use Rattle.records.specs.Table.{TableAnswer, table_answer, row_at, table_after}
use Rattle.std.specs.Prelude.{Ok, Err}
use Rattle.records.specs.declared.TableRefusal.TheVariants.{TooManyRecords, BadRecord, BufferShort}
use Rattle.records.proofs.Records.{all_good}

-- Rows one behind the other

module _ (v : ℕ) (g : ℕ → List ℕ) (h : (j : ℕ) → length (g j) ≡ v) where
  row_before_lem : (n k : ℕ) (s : List ℕ) → k < n → take v (drop (v * k) (flat g n ++ s)) ≡ g k
  unfolding flat
  row_before_lem zero k s z = absurd (omega arith)
  row_before_lem (suc n) k s z =
      rw append_assoc
      (⊎_elim
      (λ (q : k ≡ n). rw (q, drop_at (flat g n) (g n ++ s) (v * n) (flat_length v g n (λ j _. h j))) (take_at (g n) s v (h n)))
      (λ (l : k < n). row_before_lem n k (g n ++ s) l)
      (eq-or-lt_of_le (le_of_suc-le-suc z)))

  -- row k of n rows of v numbers is what was written there
  pub flat_row : (l : List ℕ) (n k : ℕ) → v * n ≤ length l → k < n → record_at v (store l 0 (flat g n)) k ≡ g k
  flat_row l n k fits z =
      let e : length (flat g n) ≡ v * n = flat_length v g n (λ j _. h j) in
      ap (λ (t : List ℕ). take v (drop (v * k) t)) (store_eq l 0 (flat g n) (omega arith)) ∙ row_before_lem n k _ z

-- The answer

-- what a table that is made says of its input
pub record MadeFacts (limit v n bad room rows : ℕ) : Type 0 where
  pub allowed : n ≤ limit
  pub fine : n ≤ bad
  pub fits : v * rows ≤ room
  pub count : rows ≡ row_count n

module _ (limit v n bad room : ℕ) where
  pub made_facts : (rows : ℕ) → table_answer limit v n bad room ≡ Ok rows → MadeFacts limit v n bad room rows
  unfolding table_answer
  made_facts rows e = step _ _ _ refl refl refl e
    where
      step : (x y z : Bool) → ltb limit n ≡ x → ltb bad n ≡ y → leb (v * row_count n) room ≡ z
          → cond x (Err TooManyRecords) (cond y (Err (BadRecord bad)) (cond z (Ok (row_count n)) (Err BufferShort))) ≡ Ok rows
          → MadeFacts limit v n bad room rows
      step true y z hx hy hz e = let q : ◌≡◌ {A = ℕ} 0 1 = cc in absurd (omega arith)
      step false true z hx hy hz e = let q : ◌≡◌ {A = ℕ} 0 1 = cc in absurd (omega arith)
      step false false false hx hy hz e = let q : ◌≡◌ {A = ℕ} 0 1 = cc in absurd (omega arith)
      step false false true hx hy hz e =
          let q : rows ≡ row_count n = cc in
          record { allowed = ltb-false _ _ hx; fine = ltb-false _ _ hy; fits = rw q (leb-true _ _ hz); count = q }

  -- the cases, in document 01's order
  pub answer_over : limit < n → table_answer limit v n bad room ≡ Err TooManyRecords
  unfolding table_answer
  answer_over h = rw (lt-ltb limit n h)

  pub answer_bad : n ≤ limit → bad < n → table_answer limit v n bad room ≡ Err (BadRecord bad)
  unfolding table_answer
  answer_bad h b = rw (le-ltb limit n h, lt-ltb bad n b)

  pub answer_short : n ≤ limit → n ≤ bad → room < v * row_count n → table_answer limit v n bad room ≡ Err BufferShort
  unfolding table_answer
  answer_short h b r = rw (le-ltb limit n h, le-ltb bad n b, lt-leb (v * row_count n) room r)

  pub answer_made : n ≤ limit → n ≤ bad → v * row_count n ≤ room → table_answer limit v n bad room ≡ Ok (row_count n)
  unfolding table_answer
  answer_made h b r = rw (le-ltb limit n h, le-ltb bad n b, le-leb (v * row_count n) room r)

-- The rows

module _ (w : ℕ) (row : List ℕ → List ℕ) (padding l : List ℕ) (k : ℕ) where
  pub row_record : k < record_count w l → row_at w row padding l k ≡ row (record_at w l k)
  unfolding row_at
  row_record h = rw (lt-ltb k (record_count w l) h)

  pub row_padding : record_count w l ≤ k → row_at w row padding l k ≡ padding
  unfolding row_at
  row_padding h = rw (le-ltb k (record_count w l) h)

-- rows of v numbers: `wide` says so of each record's row, and `wide-padding` of the padding
module _
    (v w : ℕ) (row : List ℕ → List ℕ) (padding : List ℕ)
    (wide : (r : List ℕ) → length (row r) ≡ v) (wide_padding : length padding ≡ v) (l : List ℕ) where
  pub row_length : (k : ℕ) → length (row_at w row padding l k) ≡ v
  unfolding row_at
  row_length k = step (ltb k (record_count w l))
    where
      step : (b : Bool) → length (cond b (row (record_at w l k)) padding) ≡ v
      step true = wide _
      step false = wide_padding

  -- a loop that fills the table: row k was lent, and came back as it should be
  pub rows_more : (table t written : List ℕ) (k : ℕ) → t ≡ store table 0 (flat (row_at w row padding l) k) → written ≡ row_at w row padding l k
      → v * k + v ≤ length table
      → take (v * k) t ++ (written ++ drop (v * k + v - v * k) (drop (v * k) t)) ≡ store table 0 (flat (row_at w row padding l) (k + 1))
  rows_more table t written k q e fits = flat_placed v (row_at w row padding l) table t written k row_length q e fits

  -- row k of a made table
  pub made_row : (table : List ℕ) (rows k : ℕ) → v * rows ≤ length table → k < rows
      → record_at v (table_after w row padding l (Ok rows) table) k ≡ row_at w row padding l k
  unfolding table_after
  made_row table rows k fits h = flat_row v (row_at w row padding l) row_length table rows k fits h

  -- what the padding has, and the row of each good record, every row of a made table has
  pub every_row : (P : List ℕ → Type 0) (good : List ℕ → Bool) (limit rows : ℕ) (table : List ℕ)
      → ((r : List ℕ) → good r ≡ true → P (row r)) → P padding
      → table_answer limit v (record_count w l) (first_bad w good l) (length table) ≡ Ok rows
      → (k : ℕ) → k < rows → P (record_at v (table_after w row padding l (Ok rows) table) k)
  unfolding row_at
  every_row P good limit rows table each pads made k h = rw (made_row table rows k facts.fits h) (step _ refl)
    where
      facts : MadeFacts limit v (record_count w l) (first_bad w good l) (length table) rows
      facts = made_facts limit v (record_count w l) (first_bad w good l) (length table) rows made

      step : (b : Bool) → ltb k (record_count w l) ≡ b → P (cond b (row (record_at w l k)) padding)
      step true q = each _ (all_good w good l facts.fine k (ltb-true _ _ q))
      step false q = pads

-- the lent table keeps its length, whatever the answer
pub after_length : (w : ℕ) (row : List ℕ → List ℕ) (padding l : List ℕ) (a : TableAnswer) (table : List ℕ)
    → length (table_after w row padding l a table) ≡ length table
unfolding table_after
after_length w row padding l (Ok rows) table = length_store table 0 _
after_length w row padding l (Err why) table = refl

-- a refusal writes nothing; its case is not the first, which is Ok
pub refused_keeps : (w : ℕ) (row : List ℕ → List ℕ) (padding l table : List ℕ) (answer : TableAnswer)
    → ((rows : ℕ) → answer ≡ Ok rows → ⊥) → table ≡ table_after w row padding l answer table
unfolding table_after
refused_keeps w row padding l table (Ok rows) h = absurd (h rows refl)
refused_keeps w row padding l table (Err why) h = refl

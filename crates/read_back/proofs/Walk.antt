-- A walk over the rows of a list that fits: what row k is, and that what is counted and written row by row is what the definitions say of
-- the list. Assumes nothing.
use mathlib.Core.Path.{◌≡◌, refl, sym, ap, subst, ◌∙◌}
use mathlib.Core.Bool.{Bool, true, false}
use mathlib.Core.List.{List}
use Prim.Native.Nat.{ℕ, ◌+◌, ◌*◌, ◌/◌, ◌≤◌, ◌<◌}
use native.Mathlib.Omega.{arith}
use lib.ListN.{length}
use Rattle.lists.specs.Lists.{store, picked, counted}
use Rattle.lists.specs.Inner.{one_more, placed}
use Rattle.lists.proofs.All.{all_of}
use Rattle.lists.proofs.Filled.{Filled, count_next, filled_next, filled_room}
use Rattle.lists.proofs.Flat.{counted_le}
use Rattle.lists.proofs.Joined.{flat_map_length}
use Rattle.lists.proofs.Listed.{picked_kept, kept_count}
use Rattle.records.specs.Records.{record_count, record_at, records_in}
use Rattle.records.proofs.RecordList.{each_record}
use Rattle.copy_row.specs.Columns.{COLUMNS}
use Rattle.row_test.specs.Inner.{Caps}
use Rattle.read_back.specs.Inner.{is_read, numbers_of, width_of, rows_read, numbers_read, RowsFit}

-- whether row k is read, and what of it
abbrev pub read_at : Bool → List ℕ → ℕ → Bool
read_at calls l k = is_read calls (record_at COLUMNS l k)

abbrev pub part_at : Bool → List ℕ → ℕ → List ℕ
part_at calls l k = numbers_of calls (record_at COLUMNS l k)

pub numbers_wide : (calls : Bool) (row : List ℕ) → length (numbers_of calls row) ≡ width_of calls
numbers_wide true row = refl
numbers_wide false row = refl

module _ (l : List ℕ) (fit : RowsFit l) where
  rows_counted : record_count COLUMNS l ≡ length l / COLUMNS
  rows_counted = omega (arith, fit.whole)

  pub row_caps : (k : ℕ) → k < length l / COLUMNS → Caps (record_at COLUMNS l k)
  row_caps k h = each_record COLUMNS Caps l fit.caps k (omega (arith, rows_counted))

  module _ (calls : Bool) where
    pub rows_read_lem : length (rows_read calls l) ≡ counted (read_at calls l) (length l / COLUMNS)
    unfolding rows_read records_in
    rows_read_lem = kept_count (is_read calls) (record_at COLUMNS l) (record_count COLUMNS l) ∙ ap (counted (read_at calls l)) rows_counted

    pub rows_most : length (rows_read calls l) ≤ length l / COLUMNS
    rows_most = omega (arith, rows_read_lem, counted_le (read_at calls l) (length l / COLUMNS))

    pub numbers_read_lem : picked (read_at calls l) (part_at calls l) (length l / COLUMNS) ≡ numbers_read calls l
    unfolding numbers_read rows_read records_in
    numbers_read_lem =
        ap (picked (read_at calls l) (part_at calls l)) (sym rows_counted)
        ∙ picked_kept (is_read calls) (numbers_of calls) (record_at COLUMNS l) (record_count COLUMNS l)

    -- Row k of a walk, and its end

    module _ (k : ℕ) where
      -- counted
      pub row_counted : (row : List ℕ) → row ≡ record_at COLUMNS l k → (j next : ℕ) → j ≡ counted (read_at calls l) k
          → next ≡ one_more (is_read calls row) j → next ≡ counted (read_at calls l) (k + 1)
      row_counted row is j next e more =
          count_next (read_at calls l) k j next e (more ∙ ap (λ (r : List ℕ). one_more (is_read calls r) j) is)

      pub all_counted : k ≡ length l / COLUMNS → (j : ℕ) → j ≡ counted (read_at calls l) k → j ≡ length (rows_read calls l)
      all_counted whole j e = e ∙ ap (counted (read_at calls l)) whole ∙ sym rows_read_lem

      -- written
      module _ (out₀ out : List ℕ) (j : ℕ) (filled : Filled (read_at calls l) (part_at calls l) out₀ out j k) where
        pub row_room : k < length l / COLUMNS → width_of calls * length (rows_read calls l) ≤ length out₀ → (row : List ℕ)
            → row ≡ record_at COLUMNS l k → is_read calls row ≡ true → width_of calls * j + width_of calls ≤ length out
        row_room h fits row is wanted =
            filled_room (width_of calls) (read_at calls l) (part_at calls l) out₀ out j k (λ i _. numbers_wide calls (record_at COLUMNS l i)) filled
            (length l / COLUMNS) h (subst (λ (n : ℕ). width_of calls * n ≤ length out₀) rows_read_lem fits) (ap (is_read calls) (sym is) ∙ wanted)

        pub row_written : (row : List ℕ) → row ≡ record_at COLUMNS l k → (later : List ℕ) (next : ℕ) → next ≡ one_more (is_read calls row) j
            → later ≡ placed (is_read calls row) (width_of calls) j (numbers_of calls row) out
            → Filled (read_at calls l) (part_at calls l) out₀ later next (k + 1)
        row_written row is later next more put =
            filled_next (width_of calls) (read_at calls l) (part_at calls l) out₀ out j k (λ i _. numbers_wide calls (record_at COLUMNS l i)) filled
            later next (more ∙ ap (λ (r : List ℕ). one_more (is_read calls r) j) is)
            (put ∙ ap (λ (r : List ℕ). placed (is_read calls r) (width_of calls) j (numbers_of calls r) out) is)

        pub all_written : k ≡ length l / COLUMNS → out ≡ store out₀ 0 (numbers_read calls l)
        all_written whole =
            filled.filled ∙ ap (λ (m : ℕ). store out₀ 0 (picked (read_at calls l) (part_at calls l) m)) whole ∙ ap (store out₀ 0) numbers_read_lem

-- as many numbers as rows and width say
pub numbers_length : (calls : Bool) (l : List ℕ) → length (numbers_read calls l) ≡ width_of calls * length (rows_read calls l)
unfolding numbers_read
numbers_length calls l = flat_map_length (width_of calls) (numbers_of calls) (rows_read calls l) (all_of (numbers_wide calls) (rows_read calls l))

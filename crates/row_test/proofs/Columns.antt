-- What it says of the columns that they lie below their caps: they are words, halves and bits. That those of a row that passes do, and the
-- two tests that look at columns one by one. Assumes nothing.
use mathlib.Core.Path.{◌≡◌, refl, sym, ap, ◌∙◌, subst}
use mathlib.Core.Bool.{Bool, true, not, ◌&&◌, ◌||◌}
use mathlib.Core.Logic.{◌↔◌}
use mathlib.Core.List.{List, [], ◌∷◌}
use Prim.Native.Nat.{ℕ, ◌^◌, ◌≤◌, ◌<◌}
use native.Mathlib.Omega.{arith}
use lib.Dec.{eqb, leb, lit<, lit≤}
use lib.ListN.{length, get_or, take, drop}
use borrow.Author.Tests.{eqb-true, eqb-false, leb-true, not-false}
use Rattle.std.specs.Prelude.{Ok}
use Rattle.lists.specs.Lists.{first, at}
use Rattle.lists.proofs.First.{first_none_lem}
use Rattle.copy_row.specs.Columns.{TIMESTAMP, VALUE, SRC, SRC_INCR, DST, DST_INCR, COUNT, COUNT_DECR, DST_RES, FIRST, SINGLE, COLUMNS}
use Rattle.copy_residues.specs.Range.{column_limits}
use Rattle.copy_residues.specs.RowCheck.{row_fault}
use Rattle.copy_meaning.specs.Plain.{TailAt}
use Rattle.copy_meaning.specs.Inner.{TwoWords, FourHalves}
use Rattle.copy_meaning.specs.RowIff.{InRange}
use Rattle.copy_meaning.proofs.Columns.{columns_of, stamp_words_lem, src_words, src_halves, dst_words, dst_halves, count_words, count_halves, res_halves}
use Rattle.copy_meaning.proofs.PlainOfRow.{tail_at, below_of_row}
use Rattle.copy_meaning.proofs.RowIff.{row_iff}
use Rattle.row_test.specs.Inner.{caps, Caps}
use Rattle.row_test.proofs.Booleans.{eq_iff, ◌and◌, or_iff}

-- a cap is at most the column's limit
caps_limits : (c : ℕ) → c < COLUMNS → get_or caps c 0 ≤ get_or column_limits c 0
caps_limits c h =
    leb-true _ _
    (not-false _
    (first_none_lem (λ c. not (leb (get_or caps c 0) (get_or column_limits c 0))) 0 COLUMNS c (unfold first caps column_limits in omega arith)
    (omega arith) (omega arith)))

-- a flag's is at most 2
caps_flags : (c : ℕ) → FIRST ≤ c → c < COLUMNS → get_or caps c 0 ≤ 2
caps_flags c l h =
    leb-true _ _
    (not-false _
    (first_none_lem (λ c. not (leb (get_or caps c 0) 2)) FIRST 9 c (unfold first caps column_limits in omega arith) (omega arith) (omega arith)))

module _ (row : List ℕ) (fit : Caps row) where
  pub in_range : InRange row
  unfolding Caps
  in_range c h = omega (arith, fit c h, caps_limits c h)

  pub flag_bit : (c : ℕ) → FIRST ≤ c → c < COLUMNS → at row c < 2
  unfolding Caps
  flag_bit c l h = omega (arith, fit c h, caps_flags c l h)

  pub stamp_capped : TwoWords row TIMESTAMP
  stamp_capped = stamp_words_lem row in_range

  pub src_capped : TwoWords row SRC
  src_capped = src_words row in_range

  pub src_incr_capped : FourHalves row SRC_INCR
  src_incr_capped = src_halves row in_range

  pub dst_capped : TwoWords row DST
  dst_capped = dst_words row in_range

  pub dst_incr_capped : FourHalves row DST_INCR
  dst_incr_capped = dst_halves row in_range

  pub count_capped : TwoWords row COUNT
  count_capped = count_words row in_range

  pub count_decr_capped : FourHalves row COUNT_DECR
  count_decr_capped = count_halves row in_range

  pub res_capped : FourHalves row DST_RES
  res_capped = res_halves row in_range

-- a row that passes is made from its record, and its flags are bits
pub caps_of_fine : (gap : ℕ) → gap < 2 ^ 32 → (row : List ℕ) → length row ≡ COLUMNS → row_fault gap row ≡ Ok tt → Caps row
unfolding Caps caps
caps_of_fine gap g row wide e =
    let h = (row_iff gap g row wide).0 e in
    subst Caps (sym h.0) (below_of_row gap _ _ h.1 2 (lit≤ tt))

-- The tail

module _ (row : List ℕ) (wide : length row ≡ COLUMNS) where
  abbrev zero_at : ℕ → Bool
  zero_at c = eqb (at row c) 0

  abbrev tail_test : Bool
  tail_test = ((((((zero_at 3 && zero_at 4) && zero_at 5) && zero_at 6) && zero_at 7) && zero_at 8) && zero_at 9)

  tail_zero : (tail_test ≡ true) ↔ ((c : ℕ) → VALUE < c → c < SRC → at row c ≡ 0)
  tail_zero =
      let zero : (c : ℕ) → (zero_at c ≡ true) ↔ (at row c ≡ 0) = λ c. eq_iff (at row c) 0 0 refl in
      let test = zero 3 and zero 4 and zero 5 and zero 6 and zero 7 and zero 8 and zero 9 in (
        λ h.
            let z = test.0 h in
            tail_at row
            (ap (λ l. take 7 (drop 3 l)) (columns_of row COLUMNS wide)
            ∙ (λ i.
            z.0.0.0.0.0.0 i
            ∷ z.0.0.0.0.0.1 i
            ∷ z.0.0.0.0.1 i
            ∷ z.0.0.0.1 i
            ∷ z.0.0.1 i
            ∷ z.0.1 i
            ∷ z.1 i
            ∷ [])),
        λ f.
            let first : (((at row 3 ≡ 0) × (at row 4 ≡ 0)) × (at row 5 ≡ 0)) × (at row 6 ≡ 0) =
            (((f 3 (lit< tt) (lit< tt), f 4 (lit< tt) (lit< tt)), f 5 (lit< tt) (lit< tt)), f 6 (lit< tt) (lit< tt)) in
            test.1 (((first, f 7 (lit< tt) (lit< tt)), f 8 (lit< tt) (lit< tt)), f 9 (lit< tt) (lit< tt)),
      )

  pub tail_iff : Caps row → (zero_at SINGLE || tail_test ≡ true) ↔ TailAt row
  tail_iff fit =
      let bit = flag_bit row fit SINGLE (lit≤ tt) (lit< tt) in
      or_iff (zero_at SINGLE) tail_test (λ z one. absurd (omega (arith, eqb-true (at row SINGLE) 0 z)))
      (λ z. (λ h one. tail_zero.0 h, λ q. tail_zero.1 (q (omega (arith, eqb-false (at row SINGLE) 0 z)))))

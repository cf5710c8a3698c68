-- DST_RES is never free. Where IS_WRITE is not 0, residue 16 is 0 for one filling of its low halves only, else residue 18 is; so another
-- filling changes it. And a row that passes is made from its record, which does not read DST_RES. Document 01: "except that where no
-- residue of the row depends on DST_RES those four halves are free". Assumes nothing.
use mathlib.Core.Path.{◌≡◌, refl, sym, ap, ◌∙◌, subst}
use mathlib.Core.Bool.{Bool, true, false}
use mathlib.Core.List.{List, [], ◌∷◌}
use mathlib.Core.Logic.{◌⊎◌, inl, inr}
use Prim.Native.Nat.{ℕ, zero, suc, ◌+◌, ◌-◌, ◌*◌, ◌/◌, ◌%◌, ◌^◌, ◌≤◌, ◌<◌}
use native.Mathlib.Omega.{arith}
use borrow.Author.Tests.{eqb-true, eqb-false}
use lib.Dec.{lit<, lit≤, eqb}
use lib.ListN.{length, get_or, set, length-set}
use lib.Seq.{get_or-set_same, get_or-set_other}
use Rattle.lists.specs.Lists.{at}
use Rattle.words.specs.Words.{number}
use Rattle.field.specs.Field.{add_p, sub_p, bit_p}
use Rattle.field.specs.Carries.{carry_low}
use Rattle.field.proofs.Laws.{add_below, sub_below, bit_below, bit_zero, sub_zero, sub_same, add_p_small, sub_p_zero}
use Rattle.field.proofs.Bits.{bit_of_zero, gate, gate_zero}
use Rattle.field.proofs.Carry.{carry_below, carry_of_bit, carry_value}
use Rattle.copy_row.specs.Columns.{TIMESTAMP, VALUE, SRC, DST, COUNT, DST_RES, FIRST, END, SINGLE, IS_SET, IS_WRITE, MU, COLUMNS}
use Rattle.copy_row.specs.Rows.{row_of, table_row}
use Rattle.copy_residues.specs.Range.{column_limits}
use Rattle.copy_residues.specs.Residues.{halves_word, res_low, gated_bit, dst_res_non_write, residue, RESIDUES}
use Rattle.copy_meaning.specs.ReadRow.{op_at}
use Rattle.copy_meaning.specs.RowIff.{InRange, BesidesDstRes, DependsOnDstRes, CallRowIs, NeverFree, OneFilling}
use Rattle.copy_meaning.proofs.RowIff.{row_iff}
use Rattle.copy_meaning.proofs.Check.{range_elements}
use Rattle.copy_meaning.proofs.Columns.{dst_words, count_words, res_halves, halves_word_lem}

-- The low halves that residues 16 and 18 ask for

-- the number in the two low halves of DST_RES
abbrev low_at : List ℕ → ℕ
low_at row = at row DST_RES + 2 ^ 16 * at row (DST_RES + 1)

low_word : (a b x k : ℕ) → x < 2 ^ 32 → a + b ≡ x + 2 ^ 32 * k → x ≡ (a + b) % 2 ^ 32
low_word a b x k l e = omega arith

module _ (gap : ℕ) (row : List ℕ) (range : InRange row) where
  low_halves : halves_word row DST_RES ≡ low_at row
  low_halves = let h = res_halves row range in halves_word_lem row DST_RES h.first h.second

  low_below : low_at row < 2 ^ 32
  low_below = let h = res_halves row range in omega (arith, h.first, h.second)

  plain : add_p (at row DST) (at row COUNT) ≡ at row DST + at row COUNT
  plain =
      add_p_small (at row DST) (at row COUNT) (omega (arith, (dst_words row range).low, (count_words row range).low))

  zero16 : 0 < at row IS_WRITE → residue gap row 16 ≡ 0 → low_at row ≡ (at row DST + at row COUNT) % 2 ^ 32
  unfolding residue gated_bit res_low carry_low
  zero16 l z =
      let bit = bit_of_zero _ (carry_below _ _) (gate (at row IS_WRITE) (bit_p (res_low row)) (range_elements row range IS_WRITE (lit< tt)) (bit_below _) l z) in
      let sum = carry_of_bit (add_p (at row DST) (at row COUNT)) (halves_word row DST_RES) (add_below _ _) (omega (arith, low_halves, low_below)) bit in
      low_word (at row DST) (at row COUNT) (low_at row) (res_low row) low_below
      (sym plain ∙ sum ∙ ap (λ x. x + 2 ^ 32 * res_low row) low_halves)

  back16 : low_at row ≡ (at row DST + at row COUNT) % 2 ^ 32 → residue gap row 16 ≡ 0
  unfolding residue gated_bit res_low carry_low
  back16 e =
      let d = dst_words row range in
      let n = count_words row range in
      let carry = carry_value (add_p (at row DST) (at row COUNT)) (halves_word row DST_RES) ((at row DST + at row COUNT) / 2 ^ 32) (add_below _ _)
      (omega (arith, d.low, n.low)) (omega (arith, plain, low_halves, d.low, n.low)) in
      gate_zero (at row IS_WRITE) (bit_p (res_low row)) (λ l. ap bit_p carry ∙ bit_zero _ (omega (arith, d.low, n.low)))

  zero18 : at row IS_WRITE ≡ 0 → residue gap row 18 ≡ 0 → low_at row ≡ at row DST
  unfolding residue dst_res_non_write
  zero18 e z =
      let one : sub_p 1 (at row IS_WRITE) ≡ 1 = ap (sub_p 1) e ∙ sub_p_zero 1 (lit< tt) in
      sym low_halves
      ∙ sub_zero (halves_word row DST_RES) (at row DST) (omega (arith, low_halves, low_below)) (range_elements row range DST (lit< tt))
      (gate (sub_p 1 (at row IS_WRITE)) (sub_p (halves_word row DST_RES) (at row DST)) (sub_below _ _) (sub_below _ _) (omega arith) z)

  back18 : low_at row ≡ at row DST → residue gap row 18 ≡ 0
  unfolding residue dst_res_non_write
  back18 e =
      gate_zero (sub_p 1 (at row IS_WRITE)) (sub_p (halves_word row DST_RES) (at row DST))
      (λ l. ap (λ x. sub_p x (at row DST)) (low_halves ∙ e) ∙ sub_same (at row DST) (range_elements row range DST (lit< tt)))

-- Other fillings

-- a row with one number of it replaced by one in range
set_range : (row : List ℕ) (k v : ℕ) → k < length row → v < get_or column_limits k 0 → InRange row → InRange (set row k v)
set_range row k v fits below range c h = go (eqb c k) refl
  where
    go : (t : Bool) → eqb c k ≡ t → at (set row k v) c < get_or column_limits c 0
    go true e =
        subst (λ (c : ℕ). at (set row k v) c < get_or column_limits c 0) (sym (eqb-true c k e))
        (subst (λ (x : ℕ). x < get_or column_limits k 0) (sym (get_or-set_same row k v 0 fits)) below)
    go false e = subst (λ (x : ℕ). x < get_or column_limits c 0) (sym (get_or-set_other row k c v 0 (eqb-false c k e))) (range c h)

set_besides : (row : List ℕ) (k v : ℕ) → DST_RES ≤ k → k < FIRST → BesidesDstRes row (set row k v)
set_besides row k v low high c (inl h) = sym (get_or-set_other row k c v 0 (λ e. omega arith))
set_besides row k v low high c (inr h) = sym (get_or-set_other row k c v 0 (λ e. omega arith))

module _ (gap : ℕ) (row : List ℕ) (wide : length row ≡ COLUMNS) (range : InRange row) where
  -- the row with other low halves
  abbrev filled : ℕ → ℕ → List ℕ
  filled a b = set (set row DST_RES a) (DST_RES + 1) b

  module _ (a b : ℕ) (ha : a < 2 ^ 16) (hb : b < 2 ^ 16) where
    filled_wide : length (filled a b) ≡ COLUMNS
    filled_wide = length-set (set row DST_RES a) (DST_RES + 1) b ∙ length-set row DST_RES a ∙ wide

    filled_range : InRange (filled a b)
    filled_range =
        set_range (set row DST_RES a) (DST_RES + 1) b (omega (arith, length-set row DST_RES a)) (unfold column_limits in hb)
        (set_range row DST_RES a (omega arith) (unfold column_limits in ha) range)

    filled_besides : BesidesDstRes row (filled a b)
    filled_besides c h =
        set_besides row DST_RES a (lit≤ tt) (lit< tt) c h ∙ set_besides (set row DST_RES a) (DST_RES + 1) b (lit≤ tt) (lit< tt) c h

    filled_low : low_at (filled a b) ≡ a + 2 ^ 16 * b
    filled_low =
        let first = get_or-set_other (set row DST_RES a) (DST_RES + 1) DST_RES b 0 (λ e. omega arith) ∙ get_or-set_same row DST_RES a 0 (omega arith) in
        let second = get_or-set_same (set row DST_RES a) (DST_RES + 1) b 0 (omega (arith, length-set row DST_RES a)) in
        λ i. first i + 2 ^ 16 * second i

  -- a residue that is 0 exactly where the low halves make up the number x
  depends_of : (n x : ℕ) → x < 2 ^ 32
      → ((r : List ℕ) → InRange r → BesidesDstRes row r → residue gap r n ≡ 0 → low_at r ≡ x)
      → ((r : List ℕ) → InRange r → BesidesDstRes row r → low_at r ≡ x → residue gap r n ≡ 0)
      → DependsOnDstRes gap row n
  depends_of n x l f g = go (eqb (low_at row) x) refl
    where
      made : (a b : ℕ) → a < 2 ^ 16 → b < 2 ^ 16 → (residue gap row n ≡ residue gap (filled a b) n → ⊥) → DependsOnDstRes gap row n
      made a b ha hb d =
          record { other = filled a b; wide = filled_wide a b ha hb; range = filled_range a b ha hb; besides = filled_besides a b ha hb; differs = d }

      go : (t : Bool) → eqb (low_at row) x ≡ t → DependsOnDstRes gap row n
      go true e =
          let q = eqb-true (low_at row) x e in
          let h = res_halves row range in
          let a = (at row DST_RES + 1) % 2 ^ 16 in
          let ha : a < 2 ^ 16 = omega arith in
          let b = at row (DST_RES + 1) in
          made a b ha h.second
          (λ d.
          let same = f (filled a b) (filled_range a b ha h.second) (filled_besides a b ha h.second) (sym d ∙ g row range (λ c k. refl) q) in
          omega (arith, h.first, filled_low a b ha h.second))
      go false e =
          let a = x % 2 ^ 16 in
          let b = x / 2 ^ 16 in
          let ha : a < 2 ^ 16 = omega arith in
          let hb : b < 2 ^ 16 = omega arith in
          made a b ha hb
          (λ d.
          eqb-false (low_at row) x e
          (f row range (λ c k. refl)
          (d ∙ g (filled a b) (filled_range a b ha hb) (filled_besides a b ha hb) (filled_low a b ha hb ∙ omega arith))))

  -- residue 18 of a row with IS_WRITE 0, residue 16 of any other
  other_depends : at row IS_WRITE ≡ 0 → DependsOnDstRes gap row 18
  other_depends e =
      depends_of 18 (at row DST) (dst_words row range).low
      (λ r in_range b z. zero18 gap r in_range (sym (b IS_WRITE (inr (lit≤ tt))) ∙ e) z ∙ sym (b DST (inl (lit< tt))))
      (λ r in_range b z. back18 gap r in_range (z ∙ b DST (inl (lit< tt))))

  write_depends : 0 < at row IS_WRITE → DependsOnDstRes gap row 16
  write_depends l =
      depends_of 16 ((at row DST + at row COUNT) % 2 ^ 32) (omega arith)
      (λ r in_range b z. zero16 gap r in_range (subst (λ (x : ℕ). 0 < x) (b IS_WRITE (inr (lit≤ tt))) l) z ∙ sym (sums r b))
      (λ r in_range b z. back16 gap r in_range (z ∙ sums r b))
    where
      sums : (r : List ℕ) → BesidesDstRes row r → (at row DST + at row COUNT) % 2 ^ 32 ≡ (at r DST + at r COUNT) % 2 ^ 32
      sums r b = λ i. (b DST (inl (lit< tt)) i + b COUNT (inl (lit< tt)) i) % 2 ^ 32

  depends : (w : ℕ) → at row IS_WRITE ≡ w → DependsOnDstRes gap row 16 ⊎ DependsOnDstRes gap row 18
  depends zero e = inr (other_depends e)
  depends (suc w) e = inl (write_depends (omega arith))

pub never_free : NeverFree
never_free gap row wide range = depends gap row wide range (at row IS_WRITE) refl

-- so the exception has no instance
pub call_row : CallRowIs
call_row gap o row h = go h.same
  where
    free : ((i : ℕ) → i < RESIDUES → DependsOnDstRes gap row i → ⊥) → DependsOnDstRes gap row 16 ⊎ DependsOnDstRes gap row 18 → ⊥
    free f (inl d) = f 16 (lit< tt) d
    free f (inr d) = f 18 (lit< tt) d

    go : (row ≡ table_row o) ⊎ (BesidesDstRes row (table_row o) × ((i : ℕ) → i < RESIDUES → DependsOnDstRes gap row i → ⊥)) → row ≡ table_row o
    go (inl e) = e
    go (inr e) = absurd (free e.1 (never_free gap row h.wide h.range))

-- One filling

-- the record read off a row does not look at DST_RES
pub same_op : (row other : List ℕ) → BesidesDstRes row other → op_at row ≡ op_at other
same_op row other b =
    λ i.
    record {
      call =
          record {
            kind = b IS_SET (inr (lit≤ tt)) i + 2 * b IS_WRITE (inr (lit≤ tt)) i;
            stamp = number 32 (b TIMESTAMP (inl (lit< tt)) i ∷ b (TIMESTAMP + 1) (inl (lit< tt)) i ∷ []);
            src = number 32 (b SRC (inl (lit< tt)) i ∷ b (SRC + 1) (inl (lit< tt)) i ∷ []);
            dst = number 32 (b DST (inl (lit< tt)) i ∷ b (DST + 1) (inl (lit< tt)) i ∷ []);
            count = number 32 (b COUNT (inl (lit< tt)) i ∷ b (COUNT + 1) (inl (lit< tt)) i ∷ []);
          };
      piece =
          record {
            width = 8 - 7 * b SINGLE (inr (lit≤ tt)) i;
            value =
                b VALUE (inl (lit< tt)) i
                ∷ b (VALUE + 1) (inl (lit< tt)) i
                ∷ b (VALUE + 2) (inl (lit< tt)) i
                ∷ b (VALUE + 3) (inl (lit< tt)) i
                ∷ b (VALUE + 4) (inl (lit< tt)) i
                ∷ b (VALUE + 5) (inl (lit< tt)) i
                ∷ b (VALUE + 6) (inl (lit< tt)) i
                ∷ b (VALUE + 7) (inl (lit< tt)) i
                ∷ [];
          };
      first = b FIRST (inr (lit≤ tt)) i;
      end = b END (inr (lit≤ tt)) i;
    }

pub one_filling : OneFilling
one_filling gap g row other wide wide' b e f =
    ((row_iff gap g row wide).0 e).0
    ∙ (λ i. row_of (b MU (inr (lit≤ tt)) i) (same_op row other b i))
    ∙ sym ((row_iff gap g other wide').0 f).0

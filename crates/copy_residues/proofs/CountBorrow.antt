-- The borrow out of COUNT - step, which copy.rs writes out over the columns, is the high carry of COUNT_DECR + step over COUNT: 2^-32
-- times the low carry is spread over its terms, and each product of constants is the constant of copy.rs. Assumes nothing.
use mathlib.Core.Path.{◌≡◌, refl, sym, ap, ◌∙◌}
use mathlib.Core.List.{List}
use Prim.Native.Nat.{ℕ, ◌+◌, ◌-◌, ◌%◌, ◌<◌}
use native.Mathlib.Nat.{mod-add-mod, add-mod-mod}
use native.Mathlib.Omega.{arith}
use Rattle.lists.specs.Lists.{at}
use Rattle.field.specs.Field.{p, add_p, sub_p, mul_p}
use Rattle.field.specs.Constants.{inv16, inv32, inv48, inv64, neg_seven_inv64, eight_inv64}
use Rattle.field.specs.Rows.{Elements}
use Rattle.field.specs.Carries.{carry_p, carry_low, carry_high}
use Rattle.field.proofs.Laws.{mul_p_assoc, mul_p_comm, add_p_mul_p, zero_mul_p, neg_mul_p}
use Rattle.copy_row.specs.Columns.{COUNT, COUNT_DECR, SINGLE, COLUMNS}
use Rattle.copy_residues.specs.Residues.{halves_word, step, decr_low, decr_high, borrow}

-- c times a product with a constant k, where c k is r
combine : (c x k r : ℕ) → mul_p c k ≡ r → mul_p c (mul_p x k) ≡ mul_p r x
combine c x k r h = ap (mul_p c) (mul_p_comm x k) ∙ sym (mul_p_assoc c k x) ∙ ap (λ z. mul_p z x) h

pub borrow_is_carry : (row : List ℕ) → at row COUNT < p → at row (COUNT + 1) < p → borrow row ≡ decr_high row
unfolding borrow decr_high decr_low step halves_word carry_low carry_high carry_p add_p sub_p
borrow_is_carry row h0 h1 =
    simp (
      add_p_mul_p,
      mul_p_assoc,
      square,
      combine 65536 (at row (COUNT_DECR + 3)) inv32 inv16 (unfold mul_p in refl),
      combine 65536 (at row (COUNT_DECR + 1)) inv64 inv48 (unfold mul_p in refl),
      combine (p - 7) (at row SINGLE) inv64 neg_seven_inv64 (unfold mul_p in refl),
      zero_mul_p,
      eight,
      mul_p_comm (at row (COUNT_DECR + 2)) inv32,
      mul_p_comm (at row COUNT_DECR) inv64,
    )
    (simp (mod-add-mod, add-mod-mod) (ap (λ x. x % p)
    (omega (arith, neg_mul_p (at row (COUNT + 1)) inv32 h1 (omega arith), neg_mul_p (at row COUNT) inv64 h0 (omega arith)))))
  where
    square : mul_p inv32 inv32 ≡ inv64
    square = unfold mul_p in refl

    eight : mul_p 8 inv64 ≡ eight_inv64
    eight = unfold mul_p in refl

-- the same of a row of elements
pub carried : {row : List ℕ} → Elements COLUMNS row → borrow row ≡ decr_high row
carried {row} h = borrow_is_carry row (h.each COUNT) (h.each (COUNT + 1))

-- What a row is found to be, case by case in document 01's order 12, 13, 14; what it says that nothing is refused; and an answer by the
-- verdict. Assumes nothing.
use Rattle.std.proofs.Common.{◌≡◌, ℕ, ◌<◌, ◌≤◌, Bool, true, false, cond, eqb, ltb, List, length, sym, refl, ap, ◌∙◌, subst, arith, ltb-false, le-ltb, lt-ltb, eq-eqb, ne_eqb, eqb-true}
use Rattle.field.specs.Rows.{first_large, Elements, row_verdict, on_row}
use Rattle.field.specs.declared.rows.RowRefusal.{RowRefusal}
use Rattle.field.specs.declared.rows.RowRefusal.TheVariants.{OutsideRow, NotRow, NotElement}
use Rattle.std.specs.Prelude.{Result, Ok, Err}
use Rattle.field.proofs.FirstLarge.{elements, none_large}

-- the four verdicts, in the order of their tests
module _ (inside : Bool) (width : ℕ) (row : List ℕ) where
  pub outside : inside ≡ false → Err OutsideRow ≡ row_verdict inside width row
  unfolding row_verdict
  outside e = simp e

  module _ (e : inside ≡ true) where
    pub not_row : (length row ≡ width → ⊥) → Err NotRow ≡ row_verdict inside width row
    unfolding row_verdict
    not_row h = simp (e, ne_eqb (length row) width h)

    module _ (w : length row ≡ width) {place : ℕ} (f : place ≡ first_large row) where
      pub not_element : place < width → Err (NotElement place) ≡ row_verdict inside width row
      unfolding row_verdict
      not_element h =
          simp (e, eq-eqb (length row) width w, lt-ltb (first_large row) width (subst (λ (x : ℕ). x < width) f h))
          (ap (λ (x : ℕ). Err (NotElement x)) f)

      pub fine : width ≤ place → Ok tt ≡ row_verdict inside width row
      unfolding row_verdict
      fine h = simp (e, eq-eqb (length row) width w, le-ltb (first_large row) width (subst (λ (x : ℕ). width ≤ x) f h))

-- what a row is that is refused for nothing
pub record Judged (inside : Bool) (width : ℕ) (row : List ℕ) : Type 0 where
  pub is_inside : inside ≡ true
  pub row_is : Elements width row

refusals : Result (Unit {0}) RowRefusal → ℕ
refusals (Ok fine) = 0
refusals (Err why) = 1

pub is_fine : (inside : Bool) (width : ℕ) (row : List ℕ) → row_verdict inside width row ≡ Ok tt → Judged inside width row
unfolding row_verdict refusals
is_fine false width row e = absurd (omega (arith, ap refusals e))
is_fine true width row e = judged (eqb (length row) width) (ltb (first_large row) width) refl refl e
  where
    judged : (a b : Bool) → eqb (length row) width ≡ a → ltb (first_large row) width ≡ b
        → cond a (cond b (Err (NotElement (first_large row))) (Ok (tt {0}))) (Err NotRow) ≡ Ok tt → Judged true width row
    judged false b f g h = absurd (omega (arith, ap refusals h))
    judged true true f g h = absurd (omega (arith, ap refusals h))
    judged true false f g h =
        record {
          is_inside = refl;
          row_is = elements width row (eqb-true (length row) width f) (ltb-false (first_large row) width g);
        }

pub fine_of : (inside : Bool) (width : ℕ) (row : List ℕ) → inside ≡ true → Elements width row → Ok tt ≡ row_verdict inside width row
fine_of inside width row e r = fine inside width row e r.wide refl (none_large width row r)

-- an answer by what was told of the verdict
pub answer_of : {A : Type 0} (refuse : RowRefusal → A) (given : A) {found verdict told : Result (Unit {0}) RowRefusal} → found ≡ verdict → found ≡ told
    → on_row told refuse given ≡ on_row verdict refuse given
answer_of refuse given e t = ap (λ v. on_row v refuse given) (sym t ∙ e)

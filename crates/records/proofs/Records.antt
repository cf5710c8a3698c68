-- Laws of records of w numbers: where record k lies, what `within` says of each number, and what the loops need that look for
-- a number above its limit or for `first_bad`. Assumes nothing.
use mathlib.Core.Path.{◌≡◌, refl, sym, ap, ◌∙◌}
use mathlib.Core.Bool.{Bool, true, false, not, ◌||◌, and-eq-true_iff}
use mathlib.Core.Logic.{⊎_elim}
use mathlib.Core.List.{List}
use Prim.Native.Nat.{ℕ, zero, suc, ◌+◌, ◌-◌, ◌*◌, ◌/◌, ◌≤◌, ◌<◌}
use native.Mathlib.Nat.{mul_comm, mul-suc, le-div_iff_mul-le, mul-add-div, div-eq_of_lt, sub-zero, add-zero, zero-add, eq-or-lt_of_le, le_of_suc-le-suc}
use native.Mathlib.Numerals.{add-one}
use native.Mathlib.Omega.{arith}
use borrow.Author.Tests.{eq-eqb, eqb-true, leb-true, le-leb, ltb-false, le-ltb, ne_eqb, not-true, not-false}
use lib.Dec.{eqb, leb, ltb}
use lib.ListN.{length, take, drop, get_or, length-take, length-drop}
use lib.Seq.{get_or-take, get_or-drop}
use Rattle.lists.specs.Lists.{first}
use Rattle.lists.proofs.Tests.{same_test, neither}
use Rattle.lists.proofs.First.{first_miss, first_hit, first_end, first_none_lem, first_all}
use Rattle.records.specs.Records.{record_count, record_at, first_above, within, first_bad}

-- Where record k lies

module _ (w : ℕ) (l : List ℕ) (k : ℕ) where
  -- a record begins within the list
  pub record_within : 0 < w → k < record_count w l → w * k < length l
  record_within pos h = omega (arith, rw (mul_comm, mul-suc) at ((le-div_iff_mul-le pos).0 h))

  -- and where it is whole, it ends there
  pub record_whole : 0 < w → length (record_at w l k) ≡ w → w * k + w ≤ length l
  record_whole pos e = omega (arith, sym e ∙ length-take w (drop (w * k) l), length-drop (w * k) l)

  -- a record that ends within the list is whole
  pub record_length : w * k + w ≤ length l → length (record_at w l k) ≡ w
  record_length h = length-take w (drop (w * k) l) ∙ omega (arith, length-drop (w * k) l)

  -- number j of record k
  pub record_at_lem : (j : ℕ) → j < w → get_or (record_at w l k) j 0 ≡ get_or l (w * k + j) 0
  record_at_lem j h = get_or-take w (drop (w * k) l) j 0 h ∙ get_or-drop (w * k) l j 0

  -- the part from w * k to w * k + w, as code takes it, is record k
  pub record_part : take (w * k + w - w * k) (drop (w * k) l) ≡ record_at w l k
  record_part = let e : w * k + w - w * k ≡ w = omega arith in rw e

-- whole records are counted by division
pub record_count_lem : (w n : ℕ) (l : List ℕ) → 0 < w → length l ≡ w * n → record_count w l ≡ n
record_count_lem w n l pos e =
    ap (λ (x : ℕ). (x + (w - 1)) / w) e
    ∙ mul-add-div pos n (w - 1)
    ∙ ap (λ (x : ℕ). n + x) (div-eq_of_lt (omega arith))
    ∙ add-zero n

-- Numbers within their limits

abbrev above : List ℕ → List ℕ → ℕ → Bool
above limits r i = not (leb (get_or r i 0) (get_or limits i 0))

module _ (limits r : List ℕ) where
  pub within_length : within limits r ≡ true → length r ≡ length limits
  unfolding within
  within_length e =
      eqb-true _ _ ((and-eq-true_iff (eqb (length r) (length limits)) (eqb (first_above limits r) (length limits))).0 e).0

  -- each number is at most its limit
  pub within_at : within limits r ≡ true → (i : ℕ) → i < length limits → get_or r i 0 ≤ get_or limits i 0
  unfolding within first_above
  within_at e i h =
      let both = (and-eq-true_iff (eqb (length r) (length limits)) (eqb (first_above limits r) (length limits))).0 e in
      let all : first_above limits r ≡ length limits = eqb-true _ _ both.1 in
      leb-true _ _ (not-false _ (first_none_lem (above limits r) 0 (length limits) i (omega arith) (omega arith) (omega arith)))

  -- and where all are, and the record is whole, it is within its limits
  pub within_all : length r ≡ length limits → ((i : ℕ) → i < length limits → get_or r i 0 ≤ get_or limits i 0) → within limits r ≡ true
  unfolding within first_above
  within_all e h =
      (and-eq-true_iff _ _).1
      (eq-eqb _ _ e, eq-eqb _ _ (first_all (above limits r) 0 (length limits) (λ j a b. ap not (le-leb _ _ (h j (omega arith)))) ∙ zero-add _))

  -- a record that is cut is not
  pub within_cut : (length r ≡ length limits → ⊥) → within limits r ≡ false
  unfolding within
  within_cut h = rw (ne_eqb (length r) (length limits) h)

-- whether one of the first n numbers is above its limit
unfoldable pub any_above : List ℕ → List ℕ → ℕ → Bool
any_above limits r zero = false
any_above limits r (suc n) = any_above limits r n || ltb (get_or limits n 0) (get_or r n 0)

module _ (limits r : List ℕ) where
  -- a loop that asks this of each number in turn
  pub any_none : any_above limits r 0 ≡ false
  unfolding any_above
  any_none = refl

  pub any_more : (n : ℕ) → any_above limits r (n + 1) ≡ any_above limits r n || ltb (get_or limits n 0) (get_or r n 0)
  unfolding any_above
  any_more n = rw (add-one n, any_above)

  any_low : (n : ℕ) → any_above limits r n ≡ false → (i : ℕ) → i < n → get_or r i 0 ≤ get_or limits i 0
  unfolding any_above
  any_low zero e i h = absurd (omega arith)
  any_low (suc n) e i h =
      let both = neither (any_above limits r n) (ltb (get_or limits n 0) (get_or r n 0)) e in
      ⊎_elim (λ (q : i ≡ n). rw q (ltb-false _ _ both.1)) (λ (k : i < n). any_low n both.0 i k) (eq-or-lt_of_le (le_of_suc-le-suc h))

  low_any : (n : ℕ) → ((i : ℕ) → i < n → get_or r i 0 ≤ get_or limits i 0) → any_above limits r n ≡ false
  unfolding any_above
  low_any zero h = refl
  low_any (suc n) h = rw (low_any n (λ i k. h i (omega arith)), le-ltb (get_or limits n 0) (get_or r n 0) (h n (omega arith)))

  -- a whole record is within its limits where none is
  pub within_any : length r ≡ length limits → not (any_above limits r (length limits)) ≡ within limits r
  within_any e =
      same_test (not (any_above limits r (length limits))) (within limits r)
      (λ z. within_all limits r e (any_low (length limits) (not-true _ z)))
      (λ z. ap not (low_any (length limits) (within_at limits r z)))

-- Records that a test refuses

abbrev pub bad_at : ℕ → (List ℕ → Bool) → List ℕ → ℕ → Bool
bad_at w good l k = not (good (record_at w l k))

module _ (w : ℕ) (good : List ℕ → Bool) (l : List ℕ) where
  -- where no record is refused, each is good
  pub all_good : record_count w l ≤ first_bad w good l → (k : ℕ) → k < record_count w l → good (record_at w l k) ≡ true
  unfolding first_bad
  all_good h k z = not-false _ (first_none_lem (bad_at w good l) 0 (record_count w l) k (omega arith) (omega arith) (omega arith))

  -- and where each is good, none is refused
  pub none_bad : ((k : ℕ) → k < record_count w l → good (record_at w l k) ≡ true) → first_bad w good l ≡ record_count w l
  unfolding first_bad
  none_bad h = first_all (bad_at w good l) 0 (record_count w l) (λ j a b. ap not (h j (omega arith))) ∙ zero-add _

  -- a loop that looks for the lowest record that is not good
  pub bad_start : first_bad w good l ≡ first (bad_at w good l) 0 (record_count w l - 0)
  unfolding first_bad
  bad_start = rw sub-zero

  pub bad_pass : (k : ℕ) → k < record_count w l → good (record_at w l k) ≡ true
      → first (bad_at w good l) k (record_count w l - k) ≡ first (bad_at w good l) (k + 1) (record_count w l - (k + 1))
  bad_pass k h e = first_miss (bad_at w good l) k (record_count w l) h (ap not e)

  pub bad_stop : (k : ℕ) → k < record_count w l → good (record_at w l k) ≡ false
      → first (bad_at w good l) k (record_count w l - k) ≡ k
  bad_stop k h e = first_hit (bad_at w good l) k (record_count w l) h (ap not e)

  pub bad_end : (k : ℕ) → record_count w l ≤ k → first (bad_at w good l) k (record_count w l - k) ≡ k
  bad_end k h = first_end (bad_at w good l) k (record_count w l) h

-- Laws of the list of a list's records: one more record in front, and parts that are joined come back as they were. Assumes nothing.
use mathlib.Core.Path.{◌≡◌, refl, sym, ap, subst, ◌∙◌}
use mathlib.Core.List.{List, [], ◌∷◌, ◌++◌, map, flat_map, append_assoc}
use Prim.Native.Nat.{ℕ, zero, suc, ◌+◌, ◌-◌, ◌*◌, ◌/◌, ◌%◌, ◌≤◌, ◌<◌}
use native.Mathlib.Nat.{mul_comm, mul-one, mul-suc, mul-add-div, mul-zero, zero-add, div-add-mod'}
use native.Mathlib.Omega.{arith}
use lib.ListN.{length, take, drop, get_or, length-append, take-append-drop}
use lib.Seq.{take_at, drop_at, drop-drop}
use Rattle.lists.specs.Lists.{All, listed}
use Rattle.lists.proofs.Flat.{row_within}
use Rattle.lists.proofs.Joined.{flat_map_length}
use Rattle.lists.proofs.Listed.{listed_length, listed_same, listed_at, all_listed, each_listed}
use Rattle.records.specs.Records.{record_count, record_at, records_in}
use Rattle.records.proofs.Records.{record_count_lem, record_length}

-- with one more record in front, each stands one later
pub record_shift : (w : ℕ) (r l : List ℕ) (k : ℕ) → length r ≡ w → record_at w (r ++ l) (suc k) ≡ record_at w l k
record_shift w r l k wide =
    let place : w * suc k ≡ w + w * k = omega (arith, mul-suc w k) in
    ap (take w)
    (ap (λ n. drop n (r ++ l)) place ∙ sym (drop-drop (w * k) w (r ++ l)) ∙ ap (drop (w * k)) (drop_at r l w wide))

pub count_shift : (w : ℕ) (r l : List ℕ) → 0 < w → length r ≡ w → record_count w (r ++ l) ≡ suc (record_count w l)
count_shift w r l pos wide =
    let e : length (r ++ l) + (w - 1) ≡ w * 1 + (length l + (w - 1)) = omega (arith, length-append r l, mul-one w) in
    ap (λ n. n / w) e ∙ mul-add-div pos 1 (length l + (w - 1)) ∙ omega arith

module _ (w : ℕ) (pos : 0 < w) where
  pub records_none : records_in w [] ≡ []
  unfolding records_in listed
  records_none = ap (listed (record_at w []) 0) (record_count_lem w 0 [] pos (sym (mul-zero w)))

  -- the first n records and one more
  front_more : (r l : List ℕ) (n : ℕ) → length r ≡ w → listed (record_at w (r ++ l)) 0 (suc n) ≡ r ∷ listed (record_at w l) 0 n
  unfolding listed
  front_more r l n wide =
      let here : record_at w (r ++ l) 0 ≡ r = ap (λ n. take w (drop n (r ++ l))) (mul-zero w) ∙ take_at r l w wide in
      λ i. here i ∷ listed_same (record_at w (r ++ l)) (record_at w l) 1 0 n (λ k h. later k) i
    where
      later : (k : ℕ) → record_at w (r ++ l) (1 + k) ≡ record_at w l (0 + k)
      later k =
          let one : 1 + k ≡ suc k = omega arith in
          let none : k ≡ 0 + k = omega arith in
          ap (record_at w (r ++ l)) one ∙ record_shift w r l k wide ∙ ap (record_at w l) none

  pub records_more : (r l : List ℕ) → length r ≡ w → records_in w (r ++ l) ≡ r ∷ records_in w l
  unfolding records_in
  records_more r l wide =
      ap (listed (record_at w (r ++ l)) 0) (count_shift w r l pos wide) ∙ front_more r l (record_count w l) wide

  -- parts of w numbers, joined
  pub records_joined : {A : Type 0} (f : A → List ℕ) (xs : List A) → All (λ (x : A). length (f x) ≡ w) xs → records_in w (flat_map f xs) ≡ map f xs
  unfolding flat_map
  records_joined f [] wide = records_none
  records_joined f (x ∷ xs) wide =
      records_more (f x) (flat_map f xs) wide.0 ∙ ap (λ ys. f x ∷ ys) (records_joined f xs wide.1)

  pub joined_count : {A : Type 0} (f : A → List ℕ) (xs : List A) → All (λ (x : A). length (f x) ≡ w) xs → record_count w (flat_map f xs) ≡ length xs
  joined_count f xs wide = record_count_lem w (length xs) (flat_map f xs) pos (flat_map_length w f xs wide)

  -- and with more behind them
  pub joined_front : {A : Type 0} (f : A → List ℕ) (xs : List A) (behind : List ℕ) → All (λ (x : A). length (f x) ≡ w) xs
      → listed (record_at w (flat_map f xs ++ behind)) 0 (length xs) ≡ map f xs
  unfolding flat_map listed
  joined_front f [] behind wide = refl
  joined_front f (x ∷ xs) behind wide =
      ap (λ (l : List ℕ). listed (record_at w l) 0 (suc (length xs))) (append_assoc (f x) (flat_map f xs) behind)
      ∙ front_more (f x) (flat_map f xs ++ behind) (length xs) wide.0
      ∙ ap (λ ys. f x ∷ ys) (joined_front f xs behind wide.1)

  -- record j of them is part j, and of a list that begins with them
  joined_at : {A : Type 0} (f : A → List ℕ) (d : A) (xs : List A) (behind : List ℕ) → All (λ (x : A). length (f x) ≡ w) xs
      → (j : ℕ) → j < length xs → record_at w (flat_map f xs ++ behind) j ≡ f (get_or xs j d)
  unfolding flat_map
  joined_at f d [] behind wide j h = absurd (omega arith)
  joined_at f d (x ∷ xs) behind wide zero h =
      ap (λ (l : List ℕ). record_at w l 0) (append_assoc (f x) (flat_map f xs) behind)
      ∙ ap (λ n. take w (drop n (f x ++ (flat_map f xs ++ behind)))) (mul-zero w)
      ∙ take_at (f x) (flat_map f xs ++ behind) w wide.0
  joined_at f d (x ∷ xs) behind wide (suc j) h =
      ap (λ (l : List ℕ). record_at w l (suc j)) (append_assoc (f x) (flat_map f xs) behind)
      ∙ record_shift w (f x) (flat_map f xs ++ behind) j wide.0
      ∙ joined_at f d xs behind wide.1 j (omega arith)

  pub front_at : {A : Type 0} (f : A → List ℕ) (d : A) (xs : List A) (l : List ℕ) (n : ℕ) → All (λ (x : A). length (f x) ≡ w) xs
      → take n l ≡ flat_map f xs → (j : ℕ) → j < length xs → record_at w l j ≡ f (get_or xs j d)
  front_at f d xs l n wide e j h =
      ap (λ (k : List ℕ). record_at w k j) (sym (take-append-drop n l) ∙ ap (λ front. front ++ drop n l) e)
      ∙ joined_at f d xs (drop n l) wide j h

  -- of a list that is whole records, each is whole
  pub records_whole : (l : List ℕ) → length l % w ≡ 0 → All (λ (r : List ℕ). length r ≡ w) (records_in w l)
  unfolding records_in
  records_whole l whole =
      all_listed (λ (r : List ℕ). length r ≡ w) (record_at w l) 0 (record_count w l) (λ k a b. record_length w l k (ends k (omega arith)))
    where
      split : length l ≡ w * (length l / w)
      split = omega (arith, div-add-mod' (length l) w, mul_comm w (length l / w), whole)

      ends : (k : ℕ) → k < record_count w l → w * k + w ≤ length l
      ends k h = omega (arith, split, row_within w k (length l / w) (omega (arith, record_count_lem w (length l / w) l pos split)))

-- what holds of all records holds of each
pub each_record : (w : ℕ) (P : List ℕ → Type 0) (l : List ℕ) → All P (records_in w l) → (k : ℕ) → k < record_count w l → P (record_at w l k)
unfolding records_in
each_record w P l all k h = subst (λ (j : ℕ). P (record_at w l j)) (zero-add k) (each_listed P (record_at w l) 0 (record_count w l) all k h)

-- how many they are, and record k among them
pub records_count_lem : (w : ℕ) (l : List ℕ) → length (records_in w l) ≡ record_count w l
unfolding records_in
records_count_lem w l = listed_length (record_at w l) 0 (record_count w l)

pub records_at : (w : ℕ) (l : List ℕ) (k : ℕ) → k < record_count w l → get_or (records_in w l) k [] ≡ record_at w l k
unfolding records_in
records_at w l k h = listed_at (record_at w l) [] 0 (record_count w l) k h ∙ ap (record_at w l) (zero-add k)

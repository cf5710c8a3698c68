-- The join on its way: good lists are whole, each call that is put leaves the same to be gone on with, and where one list is used up, what is
-- left of the other. Assumes nothing.
use mathlib.Core.Path.{◌≡◌, refl, sym, ap, ◌∙◌}
use mathlib.Core.Bool.{Bool, true, false, ◌&&◌, true≢false}
use mathlib.Core.List.{List, [], ◌∷◌, ◌++◌, flat_map}
use Prim.Native.Nat.{ℕ, zero, suc, ◌+◌, ◌-◌, ◌*◌, ◌≤◌, ◌<◌}
use native.Mathlib.Nat.{sub-zero}
use native.Mathlib.Omega.{arith}
use borrow.Author.Tests.{le-leb, lt-leb, ltb-false}
use lib.Dec.{ltb}
use lib.ListN.{length, drop, length-drop, drop_of_length-le, take-append-drop}
use lib.Seq.{drop-drop}
use Rattle.lists.specs.Lists.{store, listed}
use Rattle.lists.proofs.Store.{store_behind}
use Rattle.lists.proofs.Joined.{flat_map_append, flat_map_more}
use Rattle.lists.proofs.Listed.{listed_left, listed_over}
use Rattle.records.specs.Records.{record_at, records_in}
use Rattle.records.proofs.Records.{record_length, record_whole, all_good}
use Rattle.call.specs.Flat.{HANDED_WIDTH, good_call}
use Rattle.call.proofs.GoodCalls.{good_whole}
use Rattle.call_join.specs.Join.{joined_calls, call_records, call_count, in_numbers, first_bad_call, stamp_at, filled_joined}
use Rattle.call_join.specs.Inner.{WholeCalls}
use Rattle.call_join.proofs.Next.{next_first, next_second, first_over, second_over}

-- the calls of a flat list from call k on
abbrev pub calls_left : List ℕ → ℕ → List (List ℕ)
calls_left l k = listed (record_at HANDED_WIDTH l) k (call_count l - k)

-- Whole lists

module _ (l : List ℕ) where
  pub good_list_whole : call_count l ≤ first_bad_call l → WholeCalls l
  good_list_whole h = step (call_count l) refl
    where
      step : (n : ℕ) → call_count l ≡ n → WholeCalls l
      step zero e = omega arith
      step (suc k) e =
          let last = good_whole (record_at HANDED_WIDTH l k) (all_good HANDED_WIDTH good_call l h k (omega arith)) in
          omega (arith, record_whole HANDED_WIDTH l k (omega arith) last)

  -- a call that is left
  calls_left_lem : (k : ℕ) → k < call_count l → calls_left l k ≡ record_at HANDED_WIDTH l k ∷ calls_left l (k + 1)
  calls_left_lem k h = listed_left (record_at HANDED_WIDTH l) (call_count l) k h

  none_left : (k : ℕ) → call_count l ≤ k → calls_left l k ≡ []
  none_left k h = listed_over (record_at HANDED_WIDTH l) (call_count l) k h

  call_length : WholeCalls l → (k : ℕ) → k < call_count l → length (record_at HANDED_WIDTH l k) ≡ HANDED_WIDTH
  call_length whole k h = record_length HANDED_WIDTH l k (omega arith)

  -- in numbers they are the rest of the list
  left_numbers : WholeCalls l → (d k : ℕ) → k + d ≡ call_count l → in_numbers (calls_left l k) ≡ drop (HANDED_WIDTH * k) l
  unfolding flat_map
  left_numbers whole zero k e = ap in_numbers (none_left k (omega arith)) ∙ sym (drop_of_length-le l {i = HANDED_WIDTH * k} (omega arith))
  left_numbers whole (suc d) k e =
      let h : k < call_count l = omega arith in
      let place : HANDED_WIDTH * (k + 1) ≡ HANDED_WIDTH * k + HANDED_WIDTH = omega arith in
      ap in_numbers (calls_left_lem k h)
      ∙ ap (λ (rest : List ℕ). record_at HANDED_WIDTH l k ++ rest)
      (left_numbers whole d (k + 1) (omega arith) ∙ ap (λ (n : ℕ). drop n l) place ∙ sym (drop-drop HANDED_WIDTH (HANDED_WIDTH * k) l))
      ∙ take-append-drop HANDED_WIDTH (drop (HANDED_WIDTH * k) l)

  rest_numbers : WholeCalls l → (k : ℕ) → k ≤ call_count l → in_numbers (calls_left l k) ≡ drop (HANDED_WIDTH * k) l
  rest_numbers whole k h = left_numbers whole (call_count l - k) k (omega arith)

  -- before any is written, all are left
  all_left : calls_left l 0 ≡ call_records l
  unfolding records_in
  all_left = rw sub-zero

-- Going on

-- the buffer, once what is left of both lists is joined behind the i and j calls that are written
unfoldable pub gone_on : List ℕ → List ℕ → ℕ → ℕ → List ℕ → List ℕ
gone_on first second i j buffer = store buffer (HANDED_WIDTH * (i + j)) (in_numbers (joined_calls (calls_left first i) (calls_left second j)))

-- with a call left in both
module _ (first second : List ℕ) (i j : ℕ) (h : i < call_count first) (g : j < call_count second) where
  -- the next call is r, and the list goes on with rest
  goes : (r : List ℕ) (rest : List (List ℕ)) → joined_calls (calls_left first i) (calls_left second j) ≡ r ∷ rest → length r ≡ HANDED_WIDTH
      → (buffer : List ℕ) (p : ℕ) → p ≡ HANDED_WIDTH * (i + j) + HANDED_WIDTH
      → store (store buffer (HANDED_WIDTH * (i + j)) r) p (in_numbers rest) ≡ gone_on first second i j buffer
  unfolding gone_on
  goes r rest split wide buffer p e =
      store_behind buffer (HANDED_WIDTH * (i + j)) p r (in_numbers rest) (omega arith)
      ∙ ap (store buffer (HANDED_WIDTH * (i + j))) (sym (ap in_numbers split ∙ flat_map_more (λ z. z) r rest))

  both : joined_calls (calls_left first i) (calls_left second j)
      ≡ joined_calls (record_at HANDED_WIDTH first i ∷ calls_left first (i + 1)) (record_at HANDED_WIDTH second j ∷ calls_left second (j + 1))
  both = λ k. joined_calls (calls_left_lem first i h k) (calls_left_lem second j g k)

  pub goes_first : WholeCalls first → stamp_at first i ≤ stamp_at second j → (buffer : List ℕ)
      → gone_on first second (i + 1) j (store buffer (HANDED_WIDTH * (i + j)) (record_at HANDED_WIDTH first i)) ≡ gone_on first second i j buffer
  unfolding gone_on
  goes_first whole l buffer =
      let r = record_at HANDED_WIDTH first i in
      let back = ap (joined_calls (calls_left first (i + 1))) (sym (calls_left_lem second j g)) in
      goes r (joined_calls (calls_left first (i + 1)) (calls_left second j))
      (both ∙ next_first r (calls_left first (i + 1)) (record_at HANDED_WIDTH second j ∷ calls_left second (j + 1)) (le-leb (stamp_at first i) (stamp_at second j) l)
      ∙ ap (λ zs. r ∷ zs) back)
      (call_length first whole i h) buffer (HANDED_WIDTH * (i + 1 + j)) (omega arith)

  pub goes_second : WholeCalls second → stamp_at second j < stamp_at first i → (buffer : List ℕ)
      → gone_on first second i (j + 1) (store buffer (HANDED_WIDTH * (i + j)) (record_at HANDED_WIDTH second j)) ≡ gone_on first second i j buffer
  unfolding gone_on
  goes_second whole l buffer =
      let r = record_at HANDED_WIDTH second j in
      let back = ap (λ xs. joined_calls xs (calls_left second (j + 1))) (sym (calls_left_lem first i h)) in
      goes r (joined_calls (calls_left first i) (calls_left second (j + 1)))
      (both ∙ next_second (record_at HANDED_WIDTH first i ∷ calls_left first (i + 1)) r (calls_left second (j + 1)) (lt-leb (stamp_at first i) (stamp_at second j) l)
      ∙ ap (λ zs. r ∷ zs) back)
      (call_length second whole j g) buffer (HANDED_WIDTH * (i + (j + 1))) (omega arith)

module _ (first second buffer : List ℕ) where
  pub going_start : gone_on first second 0 0 buffer ≡ filled_joined first second buffer
  unfolding gone_on filled_joined
  going_start = λ k. store buffer 0 (in_numbers (joined_calls (all_left first k) (all_left second k)))

  -- where one list is used up, what is left of the first goes ahead of what is left of the second
  pub going_end : WholeCalls first → WholeCalls second → (i j : ℕ) → i ≤ call_count first → j ≤ call_count second
      → ltb i (call_count first) && ltb j (call_count second) ≡ false
      → store (store buffer (HANDED_WIDTH * (i + j)) (drop (HANDED_WIDTH * i) first)) (HANDED_WIDTH * (call_count first + j)) (drop (HANDED_WIDTH * j) second)
      ≡ gone_on first second i j buffer
  unfolding gone_on
  going_end whole whole₂ i j a b over =
      let xs = calls_left first i in
      let ys = calls_left second j in
      store_behind buffer (HANDED_WIDTH * (i + j)) (HANDED_WIDTH * (call_count first + j)) (drop (HANDED_WIDTH * i) first) (drop (HANDED_WIDTH * j) second)
      (omega (arith, length-drop (HANDED_WIDTH * i) first))
      ∙ ap (store buffer (HANDED_WIDTH * (i + j)))
      (sym (λ k. rest_numbers first whole i a k ++ rest_numbers second whole₂ j b k)
      ∙ sym (flat_map_append (λ z. z) xs ys)
      ∙ ap in_numbers (sym (step (ltb i (call_count first)) (ltb j (call_count second)) refl refl over)))
    where
      step : (x y : Bool) → ltb i (call_count first) ≡ x → ltb j (call_count second) ≡ y → x && y ≡ false
          → joined_calls (calls_left first i) (calls_left second j) ≡ calls_left first i ++ calls_left second j
      step true true p q e = absurd (true≢false e)
      step true false p q e = second_over (calls_left first i) (calls_left second j) (none_left second j (ltb-false _ _ q))
      step false y p q e = first_over (calls_left first i) (calls_left second j) (none_left first i (ltb-false _ _ p))

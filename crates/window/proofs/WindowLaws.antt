-- Laws of the window: what is read, that reading back what was read changes nothing, that writing keeps lengths, and what the loops need
-- that read or write cell by cell. Assumes nothing.
use mathlib.Core.Path.{◌≡◌, refl, sym, ap, ◌∙◌}
use mathlib.Core.List.{List, ◌∷◌, ◌++◌, append_assoc, append-nil}
use Prim.Native.Nat.{ℕ, zero, suc, ◌+◌, ◌-◌, ◌≤◌, ◌<◌}
use native.Mathlib.Nat.{add-zero, sub-zero, zero-sub, suc-sub-suc}
use native.Mathlib.Omega.{arith}
use lib.ListN.{length, take, drop, get_or, replicate, length-drop, length-append, length-replicate, take-append-drop}
use lib.Seq.{take_at, take-append-add, drop-drop, length-take-le}
use Rattle.lists.specs.Lists.{store, eight_at}
use Rattle.lists.proofs.Numbers.{numbers_at, eight_back}
use Rattle.lists.proofs.Store.{length_store, store_eq, part_store, run_length}
use borrow.Rule.Slice.PartMut.{put_mid}
use Rattle.access.specs.Access.{access_record}
use Rattle.window.specs.Window.{window_of, eight_cells, cells_at, write_bytes, write_stamps, memory_access, read_access, write_access}

-- What is read

module _ {A : Type 0} (z : A) where
  take_same : (n m : ℕ) → n ≤ m → take n (replicate m z) ≡ replicate n z
  take_same zero m h = refl
  take_same (suc n) zero h = absurd (omega arith)
  take_same (suc n) (suc m) h = ap (λ (l : List A). z ∷ l) (take_same n m (omega arith))

  drop_same : (n m : ℕ) → drop n (replicate m z) ≡ replicate (m - n) z
  drop_same zero m = rw sub-zero
  drop_same (suc n) zero = rw zero-sub
  drop_same (suc n) (suc m) = rw suc-sub-suc (drop_same n m)

  module _ (l : List A) (a w : ℕ) (wide : w ≤ 8) (fits : a + w ≤ length l) where
    cells_count : length (take w (drop a l)) ≡ w
    cells_count = length-take-le w (drop a l) (simp length-drop (omega arith))

    pub cells_eq : eight_cells z l a w ≡ take w (drop a l) ++ replicate (8 - w) z
    unfolding eight_cells
    cells_eq =
        let e : 8 ≡ length (take w (drop a l)) + (8 - w) = omega (arith, cells_count) in
        ap (λ (k : ℕ). take k (take w (drop a l) ++ replicate 8 z)) e
        ∙ take-append-add (take w (drop a l)) (replicate 8 z) (8 - w)
        ∙ ap (λ (r : List A). take w (drop a l) ++ r) (take_same (8 - w) 8 (omega arith))

    -- the part from a to a + w, copied over eight that are the same
    pub cells_over : (part : List A) → part ≡ take (a + w - a) (drop a l) → part ++ drop w (replicate 8 z) ≡ eight_cells z l a w
    cells_over part e =
        let n : a + w - a ≡ w = omega arith in
        (λ i. (e ∙ ap (λ k. take k (drop a l)) n) i ++ drop_same w 8 i) ∙ sym cells_eq

  -- all eight
  pub cells_all : (l part : List A) (a w : ℕ) → w ≡ 8 → a + w ≤ length l → part ≡ take (a + 8 - a) (drop a l) → part ≡ eight_cells z l a w
  cells_all l part a w e fits p =
      let n : a + 8 - a ≡ 8 = omega arith in
      p
      ∙ ap (λ k. take k (drop a l)) n
      ∙ sym (append-nil (take 8 (drop a l)))
      ∙ sym (cells_eq l a 8 (omega arith) (omega arith))
      ∙ ap (eight_cells z l a) (sym e)

module _ (l : List ℕ) (a w : ℕ) where
  pub length_cells : length (cells_at l a w) ≡ 8
  unfolding eight_cells
  length_cells =
      length-take-le 8 (take w (drop a l) ++ replicate 8 0)
      (rw length-append (omega (arith, length-replicate {A = ℕ} 8 0)))

  module _ (wide : w ≤ 8) (fits : a + w ≤ length l) where
    -- the cells themselves
    pub cells_run : take w (cells_at l a w) ≡ take w (drop a l)
    cells_run =
        ap (λ (v : List ℕ). take w v) (cells_eq 0 l a w wide fits)
        ∙ take_at (take w (drop a l)) (replicate (8 - w) 0) w (run_length l a w fits)

    -- reading and writing back what was read changes nothing
    pub write_same : write_bytes l a w (cells_at l a w) ≡ l
    unfolding write_bytes
    write_same =
        let run = take w (drop a l) in
        let n : length run ≡ w = run_length l a w fits in
        ap (λ (v : List ℕ). store l a v) cells_run
        ∙ store_eq l a run (omega (arith, n))
        ∙ ap (λ (k : ℕ). take a l ++ run ++ drop (a + k) l) n
        ∙ append_assoc (take a l) run (drop (a + w) l)
        ∙ ap (λ (r : List ℕ). take a l ++ (run ++ r)) (sym (drop-drop w a l))
        ∙ ap (λ (r : List ℕ). take a l ++ r) (take-append-drop w (drop a l))
        ∙ take-append-drop a l

-- What is written

pub length_bytes : (l : List ℕ) (a w : ℕ) (v : List ℕ) → length (write_bytes l a w v) ≡ length l
unfolding write_bytes
length_bytes l a w v = length_store l a (take w v)

pub length_stamps : (l : List ℕ) (a w t : ℕ) → length (write_stamps l a w t) ≡ length l
unfolding write_stamps
length_stamps l a w t = length_store l a (replicate w t)

-- a part of n cells that came back with the first w of v, or with stamp t in all of them
module _ (l part : List ℕ) (a w n : ℕ) (same : n ≡ w) (fits : a + w ≤ length l) where
  pub part_written : (v : List ℕ) → w ≤ length v → part ≡ take w v → put_mid a n l part ≡ write_bytes l a w v
  unfolding write_bytes
  part_written v long e =
      part_store l part a n (ap length e ∙ length-take-le w v long ∙ sym same) (omega arith) ∙ ap (store l a) e

  pub part_stamped : (t : ℕ) → part ≡ replicate w t → put_mid a n l part ≡ write_stamps l a w t
  unfolding write_stamps
  part_stamped t e = part_store l part a n (ap length e ∙ length-replicate w t ∙ sym same) (omega arith) ∙ ap (store l a) e

-- Eight numbers, one by one

numbers_at_lem : (l : List ℕ) (i n j : ℕ) → j < n → get_or (numbers_at l i n) j 0 ≡ get_or l (i + j) 0
numbers_at_lem l i zero j h = absurd (omega arith)
numbers_at_lem l i (suc n) zero h = ap (λ (k : ℕ). get_or l k 0) (sym (add-zero i))
numbers_at_lem l i (suc n) (suc j) h =
    let e : i + 1 + j ≡ i + suc j = omega arith in numbers_at_lem l (i + 1) n j (omega arith) ∙ ap (λ (k : ℕ). get_or l k 0) e

-- the value bytes of an operation record
pub value_at_lem : (op : List ℕ) (i : ℕ) → i < 8 → get_or (eight_at op 8) i 0 ≡ get_or op (8 + i) 0
value_at_lem op i h = numbers_at_lem op 8 8 i h

-- Records

-- as the code puts them together
pub access_numbers_lem : (a t w r : ℕ) (v o s : List ℕ) → length v ≡ 8 → length o ≡ 8 → length s ≡ 8
    → 0 ∷ a ∷ (eight_at v 0 ++ (t ∷ w ∷ r ∷ (eight_at o 0 ++ eight_at s 0))) ≡ access_record (memory_access a v t w r o s)
access_numbers_lem a t w r v o s e f g = cc (eight_back v e, eight_back o f, eight_back s g)

module _ (b s : List ℕ) (a w t : ℕ) where
  pub read_record : {u o : List ℕ} → u ≡ cells_at b a w → o ≡ cells_at s a w
      → access_record (memory_access a u t w 1 u o) ≡ access_record (read_access (window_of b s) a w t)
  read_record e f = cc

  pub write_record : (v : List ℕ) {u o : List ℕ} → u ≡ cells_at b a w → o ≡ cells_at s a w
      → access_record (memory_access a v t w 0 u o) ≡ access_record (write_access (window_of b s) a w v t)
  write_record v e f = cc

-- How long a line can be that is not refused with 10: a gap line 24 bytes, a call line 89. A number has at most 20 digits, a word at most 5
-- letters. Assumes nothing.
use mathlib.Core.Path.{◌≡◌, refl, ap}
use mathlib.Core.Bool.{Bool, true, false, cond, ◌&&◌}
use mathlib.Core.List.{List, [], ◌∷◌}
use Prim.Native.Nat.{ℕ, suc, ◌+◌, ◌≤◌, ◌<◌}
use native.Mathlib.Omega.{arith}
use borrow.Author.Tests.{leb-true, leb-false}
use lib.Dec.{eqb, leb}
use lib.ListN.{length, length-take, length-drop}
use Rattle.lists.specs.Lists.{same}
use Rattle.call.specs.declared.Functionality.{Functionality}
use Rattle.text.specs.Pieces.{before, after}
use Rattle.text.specs.Numbers.{number_of}
use Rattle.text.specs.Lines.{word_of, gap_of, call_line, gap_word, ◌>>=◌, copy_word, set_word, write_word}
use Rattle.std.specs.Prelude.{Option, Some, None}
use Rattle.text.specs.declared.CallLine.{CallLine}
use Rattle.text.proofs.Numbers.{number_long}
use Rattle.text.proofs.Pieces.{index_le}

-- Pieces

-- a text is what stands before the separator, the separator, and what stands after it
pieces_cover : (b : ℕ) (l : List ℕ) → length l ≤ length (before b l) + 1 + length (after b l)
unfolding before after
pieces_cover b l = let h = index_le b l in simp (length-take, length-drop) (omega arith)

-- texts that are the same are equally long
same_long : (a b : List ℕ) → same a b ≡ true → length a ≡ length b
unfolding same
same_long [] [] h = refl
same_long [] (y ∷ b) h = let z : ◌≡◌ {A = ℕ} 0 1 = cc in absurd (omega arith)
same_long (x ∷ a) [] h = let z : ◌≡◌ {A = ℕ} 0 1 = cc in absurd (omega arith)
same_long (x ∷ a) (y ∷ b) h = ap suc (same_long a b (right (eqb x y) (same a b) h))
  where
    right : (s t : Bool) → (s && t) ≡ true → t ≡ true
    right true t h = h
    right false t h = let z : ◌≡◌ {A = ℕ} 0 1 = cc in absurd (omega arith)

-- a number, a word
number_short : (l : List ℕ) (v : ℕ) → number_of l ≡ Some v → length l ≤ 20
number_short l v h = go (leb (length l) 20) refl
  where
    go : (t : Bool) → leb (length l) 20 ≡ t → length l ≤ 20
    go true e = leb-true (length l) 20 e
    go false e =
        let bad : number_of l ≡ None = number_long l (leb-false (length l) 20 e) in
        let z : ◌≡◌ {A = ℕ} 0 1 = cc in
        absurd (omega arith)

word_short : (w : List ℕ) (k : Functionality) → word_of w ≡ Some k → length w ≤ 5
unfolding word_of
word_short w k h = go (same w copy_word) (same w set_word) (same w write_word) refl refl refl h
  where
    go : (x y z : Bool) → same w copy_word ≡ x → same w set_word ≡ y → same w write_word ≡ z
        → word_of w ≡ Some k → length w ≤ 5
    go true y z e f g h = omega (arith, same_long w copy_word e)
    go false true z e f g h = omega (arith, same_long w set_word f)
    go false false true e f g h = omega (arith, same_long w write_word g)
    go false false false e f g h = let x = rw (e, f, g) at h in let z : ◌≡◌ {A = ℕ} 0 1 = cc in absurd (omega arith)

-- a call line by what its pieces are
abbrev pub call_by : Option Functionality → (stamp src dst count : Option ℕ) → Option CallLine
call_by w a b c d = do
  kind ← w
  stamp ← a
  src ← b
  dst ← c
  count ← d
  Some (record { kind = kind; stamp = stamp; src = src; dst = dst; count = count })

-- A call line: field by field, one that is missing or no number makes it another form

module _ (l : List ℕ) (long : 89 < length l) where
  abbrev from_stamp : List ℕ
  from_stamp = after 9 l

  abbrev from_src : List ℕ
  from_src = after 9 from_stamp

  abbrev from_dst : List ℕ
  from_dst = after 9 from_src

  other_form : (w : Option Functionality) (a b c d : Option ℕ)
      → word_of (before 9 l) ≡ w
      → number_of (before 9 from_stamp) ≡ a
      → number_of (before 9 from_src) ≡ b
      → number_of (before 9 from_dst) ≡ c
      → number_of (after 9 from_dst) ≡ d
      → call_by w a b c d ≡ None
  other_form None a b c d ew ea eb ec ed = refl
  other_form (Some k) None b c d ew ea eb ec ed = refl
  other_form (Some k) (Some t) None c d ew ea eb ec ed = refl
  other_form (Some k) (Some t) (Some s) None d ew ea eb ec ed = refl
  other_form (Some k) (Some t) (Some s) (Some e) None ew ea eb ec ed = refl
  other_form (Some k) (Some t) (Some s) (Some e) (Some n) ew ea eb ec ed =
      let v = word_short (before 9 l) k ew in
      let w = number_short (before 9 from_stamp) t ea in
      let x = number_short (before 9 from_src) s eb in
      let y = number_short (before 9 from_dst) e ec in
      let z = number_short (after 9 from_dst) n ed in
      let g = pieces_cover 9 l in
      let h = pieces_cover 9 from_stamp in
      let i = pieces_cover 9 from_src in
      let j = pieces_cover 9 from_dst in
      absurd (omega arith)

  pub call_long : call_line l ≡ None
  unfolding call_line
  call_long = other_form (word_of (before 9 l)) _ _ _ _ refl refl refl refl refl

-- A gap line

pub gap_long : (l : List ℕ) → 24 < length l → gap_of l ≡ None
unfolding gap_of
gap_long l long = go (same (before 9 l) gap_word) (number_of (after 9 l)) refl refl
  where
    go : (t : Bool) (p : Option ℕ) → same (before 9 l) gap_word ≡ t → number_of (after 9 l) ≡ p → cond t p None ≡ None
    go false p e f = refl
    go true None e f = refl
    go true (Some gap) e f =
        let a = same_long (before 9 l) gap_word e in
        let b = number_short (after 9 l) gap f in
        let c = pieces_cover 9 l in
        absurd (omega arith)

-- The lines of an input, and the two forms of a line. Document 01: "a line `gap`, tab, number, then call lines, tab-parted: `copy`,
-- `set` or `write`, stamp, src, dst, count", and "the last newline may be missing". A tab too many stands in the last field, which
-- then is no number. Tab is byte 9, newline byte 10. Assumes nothing.
use Rattle.std.specs.Prelude.{ℕ, cond, List, [], ◌∷◌, eqb, Option, Some, None, option_and_then}
use Rattle.lists.specs.Lists.{same}
use Rattle.call.specs.declared.Functionality.{Functionality}
use Rattle.call.specs.declared.Functionality.TheVariants.{Copy, Set, Write}
use Rattle.text.specs.Pieces.{before, after}
use Rattle.text.specs.Numbers.{number_of}
use Rattle.text.specs.declared.CallLine.{CallLine}

-- the byte x put in front of the first line
unfoldable pub onto : ℕ → List (List ℕ) → List (List ℕ)
onto x [] = (x ∷ []) ∷ []
onto x (l ∷ ls) = (x ∷ l) ∷ ls

-- each newline ends a line; bytes after the last newline are a line too
unfoldable pub lines : List ℕ → List (List ℕ)
lines [] = []
lines (x ∷ xs) = cond (eqb x 10) ([] ∷ lines xs) (onto x (lines xs))

-- `gap`
abbrev pub gap_word : List ℕ
gap_word = 103 ∷ 97 ∷ 112 ∷ []

-- `copy`
abbrev pub copy_word : List ℕ
copy_word = 99 ∷ 111 ∷ 112 ∷ 121 ∷ []

-- `set`
abbrev pub set_word : List ℕ
set_word = 115 ∷ 101 ∷ 116 ∷ []

-- `write`
abbrev pub write_word : List ℕ
write_word = 119 ∷ 114 ∷ 105 ∷ 116 ∷ 101 ∷ []

-- the kind that a word names, if it names one
unfoldable pub word_of : List ℕ → Option Functionality
word_of w =
    cond (same w copy_word) (Some Copy)
    (cond (same w set_word) (Some Set)
    (cond (same w write_word) (Some Write) None))

-- line 1: `gap`, tab, number
unfoldable pub gap_of : List ℕ → Option ℕ
gap_of l = cond (same (before 9 l) gap_word) (number_of (after 9 l)) None

-- goes on with what was read, if it was
infixl 10 ◌>>=◌
abbrev pub ◌>>=◌ : {A B : Type 0} → Option A → (A → Option B) → Option B
o >>= f = option_and_then f o

-- a call line: word, stamp, src, dst, count, tab-parted; none for a line of another form
unfoldable pub call_line : List ℕ → Option CallLine
call_line l = do
  kind ← word_of (before 9 l)
  stamp ← number_of (before 9 (after 9 l))
  src ← number_of (before 9 (after 9 (after 9 l)))
  dst ← number_of (before 9 (after 9 (after 9 (after 9 l))))
  count ← number_of (after 9 (after 9 (after 9 (after 9 l))))
  Some (record { kind = kind; stamp = stamp; src = src; dst = dst; count = count })

-- What a row that passes says in plain numbers, part by part: bits are numbers below 2, carries are wrapped sums, and 'moves a byte, so
-- does not wrap' is one inequality. Linear but for products with a bit and two cases, so that a test on whole numbers is held against each
-- part (row_test). Of a row in range all parts together say neither more nor less than its 40 residues. Assumes nothing.
use Rattle.std.specs.Prelude.{◌≡◌, List, ℕ, ◌+◌, ◌-◌, ◌*◌, ◌^◌, ◌≤◌, ◌<◌}
use Rattle.lists.specs.Lists.{at}
use Rattle.words.specs.Words.{wrap_add}
use Rattle.copy_row.specs.Columns.{VALUE, SRC, DST, COUNT, COUNT_DECR, DST_RES, FIRST, END, SINGLE, IS_SET, IS_WRITE}
use Rattle.copy_row.specs.Columns.{FIRST_WRITE, MU, MU_COM, MU_COM_WIDE}
use Rattle.copy_meaning.specs.ReadRow.{words_at, halves_at, width_at}

-- x and the width: a live row that moves a byte does not wrap
abbrev pub Free : (width mu count x : ℕ) → Type 0
Free width mu count x = x + width + 2 ^ 64 * mu < 2 * 2 ^ 64 + 2 ^ 64 * (1 - count)

-- a last row moves all that is left
abbrev pub Last : (width end count : ℕ) → Type 0
Last width end count = count + 2 ^ 64 * end ≤ width + 2 ^ 64

-- a row with a mark or a kind is live and has one kind; an empty row opens and ends its call; the multiplicities
pub record PlainFlags (first end single set write first_write mu mu_com wide_mu_com count : ℕ) : Type 0 where
  pub first_live : first ≤ mu
  pub end_live : end ≤ mu
  pub kinds : set + write ≤ mu
  pub first_write_lem : first_write ≡ first * write
  pub empty_first : 1 - count ≤ first
  pub empty_end : 1 - count ≤ end
  pub mu_com_lem : mu_com ≡ (1 - (1 - count)) * write
  pub mu_com_wide : wide_mu_com ≡ mu_com * (1 - single)

-- next is x and the width
pub record PlainMoves (width mu count x next : ℕ) : Type 0 where
  pub sum : next ≡ wrap_add x width
  pub free : Free width mu count x

-- next is the count less the width, which wraps from 0 only
pub record PlainCounts (width end count next : ℕ) : Type 0 where
  pub sum : next + width ≡ count + 2 ^ 64 * (1 - count)
  pub last : Last width end count

-- The same of a row's columns

abbrev pub FlagsAt : List ℕ → Type 0
FlagsAt row =
    PlainFlags (at row FIRST) (at row END) (at row SINGLE) (at row IS_SET) (at row IS_WRITE) (at row FIRST_WRITE) (at row MU) (at row MU_COM)
    (at row MU_COM_WIDE) (words_at row COUNT)

-- the address in words at column c, and its sum two columns on: SRC or DST
abbrev pub MovesAt : List ℕ → ℕ → Type 0
MovesAt row c = PlainMoves (width_at row) (at row MU) (words_at row COUNT) (words_at row c) (halves_at row (c + 2))

abbrev pub CountsAt : List ℕ → Type 0
CountsAt row = PlainCounts (width_at row) (at row END) (words_at row COUNT) (halves_at row COUNT_DECR)

-- where a Write ends, and DST else
abbrev pub ResultAt : List ℕ → Type 0
ResultAt row = halves_at row DST_RES ≡ wrap_add (words_at row DST) (words_at row COUNT * at row IS_WRITE)

abbrev pub GapAt : ℕ → List ℕ → Type 0
GapAt gap row = at row IS_SET ≡ 1 → words_at row DST ≡ words_at row SRC + gap

abbrev pub TailAt : List ℕ → Type 0
TailAt row = at row SINGLE ≡ 1 → (c : ℕ) → VALUE < c → c < SRC → at row c ≡ 0

-- all that a row says
pub record Plain (gap : ℕ) (row : List ℕ) : Type 0 where
  pub mu : at row MU < 2
  pub single : at row SINGLE < 2
  pub flags : FlagsAt row
  pub src : MovesAt row SRC
  pub dst : MovesAt row DST
  pub count : CountsAt row
  pub res : ResultAt row
  pub gapped : GapAt gap row
  pub tail : TailAt row

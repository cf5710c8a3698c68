-- The rows of a call. A row moves some of the bytes that remain, and the next one goes on behind them: a list of widths makes the rows. The
-- expansion's own list is made by a rule. Document 02: "An expanded row has width 8 exactly if 8 or more bytes remain and neither its source
-- bytes nor, for Copy and Set, its destination bytes lie on both sides of a multiple of 4,096. Otherwise its width is 1." Assumes nothing.
use Rattle.std.specs.Prelude.{ℕ, zero, suc, ◌+◌, ◌/◌, Bool, cond, ◌&&◌, ◌||◌, List, [], ◌∷◌, leb, eqb}
use Rattle.call.specs.Calls.{Call}
use Rattle.call.specs.Cuts.{rest}

-- a row: the call as it remains here, how many bytes the row moves, and FIRST
pub record Row : Type 0 where
  pub call : Call
  pub width : ℕ
  pub first : ℕ

abbrev pub row_with : Call → ℕ → ℕ → Row
row_with c w f = record { call = c; width = w; first = f }

-- the rows of these widths, c being what remains of the call and f the FIRST of the first of them
unfoldable pub rows_by : Call → ℕ → List ℕ → List Row
rows_by c f [] = []
rows_by c f (w ∷ ws) = row_with c w f ∷ rows_by (rest c w) 0 ws

-- from one edge to the next
abbrev pub PAGE : ℕ
PAGE = 4096

-- the last of the eight bytes from a on
abbrev pub last_byte : ℕ → ℕ
last_byte a = a + 7

-- the first and the last of them lie between the same two edges
abbrev pub one_page : ℕ → Bool
one_page a = eqb (a / PAGE) (last_byte a / PAGE)

-- whether the next row moves eight bytes, c being what remains of the call; a Write's dst is an index, and not judged
abbrev pub is_wide : Call → Bool
is_wide c = leb 8 c.count && (one_page c.src && (eqb c.kind 2 || one_page c.dst))

-- how many bytes the next row of the expansion moves. What is built on it goes by two laws only: it is 1 or 8, and at most what remains
unfoldable pub copy_row_width : Call → ℕ
copy_row_width c = cond (is_wide c) 8 1

-- the widths by this rule until nothing remains, at most n of them
unfoldable pub widths_within : ℕ → Call → List ℕ
widths_within zero c = []
widths_within (suc n) c = cond (eqb c.count 0) [] (copy_row_width c ∷ widths_within n (rest c (copy_row_width c)))

-- all of them: each row moves a byte, so there are at most as many rows as bytes
unfoldable pub widths_of : Call → List ℕ
widths_of c = widths_within c.count c

-- What follows from the definition of the expansion. Each field is a fact; `expansion_consequences_hold` in theorems carries them. What is
-- said of bytes and stamps holds however the call is cut into widths of 1 and 8, if it lies in the window. Assumes nothing.
use Rattle.std.specs.Prelude.{◌≡◌, ◌⊎◌, cond, ◌&&◌, ℕ, ◌+◌, ◌-◌, ◌^◌, ◌≤◌, ◌<◌, leb, ltb, length, take, drop}
use mathlib.Core.List.{List, [], ◌∷◌, flat_map}
use Rattle.lists.specs.Lists.{store, at}
use Rattle.words.specs.Words.{Bytes}
use Rattle.call.specs.Calls.{Call, Piece, Op}
use Rattle.call.specs.Cuts.{FitsTypes, CutInto, CutCall, pieces_of, cut_from, Fits}
use Rattle.window.specs.Window.{Window, window_of}
use Rattle.expansion_rows.specs.Rows.{widths_of}
use Rattle.expansion.specs.Refusals.{op_count, access_count, Accepts}
use Rattle.expansion.specs.Tries.{Setting, Try}
use Rattle.expansion.specs.Expansion.{ops_by, bytes_by, stamps_by, call_ops, call_accesses}

-- what the rows of a call move, in order
abbrev pub call_pieces : Call → List ℕ → List Piece
call_pieces c bytes = pieces_of (call_ops c bytes)

abbrev pub cut_call : Call → List ℕ → CutCall
cut_call c bytes = record { call = c; pieces = call_pieces c bytes }

-- a call with bytes to move reads and writes inside a window of n cells, and a Set's destination lies a gap above its source
pub record InWindow (gap : ℕ) (c : Call) (n : ℕ) : Type 0 where
  pub source : 0 < c.count → c.src + c.count ≤ n
  pub dest : 0 < c.count → (c.kind ≡ 2 → ⊥) → c.dst + c.count ≤ n
  pub apart : c.kind ≡ 1 → c.dst ≡ c.src + gap

-- cell i lies outside the n cells from a on
abbrev pub Outside : ℕ → ℕ → ℕ → Type 0
Outside a n i = (i < a) ⊎ (a + n ≤ i)

-- V: the bytes that rows of the widths ws move, joined
abbrev pub moved_bytes : Call → List ℕ → List ℕ → List ℕ
moved_bytes c ws bytes = flat_map (λ (o : Op). take o.piece.width o.piece.value) (ops_by c ws bytes)

-- the place of byte x in its row
abbrev pub place_in : List ℕ → ℕ → ℕ
place_in [] x = x
place_in (w ∷ ws) x = cond (ltb x w) x (place_in ws (x - w))

-- a call that is cut into the widths ws, over a window with these bytes
pub record AnyCut (gap : ℕ) (c : Call) (ws bytes : List ℕ) : Type 0 where
  -- every byte outside the destination keeps its value
  pub bytes_kept : (i : ℕ) → i < length bytes → Outside c.dst c.count i → at (bytes_by c ws bytes) i ≡ at bytes i
  -- every cell outside source and destination keeps its stamp; a Write has no destination in the window
  pub stamps_kept : (stamps : List ℕ) (i : ℕ) → Outside c.src c.count i → ((c.kind ≡ 2 → ⊥) → Outside c.dst c.count i)
      → at (stamps_by c ws (window_of bytes stamps)) i ≡ at stamps i
  -- a Copy's destination holds what its source held before
  pub copied : c.kind ≡ 0 → bytes_by c ws bytes ≡ store bytes c.dst (take c.count (drop c.src bytes))
  -- a Write changes no byte
  pub written : c.kind ≡ 2 → bytes_by c ws bytes ≡ bytes
  -- byte x of a Set, whatever the gap: a byte that an earlier row has moved by the gap, if x is so far along and its row does not reach
  -- back over the gap; else the byte that stood there before the call
  pub set_moves : c.kind ≡ 1 → (x : ℕ) → x < c.count
      → let moved = moved_bytes c ws bytes in
      at moved x ≡ cond (leb gap x && ltb (place_in ws x) gap) (at moved (x - gap)) (at bytes (c.src + x))
  -- with a gap of 8 and more each byte of a Set's destination is, afterwards, the one a gap below it
  pub set_fills : c.kind ≡ 1 → 8 ≤ gap → (x : ℕ) → x < c.count
      → at (bytes_by c ws bytes) (c.dst + x) ≡ at (bytes_by c ws bytes) (c.src + x)

pub record Consequences : Type 0 where
  -- the operation records are a cut of the call: FIRST on the first, END on the last, each with the call as it remains there
  pub cut : (c : Call) (bytes : List ℕ) → Bytes bytes → call_ops c bytes ≡ cut_from c 1 (call_pieces c bytes)
  -- an accepted call is sound, and its pieces have widths of 1 and 8 that sum to its count
  pub fits : (s : Setting) → s.limit < 2 ^ 64 → (t : Try) → FitsTypes t.call → Bytes t.slices.bytes → Accepts s t
      → Fits s.gap (cut_call t.call t.slices.bytes)
  -- the counts in the answer are those of the records
  pub counts : (c : Call) (m : Window) → c.kind < 3 → (length (call_ops c m.bytes) ≡ op_count c) × (length (call_accesses c m) ≡ access_count c)
  -- any cut of a call that lies in the window moves its bytes as `AnyCut` says
  pub any_cut : (gap : ℕ) (c : Call) (ws bytes : List ℕ) → CutInto c.count ws → InWindow gap c (length bytes) → AnyCut gap c ws bytes
  -- the rule's widths are such a cut, and an accepted call lies in its window
  pub rule : (c : Call) → CutInto c.count (widths_of c)
  pub inside : (s : Setting) (t : Try) → Accepts s t → InWindow s.gap t.call (length t.slices.bytes)

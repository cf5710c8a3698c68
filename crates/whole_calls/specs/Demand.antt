-- Demand 3, whole: "No sequence of rows can pass the chain check and be anything but whole calls." The words in quotes are the demand's
-- and document 01's; each stands above the line that states it, and `Demand3` is the theorem. It speaks of the definitions that the
-- contracts of the expansion, the copy table's maker, the chain check and read-back cite. Assumes nothing.
use Rattle.std.specs.Prelude.{◌≡◌, ◌⊎◌, ◌↔◌, ℕ, ◌*◌, ◌/◌, ◌%◌, ◌^◌, ◌≤◌, ◌<◌, length, take, Ok, Err}
use mathlib.Core.List.{List, [], ◌∷◌, ◌++◌, flat_map}
use Rattle.lists.specs.Lists.{store, at, All}
use Rattle.records.specs.Records.{LIMIT}
use Rattle.records.specs.Table.{table_numbers}
use Rattle.call.specs.Calls.{Piece}
use Rattle.call.specs.Ops.{op_record, OP_WIDTH}
use Rattle.call.specs.Flat.{CALL_WIDTH, call_numbers}
use Rattle.call.specs.Cuts.{FitsTypes, CutCall, ops_of, Fits, HasRow, calls_of}
use Rattle.expansion.specs.Tries.{under, Try, Typed}
use Rattle.expansion.specs.Refusals.{Accepts}
use Rattle.expansion.specs.Expansion.{lent_after}
use Rattle.copy_row.specs.Columns.{MU, COLUMNS}
use Rattle.copy_row.specs.Trace.{copy_answer, copy_after}
use Rattle.copy_residues.specs.Residues.{residue, RESIDUES}
use Rattle.copy_meaning.specs.RowIff.{InRange, CallRow}
use Rattle.chain.specs.Chain.{table_rows, chain_answer, chain_numbers}
use Rattle.read_back.specs.ReadBack.{live_rows, read_back_answer, ops_after, calls_after, read_back_numbers}
use Rattle.read_back.specs.declared.ReadBackRefusal.TheVariants.{BufferShort}
use Rattle.calls_in_turn.specs.Accepted.{accepted_of, accepted_ops, accepted_calls}

-- "A list passes under a gap when the chain check, given both, refuses nothing"
abbrev pub Passes : ℕ → List ℕ → Type 0
Passes gap l = (chain_numbers (chain_answer gap l)).number ≡ 0

-- "dead MU 0": a dead row that is in range and has 40 zero residues
pub record DeadRow (gap : ℕ) (row : List ℕ) : Type 0 where
  pub dead : at row MU ≡ 0
  pub range : InRange row
  pub zeroes : (i : ℕ) → i < RESIDUES → residue gap row i ≡ 0

-- R of the elements of two lists, pair by pair, and none left over
abbrev pub Each : {A B : Type 0} → (A → B → Type 0) → List A → List B → Type 0
Each R [] [] = Unit {0}
Each R [] (y ∷ ys) = ⊥
Each R (x ∷ xs) [] = ⊥
Each R (x ∷ xs) (y ∷ ys) = R x y × Each R xs ys

-- the two things that hold of a list that passes, ks being its calls with their cuts
pub record WholeCalls (gap : ℕ) (l : List ℕ) (ks : List CutCall) : Type 0 where
  -- the list is rows of 41 numbers
  pub rows : length l % COLUMNS ≡ 0
  -- "Live means MU 1"; "Its live rows, in order, are those of a list of copy, set and write calls"
  pub live : Each (CallRow gap) (ops_of ks) (live_rows (table_rows l))
  -- "that document 01 calls sound, each cut into widths of 1 and 8 adding up to its count (one row if the count is 0)."
  pub sound : All (Fits gap) ks
  -- "All its other rows are dead, come last, are in range and have 40 zero residues."
  pub others : List (List ℕ)
  pub last : table_rows l ≡ live_rows (table_rows l) ++ others
  pub dead : All (DeadRow gap) others

-- what read-back does with a list that holds these records and these calls, flat, when lent two buffers
pub record ReadsBack (gap : ℕ) (l records handed ops calls : List ℕ) : Type 0 where
  -- where both buffers are long enough, it writes the records and the calls, and counts them
  pub reads : length records ≤ length ops → length handed ≤ length calls
      → let answer = read_back_answer gap l (length ops) (length calls) in
      (answer ≡ Ok (record { ops = length records / OP_WIDTH; calls = length handed / CALL_WIDTH }))
      × (ops_after answer l ops ≡ store ops 0 records)
      × (calls_after answer l calls ≡ store calls 0 handed)
  -- otherwise it refuses with 9
  pub short : (length ops < length records) ⊎ (length calls < length handed)
      → read_back_answer gap l (length ops) (length calls) ≡ Err BufferShort

-- any call, widths and value bytes: the call's numbers fit their types, there is a row, and each row has a width of 0 to 255 and eight
-- values. It need not be sound, and the widths need not be 1 or 8 nor add up
pub record AnyPiece (piece : Piece) : Type 0 where
  pub width : piece.width ≤ 255
  pub eight : length piece.value ≡ 8

pub record AnyCall (k : CutCall) : Type 0 where
  pub words : FitsTypes k.call
  pub pieces : All AnyPiece k.pieces
  pub row : HasRow k

pub record Demand3 : Type 0 where
  -- "For every list of 41-number rows and every gap below 2^32, the list passes exactly when two things hold." Here of any list of
  -- numbers: one that is not rows of 41 does not pass
  pub exactly : (gap : ℕ) → gap < 2 ^ 32 → (l : List ℕ) → Passes gap l ↔ ((ks : List CutCall) × WholeCalls gap l ks)
  -- the check then answers how many rows it has seen: all
  pub counts : (gap : ℕ) (l : List ℕ) → Passes gap l → chain_answer gap l ≡ Ok (length l / COLUMNS)
  -- "Reading it back gives those calls, widths and value bytes": a record of each row, with the call as it remains there, the row's
  -- width and its value bytes, and each call as a whole
  pub reads : (gap : ℕ) → gap < 2 ^ 32 → (l : List ℕ) (ks : List CutCall) → WholeCalls gap l ks
      → (ops calls : List ℕ) → ReadsBack gap l (flat_map op_record (ops_of ks)) (flat_map call_numbers (calls_of ks)) ops calls
  -- "and no other list of calls, widths and value bytes has those live rows."
  pub alone : (gap : ℕ) (l : List ℕ) (ks : List CutCall) → WholeCalls gap l ks
      → (js : List CutCall) → All AnyCall js → Each (CallRow gap) (ops_of js) (live_rows (table_rows l)) → js ≡ ks
  -- document 01: "read-back can then refuse it only with 9"
  pub only_nine : (gap : ℕ) (l : List ℕ) → Passes gap l → (room_ops calls_room : ℕ)
      → let number = (read_back_numbers (read_back_answer gap l room_ops calls_room)).answer.number in (number ≡ 0) ⊎ (number ≡ 9)
  -- "For every list of copy, set and write calls, refused ones included, expanded in turn under one such gap, whatever the window holds
  -- before each: the table made from the accepted ones passes under that gap, and reading it back gives exactly these, in their order,
  -- with the widths and value bytes of their expansion." Document 01: "Where it refuses nothing, the rows written pass under that gap."
  pub made : (gap : ℕ) → gap < 2 ^ 32 → (tries : List Try) → All Typed tries → (table : List ℕ) (rows : ℕ)
      → let records = accepted_ops (under gap) tries in
      copy_answer LIMIT records (length table) ≡ Ok rows
      → let l = take (COLUMNS * rows) (copy_after records (Ok rows) table) in
      Passes gap l × ((ops calls : List ℕ) → ReadsBack gap l records (accepted_calls (under gap) tries) ops calls)
  -- the maker can refuse these records with 8 or 9 alone, whatever window each call found
  pub maker_refuses : (gap : ℕ) → gap < 2 ^ 32 → (tries : List Try) → All Typed tries → (room : ℕ)
      → let number = (table_numbers 8 (copy_answer LIMIT (accepted_ops (under gap) tries) room)).number in
      (number ≡ 0) ⊎ (number ≡ 8) ⊎ (number ≡ 9)
  -- "a refused call leaves its window as it was and adds no record": its four slices are as they came, and those that are accepted are
  -- what they are without it
  pub refused_leaves : (gap : ℕ) (t : Try) → (Accepts (under gap) t → ⊥) → lent_after (under gap) t ≡ t.slices
  pub refused_adds : (gap : ℕ) (earlier later : List Try) (t : Try) → (Accepts (under gap) t → ⊥)
      → accepted_of (under gap) (earlier ++ (t ∷ later)) ≡ accepted_of (under gap) (earlier ++ later)

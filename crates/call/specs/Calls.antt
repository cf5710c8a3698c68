-- Calls, what one row moves of them, and operation records. Document 01: "A call (kind, stamp, src, dst, count)". An operation record
-- holds the call as it remains at its row: src and dst where this row starts, count what is left with this row's bytes. Assumes nothing.
use Rattle.std.specs.Prelude.{ℕ, List, Bool, cond, eqb, ltb}
use Rattle.call.specs.declared.Functionality.{Functionality}
use Rattle.call.specs.declared.Functionality.TheVariants.{Copy, Set, Write}

-- a call, or what is left of one from some row on; kind by its number
pub record Call : Type 0 where
  pub kind : ℕ
  pub stamp : ℕ
  pub src : ℕ
  pub dst : ℕ
  pub count : ℕ

-- what one row moves: its width and eight value bytes
pub record Piece : Type 0 where
  pub width : ℕ
  pub value : List ℕ

-- an operation record: the call as of this row, the row's piece, and its two marks
pub record Op : Type 0 where
  pub call : Call
  pub piece : Piece
  pub first : ℕ
  pub end : ℕ

-- the number of a kind
abbrev pub kind_number : Functionality → ℕ
kind_number Copy = 0
kind_number Set = 1
kind_number Write = 2

-- no kind has this number
abbrev pub no_kind : ℕ → Bool
no_kind k = ltb 2 k

-- the kind of a number that is at most 2
abbrev pub kind_of : ℕ → Functionality
kind_of k = cond (eqb k 0) Copy (cond (eqb k 1) Set Write)

-- the call that is handed in
abbrev pub call_with : Functionality → ℕ → ℕ → ℕ → ℕ → Call
call_with kind timestamp src dst count = record { kind = kind_number kind; stamp = timestamp; src = src; dst = dst; count = count }

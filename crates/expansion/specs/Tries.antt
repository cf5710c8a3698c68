-- What goes to the expansion: a call and four lent slices, under a gap and a limit on the window's cells. Assumes nothing.
use Rattle.std.specs.Prelude.{ℕ, List, length}
use Rattle.words.specs.Words.{Bytes}
use Rattle.records.specs.Records.{LIMIT}
use Rattle.call.specs.Calls.{Call}
use Rattle.call.specs.Cuts.{FitsTypes}

-- how many cells a window may have, and the gap
pub record Setting : Type 0 where
  pub limit : ℕ
  pub gap : ℕ

abbrev pub setting : ℕ → ℕ → Setting
setting limit gap = record { limit = limit; gap = gap }

-- document 01's limit
abbrev pub under : ℕ → Setting
under gap = setting LIMIT gap

-- the four lent slices: the window's bytes and stamps, and the buffers for operation records and access records
pub record Lent : Type 0 where
  pub bytes : List ℕ
  pub stamps : List ℕ
  pub ops : List ℕ
  pub accesses : List ℕ

abbrev pub lent : List ℕ → List ℕ → List ℕ → List ℕ → Lent
lent bytes stamps ops accesses = record { bytes = bytes; stamps = stamps; ops = ops; accesses = accesses }

-- how long they are
pub record Lengths : Type 0 where
  pub cells : ℕ
  pub stamped : ℕ
  pub ops : ℕ
  pub accesses : ℕ

abbrev pub lengths_are : ℕ → ℕ → ℕ → ℕ → Lengths
lengths_are cells stamped ops accesses = record { cells = cells; stamped = stamped; ops = ops; accesses = accesses }

abbrev pub lengths : Lent → Lengths
lengths l = lengths_are (length l.bytes) (length l.stamps) (length l.ops) (length l.accesses)

-- a call handed to the expansion, with the slices lent to it
pub record Try : Type 0 where
  pub call : Call
  pub slices : Lent

abbrev pub try_of : Call → Lent → Try
try_of c l = record { call = c; slices = l }

-- what the types of these say: a kind and numbers of 64 bits, and bytes
pub record Typed (t : Try) : Type 0 where
  pub words : FitsTypes t.call
  pub bytes : Bytes t.slices.bytes

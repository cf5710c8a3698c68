-- The residues of the three access tables by their numbers. Document 01: "General table and residues (49 columns, 15): memw.rs", for the
-- aligned table "residues as general's without CARRY (8)", for the register table "two bits, then s(1 − s), s their sum". Assumes nothing.
use Rattle.std.specs.Prelude.{ℕ, ◌+◌, ◌-◌, cond, List, [], ◌∷◌, leb, get_or}
use Rattle.lists.specs.Lists.{at}
use Rattle.field.specs.Field.{add_p, sub_p, mul_p, bit_p}
use Rattle.memw.specs.MemwColumns as general
use Rattle.memw.specs.AlignedColumns as aligned
use Rattle.memw.specs.RegisterColumns as register
use Rattle.access.specs.declared.AccessTable.{AccessTable}
use Rattle.access.specs.declared.AccessTable.TheVariants.{General, Aligned, Register}

-- the columns that both the general and the aligned table's residues read
pub record FlagNumbers : Type 0 where
  pub mu_read : ℕ
  pub mu_write : ℕ
  pub write2 : ℕ
  pub write4 : ℕ
  pub write8 : ℕ

abbrev pub memw_flags : List ℕ → FlagNumbers
memw_flags row =
    record {
      mu_read = at row general.MU_READ;
      mu_write = at row general.MU_WRITE;
      write2 = at row general.WRITE2;
      write4 = at row general.WRITE4;
      write8 = at row general.WRITE8;
    }

abbrev pub aligned_flags : List ℕ → FlagNumbers
aligned_flags row =
    record {
      mu_read = at row aligned.MU_READ;
      mu_write = at row aligned.MU_WRITE;
      write2 = at row aligned.WRITE2;
      write4 = at row aligned.WRITE4;
      write8 = at row aligned.WRITE8;
    }

-- the sum of the multiplicities: whether the row is an access
abbrev pub mu_sum : FlagNumbers → ℕ
mu_sum f = add_p f.mu_read f.mu_write

-- the sum of the width flags: whether it moves two bytes or more
abbrev pub w2 : FlagNumbers → ℕ
w2 f = add_p (add_p f.write2 f.write4) f.write8

-- the eight residues without CARRY, in their order; first their number in the aligned table, then in the general one
abbrev pub flag_residues : FlagNumbers → List ℕ
flag_residues f =
    -- 0, 0: the sum of the multiplicities is a bit
    bit_p (mu_sum f)
    -- 1, 1: a row of two bytes or more is an access
    ∷ mul_p (w2 f) (sub_p 1 (mu_sum f))
    -- 2, 2 and 3, 3: both multiplicities are bits
    ∷ bit_p f.mu_read
    ∷ bit_p f.mu_write
    -- 4, 11 to 6, 13: the width flags are bits
    ∷ bit_p f.write2
    ∷ bit_p f.write4
    ∷ bit_p f.write8
    -- 7, 14: and so is their sum
    ∷ bit_p (w2 f)
    ∷ []

unfoldable pub flag_residue : FlagNumbers → ℕ → ℕ
flag_residue f i = get_or (flag_residues f) i 0

-- the general table: 0 to 3 are the first four of these, 4 to 10 the seven CARRY bits, 11 to 14 the last four
unfoldable pub memw_residue : List ℕ → ℕ → ℕ
memw_residue row i =
    cond (leb i 3) (flag_residue (memw_flags row) i)
    (cond (leb i 10) (bit_p (at row (general.CARRY + (i - 4)))) (flag_residue (memw_flags row) (i - 7)))

-- the aligned table: 0 to 7 are these
unfoldable pub aligned_residue : List ℕ → ℕ → ℕ
aligned_residue row i = flag_residue (aligned_flags row) i

-- the register table: 0 and 1 are two bits, 2 is s(1 − s), s their sum
abbrev pub register_residues : List ℕ → List ℕ
register_residues row =
    bit_p (at row register.MU_READ)
    ∷ bit_p (at row register.MU_WRITE)
    ∷ bit_p (add_p (at row register.MU_READ) (at row register.MU_WRITE))
    ∷ []

unfoldable pub register_residue : List ℕ → ℕ → ℕ
register_residue row i = get_or (register_residues row) i 0

-- how many residues a table has, and residue i of its row
abbrev pub residue_count : AccessTable → ℕ
residue_count General = 15
residue_count Aligned = 8
residue_count Register = 3

abbrev pub table_residue : AccessTable → List ℕ → ℕ → ℕ
table_residue General row i = memw_residue row i
table_residue Aligned row i = aligned_residue row i
table_residue Register row i = register_residue row i

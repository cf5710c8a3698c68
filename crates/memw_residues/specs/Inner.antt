-- The columns of flags as the code has them, in numbers: cited by the contracts of inner functions alone. Assumes nothing.
use Rattle.memw_residues.specs.Residues.{FlagNumbers}
use Rattle.memw_residues.specs.declared.Flags.{Flags}

abbrev pub flag_numbers : Flags → FlagNumbers
flag_numbers f =
    record {
      mu_read = f.mu_read.value;
      mu_write = f.mu_write.value;
      write2 = f.write2.value;
      write4 = f.write4.value;
      write8 = f.write8.value;
    }

-- The theorems of one copy row, as specs/Theorems states them. Assumes nothing.
use Rattle.copy_meaning.specs.Theorems.{RowMeaning}
use Rattle.copy_meaning.proofs.RowIff.{row_iff, plain_iff, live_passes, padding_passes}
use Rattle.copy_meaning.proofs.ReadBack.{op_back, next_back}
use Rattle.copy_meaning.proofs.DstRes.{never_free, call_row, one_filling}
use Rattle.copy_meaning.proofs.Instances.{instances}

pub row_meaning : RowMeaning
row_meaning =
    record {
      row_iff = row_iff;
      plain_iff = plain_iff;
      live_passes = live_passes;
      padding_passes = padding_passes;
      op_back = op_back;
      next_back = next_back;
      never_free = never_free;
      call_row = call_row;
      one_filling = one_filling;
      instances = instances;
    }

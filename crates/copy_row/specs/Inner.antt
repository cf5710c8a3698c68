-- The operation record as the code's struct holds it: cited by the contracts of inner functions alone. Assumes nothing.
use Rattle.call.specs.Calls.{Op}
use Rattle.copy_row.specs.declared.CopyOperation.{CopyOperation}

abbrev pub copy_operation : CopyOperation → Op
copy_operation o =
    record {
      call = record { kind = o.kind; stamp = o.timestamp; src = o.src; dst = o.dst; count = o.count };
      piece = record { width = o.width; value = o.value };
      first = o.first;
      end = o.end;
    }

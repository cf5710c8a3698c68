-- The access as the code's struct holds it, row k of a table, and the kind of its records: cited by the contracts of inner functions alone. Assumes nothing.
use Rattle.std.specs.Prelude.{ℕ, List}
use Rattle.records.specs.Table.{row_at}
use Rattle.access.specs.Access.{Access}
use Rattle.access.specs.Tables.{record_width}
use Rattle.access.specs.declared.AccessTable.{AccessTable}
use Rattle.access.specs.declared.AccessTable.TheVariants.{General, Aligned, Register}
use Rattle.kinds.specs.declared.RecordKind.{RecordKind}
use Rattle.kinds.specs.declared.RecordKind.TheVariants as kind
use Rattle.memw.specs.Tables.{record_row, table_padding}
use Rattle.memw.specs.declared.MemwOperation.{MemwOperation}

-- the access that the code's struct holds
abbrev pub memw_operation : MemwOperation → Access
memw_operation o =
    record {
      is_register = o.is_register;
      address = o.base_address;
      value = o.value;
      timestamp = o.timestamp;
      width = o.width;
      is_read = o.is_read;
      old = o.old;
      old_timestamps = o.old_timestamp;
    }

-- row k of the table of a record list: that of record k, or padding past the last record
abbrev pub memw_row_at : AccessTable → List ℕ → ℕ → List ℕ
memw_row_at t records k = row_at (record_width t) (record_row t) (table_padding t) records k

-- the kind of a table's records
abbrev pub record_kind : AccessTable → RecordKind
record_kind General = kind.Access
record_kind Aligned = kind.Access
record_kind Register = kind.Register

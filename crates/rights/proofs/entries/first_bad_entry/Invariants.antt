use mathlib.Core.Path.{◌≡◌}
use Prim.Native.Nat.{◌-◌}
use Rattle.lists.specs.Lists.{first}
use Rattle.records.proofs.Records.{bad_at}
use Rattle.call.specs.Entries.{ENTRY_WIDTH, good_entry}
use Rattle.rights.specs.Entries.{entry_count, first_bad_entry}
use Rattle.rights.proofs.entries.first_bad_entry.Given as goal

abbrev pub invariant-loop-k : goal.invariant-loop-k
invariant-loop-k l =
    first_bad_entry l.entries ≡ first (bad_at ENTRY_WIDTH good_entry l.entries) l.k (entry_count l.entries - l.k)

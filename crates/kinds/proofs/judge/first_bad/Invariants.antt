use mathlib.Core.Path.{◌≡◌}
use Prim.Native.Nat.{◌-◌}
use Rattle.lists.specs.Lists.{first}
use Rattle.records.specs.Records.{record_count, first_bad}
use Rattle.records.proofs.Records.{bad_at}
use Rattle.kinds.specs.Kinds.{kind_width, good_of_kind}
use Rattle.kinds.proofs.judge.first_bad.Given as goal

abbrev pub invariant-loop-k : goal.invariant-loop-k
invariant-loop-k l =
    first_bad (kind_width l.kind) (good_of_kind l.kind) l.list
    ≡ first (bad_at (kind_width l.kind) (good_of_kind l.kind) l.list) l.k (record_count (kind_width l.kind) l.list - l.k)

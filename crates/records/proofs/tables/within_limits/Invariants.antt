-- `records::tables::within_limits`: `above` says whether one of the numbers passed is above its limit. Assumes nothing.
use Rattle.std.proofs.Common.{◌≡◌}
use Rattle.records.proofs.Records.{any_above}
use Rattle.records.proofs.tables.within_limits.Given as goal

abbrev pub invariant-loop-i : goal.invariant-loop-i
invariant-loop-i l = l.above ≡ any_above l.limits l.r l.i

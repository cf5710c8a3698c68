use mathlib.Core.Path.{◌≡◌}
use Prim.Native.Nat.{◌-◌}
use Rattle.lists.specs.Lists.{first}
use Rattle.rights.specs.Entries.{whole_entries}
use Rattle.rights.specs.Rights.{giver}
use Rattle.rights.proofs.CoverLaws.{gives_at}
use Rattle.rights.proofs.cover.giver.Given as goal

abbrev pub invariant-loop-k : goal.invariant-loop-k
invariant-loop-k l =
    giver l.entries l.party l.right l.x ≡ first (gives_at l.entries l.party l.right l.x) l.k (whole_entries l.entries - l.k)

-- `flat::after_terms`: what is left of the walk from here gives the whole walk's end. Assumes nothing.
use Rattle.std.proofs.Common.{◌≡◌, ◌-◌}
use Rattle.std.specs.Prelude.{Some}
use Rattle.add_pair.specs.Flat.{after_terms}
use Rattle.add_pair.proofs.flat.after_terms.Given as goal

abbrev pub invariant-loop : goal.invariant-loop
invariant-loop l = after_terms l.list (Some l.start) l.n ≡ after_terms l.list (Some l.i) (l.n - l.counter)

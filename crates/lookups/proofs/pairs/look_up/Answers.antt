-- `lookups::pairs::look_up`: an answer that is no refusal says that every record is good and that all pairs fit. Assumes nothing.
use mathlib.Core.Path.{sym}
use native.Mathlib.Omega.{arith}
use lib.ListN.{length}
use Rattle.routing.proofs.Judging.{all_routable}
use Rattle.lookups.specs.Lookups.{lookups_after}
use Rattle.lookups.proofs.Answers.{written_facts}
use Rattle.lookups.proofs.pairs.look_up.Goals as goal

pub write_pairs-requires : goal.write_pairs-requires
write_pairs-requires c =
    let a = c.args in
    let f = written_facts a.limit a.accesses.now (length a.lookups.now) c.in_ok-pairs.pairs (sym c.in_ok-pairs.ensures) in
    (omega (arith, f.allowed), all_routable a.accesses.now f.fine, f.fits)

pub returns-clause-lookups : goal.returns-clause-lookups
unfolding lookups_after
returns-clause-lookups c = c.write_pairs.ensures

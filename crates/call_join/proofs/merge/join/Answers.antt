-- `call_join::merge::join`: an answer that is no refusal says that both lists are whole and that all calls fit. Assumes nothing.
use mathlib.Core.Path.{sym}
use lib.ListN.{length}
use Rattle.call_join.specs.Join.{joined_after}
use Rattle.call_join.proofs.Answers.{joined_facts}
use Rattle.call_join.proofs.Going.{good_list_whole}
use Rattle.call_join.proofs.merge.join.Goals as goal

pub write_joined-requires : goal.write_joined-requires
write_joined-requires c =
    let a = c.args in
    let f = joined_facts a.limit a.first.now a.second.now (length a.joined.now) c.in_ok-calls.calls (sym c.in_ok-calls.ensures) in
    (good_list_whole a.first.now f.good_first, good_list_whole a.second.now f.good_second, f.fits)

pub returns-clause-joined : goal.returns-clause-joined
unfolding joined_after
returns-clause-joined c = c.write_joined.ensures

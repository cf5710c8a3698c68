-- `theorems::chain_is_whole_calls_holds` meets its contract, which is the theorem. Assumes nothing.
use mathlib.Core.Path.{refl}
use Rattle.call_chain.proofs.Chained.{chain_iff}
use Rattle.call_chain.proofs.Group.{group_is, firsts_are}
use Rattle.theorems.proofs.chain_is_whole_calls_holds.Statement.{statement}
use Rattle.theorems.proofs.chain_is_whole_calls_holds.Tie as tie

pub chain_is_whole_calls_holds_spec : {M : Type 1} → statement M
chain_is_whole_calls_holds_spec = tie.close (tie.spec (λ c. (refl, chain_iff, group_is, firsts_are)))

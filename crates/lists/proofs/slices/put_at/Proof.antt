-- `slices::put_at`: the part that was lent comes back as it was put. Assumes nothing.
use mathlib.Core.Path.{◌≡◌, refl, ◌∙◌}
use mathlib.Core.List.{◌++◌}
use Prim.Native.Nat.{◌+◌, ◌-◌}
use native.Mathlib.Omega.{arith}
use borrow.Author.Rules.{rules}
use lib.ListN.{length, take, drop}
use Rattle.lists.proofs.Store.{part_store}
use Rattle.lists.proofs.slices.put_at.Statement.{statement}
use Rattle.lists.proofs.slices.put_at.Tie as tie

-- Places: the part is lent; the entry
abbrev entry_of : tie.After-put → tie.Start
entry_of c =
    let lent = c.before in
    lent.before.before.before

pub put_at_spec : {M : Type 1} → statement M
put_at_spec =
    tie.close
    (tie.spec
    (λ c. search rules) (λ c. search rules) (λ c. search rules) (λ c. search rules) (λ c. search rules)
    (λ c κs. search rules) (λ c. search rules)
    (λ c.
    let put = c.before.before in
    let a = (entry_of put).args in
    let n : a.at + length a.part.now - a.at ≡ length a.part.now = omega arith in
    (λ i. take a.at a.list.now ++ (put.put.ensures i ++ drop (n i) (drop a.at a.list.now)))
    ∙ part_store a.list.now a.part.now a.at (length a.part.now) refl (omega arith)))

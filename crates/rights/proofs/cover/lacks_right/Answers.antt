-- `rights::cover::lacks_right` meets its contract: the source, then, unless the call is a Write, the destination. Assumes nothing.
use mathlib.Core.Path.{◌≡◌, sym, ap, ◌∙◌}
use mathlib.Core.Bool.{true, not}
use mathlib.Core.List.{List}
use Prim.Native.Nat.{ℕ}
use Rattle.call.specs.Calls.{Call}
use Rattle.call.specs.Inner.{call_of}
use Rattle.rights.proofs.CoverLaws.{reads, writes, lacks_read, lacks_none, lacks_target}
use Rattle.rights.proofs.cover.lacks_right.Goals as goal

pub returns-then-not-covers : goal.returns-then-not-covers
returns-then-not-covers c =
    let call : Call = call_of c.args.call in
    let party : ℕ = c.args.party in
    let entries : List ℕ = c.args.entries.now in
    let source : c.covers.result ≡ reads call party entries = c.covers.ensures in
    sym (lacks_read call party entries (sym source ∙ c.if-not-covers.true))

pub returns-then-call-eq2 : goal.returns-then-call-eq2
returns-then-call-eq2 c =
    let call : Call = call_of c.args.call in
    let party : ℕ = c.args.party in
    let entries : List ℕ = c.args.entries.now in
    let source : c.covers.result ≡ reads call party entries = c.covers.ensures in
    let readable : reads call party entries ≡ true = sym source ∙ c.if-not-covers.false in
    sym (lacks_none call party entries readable (λ h. absurd (h c.if-call-eq2.true)))

pub returns : goal.returns
returns c =
    let call : Call = call_of c.args.call in
    let party : ℕ = c.args.party in
    let entries : List ℕ = c.args.entries.now in
    let source : c.covers.result ≡ reads call party entries = c.covers.ensures in
    let readable : reads call party entries ≡ true = sym source ∙ c.if-not-covers.false in
    let destination : c.covers-2.result ≡ writes call party entries = c.covers-2.ensures in
    ap not destination ∙ lacks_target call party entries readable c.if-call-eq2.false

-- `entries::first_bad_entry` meets its contract. The invariant: the lowest bad entry is the lowest from `k` on. Assumes nothing.
use mathlib.Core.Path.{◌≡◌, sym, ap, ◌∙◌}
use mathlib.Core.Bool.{true, false}
use native.Mathlib.Omega.{arith}
use Rattle.records.proofs.Records.{bad_start, bad_pass, bad_stop, bad_end, record_within}
use Rattle.call.specs.Entries.{ENTRY_WIDTH, good_entry}
use Rattle.rights.specs.Entries.{entry_at}
use Rattle.rights.proofs.entries.first_bad_entry.Goals as goal

pub loop-k-init : goal.loop-k-init
loop-k-init c = bad_start _ _ _

pub record_at-requires : goal.record_at-requires
record_at-requires c = omega (arith, record_within ENTRY_WIDTH c.args.entries.now c.loop-k.k (omega arith) (omega arith))

pub returns-then-not-good_entry : goal.returns-then-not-good_entry
returns-then-not-good_entry c =
    let l = c.args.entries.now in
    let bad : good_entry (entry_at l c.loop-k.k) ≡ false =
    sym (c.good_entry.ensures ∙ ap good_entry c.record_at.ensures) ∙ c.if-not-good_entry.true in
    sym (c.loop-k.invariant ∙ bad_stop ENTRY_WIDTH good_entry l c.loop-k.k (omega arith) bad)

pub loop-k-preserved : goal.loop-k-preserved
loop-k-preserved c =
    let l = c.args.entries.now in
    let good : good_entry (entry_at l c.loop-k.k) ≡ true =
    sym (c.good_entry.ensures ∙ ap good_entry c.record_at.ensures) ∙ c.if-not-good_entry.false in
    c.loop-k.invariant ∙ bad_pass ENTRY_WIDTH good_entry l c.loop-k.k (omega arith) good

pub returns : goal.returns
returns c = omega (arith, c.loop-k.invariant ∙ bad_end ENTRY_WIDTH good_entry c.args.entries.now c.loop-k.k (omega arith))

-- `row::tests_hold`: the seven tests are the plain facts of a row that passes. Assumes nothing.
use mathlib.Core.Path.{◌≡◌}
use mathlib.Core.Logic.{◌↔◌}
use borrow.Author.Rules.{rules}
use Rattle.std.specs.Prelude.{Ok}
use Rattle.copy_residues.specs.RowCheck.{row_fault}
use Rattle.copy_meaning.specs.Plain.{Plain}
use Rattle.copy_meaning.specs.RowIff.{InRange}
use Rattle.copy_meaning.proofs.RowIff.{plain_iff}
use Rattle.row_test.proofs.Booleans.{◌and◌, failed}
use Rattle.row_test.proofs.Columns.{in_range, flag_bit}
use Rattle.row_test.proofs.row.tests_hold.Goals as goal

pub returns-then-not-flags_at-tail : goal.returns-then-not-flags_at-tail
returns-then-not-flags_at-tail c =
    let passes : let a = c.args in
    (row_fault a.gap a.row.numbers.now ≡ Ok tt) ↔ (InRange a.row.numbers.now × Plain a.gap a.row.numbers.now) = plain_iff _ c.requires _ c.args.row.wide in
    failed (c.flags_at.ensures and c.tail.ensures) (c.if-not-flags_at-tail.true)
    (λ e. let q = (passes.0 e).1 in (q.flags, q.tail))

pub returns-then-not-moves_at : goal.returns-then-not-moves_at
returns-then-not-moves_at c =
    let passes : let a = c.args in
    (row_fault a.gap a.row.numbers.now ≡ Ok tt) ↔ (InRange a.row.numbers.now × Plain a.gap a.row.numbers.now) = plain_iff _ c.requires _ c.args.row.wide in
    failed (c.moves_at.ensures and c.moves_at-2.ensures) (c.if-not-moves_at.true)
    (λ e. let q = (passes.0 e).1 in (q.src, q.dst))

pub returns : goal.returns
returns c =
    let passes : let a = c.args in
    (row_fault a.gap a.row.numbers.now ≡ Ok tt) ↔ (InRange a.row.numbers.now × Plain a.gap a.row.numbers.now) = plain_iff _ c.requires _ c.args.row.wide in
    let fit = c.args.row.caps in
    let front = (c.flags_at.ensures and c.tail.ensures).0 (c.if-not-flags_at-tail.false) in
    let addresses = (c.moves_at.ensures and c.moves_at-2.ensures).0 (c.if-not-moves_at.false) in
    let rest = c.counts_at.ensures and c.results_at.ensures and c.gapped_at.ensures in (
      λ h.
          let t = rest.0 h in
          passes.1 (
            in_range _ fit,
            record {
              mu = search (rules, flag_bit);
              single = search (rules, flag_bit);
              flags = front.0;
              src = addresses.0;
              dst = addresses.1;
              count = t.0.0;
              res = t.0.1;
              gapped = t.1;
              tail = front.1;
            },
          ),
      λ e. let q = (passes.0 e).1 in rest.1 ((q.count, q.res), q.gapped),
    )

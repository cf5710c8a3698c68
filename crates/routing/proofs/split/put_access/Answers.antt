-- `routing::split::put_access`: the record is written into the list of its table, behind what is there, and the other two stay.
-- Assumes nothing.
use mathlib.Core.Path.{◌≡◌, refl, sym, ap, ◌∙◌}
use Prim.Native.Nat.{◌*◌}
use native.Mathlib.Omega.{arith}
use lib.ListN.{length, take}
use lib.Seq.{take_all}
use Rattle.lists.specs.Lists.{store}
use Rattle.access.specs.Access.{ACCESS_WIDTH}
use Rattle.access.specs.Tables.{REGISTER_WIDTH, same_table}
use Rattle.access.specs.declared.AccessTable.TheVariants.{General, Aligned, Register}
use Rattle.access.proofs.Good.{good_length}
use Rattle.classify.specs.Classify.{table_for}
use Rattle.routing.specs.Inner.{table_by, with_one}
use Rattle.routing.proofs.Routes.{table_by_lem, table_register, table_aligned, table_general, placed_here, placed_not, put_of}
use Rattle.routing.proofs.split.put_access.Goals as goal
use Rattle.routing.proofs.split.put_access.Goals.{After-is_aligned_op-to_aligned}

module _ (c : After-is_aligned_op-to_aligned) where
  whole : length c.args.op.now ≡ ACCESS_WIDTH
  whole = good_length c.args.op.now c.requires.0

  -- the part that is copied is all of the record
  part : take ACCESS_WIDTH c.args.op.now ≡ c.args.op.now
  part = take_all ACCESS_WIDTH c.args.op.now (omega (arith, whole))

pub overflow_mul-ends : goal.overflow_mul-ends
overflow_mul-ends c = omega (arith, c.requires.1 Register, c.requires.1 Aligned, c.requires.1 General)

pub overflow_mul-ends-then-to_aligned : goal.overflow_mul-ends-then-to_aligned
overflow_mul-ends-then-to_aligned c = omega (arith, c.requires.1 Register, c.requires.1 Aligned, c.requires.1 General)

pub overflow_mul-ends-2 : goal.overflow_mul-ends-2
overflow_mul-ends-2 c = omega (arith, c.requires.1 Register, c.requires.1 Aligned, c.requires.1 General)

pub put_at-requires : goal.put_at-requires
put_at-requires c =
    let e : table_for c.args.op.now ≡ Register =
    table_register c.args.op.now (sym c.is_register_op-to_register.ensures ∙ c.if-to_register.true) in
    omega (arith, c.requires.2 Register (ap (same_table Register) e))

pub put_at-requires-then-to_aligned : goal.put_at-requires-then-to_aligned
put_at-requires-then-to_aligned c =
    let found = (goal.at.put_at-requires-then-to_aligned c).After-is_aligned_op-to_aligned in
    let e : table_for c.args.op.now ≡ Aligned =
    table_aligned c.args.op.now (sym c.is_register_op-to_register.ensures ∙ c.if-to_register.false)
    (sym c.is_aligned_op-to_aligned.ensures ∙ c.if-to_aligned.true) in
    omega (arith, ap length (part found), whole found, c.requires.2 Aligned (ap (same_table Aligned) e))

pub put_at-requires-2 : goal.put_at-requires-2
put_at-requires-2 c =
    let found = (goal.at.put_at-requires-2 c).After-is_aligned_op-to_aligned in
    let e : table_for c.args.op.now ≡ General =
    table_general c.args.op.now (sym c.is_register_op-to_register.ensures ∙ c.if-to_register.false)
    (sym c.is_aligned_op-to_aligned.ensures ∙ c.if-to_aligned.false) in
    omega (arith, ap length (part found), whole found, c.requires.2 General (ap (same_table General) e))

-- the tests that led here say which table is the record's, and the counts have one more for it
module _ (c : After-is_aligned_op-to_aligned) where
  table_at : table_by c.is_register_op-to_register.result c.is_aligned_op-to_aligned.result ≡ table_for c.args.op.now
  table_at = (λ i. table_by (c.is_register_op-to_register.ensures i) (c.is_aligned_op-to_aligned.ensures i)) ∙ table_by_lem c.args.op.now

pub returns-then-to_register : goal.returns-then-to_register
returns-then-to_register c =
    let a = c.args in
    let op = a.op.now in
    let found = (goal.at.returns-then-to_register c).After-is_aligned_op-to_aligned in
    let e = table_register op (sym c.is_register_op-to_register.ensures ∙ c.if-to_register.true) in
    put_of
    (c.one_more.ensures ∙ ap (λ t. with_one t a.ends) (table_at found))
    (placed_here Register Register op a.ends a.register.now e refl _
    (c.put_at.ensures ∙ ap (store a.register.now (REGISTER_WIDTH * a.ends.register)) c.register_record-record.ensures))
    (placed_not Aligned Register op a.ends a.aligned.now e refl)
    (placed_not General Register op a.ends a.general.now e refl)

pub returns-then-to_aligned : goal.returns-then-to_aligned
returns-then-to_aligned c =
    let a = c.args in
    let op = a.op.now in
    let found = (goal.at.returns-then-to_aligned c).After-is_aligned_op-to_aligned in
    let e = table_aligned op (sym c.is_register_op-to_register.ensures ∙ c.if-to_register.false)
    (sym c.is_aligned_op-to_aligned.ensures ∙ c.if-to_aligned.true) in
    put_of
    (c.one_more-then-to_aligned.ensures ∙ ap (λ t. with_one t a.ends) (table_at found))
    (placed_not Register Aligned op a.ends a.register.now e refl)
    (placed_here Aligned Aligned op a.ends a.aligned.now e refl _
    (c.put_at-then-to_aligned.ensures ∙ ap (store a.aligned.now (ACCESS_WIDTH * a.ends.aligned)) (part found)))
    (placed_not General Aligned op a.ends a.general.now e refl)

pub returns : goal.returns
returns c =
    let a = c.args in
    let op = a.op.now in
    let found = (goal.at.returns c).After-is_aligned_op-to_aligned in
    let e = table_general op (sym c.is_register_op-to_register.ensures ∙ c.if-to_register.false)
    (sym c.is_aligned_op-to_aligned.ensures ∙ c.if-to_aligned.false) in
    put_of
    (c.one_more-2.ensures ∙ ap (λ t. with_one t a.ends) (table_at found))
    (placed_not Register General op a.ends a.register.now e refl)
    (placed_not Aligned General op a.ends a.aligned.now e refl)
    (placed_here General General op a.ends a.general.now e refl _
    (c.put_at-2.ensures ∙ ap (store a.general.now (ACCESS_WIDTH * a.ends.general)) (part found)))

-- `expansion::judge::expansion_answer` meets its contract: the tests in the definition's order. Assumes nothing.
use borrow.Author.Rules.{rules}
use mathlib.Core.Path.{◌≡◌, sym, ap, ◌∙◌}
use mathlib.Core.Bool.{Bool}
use Prim.Native.Nat.{ℕ, ◌^◌, ◌≤◌, ◌<◌}
use native.Mathlib.Omega.{arith}
use borrow.Author.Tests.{le-leb, lt-leb, eq-eqb, ne_eqb, ltb-false}
use Rattle.lists.proofs.Tests.{neither}
use Rattle.call.specs.Calls.{Call}
use Rattle.call.specs.Inner.{call_of}
use Rattle.expansion.specs.Tries.{Setting, setting, Lengths, lengths_are}
use Rattle.expansion.specs.Refusals.{op_count, access_count}
use Rattle.expansion.specs.Refusals.{buffer_short, refusals, answer_by, with_accesses}
use Rattle.expansion.proofs.Judged.{Fair, Room, passes_fair, fair_short, fair_accepted, count_fits, source_fits, dest_fits}
use Rattle.expansion.proofs.judge.expansion_answer.Goals as goal
use Rattle.expansion.proofs.judge.expansion_answer.Goals.{Else-outside}

-- the counts of the code are those of the definition
same_short : (c : Call) (n : Lengths) (ops accesses : ℕ) → ops ≡ op_count c → accesses ≡ access_count c → (b : Bool)
    → buffer_short ops accesses n ≡ b → buffer_short (op_count c) (access_count c) n ≡ b
same_short c n ops accesses eo ea b e = cc

-- what is asked
abbrev s_of : Else-outside → Setting
s_of c = setting c.args.limit c.args.gap

abbrev c_of : Else-outside → Call
c_of c = call_of c.args.call

abbrev n_of : Else-outside → Lengths
n_of c = lengths_are c.args.cells c.args.stamped c.args.ops_room c.args.accesses_room

-- what is known once no test but that of the buffers holds
fair_at : (c : Else-outside) → Fair (s_of c) (c_of c) (n_of c)
fair_at c =
    let below : c.args.gap < 4294967296 = omega arith in
    let not_last : c.args.call.timestamp ≡ 18446744073709551615 → ⊥ = λ e. omega arith in
    passes_fair _ _ _ (
      lt-leb _ _ below,
      c.if-cells-stamped.false,
      ne_eqb _ _ not_last,
      sym c.not_gap_apart.ensures ∙ c.if-not_gap_apart.false,
      sym c.past_index.ensures ∙ c.if-past_index.false,
      sym c.outside.ensures ∙ c.if-outside.false,
    )

small : (c : Else-outside) → c.args.limit < 2 ^ 64
small c = omega (arith, c.requires)

-- and then the count is small
count_at : (c : Else-outside) → c.args.call.count ≤ 2 ^ 20
count_at c = omega (arith, c.requires, count_fits _ _ _ (fair_at c) (small c))

pub returns-then-gap-ge4294967296 : goal.returns-then-gap-ge4294967296
unfolding answer_by refusals
returns-then-gap-ge4294967296 c =
    let above : 4294967296 ≤ c.args.gap = omega arith in
    rw (le-leb _ _ above)

pub returns-then-cells-stamped : goal.returns-then-cells-stamped
unfolding answer_by refusals
returns-then-cells-stamped c =
    let below : c.args.gap < 4294967296 = omega arith in
    rw (lt-leb _ _ below, c.if-cells-stamped.true)

pub returns-then-call-eq18446744073709551615 : goal.returns-then-call-eq18446744073709551615
unfolding answer_by refusals
returns-then-call-eq18446744073709551615 c =
    let last : c.args.call.timestamp ≡ 18446744073709551615 = omega arith in
    let below : c.args.gap < 4294967296 = omega arith in
    rw (lt-leb _ _ below, c.if-cells-stamped.false, eq-eqb _ _ last)

pub returns-then-not_gap_apart : goal.returns-then-not_gap_apart
unfolding answer_by refusals
returns-then-not_gap_apart c =
    let below : c.args.gap < 4294967296 = omega arith in
    let not_last : c.args.call.timestamp ≡ 18446744073709551615 → ⊥ = λ e. omega arith in
    rw (lt-leb _ _ below, c.if-cells-stamped.false, ne_eqb _ _ not_last, sym c.not_gap_apart.ensures ∙ c.if-not_gap_apart.true)

pub returns-then-past_index : goal.returns-then-past_index
unfolding answer_by refusals
returns-then-past_index c =
    let below : c.args.gap < 4294967296 = omega arith in
    let not_last : c.args.call.timestamp ≡ 18446744073709551615 → ⊥ = λ e. omega arith in
    rw (lt-leb _ _ below, c.if-cells-stamped.false, ne_eqb _ _ not_last, sym c.not_gap_apart.ensures ∙ c.if-not_gap_apart.false, sym c.past_index.ensures ∙ c.if-past_index.true)

pub returns-then-outside : goal.returns-then-outside
unfolding answer_by refusals
returns-then-outside c =
    let below : c.args.gap < 4294967296 = omega arith in
    let not_last : c.args.call.timestamp ≡ 18446744073709551615 → ⊥ = λ e. omega arith in
    rw (lt-leb _ _ below, c.if-cells-stamped.false, ne_eqb _ _ not_last, sym c.not_gap_apart.ensures ∙ c.if-not_gap_apart.false, sym c.past_index.ensures ∙ c.if-past_index.false, sym c.outside.ensures ∙ c.if-outside.true)

pub row_count-rows-requires : goal.row_count-rows-requires
row_count-rows-requires c =
    let past = (goal.at.row_count-rows-requires c).Else-outside in
    (source_fits _ _ _ (fair_at past) (small past) (search rules), dest_fits _ _ _ (fair_at past) (small past) (search rules))

pub access_count-accesses-requires : goal.access_count-accesses-requires
access_count-accesses-requires c =
    let rows = c.row_count-rows.ensures in
    (rows.value, omega (arith, count_at (goal.at.access_count-accesses-requires c).Else-outside, rows.upper_bound))

pub overflow_mul-ops : goal.overflow_mul-ops
overflow_mul-ops c =
    omega (arith, count_at (goal.at.overflow_mul-ops c).Else-outside, c.row_count-rows.ensures.upper_bound, c.op_count-ops.ensures.upper_bound)

pub overflow_mul-accesses : goal.overflow_mul-accesses
overflow_mul-accesses c =
    omega
    (arith, count_at (goal.at.overflow_mul-accesses c).Else-outside, c.row_count-rows.ensures.upper_bound, c.access_count-accesses.ensures.upper_bound)

pub returns-then-ops_room-ops : goal.returns-then-ops_room-ops
returns-then-ops_room-ops c =
    let past = (goal.at.returns-then-ops_room-ops c).Else-outside in
    let short =
    same_short (c_of past) (n_of past) _ _ c.op_count-ops.ensures.value c.access_count-accesses.ensures.value _ c.if-ops_room-ops.true in
    sym (ap (with_accesses (c_of past)) (fair_short _ _ _ (fair_at past) short))

pub returns : goal.returns
returns c =
    let past = (goal.at.returns c).Else-outside in
    let ops = c.op_count-ops.ensures.value in
    let accesses = c.access_count-accesses.ensures.value in
    let fit = neither _ _ (same_short (c_of past) (n_of past) _ _ ops accesses _ c.if-ops_room-ops.false) in
    let room : Room (c_of past) (n_of past) = record { ops = ltb-false _ _ fit.0; accesses = ltb-false _ _ fit.1 } in
    cc (ops, accesses) ∙ sym (ap (with_accesses (c_of past)) (fair_accepted _ _ _ (fair_at past) room))

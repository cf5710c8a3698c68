-- 9 is for live rows past 32, and for nothing else: a row has at most two accesses, so their room is never what is short. Assumes nothing.
use mathlib.Core.Path.{◌≡◌, refl}
use mathlib.Core.Bool.{Bool, true, false, cond, ◌||◌}
use Prim.Native.Nat.{ℕ, zero, suc, ◌+◌, ◌*◌, ◌≤◌, ◌<◌}
use native.Mathlib.Omega.{arith}
use borrow.Author.Tests.{eq-eqb, ne_eqb, ltb-true, ltb-false}
use lib.Dec.{eqb, ltb}
use lib.ListN.{length}
use Rattle.answer.specs.Numbers.{accepted}
use Rattle.answer.proofs.Refusals.{holds_of}
use Rattle.call.specs.Calls.{Call}
use Rattle.call.specs.Ops.{OP_WIDTH}
use Rattle.access.specs.Access.{ACCESS_WIDTH}
use Rattle.expansion_rows.specs.Rows.{widths_of}
use Rattle.expansion_rows.proofs.Widths.{widths_none}
use Rattle.expansion.specs.Tries.{under, Lengths, lengths}
use Rattle.expansion.specs.Refusals.{op_count, access_count, buffer_short, refusals, answer_by}
use Rattle.expansion.proofs.Judged.{accepted_fair}
use Rattle.callcheck_text.specs.Run.{ROWS, NineIsRows}

-- a row has at most two accesses
accesses_few : (c : Call) → access_count c ≤ 2 * op_count c
accesses_few c = go c.count refl
  where
    most : (b : Bool) (n : ℕ) → cond b n (2 * n) ≤ 2 * n
    most true n = omega arith
    most false n = omega arith

    go : (n : ℕ) → c.count ≡ n → access_count c ≤ 2 * op_count c
    go zero z = rw (eq-eqb c.count 0 z, widths_none c z) (omega (arith, most (eqb c.kind 2) 0))
    go (suc n) z = rw (ne_eqb c.count 0 (λ e. omega arith)) (most (eqb c.kind 2) (length (widths_of c)))

-- where 9 is answered a buffer is short
nine_short : (gap : ℕ) (c : Call) (n : Lengths) → (answer_by (under gap) c n).number ≡ 9 → buffer_short (op_count c) (access_count c) n ≡ true
unfolding answer_by refusals
nine_short gap c n e = holds_of 9 (refusals (under gap) c n) (accepted (op_count c)) refl e

pub nine_is_rows : NineIsRows
nine_is_rows gap rows c l ops_room accesses-room few =
    (λ e. past _ _ refl refl (nine_short gap c (lengths l) e), λ e. omega (arith, (accepted_fair (under gap) c (lengths l) e).1.ops))
  where
    past : (a b : Bool) → ltb (length l.ops) (OP_WIDTH * op_count c) ≡ a → ltb (length l.accesses) (ACCESS_WIDTH * access_count c) ≡ b
        → (a || b) ≡ true → ROWS < rows + op_count c
    past true b e f h = omega (arith, ltb-true (length l.ops) (OP_WIDTH * op_count c) e)
    past false true e f h =
        omega (arith, ltb-false (length l.ops) (OP_WIDTH * op_count c) e, ltb-true (length l.accesses) (ACCESS_WIDTH * access_count c) f, accesses_few c)
    past false false e f h = let z : ◌≡◌ {A = ℕ} 0 1 = cc in absurd (omega arith)

-- `expansion_rows::rows::one_page` meets its contract: a remainder that leaves room for seven bytes more. Assumes nothing.
use mathlib.Core.Path.{◌≡◌}
use Prim.Native.Nat.{ℕ, ◌-◌, ◌/◌, ◌%◌}
use native.Mathlib.Omega.{arith}
use borrow.Author.Rules.{rules}
use borrow.Author.Tests.{leb-true, le-leb, eqb-true, eq-eqb}
use lib.Dec.{leb}
use Rattle.lists.proofs.Tests.{same_test}
use Rattle.expansion_rows.specs.Rows.{PAGE, last_byte, one_page}
use Rattle.expansion_rows.proofs.rows.one_page.Statement.{statement}
use Rattle.expansion_rows.proofs.rows.one_page.Tie as tie

-- the most that the remainder may be
abbrev most : ℕ
most = PAGE - 8

page_test : (a : ℕ) → leb (a % PAGE) most ≡ one_page a
page_test a =
    same_test (leb (a % PAGE) most) (one_page a)
    (λ e. eq-eqb (a / PAGE) (last_byte a / PAGE) (omega (arith, leb-true (a % PAGE) most e)))
    (λ e. le-leb (a % PAGE) most (omega (arith, eqb-true (a / PAGE) (last_byte a / PAGE) e)))

returns : tie.Need-returns
returns c = page_test c.args.a

pub one_page_spec : {M : Type 1} → statement M
one_page_spec = tie.close (tie.spec (λ c. search rules) returns)

-- `memw::rows::memw_cells` meets its contract: each part of the row is what the call that made it ensures. Assumes nothing.
use borrow.Author.Rules.{rules}
use mathlib.Core.Path.{◌≡◌}
use mathlib.Core.List.{List, [], ◌∷◌, ◌++◌}
use Prim.Native.Nat.{ℕ, ◌%◌, ◌^◌}
use lib.Dec.{eqb}
use Rattle.lists.specs.Lists.{eight_at}
use Rattle.lists.proofs.Numbers.{numbers_at}
use Rattle.words.specs.Words.{words, bit}
use Rattle.access.specs.Access.{Access}
use Rattle.memw.specs.Rows.{write_flags, carries, stamp_words, memw_row}
use Rattle.memw.specs.Inner.{memw_operation}
use Rattle.memw.proofs.rows.memw_cells.Statement.{statement}
use Rattle.memw.proofs.rows.memw_cells.Tie as tie

-- a row whose parts are right
row_of_lem : (a : Access) {address timestamp write carry stamps : List ℕ} {mu : ℕ}
    → address ≡ words a.address → timestamp ≡ words a.timestamp → write ≡ write_flags a.width → carry ≡ carries (a.address % 2 ^ 32)
    → stamps ≡ stamp_words a.old_timestamps → mu ≡ bit (eqb a.is_read 0)
    → (a.is_register ∷ []) ++ numbers_at address 0 2 ++ eight_at a.value 0 ++ numbers_at timestamp 0 2 ++ numbers_at write 0 3
    ++ eight_at a.old 0 ++ numbers_at carry 0 7 ++ numbers_at stamps 0 16 ++ (a.is_read ∷ mu ∷ [])
    ≡ memw_row a
unfolding memw_row
row_of_lem a p q r s t u = rw (p, q, r, s, t, u)

returns : tie.Need-returns
returns c =
    let at_stamps = c.before.before in
    let at_carry = at_stamps.before.before in
    let at_write = at_carry.before.before in
    let at_address = at_write.before.before.before in
    row_of_lem
    (memw_operation at_address.before.args.op)
    at_address.words-address.ensures
    at_write.before.words-timestamp.ensures
    at_write.write_flags-write.ensures
    at_stamps.before.before.carries-carry.ensures
    at_stamps.stamp_words-stamps.ensures
    c.bit.ensures

pub memw_cells_spec : {M : Type 1} → statement M
memw_cells_spec =
    tie.close
    (tie.spec
    (λ c κs. search rules) (λ c κs. search rules) (λ c κs. search rules) (λ c κs. search rules) (λ c κs. search rules)
    (λ c. search rules) (λ c. search rules) (λ c. search rules) (λ c. search rules) (λ c. search rules)
    (λ c. search rules) (λ c. search rules) (λ c. search rules) (λ c. search rules) (λ c. search rules)
    (λ c. search rules) (λ c. search rules) (λ c. search rules) (λ c. search rules) (λ c. search rules)
    (λ c. search rules) (λ c. search rules) (λ c. search rules) (λ c. search rules) (λ c. search rules)
    (λ c. search rules) (λ c. search rules) (λ c. search rules) (λ c. search rules) (λ c. search rules)
    (λ c. search rules) (λ c. search rules) (λ c. search rules) (λ c. search rules) (λ c. search rules)
    (λ c. search rules) (λ c. search rules) (λ c. search rules) (λ c. search rules) (λ c. search rules)
    (λ c. search rules) (λ c. search rules) (λ c. search rules) (λ c. search rules) (λ c. search rules)
    (λ c. search rules) (λ c. search rules) (λ c. search rules) (λ c. search rules) (λ c. search rules)
    (λ c. search rules) (λ c κs. search rules)
    returns)

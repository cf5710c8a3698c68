-- `memw::rows::aligned_cells` meets its contract: each part of the row is what the call that made it ensures. Assumes nothing.
use borrow.Author.Rules.{rules}
use mathlib.Core.Path.{◌≡◌}
use mathlib.Core.List.{List, [], ◌∷◌, ◌++◌}
use Prim.Native.Nat.{ℕ}
use lib.Dec.{eqb}
use Rattle.lists.specs.Lists.{at, eight_at}
use Rattle.lists.proofs.Numbers.{numbers_at}
use Rattle.words.specs.Words.{words, bit}
use Rattle.access.specs.Access.{Access}
use Rattle.memw.specs.Rows.{write_flags, address_parts, aligned_row}
use Rattle.memw.specs.Inner.{memw_operation}
use Rattle.memw.proofs.rows.aligned_cells.Statement.{statement}
use Rattle.memw.proofs.rows.aligned_cells.Tie as tie

-- a row whose parts are right
row_of_lem : (a : Access) {address timestamp write stamp : List ℕ} {mu : ℕ}
    → address ≡ address_parts a.address → timestamp ≡ words a.timestamp → write ≡ write_flags a.width
    → stamp ≡ words (at a.old_timestamps 0) → mu ≡ bit (eqb a.is_read 0)
    → (a.is_register ∷ []) ++ numbers_at address 0 3 ++ eight_at a.value 0 ++ numbers_at timestamp 0 2 ++ numbers_at write 0 3
    ++ eight_at a.old 0 ++ numbers_at stamp 0 2 ++ (a.is_read ∷ mu ∷ [])
    ≡ aligned_row a
unfolding aligned_row
row_of_lem a p q r s t = rw (p, q, r, s, t)

returns : tie.Need-returns
returns c =
    let at_stamp = c.before.before in
    let at_write = at_stamp.before.before.before in
    let at_address = at_write.before.before.before in
    row_of_lem
    (memw_operation at_address.before.args.op)
    at_address.address_parts-address.ensures
    at_write.before.words-timestamp.ensures
    at_write.write_flags-write.ensures
    at_stamp.words-stamp.ensures
    c.bit.ensures

pub aligned_cells_spec : {M : Type 1} → statement M
aligned_cells_spec =
    tie.close
    (tie.spec
    (λ c κs. search rules) (λ c κs. search rules) (λ c κs. search rules) (λ c. search rules) (λ c κs. search rules)
    (λ c. search rules) (λ c. search rules) (λ c. search rules) (λ c. search rules) (λ c. search rules)
    (λ c. search rules) (λ c. search rules) (λ c. search rules) (λ c. search rules) (λ c. search rules)
    (λ c. search rules) (λ c. search rules) (λ c. search rules) (λ c. search rules) (λ c. search rules)
    (λ c. search rules) (λ c. search rules) (λ c. search rules) (λ c. search rules) (λ c. search rules)
    (λ c. search rules) (λ c. search rules) (λ c. search rules) (λ c. search rules) (λ c. search rules)
    (λ c. search rules) (λ c κs. search rules)
    returns)

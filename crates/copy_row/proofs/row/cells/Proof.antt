-- `copy_row::row::cells` meets its contract: each part of the row is what the call that made it ensures. Assumes nothing.
use mathlib.Core.Path.{◌≡◌, ap, ◌∙◌}
use mathlib.Core.Bool.{cond, ◌&&◌}
use mathlib.Core.List.{List, [], ◌∷◌, ◌++◌}
use Prim.Native.Nat.{ℕ}
use borrow.Author.Rules.{rules}
use lib.Dec.{eqb}
use Rattle.lists.specs.Lists.{eight_at}
use Rattle.lists.proofs.Numbers.{numbers_at}
use Rattle.words.specs.Words.{words, halves, bit}
use Rattle.call.specs.Calls.{Op}
use Rattle.copy_row.specs.Rows.{wrapped, dst_res, mu_com, row_of, table_row}
use Rattle.copy_row.specs.Inner.{copy_operation}
use Rattle.copy_row.proofs.row.cells.Statement.{statement}
use Rattle.copy_row.proofs.row.cells.Tie as tie

-- a row whose words, halves and flags are right
row_of_lem : (o : Op) {stamp src next_src dst next_dst count next_count res : List ℕ} {single set write first commits wide : ℕ}
    → stamp ≡ words o.call.stamp → src ≡ words o.call.src → next_src ≡ halves (wrapped o).src → dst ≡ words o.call.dst
    → next_dst ≡ halves (wrapped o).dst → count ≡ words o.call.count → next_count ≡ halves (wrapped o).count
    → res ≡ halves (dst_res o.call) → single ≡ bit (eqb o.piece.width 1) → set ≡ bit (eqb o.call.kind 1)
    → write ≡ bit (eqb o.call.kind 2) → first ≡ cond (eqb o.call.kind 2) o.first 0 → commits ≡ bit (mu_com o.call)
    → wide ≡ bit (mu_com o.call && eqb o.piece.width 8)
    → numbers_at stamp 0 2 ++ eight_at o.piece.value 0 ++ numbers_at src 0 2 ++ numbers_at next_src 0 4 ++ numbers_at dst 0 2
    ++ numbers_at next_dst 0 4 ++ numbers_at count 0 2 ++ numbers_at next_count 0 4 ++ numbers_at res 0 4
    ++ (o.first ∷ o.end ∷ single ∷ set ∷ write ∷ first ∷ 1 ∷ commits ∷ wide ∷ [])
    ≡ table_row o
unfolding row_of
row_of_lem o a b c d e f g h i j k l m n = rw (a, b, c, d, e, f, g, h, i, j, k, l, m, n)

returns : tie.Need-returns
returns c =
    let at_com = c.before.before in
    let at_write = at_com.before.before.before in
    let at_set = at_write.before.before in
    let at_single = at_set.before.before in
    let at_known2 = at_single.before.before in
    let at_res = at_known2.before.before in
    let at_decr = at_res.before.before in
    let at_count = at_decr.before.before in
    let at_dst = at_count.before.before.before in
    let at_src = at_dst.before.before.before in
    let at_stamp = at_src.before.before in
    row_of_lem
    (copy_operation at_stamp.before.args.op)
    at_stamp.words-timestamp.ensures
    at_src.words-src.ensures
    (at_dst.before.halves-src_incr.ensures ∙ ap halves at_dst.before.before.wrapping_add.ensures)
    at_dst.words-dst.ensures
    (at_count.before.halves-dst_incr.ensures ∙ ap halves at_count.before.before.wrapping_add-2.ensures)
    at_count.words-count.ensures
    (at_decr.halves-count_decr.ensures ∙ ap halves at_decr.before.wrapping_sub.ensures)
    (at_res.halves-dst_res.ensures ∙ ap halves at_res.before.dst_res.ensures)
    at_single.bit.ensures
    at_set.bit-2.ensures
    at_write.bit-3.ensures
    at_com.before.when.ensures
    at_com.bit-4.ensures
    c.bit-5.ensures

pub cells_spec : {M : Type 1} → statement M
cells_spec =
    tie.close
    (tie.spec
    (λ c κs. search rules) (λ c κs. search rules) (λ c κs. search rules) (λ c κs. search rules) (λ c κs. search rules)
    (λ c κs. search rules) (λ c κs. search rules) (λ c κs. search rules) (λ c κs. search rules) (λ c κs. search rules)
    (λ c κs. search rules) (λ c κs. search rules) (λ c. search rules) (λ c. search rules) (λ c. search rules)
    (λ c. search rules) (λ c. search rules) (λ c. search rules) (λ c. search rules) (λ c. search rules)
    (λ c. search rules) (λ c. search rules) (λ c. search rules) (λ c. search rules) (λ c. search rules)
    (λ c. search rules) (λ c. search rules) (λ c. search rules) (λ c. search rules) (λ c. search rules)
    (λ c. search rules) (λ c. search rules) (λ c. search rules) (λ c. search rules) (λ c. search rules)
    (λ c. search rules) (λ c. search rules) (λ c. search rules) (λ c. search rules) (λ c. search rules)
    (λ c. search rules) (λ c. search rules) (λ c. search rules) (λ c. search rules) (λ c κs. search rules)
    (λ c κs. search rules) (λ c κs. search rules) (λ c κs. search rules) (λ c κs. search rules) (λ c κs. search rules)
    returns)

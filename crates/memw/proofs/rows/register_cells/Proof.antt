-- `memw::rows::register_cells` meets its contract: the words of the timestamp and the complement of is_read are what their calls
-- ensure. Assumes nothing.
use borrow.Author.Rules.{rules}
use Rattle.memw.specs.Rows.{register_row}
use Rattle.memw.proofs.rows.register_cells.Statement.{statement}
use Rattle.memw.proofs.rows.register_cells.Tie as tie

returns : tie.Need-returns
unfolding register_row
returns c =
    let at_value = c.before.before.before in
    let at_words = at_value.before in
    rw (at_words.words-timestamp.ensures, c.bit.ensures)

pub register_cells_spec : {M : Type 1} → statement M
register_cells_spec =
    tie.close
    (tie.spec
    (λ c κs. search rules) (λ c. search rules) (λ c. search rules) (λ c. search rules) (λ c. search rules)
    (λ c. search rules) (λ c. search rules) (λ c κs. search rules)
    returns)

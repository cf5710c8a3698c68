-- `copy_row::row::write_padding` meets its contract: zeros with three stores are the padding row. Assumes nothing.
use borrow.Author.Rules.{rules}
use Rattle.copy_row.specs.Rows.{padding_row}
use Rattle.copy_row.proofs.row.write_padding.Statement.{statement}
use Rattle.copy_row.proofs.row.write_padding.Tie as tie

returns : tie.Need-returns
unfolding padding_row
returns c = c.before.before.put.ensures

pub write_padding_spec : {M : Type 1} → statement M
write_padding_spec =
    tie.close
    (tie.spec
    (λ c. search rules) (λ c. search rules) (λ c. search rules) (λ c. search rules) (λ c κs. search rules)
    (λ c. search rules)
    returns)

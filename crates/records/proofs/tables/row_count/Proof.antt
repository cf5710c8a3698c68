-- `records::tables::row_count` meets its contract: what it returns and `row_count` are both the least power of two. Assumes nothing.
use borrow.Author.Rules.{rules}
use lib.Count.{leading_le}
use Rattle.records.proofs.RowCount.{least_unique, row_count_least, zeros_short, zeros_least, four_least}
use Rattle.records.proofs.tables.row_count.Statement.{statement}
use Rattle.records.proofs.tables.row_count.Tie as tie

returns : tie.Need-returns-then-n-le4
returns c = least_unique (four_least _ (search rules)) (row_count_least _ (search rules))

sub_result : tie.Need-overflow_sub-result
sub_result c = leading_le 64 _

shl_result : tie.Need-overflow_shl-result
shl_result c = zeros_short _ (search rules)

returns_2 : tie.Need-returns
returns_2 c =
    least_unique (zeros_least c.before.args.n (search rules) (search rules)) (row_count_least _ (search rules))

pub row_count_spec : {M : Type 1} → statement M
row_count_spec =
    tie.close
    (tie.spec returns (λ c. search rules) sub_result (λ c. search rules) shl_result returns_2)

-- `words::halves` meets its contract: a shift is the divisions that `digits` makes one by one. Assumes nothing.
use Rattle.std.proofs.Common.{rules}
use Rattle.words.proofs.Digits.{halves_shifted}
use Rattle.words.proofs.halves.Statement.{statement}
use Rattle.words.proofs.halves.Tie as tie

returns : tie.Need-returns
returns c = halves_shifted c.args.x (search rules)

pub halves_spec : {M : Type 1} → statement M
halves_spec = tie.close (tie.spec returns)

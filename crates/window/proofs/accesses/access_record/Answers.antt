-- `window::accesses::access_record` meets its contract: eight numbers, one by one, are the list of them. Assumes nothing.
use borrow.Author.Rules.{rules}
use mathlib.Core.Path.{◌≡◌, ◌∙◌}
use lib.ListN.{length}
use Rattle.window.proofs.WindowLaws.{access_numbers_lem}
use Rattle.window.proofs.accesses.access_record.Goals as goal

pub returns : goal.returns
returns c =
    let a = c.args in
    let v = c.byte_words-v.result in
    let o = c.byte_words-o.result in
    let s = a.old_stamps in
    let n : length v ≡ 8 = search rules in
    let m : length o ≡ 8 = search rules in
    let k : length s ≡ 8 = search rules in
    access_numbers_lem a.address a.stamp a.width a.reads v o s n m k ∙ cc (c.byte_words-v.ensures, c.byte_words-o.ensures)

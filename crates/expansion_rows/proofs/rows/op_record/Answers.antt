-- `expansion_rows::rows::op_record` meets its contract: eight numbers, one by one, are the list of them. Assumes nothing.
use borrow.Author.Rules.{rules}
use mathlib.Core.Path.{◌≡◌, ap, ◌∙◌}
use mathlib.Core.List.{List, ◌∷◌}
use Prim.Native.Nat.{ℕ}
use lib.Dec.{leb}
use lib.ListN.{length}
use Rattle.words.specs.Words.{bit}
use Rattle.expansion_rows.proofs.RowList.{bit_lem}
use Rattle.lists.proofs.Numbers.{eight_back}
use Rattle.call.specs.Calls.{Op}
use Rattle.call.specs.Inner.{call_of}
use Rattle.call.specs.Ops.{op_record}
use Rattle.expansion_rows.proofs.rows.op_record.Goals as goal

pub returns : goal.returns
returns c =
    let a = c.args in
    let v = c.byte_words-v.result in
    let n : length v ≡ 8 = search rules in
    let end : c.from-end.result ≡ bit (leb a.call.count a.width) = c.from-end.ensures ∙ bit_lem (leb a.call.count a.width) in
    let op : ℕ → List ℕ → Op = λ end value. record { call = call_of a.call; piece = record { width = a.width; value = value }; first = a.first; end = end } in
    ap (λ (l : List ℕ). a.call.timestamp ∷ a.call.src ∷ a.call.dst ∷ a.call.count ∷ a.width ∷ a.first ∷ c.from-end.result ∷ a.call.kind ∷ l) (eight_back v n)
    ∙ (λ i. op_record (op (end i) (c.byte_words-v.ensures i)))

-- `element::product`: the two halves of the product, put together again, are the product. Assumes nothing.
use Rattle.std.proofs.Common.{ℕ, ◌+◌, ◌*◌, ◌%◌, ◌^◌, ap, ◌∙◌, div-add-mod'}
use Rattle.field.specs.Field.{mul_p, p}
use Rattle.field.proofs.element.product.Goals as goal

pub returns : goal.returns
unfolding mul_p
returns c =
    let n : ℕ = c.args.a * c.args.b in
    c.reduce.ensures.0
    ∙ ap (λ (x : ℕ). x % p) ((λ i. c.high.ensures i * 2 ^ 64 + c.low.ensures i) ∙ div-add-mod' n (2 ^ 64))

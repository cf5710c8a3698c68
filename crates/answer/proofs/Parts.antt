-- Two answers that are the same have the same parts. Assumes nothing.
use mathlib.Core.Path.{◌≡◌, ap}
use Rattle.answer.specs.declared.Answer.{Answer}

pub number_same : {x y : Answer} → x ≡ y → x.number ≡ y.number
number_same e = ap (λ (x : Answer). x.number) e

pub value_same : {x y : Answer} → x ≡ y → x.value ≡ y.value
value_same e = ap (λ (x : Answer). x.value) e

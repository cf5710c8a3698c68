-- What a field operation open to callers answers. Document 01: "a number not below p (for a single row or a field operation, place is
-- the index of the lowest such number)", refusal 14. Assumes nothing.
use Rattle.std.specs.Prelude.{ℕ, cond, nat_lt, Result, Ok, Err}
use Rattle.answer.specs.Numbers.{accepted, refused}
use Rattle.answer.specs.declared.Answer.{Answer}
use Rattle.field.specs.Field.{p, add_p, sub_p, mul_p}
use Rattle.field.specs.declared.NotElement.{NotElement}

-- the index of the lowest of two numbers that is no element, or 2
unfoldable pub first_none : ℕ → ℕ → ℕ
first_none a b = cond (nat_lt a p) (cond (nat_lt b p) 2 1) 0

-- v, unless one of the two inputs is no element
unfoldable pub field_answer : {A : Type 0} → ℕ → ℕ → A → Result A NotElement
field_answer a b v = cond (nat_lt (first_none a b) 2) (Err (record { place = first_none a b })) (Ok v)

-- whether both are elements
abbrev pub elements_answer : ℕ → ℕ → Result (Unit {0}) NotElement
elements_answer a b = field_answer a b tt

unfoldable pub add_answer : ℕ → ℕ → Result ℕ NotElement
add_answer a b = field_answer a b (add_p a b)

unfoldable pub sub_answer : ℕ → ℕ → Result ℕ NotElement
sub_answer a b = field_answer a b (sub_p a b)

unfoldable pub mul_answer : ℕ → ℕ → Result ℕ NotElement
mul_answer a b = field_answer a b (mul_p a b)

-- document 01's number, place and value of each case
abbrev pub field_numbers : Result ℕ NotElement → Answer
field_numbers (Ok v) = accepted v
field_numbers (Err why) = refused 14 why.place

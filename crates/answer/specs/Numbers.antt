-- The two forms of an answer in numbers. Document 01: "Each returns its number and a place (0 unless named)". Assumes nothing.
use Rattle.std.specs.Prelude.{ℕ}
use Rattle.answer.specs.declared.Answer.{Answer}

-- nothing is refused, and v is what was found
abbrev pub accepted : ℕ → Answer
accepted v = record { number = 0; place = 0; value = v }

-- refusal n of the documents, with its place
abbrev pub refused : ℕ → ℕ → Answer
refused n place = record { number = n; place = place; value = 0 }

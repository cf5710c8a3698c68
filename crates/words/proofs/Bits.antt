-- A test as a bit is below 2, and a bit or the test that it is 0 is 1. Assumes nothing.
use Rattle.std.proofs.Common.{◌≡◌, ℕ, zero, suc, ◌+◌, ◌<◌, ◌≤◌, Bool, true, false, eqb, refl, arith}
use Rattle.words.specs.Words.{bit}

pub bit_small : (t : Bool) → bit t < 2
bit_small true = omega arith
bit_small false = omega arith

pub one_of_two : (n : ℕ) → n ≤ 1 → n + bit (eqb n 0) ≡ 1
one_of_two zero h = refl
one_of_two (suc zero) h = refl
one_of_two (suc (suc n)) h = absurd (omega arith)

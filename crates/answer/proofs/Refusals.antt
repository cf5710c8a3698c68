-- Laws of a list of refusals: an answer of number 0 says that none holds, where none holds the answer is the one given, any other has the
-- value 0, and a number that is answered is that of a refusal that holds; and of a list in two parts. Assumes nothing.
use mathlib.Core.Path.{◌≡◌, refl}
use mathlib.Core.Bool.{Bool, true, false, cond, ◌||◌}
use mathlib.Core.List.{List, [], ◌∷◌, ◌++◌}
use Prim.Native.Nat.{ℕ}
use native.Mathlib.Omega.{arith}
use borrow.Author.Tests.{eqb-false}
use lib.Dec.{eqb}
use Rattle.answer.specs.Numbers.{refused}
use Rattle.answer.specs.Refusals.{Refusal, first_of}
use Rattle.answer.specs.declared.Answer.{Answer}

-- none of them holds
abbrev pub NoneHolds : List Refusal → Type 0
NoneHolds [] = Unit {0}
NoneHolds (r ∷ rs) = (r.holds ≡ false) × NoneHolds rs

-- each has a number that is not 0
abbrev pub Numbered : List Refusal → Type 0
Numbered [] = Unit {0}
Numbered (r ∷ rs) = (eqb r.number 0 ≡ false) × Numbered rs

pub none_of : (rs : List Refusal) (given : Answer) → Numbered rs → (first_of rs given).number ≡ 0 → NoneHolds rs
none_of [] given n e = tt
none_of (r ∷ rs) given n e = step r.holds refl e (none_of rs given n.1)
  where
    step : (b : Bool) → r.holds ≡ b → (cond b (refused r.number r.place) (first_of rs given)).number ≡ 0
        → ((first_of rs given).number ≡ 0 → NoneHolds rs) → (r.holds ≡ false) × NoneHolds rs
    step true h e later = absurd (eqb-false r.number 0 n.0 e)
    step false h e later = (h, later e)

pub given_of : (rs : List Refusal) (given : Answer) → NoneHolds rs → first_of rs given ≡ given
given_of [] given none = refl
given_of (r ∷ rs) given none = rw none.0 (given_of rs given none.1)

-- a refusal has the value 0
pub value_of : (rs : List Refusal) (given : Answer) → eqb given.number 0 ≡ true → eqb (first_of rs given).number 0 ≡ false
    → (first_of rs given).value ≡ 0
value_of [] given zero other = let z : ◌≡◌ {A = ℕ} 0 1 = cc in absurd (omega arith)
value_of (r ∷ rs) given zero other = step r.holds other (value_of rs given zero)
  where
    step : (b : Bool) → eqb (cond b (refused r.number r.place) (first_of rs given)).number 0 ≡ false
        → (eqb (first_of rs given).number 0 ≡ false → (first_of rs given).value ≡ 0)
        → (cond b (refused r.number r.place) (first_of rs given)).value ≡ 0
    step true other later = refl
    step false other later = later other

-- whether one of number n holds
abbrev pub holds_with : ℕ → List Refusal → Bool
holds_with n [] = false
holds_with n (r ∷ rs) = cond (eqb r.number n) (holds_with n rs || r.holds) (holds_with n rs)

pub holds_of : (n : ℕ) (rs : List Refusal) (given : Answer) → eqb given.number n ≡ false → (first_of rs given).number ≡ n
    → holds_with n rs ≡ true
holds_of n [] given other e = absurd (eqb-false given.number n other e)
holds_of n (r ∷ rs) given other e = step r.holds (eqb r.number n) refl refl e (holds_of n rs given other)
  where
    either : (a : Bool) → a || true ≡ true
    either true = refl
    either false = refl

    more : (a b : Bool) → a ≡ true → a || b ≡ true
    more true b e = refl
    more false b e = let z : ◌≡◌ {A = ℕ} 0 1 = cc in absurd (omega arith)

    step : (b d : Bool) → r.holds ≡ b → eqb r.number n ≡ d
        → (cond b (refused r.number r.place) (first_of rs given)).number ≡ n
        → ((first_of rs given).number ≡ n → holds_with n rs ≡ true)
        → cond d (holds_with n rs || r.holds) (holds_with n rs) ≡ true
    step true true h q e later = rw h (either (holds_with n rs))
    step true false h q e later = absurd (eqb-false r.number n q e)
    step false true h q e later = more (holds_with n rs) r.holds (later e)
    step false false h q e later = later e

-- A list in two parts

-- where none of the first part holds, the second decides
pub pass_over : (rs qs : List Refusal) (given : Answer) → NoneHolds rs → first_of (rs ++ qs) given ≡ first_of qs given
pass_over [] qs given none = refl
pass_over (r ∷ rs) qs given none = rw none.0 (pass_over rs qs given none.1)

-- each has another number than n
abbrev pub Others : ℕ → List Refusal → Type 0
Others n [] = Unit {0}
Others n (r ∷ rs) = (eqb r.number n ≡ false) × Others n rs

-- so where n is answered none of these holds
pub none_before : (n : ℕ) (rs qs : List Refusal) (given : Answer) → Others n rs → (first_of (rs ++ qs) given).number ≡ n → NoneHolds rs
none_before n [] qs given others e = tt
none_before n (r ∷ rs) qs given others e = step r.holds refl e (none_before n rs qs given others.1)
  where
    step : (b : Bool) → r.holds ≡ b → (cond b (refused r.number r.place) (first_of (rs ++ qs) given)).number ≡ n
        → ((first_of (rs ++ qs) given).number ≡ n → NoneHolds rs) → (r.holds ≡ false) × NoneHolds rs
    step true h e later = absurd (eqb-false r.number n others.0 e)
    step false h e later = (h, later e)

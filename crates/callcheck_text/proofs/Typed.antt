-- What is read of a line has 64 bits: what the types of a call say. Assumes nothing.
use mathlib.Core.Path.{◌≡◌, refl, subst}
use mathlib.Core.Bool.{Bool, true, false, cond, ◌&&◌}
use mathlib.Core.List.{List}
use Prim.Native.Nat.{ℕ, ◌^◌, ◌<◌}
use native.Mathlib.Omega.{arith}
use borrow.Author.Tests.{ltb-true}
use lib.Dec.{leb, ltb}
use lib.ListN.{length}
use Rattle.std.specs.Prelude.{Option, Some, None}
use Rattle.call.specs.Cuts.{FitsTypes}
use Rattle.call.specs.declared.Functionality.{Functionality}
use Rattle.call.proofs.GoodCalls.{kind_small}
use Rattle.text.specs.Pieces.{before, after}
use Rattle.text.specs.Numbers.{TOP, is_number, all_digits, decimal_from, number_of}
use Rattle.text.specs.Lines.{word_of, call_line}
use Rattle.text.specs.declared.CallLine.{CallLine}
use Rattle.callcheck_text.specs.Run.{call_of}
use Rattle.callcheck_text.proofs.Lengths.{call_by}

-- Numbers of a line

number_below : (l : List ℕ) (v : ℕ) → number_of l ≡ Some v → v < 2 ^ 64
unfolding number_of is_number
number_below l v h = go (leb 1 (length l)) (leb (length l) 20) (all_digits l) (ltb (decimal_from 0 l) TOP) refl h
  where
    go : (a b c d : Bool) → ltb (decimal_from 0 l) TOP ≡ d → cond (a && (b && (c && d))) (Some (decimal_from 0 l)) None ≡ Some v
        → v < 2 ^ 64
    go false b c d e h = let z : ◌≡◌ {A = ℕ} 0 1 = cc in absurd (omega arith)
    go true false c d e h = let z : ◌≡◌ {A = ℕ} 0 1 = cc in absurd (omega arith)
    go true true false d e h = let z : ◌≡◌ {A = ℕ} 0 1 = cc in absurd (omega arith)
    go true true true false e h = let z : ◌≡◌ {A = ℕ} 0 1 = cc in absurd (omega arith)
    go true true true true e h = let q : decimal_from 0 l ≡ v = cc in omega (arith, ltb-true (decimal_from 0 l) TOP e)

-- a call line
module _ (l : List ℕ) (call : CallLine) where
  fits_types : (w : Option Functionality) (a b c d : Option ℕ)
      → number_of (before 9 (after 9 l)) ≡ a
      → number_of (before 9 (after 9 (after 9 l))) ≡ b
      → number_of (before 9 (after 9 (after 9 (after 9 l)))) ≡ c
      → number_of (after 9 (after 9 (after 9 (after 9 l)))) ≡ d
      → call_by w a b c d ≡ Some call
      → FitsTypes (call_of call)
  fits_types None a b c d ea eb ec ed h = absurd (cc)
  fits_types (Some k) None b c d ea eb ec ed h = absurd (cc)
  fits_types (Some k) (Some t) None c d ea eb ec ed h = absurd (cc)
  fits_types (Some k) (Some t) (Some s) None d ea eb ec ed h = absurd (cc)
  fits_types (Some k) (Some t) (Some s) (Some e) None ea eb ec ed h = absurd (cc)
  fits_types (Some k) (Some t) (Some s) (Some e) (Some n) ea eb ec ed h =
      let q : record { kind = k; stamp = t; src = s; dst = e; count = n } ≡ call = cc in
      subst (λ (c : CallLine). FitsTypes (call_of c)) q
      (record {
        kind = kind_small k;
        stamp = number_below _ t ea;
        src = number_below _ s eb;
        dst = number_below _ e ec;
        count = number_below _ n ed;
      })

  pub call_words : call_line l ≡ Some call → FitsTypes (call_of call)
  unfolding call_line
  call_words h = fits_types (word_of (before 9 l)) _ _ _ _ refl refl refl refl h

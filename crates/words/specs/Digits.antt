-- Facts on words, halves and bytes. Document 01: "Facts on words, halves and bytes are shown with the width as a parameter." FitsTypes are the
-- width 32, halves 16, bytes 8. `digit_laws_hold` in theorems carries `DigitLaws`. Assumes nothing.
use Rattle.std.specs.Prelude.{◌≡◌, ℕ, ◌*◌, ◌/◌, ◌%◌, ◌^◌, ◌<◌, List, length}
use Rattle.lists.specs.Lists.{at}
use Rattle.words.specs.Words.{digits, number, Below}

pub record DigitLaws : Type 0 where
  -- n digits are n numbers of w bits each
  pub counted : (w n x : ℕ) → length (digits w n x) ≡ n
  pub below : (w n x : ℕ) → Below w (digits w n x)
  -- digit k is what is left of x above its first w * k bits, modulo 2^w
  pub digit : (w n x k : ℕ) → k < n → at (digits w n x) k ≡ x / 2 ^ (w * k) % 2 ^ w
  -- the digits of x make x modulo 2^(w * n), and x itself where it has no more bits
  pub modulo : (w n x : ℕ) → number w (digits w n x) ≡ x % 2 ^ (w * n)
  pub whole : (w n x : ℕ) → x < 2 ^ (w * n) → number w (digits w n x) ≡ x
  -- a number made of digits of w bits has these digits, and no more bits than they have
  pub back : (w : ℕ) (ds : List ℕ) → Below w ds → digits w (length ds) (number w ds) ≡ ds
  pub small : (w : ℕ) (ds : List ℕ) → Below w ds → number w ds < 2 ^ (w * length ds)

-- The count less the width, which wraps from 0 only, as a sum with its borrow, and back. Assumes nothing.
use mathlib.Core.Path.{◌≡◌, sym, ap, ◌∙◌}
use Prim.Native.Nat.{ℕ, ◌+◌, ◌-◌, ◌*◌, ◌^◌, ◌≤◌, ◌<◌}
use native.Mathlib.Omega.{arith}
use Rattle.words.specs.Words.{wrap_sub}

-- n less w where the borrow is b
wraps : (n d w b : ℕ) → n < 2 ^ 64 → d < 2 ^ 64 → (0 < w) × (w ≤ 8) → b < 2 → d + w ≡ n + 2 ^ 64 * b → d ≡ wrap_sub n w
wraps n d w b hn hd hw hb e = omega arith

pub decr_of : (n d w : ℕ) → n < 2 ^ 64 → (0 < w) × (w ≤ 8) → d + w ≡ n + 2 ^ 64 * (1 - n) → d ≡ wrap_sub n w
decr_of n d w hn hw e = wraps n d w (1 - n) hn (omega arith) hw (omega arith) e

pub decr_back : (n w : ℕ) → n < 2 ^ 64 → (0 < w) × (w ≤ 8) → w ≤ n + 2 ^ 64 * (1 - n) → wrap_sub n w + w ≡ n + 2 ^ 64 * (1 - n)
decr_back n w hn hw h =
    let e : n + 2 ^ 64 * (1 - n) - w + w ≡ n + 2 ^ 64 * (1 - n) = omega arith in
    ap (λ x. x + w) (sym (decr_of n (n + 2 ^ 64 * (1 - n) - w) w hn hw e)) ∙ e

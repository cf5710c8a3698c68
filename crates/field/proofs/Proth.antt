-- Proth's certificate: if x squared k times is -1 modulo n, then every divisor q of n above 2 is at least 2^(k + 1). For the powers of x up
-- to 2^(k + 1) are all different modulo q: were the d-th power 1 with 0 < d < 2^(k + 1), then the 2^k-th would be too, and 1 = -1 modulo q.
-- And: modulo a number with no divisors, a product is 0 only if a factor is. Assumes nothing.
use Rattle.std.proofs.Common.{◌≡◌, ℕ, zero, suc, ◌+◌, ◌-◌, ◌*◌, ◌/◌, ◌%◌, ◌^◌, ◌<◌, ◌≤◌, sym, refl, ap, ◌∙◌, subst, mod-lt, mod-eq_of_lt, suc-mul, one-mul, pow-suc, div-add-mod', zero-mul, arith, pow-add}
use Prim.Native.Nat.{◌∣◌}
use native.Mathlib.Nat.{mod-mod_of_dvd, mod-eq-zero_of_dvd, suc-mod, emod_pos_of_not-dvd}
use native.Mathlib.Nat.{dvd-add_iff_right, dvd-mul_right, dvd-mul_left_of_dvd, two-pow-succ, pow-zero}
use native.Mathlib.Decide.{dec_le}
use Rattle.field.proofs.Laws.{mod_mul_left, mod_mul_right}
use Rattle.field.proofs.Pigeon.{pigeonhole}

same_mul : (q a b c d : ℕ) → a % q ≡ c % q → b % q ≡ d % q → (a * b) % q ≡ (c * d) % q
same_mul q a b c d h k =
    sym (mod_mul_left a b q) ∙ ap (λ x. x * b % q) h ∙ mod_mul_left c b q
    ∙ sym (mod_mul_right c b q) ∙ ap (λ x. c * x % q) k ∙ mod_mul_right c d q

-- Exponents: a set E of numbers closed under sums and differences that holds g * d and g * 2^(k + 1), 0 < d < 2^(k + 1), holds g * 2^k

module _ (E : ℕ → Type 0) (none : E 0) (add : (a b : ℕ) → E a → E b → E (a + b)) (sub : (a b : ℕ) → E (a + b) → E a → E b) where
  multiple : (n a : ℕ) → E a → E (n * a)
  multiple zero a h = subst E (sym (zero-mul a)) none
  multiple (suc n) a h = subst E (sym (suc-mul n a)) (add (n * a) a (multiple n a h) h)

  abbrev Halves : ℕ → Type 0
  Halves m = (g d : ℕ) → 0 < d → d < m * 2 → E (g * d) → E (g * (m * 2)) → E (g * m)

  -- d even: halve it; d odd: take e times the whole from m times d
  step : (m : ℕ) → Halves m → (g d e r : ℕ) → r < 2 → e * 2 + r ≡ d → 0 < d → d < m * 2 * 2 → E (g * d) → E (g * (m * 2 * 2)) → E (g * (m * 2))
  step m ih g d e zero b q l u h t =
      subst E (omega arith)
      (ih (g * 2) e (omega arith) (omega arith) (subst E (omega (arith, ap (λ x. g * x) q)) h) (subst E (omega arith) t))
  step m ih g d e (suc zero) b q l u h t =
      sub (e * (g * (m * 2 * 2))) (g * (m * 2))
      (subst E (omega (arith, ap (λ x. m * 2 * (g * x)) q)) (multiple (m * 2) (g * d) h))
      (multiple e (g * (m * 2 * 2)) t)
  step m ih g d e (suc (suc r)) b q l u h t = absurd (omega arith)

  half : (k : ℕ) → Halves (2 ^ k)
  half zero g d l u h t = subst (λ x. E (g * x)) (omega arith) h
  half (suc k) g d l u h t =
      subst Halves (sym (pow-suc 2 k)) (λ g d. step (2 ^ k) (half k) g d (d / 2) (d % 2) (omega arith) (div-add-mod' d 2)) g d l u h t

-- The certificate

unfoldable pub square : ℕ → ℕ → ℕ
square n y = y * y % n

-- x squared k times, modulo n
unfoldable pub squared : ℕ → ℕ → ℕ → ℕ
squared n x zero = x
squared n x (suc k) = square n (squared n x k)

squared_pow : (n x q k : ℕ) → q ∣ n → squared n x k % q ≡ (x ^ 2 ^ k) % q
unfolding squared square
squared_pow n x q zero h = ap (λ z. z % q) (sym (pow-suc x 0 ∙ ap (λ z. z * x) (pow-zero x) ∙ one-mul x))
squared_pow n x q (suc k) h =
    mod-mod_of_dvd q (squared n x k * squared n x k) h
    ∙ same_mul q (squared n x k) (squared n x k) (x ^ 2 ^ k) (x ^ 2 ^ k) (squared_pow n x q k h) (squared_pow n x q k h)
    ∙ ap (λ z. z % q) (sym (pow-add x (2 ^ k) (2 ^ k))) ∙ ap (λ z. x ^ z % q) (sym (two-pow-succ k))

-- the exponents e with x ^ e = 1 modulo q
abbrev One : ℕ → ℕ → ℕ → Type 0
One q x e = (x ^ e) % q ≡ 1 % q

one_add : (q x a b : ℕ) → One q x a → One q x b → One q x (a + b)
one_add q x a b h k = ap (λ z. z % q) (pow-add x a b) ∙ same_mul q (x ^ a) (x ^ b) 1 1 h k

one_sub : (q x a b : ℕ) → One q x (a + b) → One q x a → One q x b
one_sub q x a b h k =
    ap (λ z. z % q) (sym (one-mul (x ^ b))) ∙ same_mul q 1 (x ^ b) (x ^ a) (x ^ b) (sym k) refl ∙ ap (λ z. z % q) (sym (pow-add x a b)) ∙ h

-- the distance of two equal powers is such an exponent
one_distance : (q x n i d : ℕ) → i ≤ n → One q x n → (x ^ i) % q ≡ (x ^ (i + d)) % q → One q x d
one_distance q x n i d l h e =
    one_sub q x n d
    (ap (λ z. x ^ z % q) (omega arith) ∙ ap (λ z. z % q) (pow-add x (n - i) (i + d))
    ∙ same_mul q (x ^ (n - i)) (x ^ (i + d)) (x ^ (n - i)) (x ^ i) refl (sym e)
    ∙ ap (λ z. z % q) (sym (pow-add x (n - i) i)) ∙ ap (λ z. x ^ z % q) (omega arith) ∙ h)
    h

pub divisor_bound : (n x k q : ℕ) → suc (squared n x k) ≡ n → squared n x (suc k) ≡ 1 → q ∣ n → 2 < q → 2 ^ suc k ≤ q
divisor_bound n x k q e o dv two = go (dec_le (2 ^ suc k) q)
  where
    all : One q x (2 ^ suc k)
    all = sym (squared_pow n x q (suc k) dv) ∙ ap (λ z. z % q) o

    never : (d : ℕ) → 0 < d → d < 2 ^ suc k → One q x d → ⊥
    never d l u h = omega (arith, two_is_zero)
      where
        half_one : One q x (1 * 2 ^ k)
        half_one =
            half (One q x) (ap (λ z. z % q) (pow-zero x)) (one_add q x) (one_sub q x) k 1 d l (omega arith)
            (subst (One q x) (omega arith) h) (subst (One q x) (omega arith) all)

        is_one : squared n x k % q ≡ 1
        is_one = squared_pow n x q k dv ∙ ap (λ z. x ^ z % q) (omega arith) ∙ half_one ∙ mod-eq_of_lt (omega arith)

        two_is_zero : ◌≡◌ {A = ℕ} 2 0
        two_is_zero =
            sym (mod-eq_of_lt two) ∙ ap (λ z. suc z % q) (sym is_one) ∙ sym (suc-mod (squared n x k) q) ∙ ap (λ z. z % q) e
            ∙ mod-eq-zero_of_dvd q dv

    different : (i j : ℕ) → i < j → j < suc q → q < 2 ^ suc k → (x ^ i) % q ≡ (x ^ j) % q → ⊥
    different i j l u b c =
        never (j - i) (omega arith) (omega arith)
        (one_distance q x (2 ^ suc k) i (j - i) (omega arith) all (c ∙ ap (λ z. x ^ z % q) (omega arith)))

    go : Dec (2 ^ suc k ≤ q) → 2 ^ suc k ≤ q
    go (yes h) = h
    go (no h) =
        absurd
        (omega (arith, pigeonhole q (suc q) (λ i. x ^ i % q) (λ i l. mod-lt (x ^ i) (omega arith)) (λ i j l u. different i j l u (omega arith))))

-- No zero divisors where there are no divisors: n % a has the same product with b, and is smaller than a

pub divides_factor : (n : ℕ) → ((a : ℕ) → 1 < a → a < n → ¬ (a ∣ n)) → (f a b : ℕ) → a ≤ f → 0 < a → a < n → n ∣ a * b → n ∣ b
divides_factor n nd zero a b l z u h = absurd (omega arith)
divides_factor n nd (suc f) zero b l z u h = absurd (omega arith)
divides_factor n nd (suc f) (suc zero) b l z u h = subst (λ x. n ∣ x) (one-mul b) h
divides_factor n nd (suc f) (suc (suc a)) b l z u h =
    divides_factor n nd f (n % suc (suc a)) b (omega (arith, small))
    (emod_pos_of_not-dvd (suc (suc a)) (nd (suc (suc a)) (omega arith) u)) (omega (arith, small))
    ((dvd-add_iff_right n (dvd-mul_left_of_dvd n h (n / suc (suc a)))).1
    (subst (λ x. n ∣ x) (omega (arith, ap (λ x. x * b) (div-add-mod' n (suc (suc a))))) (dvd-mul_right n b)))
  where
    small : n % suc (suc a) < suc (suc a)
    small = mod-lt n (omega arith)

-- Where residues are 0, from facts that linear arithmetic reads: flags that are bits and of which one at most is set. Assumes nothing.
use mathlib.Core.Path.{◌≡◌, refl}
use mathlib.Core.List.{List, [], ◌∷◌}
use Prim.Native.Nat.{ℕ, zero, suc, ◌+◌, ◌≤◌, ◌<◌}
use native.Mathlib.Omega.{arith}
use lib.ListN.{length, get_or}
use Rattle.field.specs.Field.{add_p, bit_p}
use Rattle.field.proofs.Laws.{bit_zero, add_p_small}
use Rattle.field.proofs.Bits.{implies_zero}
use Rattle.memw_residues.specs.Residues.{mu_sum, w2, flag_residues, flag_residue}
use Rattle.memw_residues.specs.Residues.{FlagNumbers}

-- a list of zeros, one by one, has 0 at every index
abbrev pub AllZero : List ℕ → Type 0
AllZero [] = Unit
AllZero (x ∷ xs) = (x ≡ 0) × AllZero xs

pub all_zero : (l : List ℕ) → AllZero l → (i : ℕ) → get_or l i 0 ≡ 0
all_zero [] z i = refl
all_zero (x ∷ xs) z zero = z.0
all_zero (x ∷ xs) z (suc i) = all_zero xs z.1 i

-- and a list of bits a bit
abbrev pub AllBits : List ℕ → Type 0
AllBits [] = Unit
AllBits (x ∷ xs) = (x < 2) × AllBits xs

pub all_bits : (l : List ℕ) → AllBits l → (i : ℕ) → i < length l → get_or l i 0 < 2
all_bits [] z i h = absurd (omega arith)
all_bits (x ∷ xs) z zero h = z.0
all_bits (x ∷ xs) z (suc i) h = all_bits xs z.1 i (omega arith)

-- the sum of two bits that are not both 1 is a bit
pub sum_zero : (x y : ℕ) → x + y < 2 → bit_p (add_p x y) ≡ 0
sum_zero x y h = rw (add_p_small x y (omega arith)) (bit_zero (x + y) h)

-- flags of which at most one of each kind is set, and a width only on an access
pub record FineFlags (f : FlagNumbers) : Type 0 where
  pub one : f.mu_read + f.mu_write < 2
  pub width : f.write2 + f.write4 + f.write8 < 2
  pub access : f.write2 + f.write4 + f.write8 ≤ f.mu_read + f.mu_write

-- zero their residues
pub flags_zero : (f : FlagNumbers) → FineFlags f → (i : ℕ) → flag_residue f i ≡ 0
unfolding flag_residue
flags_zero f fine i =
    all_zero (flag_residues f) (
      sum_zero f.mu_read f.mu_write fine.one,
      (
        rw (mu, wide) (implies_zero _ _ fine.one (λ z. omega (arith, fine.access))),
        (
          bit_zero _ (omega (arith, fine.one)),
          (
            bit_zero _ (omega (arith, fine.one)),
            (
              bit_zero _ (omega (arith, fine.width)),
              (
                bit_zero _ (omega (arith, fine.width)),
                (
                  bit_zero _ (omega (arith, fine.width)),
                  (rw wide (bit_zero _ fine.width), tt),
                ),
              ),
            ),
          ),
        ),
      ),
    ) i
  where
    mu : mu_sum f ≡ f.mu_read + f.mu_write
    mu = add_p_small _ _ (omega (arith, fine.one))

    wide : w2 f ≡ f.write2 + f.write4 + f.write8
    wide =
        rw (add_p_small f.write2 f.write4 (omega (arith, fine.width)))
        (add_p_small (f.write2 + f.write4) f.write8 (omega (arith, fine.width)))

-- The instances of specs/Instances.antt hold. Assumes nothing.
use mathlib.Core.Path.{refl}
use mathlib.Core.Logic.{inl, inr}
use native.Mathlib.Omega.{arith}
use Rattle.call.specs.Cuts.{Sound}
use Rattle.call.specs.Instances.{call_on, Instances}

set_near : Sound 8 (call_on 1 100 107 0) → ⊥
set_near s = omega (arith, s.gapped refl)

past_top : Sound 8 (call_on 0 18446744073709551608 0 8) → ⊥
past_top s = elim s.reach [ inl e ↦ omega arith | inr e ↦ omega arith ]

pub instances : Instances
instances =
    record {
      rows = refl;
      nine = refl;
      empty_wide = refl;
      empty_narrow = refl;
      empty_none = λ e. omega arith;
      set_apart =
          record {
            words = record { kind = omega arith; stamp = omega arith; src = omega arith; dst = omega arith; count = omega arith };
            reach = inl refl;
            gapped = λ e. refl;
          };
      set_near = set_near;
      to_top =
          record {
            words = record { kind = omega arith; stamp = omega arith; src = omega arith; dst = omega arith; count = omega arith };
            reach = inr (omega arith, omega arith);
            gapped = λ e. omega arith;
          };
      past_top = past_top;
      empty_top =
          record {
            words = record { kind = omega arith; stamp = omega arith; src = omega arith; dst = omega arith; count = omega arith };
            reach = inl refl;
            gapped = λ e. omega arith;
          };
    }

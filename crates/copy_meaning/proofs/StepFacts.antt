-- The conditions of a step, live or dead, as one list of inequalities with MU in them: what is asked of a live row that moves a byte,
-- and of no other, stands behind a multiple of 2^64. Both ways. Assumes nothing.
use mathlib.Core.Path.{◌≡◌, refl}
use mathlib.Core.Logic.{◌⊎◌, inl, inr}
use Prim.Native.Nat.{ℕ, zero, suc, ◌+◌, ◌-◌, ◌*◌, ◌^◌, ◌≤◌, ◌<◌}
use native.Mathlib.Omega.{arith}
use Rattle.call.specs.Calls.{Op}
use Rattle.call.specs.Cuts.{FitsTypes, PieceOk}
use Rattle.copy_meaning.specs.Steps.{Move, empty, ends, more, RowStep}
use Rattle.copy_meaning.specs.Plain.{Free, Last}

-- the inequalities: an address is free, the width is enough, an empty row opens and ends its call, a last row moves all
pub record Bounds (mu : ℕ) (o : Op) : Type 0 where
  pub src_free : Free o.piece.width mu o.call.count o.call.src
  pub dst_free : Free o.piece.width mu o.call.count o.call.dst
  pub enough : o.piece.width ≤ o.call.count + 2 ^ 64 * (1 - o.call.count)
  pub empty_first : 1 - o.call.count ≤ o.first
  pub empty_end : 1 - o.call.count ≤ o.end
  pub last : Last o.piece.width o.end o.call.count

pub record StepFacts (gap mu : ℕ) (o : Op) : Type 0 where
  pub words : FitsTypes o.call
  pub piece : PieceOk o.piece
  pub live : mu < 2
  pub first : o.first ≤ mu
  pub end : o.end ≤ mu
  pub kind : o.call.kind ≤ 2 * mu
  pub gapped : o.call.kind ≡ 1 → o.call.dst ≡ o.call.src + gap
  pub bounds : Bounds mu o

pub width_bounds : (w : ℕ) → (w ≡ 1) ⊎ (w ≡ 8) → (0 < w) × (w ≤ 8)
width_bounds w (inl e) = omega arith
width_bounds w (inr e) = omega arith

-- From the step

pub facts_of_step : (gap mu : ℕ) (o : Op) → RowStep gap mu o → StepFacts gap mu o
facts_of_step gap zero o d =
    let w = width_bounds o.piece.width d.piece.wide in
    record {
      words = d.words;
      piece = d.piece;
      live = omega arith;
      first = omega (arith, d.first);
      end = omega (arith, d.end);
      kind = omega (arith, d.kind);
      gapped = λ e. absurd (omega (arith, d.kind));
      bounds = omega (arith, d.words, d.enough, d.end);
    }
facts_of_step gap (suc zero) o l =
    record {
      words = l.words;
      piece = l.piece;
      live = omega arith;
      first = l.bits;
      end = end_of_lem l.move;
      kind = l.words.kind;
      gapped = l.gapped;
      bounds = go l.move;
    }
  where
    w : (0 < o.piece.width) × (o.piece.width ≤ 8)
    w = width_bounds o.piece.width l.piece.wide

    end_of_lem : Move o → o.end ≤ 1
    end_of_lem (empty n f e) = omega arith
    end_of_lem (ends e n a b) = omega arith
    end_of_lem (more e n a b) = omega arith

    go : Move o → Bounds 1 o
    go (empty n f e) = omega (arith, w, l.words)
    go (ends e n a b) = omega (arith, w)
    go (more e n a b) = omega (arith, w, l.words)
facts_of_step gap (suc (suc mu)) o d = absurd d

-- And back

-- the way a live row moves, by its count and END
move_of : (o : Op) (n e : ℕ) → o.call.count ≡ n → o.end ≡ e → o.first ≤ 1 → o.end ≤ 1 → Bounds 1 o → Move o
move_of o zero e n f first end b = empty (omega arith) (omega arith) (omega arith)
move_of o (suc k) zero n f first end b = more (omega arith) (omega arith) (omega arith) (omega arith)
move_of o (suc k) (suc e) n f first end b = ends (omega arith) (omega arith) (omega arith) (omega arith)

pub step_of_facts : (gap mu : ℕ) (o : Op) → StepFacts gap mu o → RowStep gap mu o
step_of_facts gap zero o f =
    record {
      words = f.words;
      piece = f.piece;
      kind = omega (arith, f.kind);
      first = omega (arith, f.first);
      end = omega (arith, f.end);
      enough = omega (arith, f.bounds, f.first);
    }
step_of_facts gap (suc zero) o f =
    record {
      words = f.words;
      gapped = f.gapped;
      piece = f.piece;
      bits = f.first;
      move = move_of o o.call.count o.end refl refl f.first f.end f.bounds;
    }
step_of_facts gap (suc (suc mu)) o f = absurd (omega (arith, f.live))

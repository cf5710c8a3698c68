-- The lists of LinkInstances, by computing. Assumes nothing.
use mathlib.Core.Path.{refl}
use Rattle.chain.proofs.Computing.{computing}
use Rattle.whole_calls.specs.LinkInstances.{LinkInstances}

pub link_instances : LinkInstances
unfolding computing
link_instances =
    record {
      linked = refl;
      first = record { before = refl; alone = refl; refused = refl };
      stamp = record { before = refl; alone = refl; refused = refl };
      is_set = record { before = refl; alone = refl; refused = refl };
      is_write = record { before = refl; alone = refl; refused = refl };
      src = record { before = refl; alone = refl; refused = refl };
      dst = record { before = refl; alone = refl; refused = refl };
      count = record { before = refl; alone = refl; refused = refl };
      after_end = record { before = refl; alone = refl; refused = refl };
      dead_after_live = record { before = refl; alone = refl; refused = refl };
      live_after_dead = record { before = refl; alone = refl; refused = refl };
      top = refl;
      end = refl;
    }

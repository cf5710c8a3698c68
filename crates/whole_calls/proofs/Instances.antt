-- The instances hold, by computing. Assumes nothing.
use mathlib.Core.Path.{refl}
use mathlib.Core.List.{[], ◌∷◌}
use mathlib.Core.Logic.{inl, inr}
use Prim.Native.Nat.{ℕ, ◌<◌}
use native.Mathlib.Omega.{arith}
use Rattle.lists.specs.Lists.{All}
use Rattle.words.proofs.Digits.{below_same}
use Rattle.call.specs.Cuts.{PieceOk, Fits}
use Rattle.call.specs.Instances.{wide, narrow}
use Rattle.expansion.specs.Tries.{Typed}
use Rattle.read_back.proofs.Computing as judged
use Rattle.calls_in_turn.proofs.Computing as made
use Rattle.whole_calls.specs.Demand.{WholeCalls, AnyCall}
use Rattle.whole_calls.specs.Instances.{three_kinds, dead_not_padding, rows, unsound, three_tries, Instances}
use Rattle.whole_calls.proofs.Halves.{dead_row_lem, whole_calls}
use Rattle.whole_calls.proofs.Alone.{any_calls}

wide_ok : (byte : ℕ) → byte < 256 → PieceOk (wide byte)
wide_ok byte h = record { wide = inr refl; eight = refl; bytes = omega arith; tail = λ e. absurd (omega arith) }

narrow_ok : (byte : ℕ) → byte < 256 → PieceOk (narrow byte)
narrow_ok byte h = record { wide = inl refl; eight = refl; bytes = omega arith; tail = λ e. refl }

three_fit : All (Fits 8) three_kinds
three_fit = (
  record {
    sound = record { words = omega arith; reach = inr (omega arith, omega arith); gapped = λ e. absurd (omega arith) };
    cut = refl;
    pieces = (wide_ok 5 (omega arith), (narrow_ok 6 (omega arith), tt));
  },
  (
    record {
      sound = record { words = omega arith; reach = inl refl; gapped = λ e. refl };
      cut = refl;
      pieces = (wide_ok 7 (omega arith), tt);
    },
    (
      record {
        sound = record { words = omega arith; reach = inr (omega arith, omega arith); gapped = λ e. absurd (omega arith) };
        cut = refl;
        pieces = (narrow_ok 9 (omega arith), tt);
      },
      tt,
    ),
  ),
)

unsound_any : AnyCall unsound
unsound_any =
    record {
      words = omega arith;
      pieces = (record { width = omega arith; eight = refl }, (record { width = omega arith; eight = refl }, tt));
      row = omega arith;
    }

rows_whole : WholeCalls 8 rows three_kinds
unfolding judged.computing
rows_whole = whole_calls 8 (omega arith) rows refl three_kinds three_fit (dead_not_padding ∷ []) (dead_row_lem 8 (omega arith) dead_not_padding refl refl refl, tt) refl

tries_typed : All Typed three_tries
tries_typed = (
  record { words = omega arith; bytes = below_same 8 32 3 (omega arith) },
  (record { words = omega arith; bytes = below_same 8 32 4 (omega arith) }, (record { words = omega arith; bytes = below_same 8 32 5 (omega arith) }, tt)),
)

pub instances : Instances
unfolding judged.computing made.computing
instances =
    record {
      passes = refl;
      empty = refl;
      sound = three_fit;
      whole = rows_whole;
      ops = refl;
      calls = refl;
      read = refl;
      short = refl;
      made = refl;
      table = refl;
      alone_calls = any_calls 8 three_kinds three_fit;
      alone_rows = rows_whole.live;
      any = unsound_any;
      refused_7 = refl;
      refused_13 = refl;
      refused_14 = refl;
      refused_15 = refl;
      refused_16 = refl;
      refused_17 = refl;
      refused_17_late = refl;
      refused_18 = refl;
      typed = tries_typed;
      set_refused = refl;
      others_accepted = refl;
      tries_made = refl;
      tries_pass = refl;
      tries_read = refl;
    }

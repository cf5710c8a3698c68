-- Every call of a load is accepted, its table passes and is read back. Assumes nothing.
use mathlib.Core.Path.{◌≡◌, sym, ap, subst, ◌∙◌}
use mathlib.Core.List.{List, [], ◌∷◌, flat_map}
use Prim.Native.Nat.{ℕ, ◌*◌, ◌≤◌}
use native.Mathlib.Omega.{arith}
use lib.Dec.{lit<}
use lib.ListN.{length, take}
use Rattle.std.specs.Prelude.{Ok}
use Rattle.lists.specs.Lists.{All}
use Rattle.lists.proofs.All.{all_mapped}
use Rattle.lists.proofs.Listed.{all_listed}
use Rattle.words.specs.Words.{Bytes}
use Rattle.records.specs.Records.{LIMIT}
use Rattle.call.specs.Cuts.{FitsTypes}
use Rattle.call.specs.Flat.{call_numbers}
use Rattle.load.specs.Load.{GAP, load_call, load_calls}
use Rattle.expansion.specs.Tries.{Lent, Try, Typed}
use Rattle.copy_row.specs.Columns.{COLUMNS}
use Rattle.copy_row.specs.Trace.{copy_answer, copy_after}
use Rattle.calls_in_turn.specs.Accepted.{accepted_of, accepted_ops, accepted_calls}
use Rattle.calls_in_turn.specs.InTurn.{tries_of}
use Rattle.calls_in_turn.proofs.Typed.{tries_typed, calls_handed_lem}
use Rattle.whole_calls.specs.Demand.{Passes, ReadsBack}
use Rattle.whole_calls.proofs.Demand.{demand3}
use Rattle.load_accepted.specs.LoadAccepted.{load_setting, Welcome, Small, TriesOfLoad, LongForAll, AllBytes, LoadAccepted}
use Rattle.load_accepted.specs.LoadRows.{NoEdgeMet, LoadRows}
use Rattle.load_accepted.proofs.Calls.{call_fits, call_enough, call_accepted, call_rows}
use Rattle.load_accepted.proofs.Tries.{all_accepted, tries_welcome, calls_of_tries, calls_in_turn, turns_long}

module _ (s n : ℕ) (few : n ≤ LIMIT) where
  each : All Welcome (load_calls s n)
  each = all_listed Welcome (load_call s) 0 n (λ k a b. call_accepted s k (omega arith))

  fit : All FitsTypes (load_calls s n)
  fit = all_listed FitsTypes (load_call s) 0 n (λ k a b. call_fits s k (omega arith))

  module _ (tries : List Try) (of : TriesOfLoad s n tries) where
    all : accepted_of load_setting tries ≡ tries
    all = all_accepted tries (tries_welcome tries (subst (All Welcome) (sym of.calls) each) of.long)

    -- what is read back are the calls of the load
    handed_back : accepted_calls load_setting tries ≡ flat_map call_numbers (load_calls s n)
    handed_back =
        ap (flat_map (λ (t : Try). call_numbers t.call)) all
        ∙ calls_of_tries tries
        ∙ ap (flat_map call_numbers) of.calls

    typed : AllBytes tries → All Typed tries
    typed bytes = go tries (all_mapped FitsTypes (λ (t : Try). t.call) tries (subst (All FitsTypes) (sym of.calls) fit)) bytes
      where
        go : (ts : List Try) → All (λ (t : Try). FitsTypes t.call) ts → AllBytes ts → All Typed ts
        go [] w b = tt
        go (t ∷ ts) w b = (record { words = w.0; bytes = b.0 }, go ts w.1 b.1)

    passes : AllBytes tries → (table : List ℕ) (rows : ℕ)
        → let records = accepted_ops load_setting tries in
        copy_answer LIMIT records (length table) ≡ Ok rows
        → let l = take (COLUMNS * rows) (copy_after records (Ok rows) table) in
        Passes GAP l × ((ops calls : List ℕ) → ReadsBack GAP l records (flat_map call_numbers (load_calls s n)) ops calls)
    passes bytes table rows made =
        let records = accepted_ops load_setting tries in
        let l = take (COLUMNS * rows) (copy_after records (Ok rows) table) in
        let both = demand3.made GAP (lit< tt) tries (typed bytes) table rows made in
        (both.0, λ ops calls. subst (λ handed. ReadsBack GAP l records handed ops calls) handed_back (both.1 ops calls))

  in_turn : (l : Lent) → LongForAll (load_calls s n) l → TriesOfLoad s n (tries_of load_setting (load_calls s n) l)
  in_turn l long = record { calls = calls_in_turn load_setting (load_calls s n) l; long = turns_long (load_calls s n) l each long }

  in_turn_bytes : (l : Lent) → Bytes l.bytes → AllBytes (tries_of load_setting (load_calls s n) l)
  in_turn_bytes l bytes = go (tries_of load_setting (load_calls s n) l) (tries_typed load_setting (load_calls s n) l fit bytes)
    where
      go : (ts : List Try) → All Typed ts → AllBytes ts
      go [] t = tt
      go (x ∷ xs) t = (t.0.bytes, go xs t.1)

pub load_accepted : LoadAccepted
load_accepted =
    record {
      each = each;
      enough = λ s n few. all_listed Small (load_call s) 0 n (λ k a b. call_enough s k (omega arith));
      all = all;
      passes = passes;
      in_turn = in_turn;
      in_turn_bytes = in_turn_bytes;
      handed = λ s n few. calls_handed_lem (load_calls s n) (fit s n few);
    }

pub load_rows : LoadRows
load_rows s n few = all_listed NoEdgeMet (load_call s) 0 n (λ k a b. call_rows s k (omega arith))

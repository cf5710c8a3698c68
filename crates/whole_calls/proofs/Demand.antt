-- Demand 3 holds. Assumes nothing.
use mathlib.Core.Path.{◌≡◌, sym, subst₂}
use mathlib.Core.List.{List, map, flat_map}
use Prim.Native.Nat.{ℕ, ◌*◌, ◌^◌, ◌≤◌, ◌<◌}
use lib.Dec.{lit≤}
use lib.ListN.{length, take}
use Rattle.std.specs.Prelude.{Ok}
use Rattle.lists.specs.Lists.{All}
use Rattle.records.specs.Records.{LIMIT}
use Rattle.call.specs.Ops.{op_record}
use Rattle.call.specs.Flat.{call_numbers}
use Rattle.call.specs.Cuts.{CutCall, ops_of, Fits, calls_of}
use Rattle.expansion.specs.Tries.{Try, Typed, under}
use Rattle.calls_in_turn.specs.Accepted.{accepted_ops, accepted_calls, accepted_of}
use Rattle.copy_row.specs.Columns.{COLUMNS}
use Rattle.copy_row.specs.Trace.{copy_answer, copy_after}
use Rattle.whole_calls.specs.Demand.{Passes, ReadsBack, Demand3}
use Rattle.whole_calls.proofs.Halves.{chain_property, counts, calls_passes}
use Rattle.whole_calls.proofs.ReadBack.{reads_back, only_nine}
use Rattle.whole_calls.proofs.Alone.{alone}
use Rattle.whole_calls.proofs.Made.{written_calls}
use Rattle.whole_calls.proofs.Accepted.{cut_try, tries_fit, tries_wrote, tries_handed}
use Rattle.whole_calls.proofs.Refusals.{maker_refuses, refused_leaves, refused_adds}

-- the rows that the maker writes of the records of calls that fit pass, and are read back as these records and calls
pub made_passes : (gap : ℕ) → gap < 2 ^ 32 → (limit : ℕ) → limit ≤ 2 ^ 63 → (ks : List CutCall) → All (Fits gap) ks
    → (table : List ℕ) (rows : ℕ) → let records = flat_map op_record (ops_of ks) in
    copy_answer limit records (length table) ≡ Ok rows
    → let l = take (COLUMNS * rows) (copy_after records (Ok rows) table) in
    Passes gap l × ((ops calls : List ℕ) → ReadsBack gap l records (flat_map call_numbers (calls_of ks)) ops calls)
made_passes gap g limit small ks fits table rows made =
    let l = take (COLUMNS * rows) (copy_after (flat_map op_record (ops_of ks)) (Ok rows) table) in
    let w = written_calls gap limit small ks fits table rows made g in
    (calls_passes gap g l ks w, reads_back gap g l ks w)

made : (gap : ℕ) → gap < 2 ^ 32 → (tries : List Try) → All Typed tries → (table : List ℕ) (rows : ℕ)
    → let records = accepted_ops (under gap) tries in
    copy_answer LIMIT records (length table) ≡ Ok rows
    → let l = take (COLUMNS * rows) (copy_after records (Ok rows) table) in
    Passes gap l × ((ops calls : List ℕ) → ReadsBack gap l records (accepted_calls (under gap) tries) ops calls)
made gap g tries typed table rows =
    subst₂
    (λ (records handed : List ℕ).
    copy_answer LIMIT records (length table) ≡ Ok rows
    → let l = take (COLUMNS * rows) (copy_after records (Ok rows) table) in
    Passes gap l × ((ops calls : List ℕ) → ReadsBack gap l records handed ops calls))
    (sym (tries_wrote gap tries typed))
    (sym (tries_handed gap tries))
    (made_passes gap g LIMIT (lit≤ tt) (map cut_try (accepted_of (under gap) tries)) (tries_fit gap tries typed) table rows)

pub demand3 : Demand3
demand3 =
    record {
      exactly = chain_property;
      counts = counts;
      reads = λ gap g l ks w ops calls. reads_back gap g l ks w ops calls;
      alone = alone;
      only_nine = only_nine;
      made = made;
      maker_refuses = maker_refuses;
      refused_leaves = refused_leaves;
      refused_adds = refused_adds;
    }

-- Read-back of a list of whole calls: each live row gives the record that it was made of, and each row with FIRST the call as it was
-- handed in. Assumes nothing.
use mathlib.Core.Path.{◌≡◌, refl, sym, ap, ap₂, ◌∙◌}
use mathlib.Core.Bool.{Bool, true, false, cond, ◌&&◌, and-false, false≢true}
use mathlib.Core.List.{List, [], ◌∷◌, ◌++◌, map, flat_map}
use mathlib.Core.Logic.{◌⊎◌, inl, inr}
use mathlib.Core.Option.{none}
use Prim.Native.Nat.{ℕ, zero, suc, ◌*◌, ◌/◌, ◌^◌, ◌≤◌, ◌<◌}
use native.Mathlib.Omega.{arith}
use borrow.Author.Tests.{le-leb, lt-leb, eq-eqb}
use lib.Dec.{eqb, leb}
use lib.ListN.{length}
use Rattle.std.specs.Prelude.{Ok, Err}
use Rattle.lists.specs.Lists.{store, All, kept}
use Rattle.call.specs.Calls.{Call, Op}
use Rattle.call.specs.Ops.{op_record, OP_WIDTH}
use Rattle.call.specs.Flat.{CALL_WIDTH, call_numbers}
use Rattle.call.specs.Cuts.{CutCall, ops_of, calls_of}
use Rattle.call.proofs.Cuts.{all_have_rows}
use Rattle.copy_row.specs.Rows.{table_row}
use Rattle.copy_meaning.specs.Steps.{LiveStep}
use Rattle.copy_meaning.specs.ReadRow.{call_at, op_at}
use Rattle.copy_meaning.proofs.ReadBack.{mu_back, first_back, call_back, op_back}
use Rattle.call_chain.specs.OpChain.{if_first, firsts}
use Rattle.call_chain.proofs.Chained.{chain}
use Rattle.call_chain.proofs.Group.{firsts_are}
use Rattle.chain.specs.Chain.{ChainAnswer, chain_answer, chain_numbers, table_rows}
use Rattle.chain.proofs.Passed.{refusal_numbered}
use Rattle.read_back.specs.ReadBack.{ReadBackAnswer, read_ops, read_calls, read_counts, room_answer, on_chain, read_back_answer, ops_after, calls_after, read_back_numbers, opening_rows, live_rows}
use Rattle.read_back.specs.declared.ReadBackRefusal.TheVariants.{BufferShort}
use Rattle.read_back.specs.Inner.{rows_read, numbers_read}
use Rattle.read_back.proofs.Walk.{numbers_length}
use Rattle.whole_calls.specs.Demand.{Passes, WholeCalls, ReadsBack}
use Rattle.whole_calls.proofs.LiveRows.{steps, Still, live_rows_lem}
use Rattle.whole_calls.proofs.Halves.{all_still, calls_rows, calls_pass}

-- what is read of rows that were made of records, dead rows behind them
module _ (gap : ℕ) where
  ops_read : (os : List Op) → All (LiveStep gap) os → flat_map (λ row. op_record (op_at row)) (map table_row os) ≡ flat_map op_record os
  unfolding flat_map
  ops_read [] s = refl
  ops_read (o ∷ os) s = ap₂ (λ (a b : List ℕ). a ++ b) (ap op_record (op_back 1 o s.0.words s.0.piece)) (ops_read os s.1)

  none_open : (rows : List (List ℕ)) → All Still rows → opening_rows rows ≡ []
  unfolding kept
  none_open [] still = refl
  none_open (row ∷ rows) still = rw still.0 (none_open rows still.1)

  calls_read : (os : List Op) (others : List (List ℕ)) → All (LiveStep gap) os → All Still others
      → flat_map (λ row. call_numbers (call_at row)) (opening_rows (map table_row os ++ others)) ≡ flat_map call_numbers (firsts os)
  unfolding flat_map kept
  calls_read [] others s still = ap (flat_map (λ row. call_numbers (call_at row))) (none_open others still)
  calls_read (o ∷ os) others s still =
      rw (mu_back 1 o, first_back 1 o) (step o.first s.0.bits (opening_rows (map table_row os ++ others)) (firsts os) (calls_read os others s.1 still))
    where
      step : (f : ℕ) → f ≤ 1 → (rows : List (List ℕ)) (cs : List Call) → flat_map (λ row. call_numbers (call_at row)) rows ≡ flat_map call_numbers cs
          → flat_map (λ row. call_numbers (call_at row)) (cond (eqb f 1) (table_row o ∷ rows) rows) ≡ flat_map call_numbers (if_first f o.call cs)
      step zero h rows cs e = e
      step (suc zero) h rows cs e = ap₂ (λ (a b : List ℕ). a ++ b) (ap call_numbers (call_back 1 o s.0.words)) e
      step (suc (suc f)) h rows cs e = absurd (omega arith)

-- What is read of a list of whole calls

module _ (gap : ℕ) (g : gap < 2 ^ 32) (l : List ℕ) (ks : List CutCall) (w : WholeCalls gap l ks) where
  live : All (LiveStep gap) (ops_of ks)
  live = steps gap none (ops_of ks) (chain gap ks w.sound)

  still : All Still w.others
  still = all_still gap g w.others w.dead

  pub read_ops_lem : read_ops l ≡ flat_map op_record (ops_of ks)
  unfolding read_ops
  read_ops_lem =
      ap (λ rows. flat_map (λ row. op_record (op_at row)) (live_rows rows)) (calls_rows gap g l ks w)
      ∙ ap (flat_map (λ row. op_record (op_at row))) (live_rows_lem (ops_of ks) w.others still)
      ∙ ops_read gap (ops_of ks) live

  pub read_calls_lem : read_calls l ≡ flat_map call_numbers (calls_of ks)
  unfolding read_calls
  read_calls_lem =
      ap (λ rows. flat_map (λ row. call_numbers (call_at row)) (opening_rows rows)) (calls_rows gap g l ks w)
      ∙ calls_read gap (ops_of ks) w.others live still
      ∙ ap (flat_map call_numbers) (firsts_are ks (all_have_rows gap ks w.sound))

  -- the counts are those of the numbers written
  ops_length : length (read_ops l) ≡ OP_WIDTH * length (live_rows (table_rows l))
  unfolding read_ops numbers_read rows_read
  ops_length = numbers_length false l

  calls_length : length (read_calls l) ≡ CALL_WIDTH * length (opening_rows (table_rows l))
  unfolding read_calls numbers_read rows_read
  calls_length = numbers_length true l

  abbrev records : List ℕ
  records = flat_map op_record (ops_of ks)

  abbrev handed : List ℕ
  handed = flat_map call_numbers (calls_of ks)

  module _ (ops calls : List ℕ) where
    rooms : read_back_answer gap l (length ops) (length calls)
        ≡ cond
        (leb (length records) (length ops) && leb (length handed) (length calls))
        (Ok (record { ops = length records / OP_WIDTH; calls = length handed / CALL_WIDTH }))
        (Err BufferShort)
    unfolding read_back_answer room_answer
    rooms =
        let n : length (live_rows (table_rows l)) ≡ length records / OP_WIDTH = omega (arith, ops_length, ap length read_ops_lem) in
        let m : length (opening_rows (table_rows l)) ≡ length handed / CALL_WIDTH = omega (arith, calls_length, ap length read_calls_lem) in
        rw (calls_pass gap g l ks w, read_ops_lem, read_calls_lem, n, m)

    pub reads_back : ReadsBack gap l records handed ops calls
    unfolding ops_after calls_after
    reads_back =
        record {
          reads = λ a b.
              let answer : read_back_answer gap l (length ops) (length calls) ≡ Ok (record { ops = length records / OP_WIDTH; calls = length handed / CALL_WIDTH }) =
              rooms ∙ rw (le-leb _ _ a, le-leb _ _ b) refl in (
                answer,
                ap (λ r. ops_after r l ops) answer ∙ ap (store ops 0) read_ops_lem,
                ap (λ r. calls_after r l calls) answer ∙ ap (store calls 0) read_calls_lem,
              );
          short = λ h. rooms ∙ go h;
        }
      where
        go : (length ops < length records) ⊎ (length calls < length handed)
            → cond {A = ReadBackAnswer}
            (leb (length records) (length ops) && leb (length handed) (length calls))
            (Ok (record { ops = length records / OP_WIDTH; calls = length handed / CALL_WIDTH }))
            (Err BufferShort)
            ≡ Err BufferShort
        go (inl h) = rw (lt-leb _ _ h) refl
        go (inr h) = rw (lt-leb _ _ h, and-false) refl

-- Refusals of a list that passes

pub only_nine : (gap : ℕ) (l : List ℕ) → Passes gap l → (room_ops calls_room : ℕ)
    → let number = (read_back_numbers (read_back_answer gap l room_ops calls_room)).answer.number in (number ≡ 0) ⊎ (number ≡ 9)
unfolding read_back_answer room_answer
only_nine gap l e room_ops calls_room = go (chain_answer gap l) e
  where
    room : (t : Bool) → let answer = cond t (Ok (read_counts l)) (Err BufferShort) in
        ((read_back_numbers answer).answer.number ≡ 0) ⊎ ((read_back_numbers answer).answer.number ≡ 9)
    room true = inl refl
    room false = inr refl

    go : (v : ChainAnswer) → (chain_numbers v).number ≡ 0
        → let number = (read_back_numbers (on_chain v (room_answer l room_ops calls_room))).answer.number in (number ≡ 0) ⊎ (number ≡ 9)
    go (Ok rows) e = room (leb (length (read_ops l)) room_ops && leb (length (read_calls l)) calls_room)
    go (Err why) e = absurd (false≢true (sym (refusal_numbered why) ∙ eq-eqb _ _ e))

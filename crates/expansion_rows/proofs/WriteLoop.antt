-- The loop of `write_pass`, over plain lists and numbers, as ReadLoop is for `read_pass`. Assumes nothing.
use mathlib.Core.Path.{◌≡◌, refl, sym, ap, ◌∙◌, subst}
use mathlib.Core.List.{List, [], ◌∷◌, flat_map, map}
use Prim.Native.Nat.{ℕ, ◌+◌, ◌-◌, ◌*◌, ◌≤◌, ◌<◌}
use native.Mathlib.Nat.{sub-zero}
use native.Mathlib.Omega.{arith}
use lib.ListN.{length, take, drop}
use Rattle.lists.specs.Lists.{store, listed}
use Rattle.lists.proofs.Joined.{flat_map_more}
use Rattle.lists.proofs.Listed.{listed_left, listed_over}
use Rattle.lists.proofs.Store.{store_none, lent_back, part_turn, part_length}
use Rattle.records.specs.Records.{record_at}
use Rattle.records.proofs.Records.{record_part}
use Rattle.call.specs.Calls.{Op}
use Rattle.call.specs.Ops.{op_of, OP_WIDTH}
use Rattle.access.specs.Access.{ACCESS_WIDTH, access_record}
use Rattle.window.specs.Window.{window_of}
use Rattle.window.proofs.WindowLaws.{length_bytes, length_stamps}
use Rattle.expansion_rows.specs.Held.{held_bytes, held_stamps, held_access, held_all_bytes, held_all_stamps, held_accesses}
use Rattle.expansion_rows.specs.Inner.{ops_in}
use Rattle.expansion_rows.specs.Inner.{HeldInside}

-- The records that are left of n, from record k on

abbrev left : List ℕ → ℕ → ℕ → List Op
left ops n k = map op_of (listed (record_at OP_WIDTH ops) k (n - k))

-- the record at k, as it is lent to the write
abbrev pub hand : List ℕ → ℕ → Op
hand ops k = op_of (take (OP_WIDTH * k + OP_WIDTH - OP_WIDTH * k) (drop (OP_WIDTH * k) ops))

hand_is : (ops : List ℕ) (k : ℕ) → op_of (record_at OP_WIDTH ops k) ≡ hand ops k
hand_is ops k = ap op_of (sym (record_part OP_WIDTH ops k))

left_more : (ops : List ℕ) (n k : ℕ) → k < n → left ops n k ≡ hand ops k ∷ left ops n (k + 1)
left_more ops n k h =
    ap (map op_of) (listed_left (record_at OP_WIDTH ops) n k h) ∙ ap (λ (o : Op). o ∷ left ops n (k + 1)) (hand_is ops k)

left_none : (ops : List ℕ) (n k : ℕ) → n ≤ k → left ops n k ≡ []
left_none ops n k h = ap (map op_of) (listed_over (record_at OP_WIDTH ops) n k h)

left_all : (ops : List ℕ) (n : ℕ) → left ops n 0 ≡ ops_in ops n
left_all ops n = ap (λ (m : ℕ). map op_of (listed (record_at OP_WIDTH ops) 0 m)) (sub-zero n)

-- What holds at the head of the loop

-- the numbers of the access records of these operation records
abbrev writes : List Op → List ℕ → List ℕ → List ℕ
writes os bytes stamps = flat_map access_record (held_accesses os (window_of bytes stamps))

pub record WriteAt (n j : ℕ) (bytes₀ stamps₀ ops accesses₀ bytes stamps accesses : List ℕ) (k : ℕ) : Type 0 where
  pub upto : k ≤ n
  pub bytes_same : length bytes ≡ length bytes₀
  pub stamps_same : length stamps ≡ length bytes₀
  pub accesses_same : length accesses ≡ length accesses₀
  pub bytes_go : held_all_bytes (left ops n k) bytes ≡ held_all_bytes (ops_in ops n) bytes₀
  pub stamps_go : held_all_stamps (left ops n k) stamps ≡ held_all_stamps (ops_in ops n) stamps₀
  pub accesses_go : store accesses (ACCESS_WIDTH * (j + k)) (writes (left ops n k) bytes stamps)
      ≡ store accesses₀ (ACCESS_WIDTH * j) (writes (ops_in ops n) bytes₀ stamps₀)

pub write_start : (n j : ℕ) (bytes stamps ops accesses : List ℕ) → length stamps ≡ length bytes
    → WriteAt n j bytes stamps ops accesses bytes stamps accesses 0
write_start n j bytes stamps ops accesses e =
    let z : ACCESS_WIDTH * (j + 0) ≡ ACCESS_WIDTH * j = omega arith in
    record {
      upto = omega arith;
      bytes_same = refl;
      stamps_same = e;
      accesses_same = refl;
      bytes_go = ap (λ (os : List Op). held_all_bytes os bytes) (left_all ops n);
      stamps_go = ap (λ (os : List Op). held_all_stamps os stamps) (left_all ops n);
      accesses_go = λ i. store accesses (z i) (writes (left_all ops n i) bytes stamps);
    }

module _
    (n j : ℕ) (bytes₀ stamps₀ ops accesses₀ bytes stamps accesses : List ℕ) (k : ℕ)
    (at : WriteAt n j bytes₀ stamps₀ ops accesses₀ bytes stamps accesses k) where
  pub write_end : n ≤ k
      → (bytes ≡ held_all_bytes (ops_in ops n) bytes₀)
      × ((stamps ≡ held_all_stamps (ops_in ops n) stamps₀)
      × (accesses ≡ store accesses₀ (ACCESS_WIDTH * j) (writes (ops_in ops n) bytes₀ stamps₀)))
  unfolding held_all_bytes held_all_stamps held_accesses flat_map
  write_end h =
      let none = left_none ops n k h in
      let place = ACCESS_WIDTH * (j + k) in (
        sym (ap (λ (os : List Op). held_all_bytes os bytes) none) ∙ at.bytes_go,
        (
          sym (ap (λ (os : List Op). held_all_stamps os stamps) none) ∙ at.stamps_go,
          sym (ap (λ (os : List Op). store accesses place (writes os bytes stamps)) none ∙ store_none accesses place) ∙ at.accesses_go,
        ),
      )

  -- one write: record k, and where its access record goes
  module _
      (h : k < n) (t : ℕ) (inside : (i : ℕ) → i < n → HeldInside t (length bytes₀) (op_of (record_at OP_WIDTH ops i)))
      (space : ACCESS_WIDTH * (j + n) ≤ length accesses₀) where
    abbrev o : Op
    o = hand ops k

    abbrev p : ℕ
    p = ACCESS_WIDTH * (j + k)

    abbrev q : ℕ
    q = p + ACCESS_WIDTH

    pub hand_inside : HeldInside t (length bytes) o
    hand_inside =
        subst (λ (m : ℕ). HeldInside t m o) (sym at.bytes_same)
        (subst (λ (x : Op). HeldInside t (length bytes₀) x) (hand_is ops k) (inside k h))

    pub write_turn : (bytes' stamps' access : List ℕ)
        → bytes' ≡ held_bytes o bytes → stamps' ≡ held_stamps o stamps → access ≡ access_record (held_access o (window_of bytes stamps))
        → length access ≡ length (take (q - p) (drop p accesses))
        → WriteAt n j bytes₀ stamps₀ ops accesses₀ bytes' stamps' (lent_back accesses p q access) (k + 1)
    unfolding held_all_bytes held_all_stamps held_accesses
    write_turn bytes' stamps' access eb es ea la =
        let lb : length bytes' ≡ length bytes = ap length eb ∙ length_bytes bytes _ _ _ in
        let ls : length stamps' ≡ length stamps = ap length es ∙ length_stamps stamps _ _ _ in
        let m = window_of bytes stamps in
        let later = window_of (held_bytes o bytes) (held_stamps o stamps) in
        let m' : window_of bytes' stamps' ≡ later = cc (eb, es) in
        let more = left_more ops n k h in
        let rest = left ops n (k + 1) in
        let room : q ≤ length accesses = omega arith in
        let z : ACCESS_WIDTH * (j + (k + 1)) ≡ q = omega arith in
        let ys = writes rest bytes' stamps' in
        let step = ap (λ (os : List Op). flat_map access_record (held_accesses os m)) more in
        record {
          upto = omega arith;
          bytes_same = lb ∙ at.bytes_same;
          stamps_same = ls ∙ at.stamps_same;
          accesses_same = part_length accesses access p q (omega arith) room la ∙ at.accesses_same;
          bytes_go = ap (λ (b : List ℕ). held_all_bytes rest b) eb ∙ sym (ap (λ (os : List Op). held_all_bytes os bytes) more) ∙ at.bytes_go;
          stamps_go = ap (λ (s : List ℕ). held_all_stamps rest s) es ∙ sym (ap (λ (os : List Op). held_all_stamps os stamps) more) ∙ at.stamps_go;
          accesses_go =
              ap (λ (x : ℕ). store (lent_back accesses p q access) x ys) z
              ∙ part_turn accesses access p q (omega arith) room la ys
              ∙ ap (λ (l : List ℕ). store accesses p l) (cc (ea, m', step, flat_map_more access_record (held_access o m) (held_accesses rest later)))
              ∙ at.accesses_go;
        }

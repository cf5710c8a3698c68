-- Fields and rows written one by one are the text of them all. Assumes nothing.
use mathlib.Core.Path.{◌≡◌, refl, ap}
use mathlib.Core.List.{List, [], ◌∷◌, ◌++◌, append-nil, append_assoc}
use Prim.Native.Nat.{ℕ, zero, suc, ◌+◌, ◌*◌, ◌≤◌, ◌<◌}
use native.Mathlib.Nat.{add-zero, zero-add}
use native.Mathlib.Numerals.{add-one}
use native.Mathlib.Omega.{arith}
use lib.ListN.{length, take, drop, get_or}
use lib.Seq.{take_all, drop-drop}
use Rattle.call.specs.Ops.{op_of, OP_WIDTH}
use Rattle.text.specs.RowLines.{decimal_text, fields_text, kind_text, row_fields, row_text, rows_text}

-- no field, one field more, and all of them
pub fields_none : (p : List ℕ) → p ++ fields_text [] ≡ p
unfolding fields_text
fields_none p = append-nil p

fields_suc : (ns : List ℕ) (i : ℕ) → i < length ns → fields_text (take (suc i) ns) ≡ fields_text (take i ns) ++ (9 ∷ decimal_text (get_or ns i 0))
unfolding fields_text
fields_suc [] i h = absurd (omega arith)
fields_suc (n ∷ ns) zero h = rw append-nil
fields_suc (n ∷ ns) (suc i) h = rw (fields_suc ns i (omega arith)) (simp append_assoc)

pub fields_more : (p ns : List ℕ) (i : ℕ) → i < length ns
    → ((p ++ fields_text (take i ns)) ++ (9 ∷ [])) ++ decimal_text (get_or ns i 0) ≡ p ++ fields_text (take (i + 1) ns)
fields_more p ns i h = rw (add-one i, fields_suc ns i h) (simp append_assoc)

pub fields_all : (ns : List ℕ) (i : ℕ) → length ns ≤ i → fields_text (take i ns) ≡ fields_text ns
fields_all ns i h = ap fields_text (take_all i ns h)

pub ruleset fields_turns = (fields_none, fields_more, fields_all)

-- no row, and one row more
pub rows_none : (p : List ℕ) (ops : List ℕ) → p ++ rows_text 0 0 ops ≡ p
unfolding rows_text
rows_none p ops = append-nil p

rows_suc : (k n : ℕ) (ops : List ℕ) → rows_text k (suc n) ops ≡ rows_text k n ops ++ row_text (k + n) (take OP_WIDTH (drop (OP_WIDTH * n) ops))
unfolding rows_text
rows_suc k zero ops = rw (add-zero k) (append-nil _)
rows_suc k (suc n) ops =
    let e = rows_suc (k + 1) n (drop OP_WIDTH ops) in
    let f : k + 1 + n ≡ k + suc n = omega arith in
    let g : OP_WIDTH + OP_WIDTH * n ≡ OP_WIDTH * suc n = omega arith in
    rw (e, f, drop-drop (OP_WIDTH * n) OP_WIDTH ops, g) (simp append_assoc)

pub rows_more : (p ops : List ℕ) (n w : ℕ) → w ≡ OP_WIDTH
    → (p ++ rows_text 0 n ops) ++ row_text n (take w (drop (OP_WIDTH * n) ops)) ≡ p ++ rows_text 0 (n + 1) ops
rows_more p ops n w e = rw (e, add-one n, rows_suc 0 n ops, zero-add n) (simp append_assoc)

pub ruleset rows_turns = (rows_none, rows_more)

-- the first seven numbers of a record are those that its line shows before the kind
row_fields_front : (op : List ℕ) → OP_WIDTH ≡ length op → take 7 op ≡ row_fields (op_of op)
row_fields_front [] h = absurd (omega arith)
row_fields_front (a ∷ []) h = absurd (omega arith)
row_fields_front (a ∷ b ∷ []) h = absurd (omega arith)
row_fields_front (a ∷ b ∷ c ∷ []) h = absurd (omega arith)
row_fields_front (a ∷ b ∷ c ∷ d ∷ []) h = absurd (omega arith)
row_fields_front (a ∷ b ∷ c ∷ d ∷ e ∷ []) h = absurd (omega arith)
row_fields_front (a ∷ b ∷ c ∷ d ∷ e ∷ f ∷ []) h = absurd (omega arith)
row_fields_front (a ∷ b ∷ c ∷ d ∷ e ∷ f ∷ g ∷ rest) h = refl

-- the pieces of a line, one behind the other
pub row_written : (p op : List ℕ) (k : ℕ) → OP_WIDTH ≡ length op
    → (((p ++ (114 ∷ 111 ∷ 119 ∷ [])) ++ fields_text (k ∷ [])) ++ fields_text (take 7 op)) ++ kind_text (get_or op 7 0) ≡ p ++ row_text k op
unfolding row_text
row_written p op k h = rw (row_fields_front op h) (simp append_assoc)

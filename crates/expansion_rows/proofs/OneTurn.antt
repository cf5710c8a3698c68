-- One row's turn as the code takes it: a Set's write and its read, or a read that changes no byte. Assumes nothing.
use mathlib.Core.Path.{◌≡◌, sym, ap, ◌∙◌}
use mathlib.Core.List.{List, ◌++◌, flat_map, append-nil}
use Prim.Native.Nat.{ℕ, ◌+◌, ◌-◌, ◌*◌, ◌≤◌}
use native.Mathlib.Nat.{add-zero}
use native.Mathlib.Omega.{arith}
use lib.ListN.{length, take, drop, length-append}
use borrow.Author.Tests.{eq-eqb, ne_eqb}
use Rattle.lists.proofs.Store.{store_all, run_length, lent_back, part_back, part_length, part_turn}
use Rattle.words.specs.Words.{bit}
use Rattle.call.specs.Calls.{Call}
use Rattle.access.specs.Access.{ACCESS_WIDTH, access_record}
use Rattle.window.specs.Window.{window_of, write_bytes, write_stamps, read_access, write_access, cells_at, memory_access}
use Rattle.window.proofs.WindowLaws.{write_same}
use Rattle.expansion_rows.specs.Turns.{inverted, value_at, turn_bytes, turn_stamps, turn_accesses}

module _ (c : Call) (w : ℕ) (b s : List ℕ) (set : c.kind ≡ 1) where
  pub set_bytes : write_bytes (write_bytes b c.dst w (value_at c w b)) c.src w (value_at c w b) ≡ turn_bytes c w b
  unfolding turn_bytes
  set_bytes = rw (eq-eqb c.kind 1 set)

  pub set_stamps : write_stamps (write_stamps s c.dst w c.stamp) c.src w (c.stamp + 1) ≡ turn_stamps c w s
  unfolding turn_stamps
  set_stamps =
      let e : c.stamp ≡ c.stamp + 1 - 1 = omega arith in
      rw (eq-eqb c.kind 1 set) (ap (λ (t : ℕ). write_stamps (write_stamps s c.dst w t) c.src w (c.stamp + 1)) e)

  pub set_accesses : access_record (write_access (window_of b s) c.dst w (value_at c w b) c.stamp)
      ++ access_record (read_access (window_of b s) c.src w (c.stamp + 1))
      ≡ flat_map access_record (turn_accesses c w (window_of b s))
  unfolding turn_accesses flat_map
  set_accesses =
      let e : c.stamp ≡ c.stamp + 1 - 1 = omega arith in
      let read = access_record (read_access (window_of b s) c.src w (c.stamp + 1)) in
      rw (eq-eqb c.kind 1 set)
      (ap (λ (t : ℕ). access_record (write_access (window_of b s) c.dst w (value_at c w b) t) ++ read) e
      ∙ ap (λ (l : List ℕ). access_record (write_access (window_of b s) c.dst w (value_at c w b) (c.stamp + 1 - 1)) ++ l) (sym (append-nil read)))

module _ (c : Call) (w : ℕ) (b s : List ℕ) (other : c.kind ≡ 1 → ⊥) where
  -- a read leaves the bytes as they are
  pub read_bytes : w ≤ 8 → c.src + w ≤ length b → turn_bytes c w b ≡ b
  unfolding turn_bytes
  read_bytes wide fits = rw (ne_eqb c.kind 1 other) (write_same b c.src w wide fits)

  pub read_stamps : write_stamps s c.src w c.stamp ≡ turn_stamps c w s
  unfolding turn_stamps
  read_stamps = rw (ne_eqb c.kind 1 other) (ap (λ (t : ℕ). write_stamps s c.src w t) (sym (add-zero c.stamp)))

  pub read_accesses : access_record (read_access (window_of b s) c.src w c.stamp) ≡ flat_map access_record (turn_accesses c w (window_of b s))
  unfolding turn_accesses flat_map
  read_accesses =
      rw (ne_eqb c.kind 1 other)
      (ap (λ (t : ℕ). access_record (read_access (window_of b s) c.src w t)) (sym (add-zero c.stamp)) ∙ sym (append-nil _))

-- the two cases of a turn's room
pub set_room : (c : Call) {n : ℕ} → c.kind ≡ 1 → n ≡ ACCESS_WIDTH * (1 + bit (inverted c)) → n ≡ ACCESS_WIDTH * 2
set_room c set e = e ∙ rw (eq-eqb c.kind 1 set)

pub read_room : (c : Call) {n : ℕ} → (c.kind ≡ 1 → ⊥) → n ≡ ACCESS_WIDTH * (1 + bit (inverted c)) → n ≡ ACCESS_WIDTH
read_room c other e = e ∙ rw (ne_eqb c.kind 1 other)

-- a Set's turn, step by step: v and o are read first, b₁ and s₁ are the window once the destination is written
pub set_law : (c : Call) (w : ℕ) (b s : List ℕ) → c.kind ≡ 1
    → {v o x y b₁ s₁ b₂ s₂ accesses : List ℕ} → v ≡ cells_at b c.src w → o ≡ cells_at s c.src w
    → b₁ ≡ write_bytes b c.dst w v → s₁ ≡ write_stamps s c.dst w c.stamp
    → x ≡ access_record (write_access (window_of b s) c.dst w v c.stamp)
    → b₂ ≡ write_bytes b₁ c.src w v → s₂ ≡ write_stamps s₁ c.src w (c.stamp + 1)
    → y ≡ access_record (memory_access c.src v (c.stamp + 1) w 1 v o) → accesses ≡ x ++ y
    → (v ≡ value_at c w b) × ((b₂ ≡ turn_bytes c w b) × ((s₂ ≡ turn_stamps c w s) × (accesses ≡ flat_map access_record (turn_accesses c w (window_of b s)))))
set_law c w b s set ev eo eb₁ es₁ ex eb₂ es₂ ey ea =
    (ev, (cc (set_bytes c w b s set), (cc (set_stamps c w b s set), cc (set_accesses c w b s set))))

-- two parts, lent one after the other, that are the whole
pub two_parts : (l x y : List ℕ) (n m : ℕ) → n ≤ m → length l ≡ m → length x ≡ length (take (n - 0) (drop 0 l))
    → length y ≡ length (take (m - n) (drop n (lent_back l 0 n x))) → lent_back (lent_back l 0 n x) n m y ≡ x ++ y
two_parts l x y n m up long ex ey =
    let t = lent_back l 0 n x in
    let same : length t ≡ length l = part_length l x 0 n (omega arith) (omega arith) ex in
    let nx : length x ≡ n - 0 = ex ∙ run_length l 0 (n - 0) (omega arith) in
    let ny : length y ≡ m - n = ey ∙ run_length t n (m - n) (omega arith) in
    part_back t y n m up (omega arith) ey
    ∙ part_turn l x 0 n (omega arith) (omega arith) ex y
    ∙ store_all l (x ++ y) (rw length-append (omega arith))

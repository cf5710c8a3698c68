-- Lengths: windows after a turn, accesses of a turn and of all turns. Assumes nothing.
use mathlib.Core.Path.{◌≡◌, refl, ap, ◌∙◌}
use mathlib.Core.Bool.{Bool, true, false, cond}
use mathlib.Core.List.{List, [], ◌∷◌, ◌++◌}
use Prim.Native.Nat.{ℕ, suc, ◌+◌, ◌*◌}
use native.Mathlib.Omega.{arith}
use lib.ListN.{length, length-append}
use Rattle.words.specs.Words.{bit}
use Rattle.call.specs.Calls.{Call, Op}
use Rattle.call.specs.Cuts.{rest}
use Rattle.access.specs.Access.{Access}
use Rattle.window.specs.Window.{Window, window_of, write_bytes, write_stamps, read_access, write_access}
use Rattle.window.proofs.WindowLaws.{length_bytes, length_stamps}
use Rattle.expansion_rows.specs.Rows.{Row, rows_by}
use Rattle.expansion_rows.specs.Turns.{inverted, read_stamp, write_stamp, value_at, turn_bytes, turn_stamps, turn_accesses}
use Rattle.expansion_rows.specs.Turns.{row_ops, pass_bytes, pass_stamps, pass_accesses}
use Rattle.expansion_rows.specs.Held.{held_bytes, held_stamps, held_all_bytes, held_all_stamps, held_accesses}

-- One turn

module _ (c : Call) (w : ℕ) where
  pub turn_bytes_length : (bytes : List ℕ) → length (turn_bytes c w bytes) ≡ length bytes
  unfolding turn_bytes
  turn_bytes_length bytes = length_bytes _ _ _ _ ∙ step (inverted c)
    where
      step : (b : Bool) → length (cond b (write_bytes bytes c.dst w (value_at c w bytes)) bytes) ≡ length bytes
      step true = length_bytes bytes c.dst w (value_at c w bytes)
      step false = refl

  pub turn_stamps_length : (stamps : List ℕ) → length (turn_stamps c w stamps) ≡ length stamps
  unfolding turn_stamps
  turn_stamps_length stamps = length_stamps _ _ _ _ ∙ step (inverted c) _
    where
      step : (b : Bool) (t : ℕ) → length (cond b (write_stamps stamps c.dst w t) stamps) ≡ length stamps
      step true t = length_stamps stamps c.dst w t
      step false t = refl

  pub turn_accesses_length : (m : Window) → length (turn_accesses c w m) ≡ 1 + bit (inverted c)
  unfolding turn_accesses
  turn_accesses_length m =
      step (inverted c) (write_access m c.dst w (value_at c w m.bytes) (write_stamp c)) (read_access m c.src w (read_stamp c))
    where
      step : (b : Bool) (x y : Access) → length (cond b (x ∷ []) [] ++ (y ∷ [])) ≡ 1 + bit b
      step true x y = refl
      step false x y = refl

-- All turns

pub row_ops_length : (rs : List Row) (bytes : List ℕ) → length (row_ops rs bytes) ≡ length rs
unfolding row_ops
row_ops_length [] bytes = refl
row_ops_length (r ∷ rs) bytes = ap suc (row_ops_length rs (turn_bytes r.call r.width bytes))

pub pass_bytes_length : (rs : List Row) (bytes : List ℕ) → length (pass_bytes rs bytes) ≡ length bytes
unfolding pass_bytes
pass_bytes_length [] bytes = refl
pass_bytes_length (r ∷ rs) bytes =
    pass_bytes_length rs (turn_bytes r.call r.width bytes) ∙ turn_bytes_length r.call r.width bytes

pub pass_stamps_length : (rs : List Row) (stamps : List ℕ) → length (pass_stamps rs stamps) ≡ length stamps
unfolding pass_stamps
pass_stamps_length [] stamps = refl
pass_stamps_length (r ∷ rs) stamps =
    pass_stamps_length rs (turn_stamps r.call r.width stamps) ∙ turn_stamps_length r.call r.width stamps

-- Deferred writes

pub held_bytes_length : (os : List Op) (bytes : List ℕ) → length (held_all_bytes os bytes) ≡ length bytes
unfolding held_all_bytes
held_bytes_length [] bytes = refl
held_bytes_length (o ∷ os) bytes = held_bytes_length os (held_bytes o bytes) ∙ length_bytes bytes _ _ _

pub held_stamps_length : (os : List Op) (stamps : List ℕ) → length (held_all_stamps os stamps) ≡ length stamps
unfolding held_all_stamps
held_stamps_length [] stamps = refl
held_stamps_length (o ∷ os) stamps = held_stamps_length os (held_stamps o stamps) ∙ length_stamps stamps _ _ _

pub held_accesses_length : (os : List Op) (m : Window) → length (held_accesses os m) ≡ length os
unfolding held_accesses
held_accesses_length [] m = refl
held_accesses_length (o ∷ os) m =
    ap suc (held_accesses_length os (window_of (held_bytes o m.bytes) (held_stamps o m.stamps)))

-- How many accesses the turns of a call's rows have

pub pass_accesses_length : (ws : List ℕ) (c : Call) (f : ℕ) (m : Window)
    → length (pass_accesses (rows_by c f ws) m) ≡ cond (inverted c) (2 * length ws) (length ws)
unfolding rows_by pass_accesses
pass_accesses_length [] c f m = none (inverted c)
  where
    none : (b : Bool) → ◌≡◌ {A = ℕ} 0 (cond b 0 0)
    none true = refl
    none false = refl
pass_accesses_length (w ∷ ws) c f m =
    length-append (turn_accesses c w m) _
    ∙ more (inverted c) (length ws) (turn_accesses_length c w m) (pass_accesses_length ws (rest c w) 0 _)
  where
    more : (b : Bool) (n : ℕ) {x y : ℕ} → x ≡ 1 + bit b → y ≡ cond b (2 * n) n → x + y ≡ cond b (2 * suc n) (suc n)
    more true n e q = omega arith
    more false n e q = omega arith

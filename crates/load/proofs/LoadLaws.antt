-- The laws of a load: the call behind k others is call k, and these are the first k. Assumes nothing.
use mathlib.Core.Path.{◌≡◌, refl, sym, ap, subst₂, ◌∙◌}
use mathlib.Core.List.{List, [], ◌∷◌, ◌++◌, map}
use Prim.Native.Nat.{ℕ, zero, suc, ◌+◌, ◌*◌, ◌<◌}
use native.Mathlib.Nat.{zero-add}
use native.Mathlib.Omega.{arith}
use lib.ListN.{length}
use Rattle.lists.specs.Lists.{sum, listed}
use Rattle.lists.proofs.Listed.{listed_length, listed_more, listed_split, listed_front}
use Rattle.call.specs.Calls.{Call}
use Rattle.load.specs.Load.{GAP, index_at, load_call, load_calls}
use Rattle.load.specs.LoadLaws.{write_count, CallLaws, LoadLaws}

-- The running sum

sum_more : (f : Call → ℕ) (cs : List Call) (c : Call) → sum (map f (cs ++ (c ∷ []))) ≡ sum (map f cs) + f c
sum_more f [] c = omega arith
sum_more f (b ∷ bs) c = omega (arith, sum_more f bs c)

index_is_sum : (s k : ℕ) → index_at s k ≡ sum (map write_count (load_calls s k))
unfolding index_at load_call listed
index_is_sum s zero = refl
index_is_sum s (suc k) =
    let last : load_calls s (suc k) ≡ load_calls s k ++ (load_call s k ∷ []) =
    listed_more (load_call s) 0 k ∙ ap (λ j. load_calls s k ++ (load_call s j ∷ [])) (zero-add k) in
    ap (λ n. n + write_count (load_call s k)) (index_is_sum s k)
    ∙ sym (sum_more write_count (load_calls s k) (load_call s k))
    ∙ ap (λ cs. sum (map write_count cs)) (sym last)

-- Call k

module _ (s k : ℕ) where
  pub call_index : (load_call s k).kind ≡ 2 → (load_call s k).dst ≡ index_at s k
  unfolding load_call
  call_index write = rw write

  pub call_set : (load_call s k).kind ≡ 1 → (load_call s k).dst ≡ (load_call s k).src + GAP
  unfolding load_call
  call_set set = rw set

  pub call_copy : (load_call s k).kind ≡ 0 → (load_call s k).dst < 900
  unfolding load_call
  call_copy copy = rw copy (omega arith)

  pub call_stamp : (load_call s k).stamp ≡ 4 * k
  unfolding load_call
  call_stamp = refl

  pub call_kind : (load_call s k).kind < 3
  unfolding load_call
  call_kind = omega arith

  pub call_count_lem : (load_call s k).count < 33
  unfolding load_call
  call_count_lem = omega arith

  pub call_src : (load_call s k).src < 900
  unfolding load_call
  call_src = omega arith

-- and all that is said of it
call_laws : (s k : ℕ) → CallLaws (load_calls s k) (load_call s k)
call_laws s k =
    record {
      index = λ write. call_index s k write ∙ index_is_sum s k;
      set = call_set s k;
      stamp = call_stamp s k ∙ ap (λ n. 4 * n) (sym (listed_length (load_call s) 0 k));
      kind = call_kind s k;
      count = call_count_lem s k;
      src = call_src s k;
      dst = call_copy s k;
    }

-- A call behind others

each : (s n : ℕ) (earlier later : List Call) (c : Call) → load_calls s n ≡ earlier ++ (c ∷ later) → CallLaws earlier c
each s n earlier later c split =
    let k = length earlier in
    let found = listed_split (load_call s) 0 n earlier later c split in
    let this : load_call s k ≡ c = ap (load_call s) (sym (zero-add k)) ∙ sym found.1 in
    subst₂ CallLaws (sym found.0) this (call_laws s k)

pub laws : LoadLaws
laws = record { wanted = λ s n. listed_length (load_call s) 0 n; each = each; longer = λ s n m. listed_front (load_call s) 0 n m }

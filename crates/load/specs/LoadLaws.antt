-- The load in document 02's own words, beside the definition that computes it. `load_laws_hold` in theorems carries them. Assumes nothing.
use Rattle.std.specs.Prelude.{◌≡◌, List, ◌∷◌, ◌++◌, map, ℕ, ◌+◌, ◌*◌, ◌<◌, length, take}
use Rattle.lists.specs.Lists.{sum}
use Rattle.call.specs.Calls.{Call}
use Rattle.load.specs.Load.{GAP, indexed, load_calls}

-- the count of a Write call, and 0 of another
abbrev pub write_count : Call → ℕ
write_count c = indexed c.kind c.count

-- what is said of a call that stands behind the calls `earlier`
pub record CallLaws (earlier : List Call) (c : Call) : Type 0 where
  -- "Write replaces it by the sum of earlier Write counts": not its own, and none of a Copy or Set
  pub index : c.kind ≡ 2 → c.dst ≡ sum (map write_count earlier)
  -- "Set replaces dst by src + 8"
  pub set : c.kind ≡ 1 → c.dst ≡ c.src + GAP
  -- "Call k, from 0, has stamp 4 × k"
  pub stamp : c.stamp ≡ 4 * length earlier
  -- "kind (mod 3 ..), count (mod 33), src (mod 900), then dst (mod 900)"
  pub kind : c.kind < 3
  pub count : c.count < 33
  pub src : c.src < 900
  pub dst : c.kind ≡ 0 → c.dst < 900

pub record LoadLaws : Type 0 where
  -- as many calls as are wanted
  pub wanted : (s n : ℕ) → length (load_calls s n) ≡ n
  -- however a load is split into earlier calls, a call and later ones
  pub each : (s n : ℕ) (earlier later : List Call) (c : Call) → load_calls s n ≡ earlier ++ (c ∷ later) → CallLaws earlier c
  -- a longer load begins with the shorter one
  pub longer : (s n m : ℕ) → take n (load_calls s (n + m)) ≡ load_calls s n

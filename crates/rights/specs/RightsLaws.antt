-- The rights in document 02's words, over bytes, both ways; `rights_laws_hold` in theorems carries them. Assumes nothing.
use Rattle.std.specs.Prelude.{◌≡◌, ◌⊎◌, ◌↔◌, true, false, List, ℕ, ◌+◌, ◌≤◌, ◌<◌}
use Rattle.lists.specs.Lists.{at}
use Rattle.call.specs.Calls.{Call}
use Rattle.rights.specs.Entries.{PARTY, START, MAY_READ, MAY_WRITE, entry_at, end_of, whole_entries}
use Rattle.rights.specs.Rights.{covered, lacks_right}

-- byte x lies "in an entry of the call's party" that has the right: a whole entry, whatever the others are
pub record May (entries : List ℕ) (party right x : ℕ) : Type 0 where
  pub index : ℕ
  pub whole : index < whole_entries entries
  pub its_party : at (entry_at entries index) PARTY ≡ party
  pub has_right : at (entry_at entries index) right ≡ 1
  pub from : at (entry_at entries index) START ≤ x
  pub below : x < end_of (entry_at entries index)

-- one of the n bytes from a on lies in none
pub record ByteLacks (entries : List ℕ) (party right a n : ℕ) : Type 0 where
  pub byte : ℕ
  pub from : a ≤ byte
  pub below : byte < a + n
  pub none : May entries party right byte → ⊥

-- a byte of the call is without its right: a source byte, or a Copy's or Set's destination byte
abbrev pub CallLacks : Call → ℕ → List ℕ → Type 0
CallLacks c party entries =
    ByteLacks entries party MAY_READ c.src c.count ⊎ ((c.kind ≡ 2 → ⊥) × ByteLacks entries party MAY_WRITE c.dst c.count)

-- each entry of the party in `entries` is, number for number, one of `others`
abbrev pub OwnIn : ℕ → List ℕ → List ℕ → Type 0
OwnIn party entries others =
    (k : ℕ) → k < whole_entries entries → at (entry_at entries k) PARTY ≡ party
    → (j : ℕ) × (j < whole_entries others) × (entry_at others j ≡ entry_at entries k)

pub record RightsLaws : Type 0 where
  -- byte by byte, whatever the order of the entries, and whether or not they overlap
  pub bytes : (entries : List ℕ) (party right a n : ℕ)
      → (covered entries party right a n ≡ true) ↔ ((x : ℕ) → a ≤ x → x < a + n → May entries party right x)
  -- 22 in words
  pub lacks : (c : Call) (party : ℕ) (entries : List ℕ) → (lacks_right c party entries ≡ true) ↔ CallLacks c party entries
  -- "An empty call needs no right."
  pub empty : (c : Call) (party : ℕ) (entries : List ℕ) → c.count ≡ 0 → lacks_right c party entries ≡ false
  -- only the party's own entries matter: where two lists have the same of them, in any order and however often
  pub own_only : (c : Call) (party : ℕ) (entries others : List ℕ) → OwnIn party entries others → OwnIn party others entries
      → lacks_right c party entries ≡ lacks_right c party others

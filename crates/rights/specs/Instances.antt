-- Entries computed over the definitions, so that nothing in the laws is empty. `rights_laws_hold` in theorems carries them. Assumes nothing.
use Rattle.std.specs.Prelude.{◌≡◌, true, false, List, [], ◌∷◌, ◌++◌, ℕ, ◌-◌, ◌^◌, replicate, Ok, Err}
use Rattle.call.specs.Calls.{Call}
use Rattle.rights.specs.Entries.{MAY_READ, MAY_WRITE}
use Rattle.rights.specs.Rights.{covered, lacks_right}
use Rattle.rights.specs.Inner.{claim_answer}
use Rattle.rights.specs.declared.ClaimRefusal.TheVariants.{BadEntries, BadField}

-- an entry of a party over some bytes
abbrev pub entry : (party start length read write : ℕ) → List ℕ
entry party start length read write = party ∷ start ∷ length ∷ read ∷ write ∷ []

-- party 3 may read 0 to 4 and 5 to 9, told in two entries that touch, the upper one first, and write 6 to 9; party 4 may do all
abbrev pub shared : List ℕ
shared = entry 3 5 5 1 0 ++ (entry 4 0 10 1 1 ++ (entry 3 0 5 1 0 ++ entry 3 6 4 0 1))

-- a call of this kind from 0 to 6
abbrev pub call_of : (kind count : ℕ) → Call
call_of kind count = record { kind = kind; stamp = 4; src = 0; dst = 6; count = count }

pub record Instances : Type 0 where
  -- no one entry holds the ten bytes
  pub touching : covered shared 3 MAY_READ 0 10 ≡ true
  pub one_short : covered shared 3 MAY_READ 0 11 ≡ false
  -- the byte between 4 and 6 lacks the right to write, and so does another party's
  pub gap : covered shared 3 MAY_WRITE 5 2 ≡ false
  pub other_party : covered shared 5 MAY_READ 0 1 ≡ false
  -- a Copy of four bytes to 6 has its rights; one of five lacks one; a Write's destination is no byte
  pub copy : lacks_right (call_of 0 4) 3 shared ≡ false
  pub copy_past : lacks_right (call_of 0 5) 3 shared ≡ true
  pub write : lacks_right (call_of 2 5) 3 shared ≡ false
  pub write_source : lacks_right (call_of 2 11) 3 shared ≡ true
  -- accepted, and what is refused: 16 entries and one number, an entry one past the window, a sum that would wrap; 21 before 10
  pub good : claim_answer 3 shared 10 ≡ Ok tt
  pub seventeen : claim_answer 3 (replicate 81 0) 10 ≡ Err BadEntries
  pub sixteen : claim_answer 3 (replicate 80 0) 10 ≡ Ok tt
  pub past : claim_answer 3 shared 9 ≡ Err BadEntries
  pub wrapped : claim_answer 3 (entry 3 (2 ^ 64 - 1) 2 1 1) 10 ≡ Err BadEntries
  pub first_21 : claim_answer 16 (entry 99 0 11 2 2) 10 ≡ Err BadEntries
  -- 10: the own party before an entry; a party, a right, a cut entry, which is not judged by its end
  pub own_party : claim_answer 16 (entry 16 0 1 1 1) 10 ≡ Err (BadField 0)
  pub entry_party : claim_answer 3 (entry 3 0 1 1 1 ++ entry 16 0 1 1 1) 10 ≡ Err (BadField 1)
  pub read_two : claim_answer 3 (entry 3 0 1 1 1 ++ entry 4 0 1 2 1) 10 ≡ Err (BadField 1)
  pub write_two : claim_answer 3 (entry 3 0 1 1 1 ++ entry 4 0 1 1 2) 10 ≡ Err (BadField 1)
  pub cut : claim_answer 3 (entry 3 0 1 1 1 ++ (3 ∷ 0 ∷ 99 ∷ 1 ∷ [])) 10 ≡ Err (BadField 1)

-- Small lists and their lookups, computed over the definitions. `lookup_laws_hold` in theorems carries them. Assumes nothing.
use Rattle.std.specs.Prelude.{◌≡◌, List, [], ◌∷◌, ◌++◌, ℕ, ◌+◌, ◌^◌, take, drop, replicate, Ok, Err}
use Rattle.answer.specs.Numbers.{accepted, refused}
use Rattle.access.specs.Access.{access_record}
use Rattle.access.specs.RegisterAccess.{register_access}
use Rattle.routing.specs.Routing.{three, routed, route_answer}
use Rattle.lookups.specs.Lookups.{lookup_answer, lookups_after, lookup_numbers}
use Rattle.routing.specs.declared.RouteRefusal.TheVariants.{TooManyRecords, BadRecord, BadAddress, BufferShort}

-- Records

-- a read at `timestamp` of the register at an address, whose words were written at `old`
abbrev pub read_over : ℕ → ℕ → ℕ → List ℕ
read_over address timestamp old = access_record (register_access address (7 ∷ 0 ∷ []) (7 ∷ 0 ∷ []) timestamp old 1)

-- a read of eight bytes of memory, written together: aligned at a multiple of 8, else general
abbrev pub memory_at : ℕ → List ℕ
memory_at address =
    access_record (record {
      is_register = 0;
      address = address;
      value = replicate 8 5;
      timestamp = 9;
      width = 8;
      is_read = 1;
      old = replicate 8 5;
      old_timestamps = replicate 8 3;
    })

-- Lists

-- three register accesses, an aligned and a general one between them
abbrev pub mixed : List ℕ
mixed = memory_at 16 ++ read_over 20 65537 1 ++ read_over 22 2 1 ++ memory_at 17 ++ read_over 24 (2 ^ 32 + 258) (2 ^ 32)

-- a register access at an odd address, and a cut record behind it
abbrev pub odd_and_cut : List ℕ
odd_and_cut = read_over 21 2 1 ++ (1 ∷ [])

-- a register access at an odd address, one of whose value words has 33 bits
abbrev pub odd_and_wide : List ℕ
odd_and_wide = take 2 (read_over 21 2 1) ++ ((2 ^ 32) ∷ drop 3 (read_over 21 2 1))

-- seven numbers of 9 with the pairs of `mixed` in them
abbrev pub mixed_pairs : List ℕ
mixed_pairs = lookups_after mixed (lookup_answer 5 mixed 7) (replicate 7 9)

pub record Instances : Type 0 where
  -- 65,537 over 1, 2 over 1 and 2^32 + 258 over 2^32: a pair each, and the number past them stays
  pub pairs : mixed_pairs ≡ 255 ∷ 255 ∷ 0 ∷ 0 ∷ 1 ∷ 1 ∷ 9 ∷ []
  pub served : lookup_answer 5 mixed 7 ≡ Ok 3
  -- routing of the same list refuses nothing, so that the laws beside it are about something
  pub routes : route_answer 5 mixed (three 24 29 29) ≡ routed (three 3 1 1)
  -- six numbers are room enough, five are not, and a refusal writes nothing
  pub just_enough : lookup_answer 5 mixed 6 ≡ Ok 3
  pub short : lookup_answer 5 mixed 5 ≡ Err BufferShort
  pub kept : lookups_after mixed (lookup_answer 5 mixed 5) (replicate 5 9) ≡ replicate 5 9
  -- five records are too many for four, whatever the room; a cut one counts, and 8 comes before its 10
  pub over : lookup_answer 4 mixed 0 ≡ Err TooManyRecords
  pub cut_over : lookup_answer 5 (mixed ++ (1 ∷ [])) 7 ≡ Err TooManyRecords
  -- a cut record is 10; 11 of a record before it comes first, and both before 9
  pub cut : lookup_answer 6 (mixed ++ (1 ∷ [])) 0 ≡ Err (BadRecord 5)
  pub misplaced : lookup_answer 6 odd_and_cut 0 ≡ Err (BadAddress 0)
  pub later : lookup_answer 7 (mixed ++ odd_and_cut) 0 ≡ Err (BadAddress 5)
  -- 10 comes before 11 in one record
  pub ten_first : lookup_answer 6 odd_and_wide 7 ≡ Err (BadRecord 0)
  -- without a register record no number is wanted, nor without any
  pub no_register : lookup_answer 6 (memory_at 16 ++ memory_at 17) 0 ≡ Ok 0
  pub no_record : lookup_answer 6 [] 0 ≡ Ok 0
  -- the numbers of the refusals, that of 8 as it is given
  pub eight : lookup_numbers 8 (Err TooManyRecords) ≡ refused 8 0
  pub ten : lookup_numbers 8 (Err (BadRecord 5)) ≡ refused 10 5
  pub eleven : lookup_numbers 8 (Err (BadAddress 5)) ≡ refused 11 5
  pub nine : lookup_numbers 8 (Err BufferShort) ≡ refused 9 0
  pub three_pairs : lookup_numbers 8 (Ok 3) ≡ accepted 3

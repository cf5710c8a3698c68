-- What is told of a party and the entries before any byte is asked about, and when their ends fit 64 bits: cited by the contracts of inner
-- functions alone. Assumes nothing.
use Rattle.std.specs.Prelude.{ℕ, ◌^◌, ◌<◌, cond, List, Result, Ok, Err}
use Rattle.rights.specs.Entries.{entry_at, end_of, whole_entries, bad_entries, bad_party, first_bad_entry, has_bad_entry}
use Rattle.rights.specs.declared.ClaimRefusal.{ClaimRefusal}
use Rattle.rights.specs.declared.ClaimRefusal.TheVariants.{BadEntries, BadField}

unfoldable pub claim_answer : ℕ → List ℕ → ℕ → Result (Unit {0}) ClaimRefusal
claim_answer party entries cells =
    cond (bad_entries entries cells) (Err BadEntries)
    (cond (bad_party party) (Err (BadField 0)) (cond (has_bad_entry entries) (Err (BadField (first_bad_entry entries))) (Ok tt)))

abbrev pub EndsFit : List ℕ → Type 0
EndsFit entries = (k : ℕ) → k < whole_entries entries → end_of (entry_at entries k) < 2 ^ 64

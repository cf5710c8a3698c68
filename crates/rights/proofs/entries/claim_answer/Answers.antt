-- `rights::entries::claim_answer` meets its contract: each return is a case of the answer. Assumes nothing.
use mathlib.Core.Path.{◌≡◌, sym, ap, ◌∙◌}
use mathlib.Core.Bool.{false}
use mathlib.Core.List.{List}
use Rattle.std.specs.Prelude.{Err}
use Prim.Native.Nat.{ℕ, ◌≤◌}
use native.Mathlib.Omega.{arith}
use Rattle.rights.specs.Entries.{MOST_ENTRIES, entry_count, past_window}
use Rattle.rights.specs.declared.ClaimRefusal.TheVariants.{BadField}
use Rattle.rights.proofs.EntryLaws.{answer_many, answer_past, answer_party, answer_entry, answer_good}
use Rattle.rights.proofs.entries.claim_answer.Goals as goal

pub returns-then-n-gt-MOST_ENTRIES : goal.returns-then-n-gt-MOST_ENTRIES
returns-then-n-gt-MOST_ENTRIES c =
    let a = c.args in
    answer_many a.party a.entries.now a.cells (omega (arith, c.record_count-n.ensures))

pub returns-then-past_window : goal.returns-then-past_window
returns-then-past_window c =
    let party : ℕ = c.args.party in
    let entries : List ℕ = c.args.entries.now in
    let cells : ℕ = c.args.cells in
    let count : c.record_count-n.result ≡ entry_count entries = c.record_count-n.ensures in
    let few : entry_count entries ≤ MOST_ENTRIES = omega (arith, count) in
    answer_past party entries cells few (sym c.past_window.ensures ∙ c.if-past_window.true)

pub returns-then-party-gt-LAST_PARTY : goal.returns-then-party-gt-LAST_PARTY
returns-then-party-gt-LAST_PARTY c =
    let party : ℕ = c.args.party in
    let entries : List ℕ = c.args.entries.now in
    let cells : ℕ = c.args.cells in
    let count : c.record_count-n.result ≡ entry_count entries = c.record_count-n.ensures in
    let few : entry_count entries ≤ MOST_ENTRIES = omega (arith, count) in
    let inside : past_window entries cells ≡ false = sym c.past_window.ensures ∙ c.if-past_window.false in
    answer_party party entries cells few inside (omega arith)

pub returns-then-bad-n : goal.returns-then-bad-n
returns-then-bad-n c =
    let party : ℕ = c.args.party in
    let entries : List ℕ = c.args.entries.now in
    let cells : ℕ = c.args.cells in
    let count : c.record_count-n.result ≡ entry_count entries = c.record_count-n.ensures in
    let few : entry_count entries ≤ MOST_ENTRIES = omega (arith, count) in
    let inside : past_window entries cells ≡ false = sym c.past_window.ensures ∙ c.if-past_window.false in
    let bad = c.first_bad_entry-bad.ensures in
    ap (λ (k : ℕ). Err (BadField k)) bad ∙ answer_entry party entries cells few inside (omega arith) (omega (arith, bad, count))

pub returns : goal.returns
returns c =
    let party : ℕ = c.args.party in
    let entries : List ℕ = c.args.entries.now in
    let cells : ℕ = c.args.cells in
    let count : c.record_count-n.result ≡ entry_count entries = c.record_count-n.ensures in
    let few : entry_count entries ≤ MOST_ENTRIES = omega (arith, count) in
    let inside : past_window entries cells ≡ false = sym c.past_window.ensures ∙ c.if-past_window.false in
    let bad = c.first_bad_entry-bad.ensures in
    answer_good party entries cells few inside (omega arith) (omega (arith, bad, count))

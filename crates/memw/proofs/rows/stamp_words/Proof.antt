-- `memw::rows::stamp_words` meets its contract: the words of each stamp in turn. Assumes nothing.
use borrow.Author.Rules.{rules}
use mathlib.Core.Path.{◌≡◌}
use mathlib.Core.List.{List, ◌++◌}
use Prim.Native.Nat.{ℕ}
use Rattle.lists.specs.Lists.{at}
use Rattle.lists.proofs.Numbers.{numbers_at}
use Rattle.words.specs.Words.{words}
use Rattle.memw.specs.Rows.{stamp_words}
use Rattle.memw.proofs.rows.stamp_words.Statement.{statement}
use Rattle.memw.proofs.rows.stamp_words.Tie as tie

-- the words of each stamp, joined
words_of : (stamps : List ℕ) {a b c d e f g h : List ℕ}
    → a ≡ words (at stamps 0) → b ≡ words (at stamps 1) → c ≡ words (at stamps 2) → d ≡ words (at stamps 3)
    → e ≡ words (at stamps 4) → f ≡ words (at stamps 5) → g ≡ words (at stamps 6) → h ≡ words (at stamps 7)
    → numbers_at a 0 2 ++ numbers_at b 0 2 ++ numbers_at c 0 2 ++ numbers_at d 0 2 ++ numbers_at e 0 2 ++ numbers_at f 0 2 ++ numbers_at g 0 2
    ++ numbers_at h 0 2
    ≡ stamp_words stamps
words_of stamps i j k l m n o p = rw (i, j, k, l, m, n, o, p)

returns : tie.Need-returns
returns c =
    let at_words6 = c.before.before in
    let at_fifth = at_words6.before in
    let at_third = at_fifth.before.before in
    let at_first = at_third.before.before in
    words_of
    at_first.before.args.stamps
    at_first.words-a.ensures
    at_third.before.words-b.ensures
    at_third.words-c.ensures
    at_fifth.before.words-d.ensures
    at_fifth.words-e.ensures
    at_words6.words-f.ensures
    c.before.words-g.ensures
    c.words-h.ensures

pub stamp_words_spec : {M : Type 1} → statement M
stamp_words_spec =
    tie.close
    (tie.spec
    (λ c. search rules) (λ c κs. search rules) (λ c. search rules) (λ c κs. search rules) (λ c. search rules)
    (λ c κs. search rules) (λ c. search rules) (λ c κs. search rules) (λ c. search rules) (λ c κs. search rules)
    (λ c. search rules) (λ c κs. search rules) (λ c. search rules) (λ c κs. search rules) (λ c. search rules)
    (λ c κs. search rules) (λ c. search rules) (λ c. search rules) (λ c. search rules) (λ c. search rules)
    (λ c. search rules) (λ c. search rules) (λ c. search rules) (λ c. search rules) (λ c. search rules)
    (λ c. search rules) (λ c. search rules) (λ c. search rules) (λ c. search rules) (λ c. search rules)
    (λ c. search rules) (λ c. search rules)
    returns)

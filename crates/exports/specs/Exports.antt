-- Answers and lent arrays of exported functions in the form that they have on the other side of the C boundary. Document 01: "callable
-- from the Rust harness, on numbers and slices". Assumes nothing.
use Rattle.std.specs.Prelude.{◌≡◌, ℕ, cond, List, [], ◌∷◌, eqb, length}
use Rattle.answer.specs.Numbers.{accepted, refused}
use Rattle.answer.specs.declared.Answer.{Answer}
use Rattle.records.specs.Records.{LIMIT, record_count}
use Rattle.access.specs.Access.{ACCESS_WIDTH}
use Rattle.routing.specs.Routing.{Lists, rooms_of, route_answer, route_numbers, RouteDone}
use Rattle.routing.specs.declared.RouteNumbers.{RouteNumbers}
use Rattle.read_back.specs.ReadBack.{read_back_answer, ReadBackNumbers, read_back_numbers, ReadDone}
use Rattle.read_back.specs.ReadBack.{counts_after as readCounts}

-- Routing

-- the numbers of routing's answer, for three lent lists
abbrev pub flat_route_numbers : List ℕ → Lists → RouteNumbers
flat_route_numbers l before = route_numbers 8 (route_answer LIMIT l (rooms_of before))

-- the answer in three numbers: so many records were read, or the refusal
abbrev pub routed_numbers : ℕ → RouteNumbers → Answer
routed_numbers records n = cond (eqb n.number 0) (accepted records) (refused n.number n.place)

-- the three counts afterwards: a refusal writes nothing
abbrev pub routed_counts : RouteNumbers → List ℕ → List ℕ
routed_counts n counts = cond (eqb n.number 0) (n.register ∷ n.aligned ∷ n.general ∷ []) counts

-- what the function has to show: its answer, the three lists and the counts when it is done
pub record FlatRouted (l : List ℕ) (before : Lists) (counts : List ℕ) (r : Answer) (after : Lists) (counts_later : List ℕ) : Type 0 where
  pub routed : RouteDone LIMIT 8 l before (flat_route_numbers l before) after
  pub answer : r ≡ routed_numbers (record_count ACCESS_WIDTH l) (flat_route_numbers l before)
  pub counted : counts_later ≡ routed_counts (flat_route_numbers l before) counts

-- Read-back

abbrev pub flat_read_numbers : ℕ → List ℕ → List ℕ → List ℕ → ReadBackNumbers
flat_read_numbers gap l ops calls = read_back_numbers (read_back_answer gap l (length ops) (length calls))

-- what the function has to show: its answer, the two buffers and the counts when it is done
pub record FlatRead (gap : ℕ) (l ops calls counts : List ℕ) (r : Answer) (ops_later calls_later counts_later : List ℕ) : Type 0 where
  pub read : ReadDone gap l ops calls (flat_read_numbers gap l ops calls) ops_later calls_later
  pub answer : r ≡ (flat_read_numbers gap l ops calls).answer
  pub counted : counts_later ≡ readCounts (flat_read_numbers gap l ops calls) counts

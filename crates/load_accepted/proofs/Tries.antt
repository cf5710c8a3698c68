-- Calls that are accepted wherever the slices are long enough: none of them is passed over, and in turn over one window each finds
-- slices that are. Assumes nothing.
use mathlib.Core.Path.{◌≡◌, refl, ap, ◌∙◌}
use mathlib.Core.List.{List, [], ◌∷◌, map, flat_map, ◌++◌}
use native.Mathlib.Omega.{arith}
use borrow.Author.Tests.{eq-eqb}
use Rattle.answer.specs.declared.Answer.{Answer}
use Rattle.lists.specs.Lists.{All}
use Rattle.call.specs.Calls.{Call}
use Rattle.call.specs.Flat.{call_numbers}
use Rattle.expansion.specs.Tries.{Setting, Lent, Lengths, Try, try_of}
use Rattle.expansion.specs.Refusals.{answered, Accepts}
use Rattle.calls_in_turn.specs.Accepted.{accepted_of}
use Rattle.calls_in_turn.specs.InTurn.{leaves, tries_of}
use Rattle.calls_in_turn.proofs.Written.{leaves_lengths}
use Rattle.load_accepted.specs.LoadAccepted.{load_setting, LongEnough, Welcome, LongForAll}
use Rattle.load_accepted.proofs.Calls.{long_enough}

-- Tries that are all accepted

pub all_accepted : (tries : List Try) → All (Accepts load_setting) tries → accepted_of load_setting tries ≡ tries
all_accepted [] h = refl
all_accepted (t ∷ tries) h = rw (eq-eqb (answered load_setting t).number 0 h.0) (ap (λ ts. t ∷ ts) (all_accepted tries h.1))

pub tries_welcome : (tries : List Try) → All Welcome (map (λ (t : Try). t.call) tries) → All LongEnough tries → All (Accepts load_setting) tries
tries_welcome [] w long = tt
tries_welcome (t ∷ tries) w long =
    (ap (λ (a : Answer). a.number) (w.0 t.slices long.0), tries_welcome tries w.1 long.1)

pub calls_of_tries : (tries : List Try) → flat_map (λ (t : Try). call_numbers t.call) tries ≡ flat_map call_numbers (map (λ (t : Try). t.call) tries)
unfolding flat_map
calls_of_tries [] = refl
calls_of_tries (t ∷ tries) = ap (λ l. call_numbers t.call ++ l) (calls_of_tries tries)

-- In turn

pub calls_in_turn : (s : Setting) (cs : List Call) (l : Lent) → map (λ (t : Try). t.call) (tries_of s cs l) ≡ cs
unfolding tries_of
calls_in_turn s [] l = refl
calls_in_turn s (c ∷ cs) l = ap (λ ds. c ∷ ds) (calls_in_turn s cs (leaves s (try_of c l)))

-- room for the first of several
first_long : (c : Call) (cs : List Call) (l : Lent) → LongForAll (c ∷ cs) l → LongEnough (try_of c l)
first_long c cs l long = long_enough c l long.window (omega (arith, long.ops)) long.accesses.0

-- and for the others in what it leaves
rest_long : (c : Call) (cs : List Call) (l : Lent) → Welcome c → LongForAll (c ∷ cs) l → LongForAll cs (leaves load_setting (try_of c l))
rest_long c cs l welcome long =
    let t = try_of c l in
    let left = leaves_lengths load_setting t in
    let value = ap (λ (a : Answer). a.value) (welcome l (first_long c cs l long)) in
    let cells = ap (λ (n : Lengths). n.cells) left in
    let stamped = ap (λ (n : Lengths). n.stamped) left in
    let ops = ap (λ (n : Lengths). n.ops) left in
    let accesses = ap (λ (n : Lengths). n.accesses) left in
    record {
      window = record { cells = cells ∙ long.window.cells; stamped = stamped ∙ long.window.stamped };
      ops = omega (arith, ops, value, long.ops);
      accesses = rw accesses long.accesses.1;
    }

pub turns_long : (cs : List Call) (l : Lent) → All Welcome cs → LongForAll cs l → All LongEnough (tries_of load_setting cs l)
unfolding tries_of
turns_long [] l w long = tt
turns_long (c ∷ cs) l w long =
    (first_long c cs l long, turns_long cs (leaves load_setting (try_of c l)) w.1 (rest_long c cs l w.0 long))

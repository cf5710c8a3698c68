-- The loop of `replay::numbers_of`: no more numbers are stored than out has room for.
use Rattle.std.proofs.Common.{◌≤◌, length}
use Rattle.replay.proofs.numbers_of.Given as goal

abbrev pub invariant-loop-digits : goal.invariant-loop-digits
invariant-loop-digits l = l.count ≤ length l.out

-- Draws from a state on, and the call that they make: cited by the contracts of inner functions alone. Assumes nothing.
use Rattle.std.specs.Prelude.{ℕ}
use Rattle.call.specs.Calls.{Call}
use Rattle.load.specs.Load.{state_after, kind_drawn, count_drawn, src_drawn, dst_drawn, replaced}
use Rattle.load.specs.declared.draws.Load.{Load}

-- the load after n draws more
abbrev pub stepped_by : Load → ℕ → Load
stepped_by l n = record { state = state_after l.state n; index = l.index }

-- the call with this index and stamp that the first draws from a state on make
abbrev pub drawn_call : (state index stamp : ℕ) → Call
drawn_call state index stamp =
    record {
      kind = kind_drawn state 0;
      stamp = stamp;
      src = src_drawn state 0;
      dst = replaced (kind_drawn state 0) (src_drawn state 0) (dst_drawn state 0) index;
      count = count_drawn state 0;
    }

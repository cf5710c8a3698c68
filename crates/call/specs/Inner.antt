-- The call as the code's struct holds it: cited by the contracts of inner functions alone. Assumes nothing.
use Rattle.call.specs.Calls.{Call}
use Rattle.call.specs.declared.CopyCall.{CopyCall}

abbrev pub call_of : CopyCall → Call
call_of c = record { kind = c.kind; stamp = c.timestamp; src = c.src; dst = c.dst; count = c.count }

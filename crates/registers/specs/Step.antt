-- The register step of a call, `collect_copy_register_ops`, and a new state. Document 01: "Register step: `collect_copy_register_ops`;
-- index register at 508, stack top an input. Its four access records are in the answer itself, all zero if refused." and "The Rust
-- stamps registers before it errs; here the state returns unchanged." Values come from the call, never from the registers.
-- Assumes nothing.
use Rattle.std.specs.Prelude.{ℕ, ◌+◌, ◌-◌, ◌*◌, ◌^◌, cond, not, List, ◌++◌, eqb, ltb, set, replicate, Result, Ok, Err}
use Rattle.answer.specs.Numbers.{accepted, refused}
use Rattle.answer.specs.declared.Answer.{Answer}
use Rattle.lists.specs.Lists.{at}
use Rattle.words.specs.Words.{words}
use Rattle.call.specs.declared.Functionality.{Functionality}
use Rattle.call.specs.declared.Functionality.TheVariants.{Copy, Set, Write}
use Rattle.access.specs.Access.{ACCESS_WIDTH, access_record}
use Rattle.access.specs.RegisterAccess.{register_access}
use Rattle.registers.specs.declared.RegisterState.{RegisterState}
use Rattle.registers.specs.declared.RegisterStep.{RegisterStep}
use Rattle.registers.specs.declared.StepRefusal.{StepRefusal}
use Rattle.registers.specs.declared.StepRefusal.TheVariants.{NotCommitIndex, PastIndex, NotStdout}

-- The state

-- every register 0 since stamp 1, the stack pointer x2 at the stack top, the commit index 0, the program counter at the entry point
abbrev pub new_state : ℕ → ℕ → RegisterState
new_state entry top =
    record {
      values = set (replicate 32 0) 2 top;
      stamps = replicate 32 1;
      index = 0;
      index_stamp = 1;
      pc = entry;
      pc_stamp = 1;
    }

-- register r gets a value at a stamp
abbrev pub wrote : ℕ → ℕ → ℕ → RegisterState → RegisterState
wrote r value stamp s =
    record {
      values = set s.values r value;
      stamps = set s.stamps r stamp;
      index = s.index;
      index_stamp = s.index_stamp;
      pc = s.pc;
      pc_stamp = s.pc_stamp;
    }

-- the commit index gets a value at a stamp
abbrev pub wrote_index : ℕ → ℕ → RegisterState → RegisterState
wrote_index value stamp s =
    record {
      values = s.values;
      stamps = s.stamps;
      index = value;
      index_stamp = stamp;
      pc = s.pc;
      pc_stamp = s.pc_stamp;
    }

-- The answer

-- document 01's number and place of each refusal, and with the value those of an answer: the number of accesses, or a refusal
abbrev pub step_refusal_numbers : StepRefusal → Answer
step_refusal_numbers NotCommitIndex = refused 4 0
step_refusal_numbers PastIndex = refused 5 0
step_refusal_numbers NotStdout = refused 6 0

abbrev pub step_numbers : Result ℕ StepRefusal → Answer
step_numbers (Ok records) = accepted records
step_numbers (Err why) = step_refusal_numbers why

-- What a step does

-- the record of the access at `stamp` of the register at `address`, which held `old` since `oldStamp`; every access of a step is a read
abbrev pub accessed : ℕ → ℕ → ℕ → ℕ → ℕ → List ℕ
accessed address value old stamp old_stamp = access_record (register_access address (words value) (words old) stamp old_stamp 1)

-- register r is read, and taken to hold `value`
abbrev pub read_back : ℕ → ℕ → ℕ → RegisterState → List ℕ
read_back r value stamp s = accessed (2 * r) value value stamp (at s.stamps r)

-- a Copy or a Set reads x11, x12 and x10; the fourth record is zero
abbrev pub copied : ℕ → ℕ → ℕ → ℕ → RegisterState → RegisterStep
copied stamp src dst count s =
    record {
      answer = Ok 3;
      state = wrote 10 dst stamp (wrote 12 count stamp (wrote 11 src stamp s));
      records =
          read_back 11 src stamp s ++ (read_back 12 count stamp s ++ (read_back 10 dst stamp s ++ replicate ACCESS_WIDTH 0));
    }

-- a Write reads x11 and x12, advances the commit index from dst to dst + count, and gets the count for the 1 in x10
abbrev pub committed : ℕ → ℕ → ℕ → ℕ → RegisterState → RegisterStep
committed stamp src dst count s =
    record {
      answer = Ok 4;
      state = wrote 10 count stamp (wrote_index (dst + count) stamp (wrote 12 count stamp (wrote 11 src stamp s)));
      records =
          read_back 11 src stamp s
          ++ (read_back 12 count stamp s
          ++ (accessed 508 (dst + count) dst stamp s.index_stamp ++ accessed 20 count 1 stamp (at s.stamps 10)));
    }

-- a step that is refused: the state as it came, and four zero records
abbrev pub step_refused : StepRefusal → RegisterState → RegisterStep
step_refused why s = record { answer = Err why; state = s; records = replicate (4 * ACCESS_WIDTH) 0 }

-- The whole answer: refusals 4, 5 and 6, in this order and of a Write only. Sums are plain.
unfoldable pub register_step : Functionality → ℕ → ℕ → ℕ → ℕ → RegisterState → RegisterStep
register_step Copy stamp src dst count s = copied stamp src dst count s
register_step Set stamp src dst count s = copied stamp src dst count s
register_step Write stamp src dst count s =
    cond (not (eqb dst s.index)) (step_refused NotCommitIndex s)
    (cond (ltb (2 ^ 32 - 1) (dst + count)) (step_refused PastIndex s)
    (cond (not (eqb (at s.values 10) 1)) (step_refused NotStdout s)
    (committed stamp src dst count s)))

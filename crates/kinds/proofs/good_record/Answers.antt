-- `kinds::good_record` meets its contract, kind by kind. Assumes nothing.
use Rattle.kinds.proofs.good_record.Goals as goal

pub returns-in-Operation : goal.returns-in-Operation
returns-in-Operation c = rw c.in-Operation.is c.good_op.ensures

pub returns-in-Access : goal.returns-in-Access
returns-in-Access c = rw c.in-Access.is c.good_access.ensures

pub returns-in-Register : goal.returns-in-Register
returns-in-Register c = rw c.in-Register.is c.good_register.ensures

pub returns-in-Call : goal.returns-in-Call
returns-in-Call c = rw c.in-Call.is c.good_call.ensures

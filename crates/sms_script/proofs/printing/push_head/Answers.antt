use Rattle.std.proofs.Common.{append_assoc, rules}
use Rattle.sms_script.proofs.printing.push_head.Goals as goal

-- the reply is that of an allocated data set
pub returns-in-Granted : goal.returns-in-Granted
returns-in-Granted c = rw c.in-Granted.is (search (rules, append_assoc))

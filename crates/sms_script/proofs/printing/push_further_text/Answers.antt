use Rattle.sms_script.proofs.printing.push_further_text.Goals as goal

-- the data set and the trace are those of the reply
pub returns-in-Granted : goal.returns-in-Granted
returns-in-Granted c = rw (c.in-Granted.is, ← c.get.ensures, ← c.get-in-Granted.ensures) c.push_granted_text.ensures

use Rattle.acs_run.proofs.memo.Memo.learn_last.Goals as goal

pub returns-in-None : goal.returns-in-None
returns-in-None c = λ filters knows. record { whole = knows.whole; first = knows.first; last = c.last_qualifier.ensures; names = knows.names; firsts = knows.firsts }

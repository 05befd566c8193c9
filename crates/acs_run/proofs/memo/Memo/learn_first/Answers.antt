use Rattle.acs_run.proofs.memo.Memo.learn_first.Goals as goal

pub returns-in-None : goal.returns-in-None
returns-in-None c = λ filters knows. record { whole = knows.whole; first = c.qualifier.ensures; last = knows.last; names = knows.names; firsts = knows.firsts }

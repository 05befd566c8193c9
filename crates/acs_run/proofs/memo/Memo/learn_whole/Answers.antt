use Rattle.acs_run.proofs.memo.Memo.learn_whole.Goals as goal

pub returns-in-None : goal.returns-in-None
returns-in-None c = λ filters knows. record { whole = c.text.ensures; first = knows.first; last = knows.last; names = knows.names; firsts = knows.firsts }

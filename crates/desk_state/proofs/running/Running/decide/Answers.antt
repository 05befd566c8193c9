use Rattle.desk_state.proofs.DecideLemmas.{answers-decided, old-anywhere}
use Rattle.desk_state.proofs.OkLemmas.{on-ok}
use Rattle.desk_state.proofs.running.Running.decide.Goals as goal

pub returns-clause-decided : goal.returns-clause-decided
returns-clause-decided c = on-ok _ _ c.decide_op.result
    (λ made answers s floors lawful is old. answers-decided floors s c.decide_op.new.self c.args.request.now made c.requires.sound (answers s floors lawful is old))
    c.decide_op.ensures.answers

pub returns-clause-fits : goal.returns-clause-fits
returns-clause-fits c = on-ok _ _ c.decide_op.result
    (λ made answers s lawful is. (answers s (λ job. c.args.old) lawful is (old-anywhere c.args.request.now.op c.args.old)).fits)
    c.decide_op.ensures.answers

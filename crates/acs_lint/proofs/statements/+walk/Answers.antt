use Rattle.std.proofs.Common.{map}
use Rattle.std.proofs.lemmas.Result.{on_ok_weaker}
use Rattle.acs_lint.proofs.StatementLemmas.{pick_statements}
use Rattle.acs_lint.proofs.statements.+walk.Goals as goal

pub push_statement-returns-in_ok-push_whens-in-Pick : goal.push_statement-returns-in_ok-push_whens-in-Pick
push_statement-returns-in_ok-push_whens-in-Pick t c =
    on_ok_weaker _ (pick_statements c.args.current.now c.in-Pick.subject c.in-Pick.whens c.in-Pick.otherwise (map (λ statement. statement.now) c.args.all.now.items) c.in-Pick.is c.as_slice.ensures c.in_ok-push_one.ensures c.in_ok-push_whens-in-Pick.ensures) c.push_other-in-Pick.ensures

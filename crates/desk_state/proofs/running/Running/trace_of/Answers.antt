use Rattle.std.proofs.Common.{◌≡◌, refl, subst, sym}
use Rattle.std.specs.Prelude.{IfOk}
use Rattle.acs_tree.specs.Slates.{SlateLines}
use Rattle.sms_construct.specs.declared.trace.Trace.{Trace}
use Rattle.desk_state.proofs.StandLemmas.{with-room}
use Rattle.desk_state.proofs.running.Running.trace_of.Goals as goal

pub returns-then-is_blank-clause-trace : goal.returns-then-is_blank-clause-trace
returns-then-is_blank-clause-trace c =
    subst (λ (written : SlateLines). IfOk c.share.result (λ (trace : Trace). trace ≡ record { lines = written.lines; more = written.more }))
    (sym (c.is_blank.ensures c.if-is_blank.true)) c.share.ensures

pub returns-then-is_blank-clause-same : goal.returns-then-is_blank-clause-same
returns-then-is_blank-clause-same c = λ s is. with-room s c.args.self.now _ refl refl refl (λ dsn. refl) is

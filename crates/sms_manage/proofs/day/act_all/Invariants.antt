-- The data sets up to the last name were gone through.
use Rattle.std.proofs.Common.{◌≡◌}
use Rattle.desk_law.specs.State.{DeskState}
use Rattle.desk_law.specs.History.{Reaches}
use Rattle.sms_manage.specs.Managed.{IsAsking}
use Rattle.sms_manage.proofs.SoFarLemmas.{IsDaySoFar}
use Rattle.sms_manage.proofs.day.act_all.Given as goal

abbrev pub invariant-loop : goal.invariant-loop
invariant-loop g l = record {
  opening : l.core.opening ≡ l.initial.core.opening;
  mark : l.core.mark ≡ l.initial.core.mark;
  asking : IsAsking l.initial.core.journal l.core.journal;
  far : (before : DeskState) → Reaches l.initial.core.opening l.initial.core.journal before
      → IsDaySoFar l.first l.initial.core.opening l.day l.config before l.initial.core.journal l.core.journal l.last l.acts.items;
}

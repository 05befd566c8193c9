-- A deck has 100 faults at most.
use Rattle.std.proofs.Common.{◌≤◌, List, length, sym, subst}
use Rattle.sms_construct.specs.declared.fault.Fault.{Fault}
use Rattle.deck_faults.proofs.ReadLemmas.{few_faults}
use Rattle.deck_faults.proofs.every.every_fault.Goals as goal

pub returns-clause-few : goal.returns-clause-few
returns-clause-few c = subst (λ (faults : List Fault). length faults ≤ 100) (sym c.from_vec.ensures) (few_faults c.in_ok-faults_told.ensures)

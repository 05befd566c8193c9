-- A classification from one of its routines on.
use Rattle.std.specs.Prelude.{◌≡◌, ◌≤◌, ℕ, List, [], ◌∷◌}
use Rattle.acs_tree.specs.Slates.{SlateLines, count_of}
use Rattle.acs_tree.specs.Variables.{rank_of}
use Rattle.acs_tree.specs.declared.ending.Ending.{Ending}
use Rattle.acs_tree.specs.declared.ending.Ending.TheVariants as endings
use Rattle.acs_tree.specs.declared.input.Input.{Input}
use Rattle.acs_tree.specs.declared.kind.Kind.{Kind}
use Rattle.acs_tree.specs.declared.kind.Kind.TheVariants.{DataClas, StorClas, MgmtClas, StorGrp}
use Rattle.acs_tree.specs.declared.values.Values.{Values}
use Rattle.sms_construct.specs.Configuration.{Configuration}
use Rattle.desk_law.specs.Classification.{Classes, Meanings, Progress, after_class, end_with_groups, exit_stop}
use Rattle.desk_law.specs.Classification.{if_managed, run, unless_stopped}
use Rattle.sms_construct.specs.declared.stop.Stop.{Stop}
use Rattle.sms_construct.specs.declared.stop.Stop.TheVariants as stops

-- the slate has no line of a kind of this rank or a greater one
abbrev pub NoneFrom : ℕ → SlateLines → Type 0
NoneFrom rank slate = (kind : Kind) → rank ≤ rank_of kind → count_of kind slate.lines ≡ 0

-- the values and the lines so far, and how the last routine ended
abbrev pub progress : Values → SlateLines → Ending → Progress
progress values written ending = record { values = values; written = written; ending = ending }

-- the values, the lines and how it ends
abbrev pub classes : Values → SlateLines → Stop → Classes
classes values written stop = record { values = values; written = written; stop = stop }

-- the routine of that kind is run on these values and this slate
abbrev pub run_on : Meanings → Input → Kind → Values → SlateLines → Progress
run_on meanings input kind values written = run meanings input kind (progress values written endings.Falls)

-- how it ends with these storage groups
abbrev pub groups_stop : List (List ℕ) → Stop
groups_stop [] = stops.NoGroup
groups_stop (group ∷ groups) = stops.Done

-- behind the storage group routine
abbrev pub after_groups : Progress → Classes
after_groups last = unless_stopped (exit_stop StorGrp last.ending) last
    (λ listed. end_with_groups listed.values.groups listed)

-- from the storage group routine on
abbrev pub from_groups : Meanings → Input → Values → SlateLines → Classes
from_groups meanings input values written = after_groups (run_on meanings input StorGrp values written)

-- from the management class routine on
abbrev pub from_management_class : Configuration → Meanings → Input → Values → SlateLines → Classes
from_management_class config meanings input values written =
    after_class config MgmtClas (run_on meanings input MgmtClas values written)
    (λ third. from_groups meanings input third.values third.written)

-- from the storage class routine on
abbrev pub from_storage_class : Configuration → Meanings → Input → Values → SlateLines → Classes
from_storage_class config meanings input values written =
    after_class config StorClas (run_on meanings input StorClas values written) (λ second.
    if_managed second (λ managed. from_management_class config meanings input managed.values managed.written))

-- from the data class routine on
abbrev pub from_data_class : Configuration → Meanings → Input → Values → SlateLines → Classes
from_data_class config meanings input values written =
    after_class config DataClas (run_on meanings input DataClas values written)
    (λ first. from_storage_class config meanings input first.values first.written)

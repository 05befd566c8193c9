-- A classification from one of its routines on.
use Rattle.std.proofs.Common.{◌≡◌, ℕ, Bool, true, false, List, Option, Some, None, refl, sym, ap, ap₂, ◌∙◌}
use Rattle.std.proofs.Common.{if◌then◌else◌}
use Rattle.acs_tree.specs.Outcome.{Action}
use Rattle.acs_tree.specs.Inputs.{input_under}
use Rattle.acs_tree.specs.Slates.{SlateLines, blank}
use Rattle.acs_tree.specs.declared.ending.Ending.TheVariants as endings
use Rattle.acs_tree.specs.declared.input.Input.{Input}
use Rattle.acs_tree.specs.declared.kind.Kind.{Kind}
use Rattle.acs_tree.specs.declared.kind.Kind.TheVariants.{DataClas, StorClas, MgmtClas, StorGrp}
use Rattle.acs_tree.specs.declared.values.Values.{Values}
use Rattle.sms_construct.specs.Configuration.{Configuration}
use Rattle.sms_construct.specs.declared.alloc.Alloc.{Alloc}
use Rattle.desk_law.specs.Classification.{Classes, Meanings, Progress, after_class, begin, classes_of, classes_under}
use Rattle.desk_law.specs.Classification.{if_managed, is_null, meanings_of, run, run_of, unless_stopped}
use Rattle.sms_construct.specs.declared.stop.Stop.{Stop}
use Rattle.sms_classes.specs.Inner.Onward.{after_groups, from_data_class, from_groups, from_management_class}
use Rattle.sms_classes.specs.Inner.Onward.{from_storage_class, progress, run_on}

-- the whole is what is left from its first routine on

-- how the routine before ended makes no difference
any_ending : (action : Option Action) (input : Input) (kind : Kind) (before : Progress) → run_of action input kind before ≡ run_of action input kind (progress before.values before.written endings.Falls)
any_ending None input kind before = refl
any_ending (Some action) input kind before = refl

run_any : (meanings : Meanings) (input : Input) (kind : Kind) (before : Progress) → run meanings input kind before ≡ run_on meanings input kind before.values before.written
run_any meanings input kind before = any_ending (meanings kind) input kind before

same_next : (stop : Option Stop) (last : Progress) (next next' : Progress → Classes) → next last ≡ next' last → unless_stopped stop last next ≡ unless_stopped stop last next'
same_next None last next next' e = e
same_next (Some stop) last next next' e = refl

same_else : (b : Bool) (stop next next' : Classes) → next ≡ next' → (if b then stop else next) ≡ (if b then stop else next')
same_else true stop next next' e = refl
same_else false stop next next' e = e

abbrev pub groups_part : Meanings → Input → Progress → Classes
groups_part meanings input third = after_groups (run meanings input StorGrp third)

abbrev pub management_part : Configuration → Meanings → Input → Progress → Classes
management_part config meanings input managed = after_class config MgmtClas (run meanings input MgmtClas managed) (groups_part meanings input)

abbrev pub storage_part : Configuration → Meanings → Input → Progress → Classes
storage_part config meanings input first = after_class config StorClas (run meanings input StorClas first) (λ second. if_managed second (management_part config meanings input))

groups_same : (meanings : Meanings) (input : Input) (third : Progress) → groups_part meanings input third ≡ from_groups meanings input third.values third.written
groups_same meanings input third = ap after_groups (run_any meanings input StorGrp third)

behind : (config : Configuration) (kind : Kind) (meanings : Meanings) (input : Input) (before : Progress) (next next' : Progress → Classes) → ((last : Progress) → next last ≡ next' last)
    → after_class config kind (run meanings input kind before) next ≡ after_class config kind (run_on meanings input kind before.values before.written) next'
behind config kind meanings input before next next' same =
    ap (λ last. after_class config kind last next) (run_any meanings input kind before)
    ∙ same_next _ (run_on meanings input kind before.values before.written) next next' (same (run_on meanings input kind before.values before.written))

management_same : (config : Configuration) (meanings : Meanings) (input : Input) (managed : Progress) → management_part config meanings input managed ≡ from_management_class config meanings input managed.values managed.written
management_same config meanings input managed = behind config MgmtClas meanings input managed _ _ (groups_same meanings input)

storage_same : (config : Configuration) (meanings : Meanings) (input : Input) (first : Progress) → storage_part config meanings input first ≡ from_storage_class config meanings input first.values first.written
storage_same config meanings input first = behind config StorClas meanings input first _ _ (λ second. same_else (is_null second.values.storclas) _ _ _ (management_same config meanings input second))

pub whole : (config : Configuration) (meanings : Meanings) (input : Input) (start : Progress) → classes_under config meanings input start ≡ from_data_class config meanings input start.values start.written
whole config meanings input start = behind config DataClas meanings input start _ _ (storage_same config meanings input)

-- the classification of a request
pub all_routines : (config : Configuration) (job : List ℕ) (alloc : Alloc) (came : Classes) {input : Input} {system sysplex : Option (List ℕ)} {values : Values} {written : SlateLines}
    → came ≡ from_data_class config (meanings_of config) input values written → input ≡ input_under alloc.input job system sysplex → system ≡ config.system → sysplex ≡ config.sysplex
    → values ≡ (begin alloc).values → written ≡ blank → came ≡ classes_of config job alloc
all_routines config job alloc came {input} {system} {sysplex} {values} {written} e i s p v w =
    let seen : input ≡ input_under alloc.input job config.system config.sysplex = i ∙ ap₂ (λ (s p : Option (List ℕ)). input_under alloc.input job s p) s p in
    let same : from_data_class config (meanings_of config) input values written ≡ from_data_class config (meanings_of config) (input_under alloc.input job config.system config.sysplex) (begin alloc).values blank = cc in
    e ∙ same ∙ sym (whole config (meanings_of config) (input_under alloc.input job config.system config.sysplex) (begin alloc))

-- What the routines of a configuration give a new data set (docs/manual/rules.md, "Classification").
use Rattle.std.specs.Prelude.{ℕ, ◌==◌, Bool, true, false, List, [], ◌∷◌, Option, None, Some, option_map, unwrap_or}
use Rattle.std.specs.Prelude.{Result, Ok, Err, if◌then◌else◌}
use Rattle.std.specs.Option.{option_or}
use Rattle.acs_tree.specs.Inputs.{input_under}
use Rattle.acs_tree.specs.KeptLines.{kept_lines_of}
use Rattle.acs_tree.specs.Meaning.{meaning_of}
use Rattle.acs_tree.specs.Outcome.{Action, Outcome}
use Rattle.acs_tree.specs.Slates.{SlateLines, blank, with_kept_lines}
use Rattle.acs_tree.specs.declared.ending.Ending.{Ending}
use Rattle.acs_tree.specs.declared.ending.Ending.TheVariants as endings
use Rattle.acs_tree.specs.declared.input.Input.{Input}
use Rattle.acs_tree.specs.declared.kind.Kind.{Kind}
use Rattle.acs_tree.specs.declared.kind.Kind.TheVariants.{DataClas, StorClas, MgmtClas, StorGrp}
use Rattle.acs_tree.specs.declared.values.Values.{Values}
use Rattle.sms_construct.specs.Configuration.{Configuration, has_construct, routine_of}
use Rattle.sms_construct.specs.declared.alloc.Alloc.{Alloc}
use Rattle.sms_construct.specs.declared.reply.Reply.{Reply}
use Rattle.sms_construct.specs.declared.reply.Reply.TheVariants as replies
use Rattle.sms_construct.specs.declared.trace.Trace.{Trace}
use Rattle.sms_construct.specs.declared.stop.Stop.{Stop}
use Rattle.sms_construct.specs.declared.stop.Stop.TheVariants as stops

-- the values so far, the lines that were written, and how the last routine ended
pub record Progress : Type 0 where
  pub values : Values
  pub written : SlateLines
  pub ending : Ending

-- what the routines come to: the values, the lines that were written, and how it ends
pub record Classes : Type 0 where
  pub values : Values
  pub written : SlateLines
  pub stop : Stop

-- a class that is named, or null
abbrev pub class_or_null : Option (List ℕ) → List ℕ
class_or_null class = unwrap_or class []

-- the text is the null value
abbrev pub is_null : List ℕ → Bool
is_null [] = true
is_null (byte ∷ bytes) = false

-- before the first routine: the classes that the request names, no storage group, and no line
abbrev pub begin : Alloc → Progress
begin alloc = record {
  values = record {
    dataclas = class_or_null alloc.dataclas;
    storclas = class_or_null alloc.storclas;
    mgmtclas = class_or_null alloc.mgmtclas;
    groups = [];
  };
  written = blank;
  ending = endings.Falls;
}

-- after a run of that kind that came to this
abbrev pub after_run : Kind → Progress → Outcome → Progress
after_run kind before outcome = record {
  values = outcome.values;
  written = with_kept_lines kind (kept_lines_of outcome.lines) before.written;
  ending = outcome.ending;
}

-- what the routine of a kind means, where there is one
abbrev pub Meanings : Type 0
Meanings = Kind → Option Action

-- the routines of a configuration mean what their trees mean
abbrev pub meanings_of : Configuration → Meanings
meanings_of config kind = option_map (λ routine. meaning_of routine.tree kind) (routine_of kind config.routines)

-- a routine is run on what the ones before it left; a missing one leaves everything
abbrev pub run_of : Option Action → Input → Kind → Progress → Progress
run_of None input kind before = record { values = before.values; written = before.written; ending = endings.Falls }
run_of (Some action) input kind before = after_run kind before (action input before.values)

-- the routine of that kind is run
abbrev pub run : Meanings → Input → Kind → Progress → Progress
run meanings input kind before = run_of (meanings kind) input kind before

-- a routine that ends with another code than 0 stops all
abbrev pub exit_stop : Kind → Ending → Option Stop
exit_stop kind endings.Falls = None
exit_stop kind (endings.Exit code) = if code == 0 then None else Some (stops.Exit kind code)

-- a class that is neither null nor one of the configuration stops all
abbrev pub class_stop : Configuration → Kind → List ℕ → Option Stop
class_stop config kind class =
    if is_null class then None else (if has_construct kind class config then None else Some (stops.Unknown kind class))

-- the class of that kind; storage groups are none
abbrev pub class_of : Kind → Values → List ℕ
class_of DataClas values = values.dataclas
class_of StorClas values = values.storclas
class_of MgmtClas values = values.mgmtclas
class_of StorGrp values = []

-- it ends so
abbrev pub ends : Stop → Progress → Classes
ends stop progress = record { values = progress.values; written = progress.written; stop = stop }

-- it ends where something stops it, and else goes on
abbrev pub unless_stopped : Option Stop → Progress → (Progress → Classes) → Classes
unless_stopped None progress next = next progress
unless_stopped (Some stop) progress next = ends stop progress

-- the routine of a class is run, and it goes on where its code is 0 and its class is known or null
abbrev pub after_class : Configuration → Kind → Progress → (Progress → Classes) → Classes
after_class config kind progress next =
    unless_stopped (option_or (exit_stop kind progress.ending) (class_stop config kind (class_of kind progress.values)))
    progress next

-- it ends where there is no storage class
abbrev pub if_managed : Progress → (Progress → Classes) → Classes
if_managed progress next = if is_null progress.values.storclas then ends stops.Unmanaged progress else next progress

-- it ends behind the storage group routine
abbrev pub end_with_groups : List (List ℕ) → Progress → Classes
end_with_groups [] progress = ends stops.NoGroup progress
end_with_groups (group ∷ groups) progress = ends stops.Done progress

-- the four routines, one after the other, in a configuration with these constructs
abbrev pub classes_under : Configuration → Meanings → Input → Progress → Classes
classes_under config meanings input start =
    after_class config DataClas (run meanings input DataClas start) (λ first.
    after_class config StorClas (run meanings input StorClas first) (λ second.
    if_managed second (λ managed.
    after_class config MgmtClas (run meanings input MgmtClas managed) (λ third.
    let last = run meanings input StorGrp third in
    unless_stopped (exit_stop StorGrp last.ending) last (λ listed. end_with_groups listed.values.groups listed)))))

-- what the routines of a configuration give an ALLOC of a job
abbrev pub classes_of : Configuration → List ℕ → Alloc → Classes
classes_of config job alloc =
    classes_under config (meanings_of config) (input_under alloc.input job config.system config.sysplex) (begin alloc)

-- the lines that were written, as a reply shows them
abbrev pub trace_of : Classes → Trace
trace_of classes = record { lines = classes.written.lines; more = classes.written.more }

-- the reply where the classification stops, and else what it gives
abbrev pub answer_of : Stop → Classes → Result Classes Reply
answer_of stops.Done classes = Ok classes
answer_of stops.Unmanaged classes = Err (replies.NotManaged (trace_of classes))
answer_of (stops.Exit kind code) classes = Err (replies.Exit kind code (trace_of classes))
answer_of (stops.Unknown kind name) classes = Err (replies.UnknownClass kind name (trace_of classes))
answer_of stops.NoGroup classes = Err (replies.NoGroup (trace_of classes))

-- the same of what the classification came to
abbrev pub went_through : Classes → Result Classes Reply
went_through classes = answer_of classes.stop classes

-- ALLOC from the first line to the last, under routines that are trees.
use Rattle.std.proofs.Common.{◌≡◌, ℕ, List, [], ◌∷◌, refl, sym, ap, ◌∙◌, subst, inl, inr}
use Rattle.std.specs.Prelude.{codes, Some, None, MatchResult}
use Rattle.desk_common.specs.Steps.{◌⊳◌}
use Rattle.acs_tree.specs.CheckedRoutine.{CheckedRoutine}
use Rattle.acs_tree.specs.Inputs.{input_under}
use Rattle.acs_tree.specs.Meaning.{Arm, code_of, form_step, in_turn, meaning, meaning_of, stmt_step, when_step, writes}
use Rattle.acs_tree.specs.Outcome.{Action, exits}
use Rattle.acs_tree.specs.Setting.{sets}
use Rattle.acs_tree.specs.Variables.{variable_value}
use Rattle.acs_tree.specs.declared.kind.Kind.{Kind}
use Rattle.acs_tree.specs.declared.kind.Kind.TheVariants.{DataClas, StorClas, StorGrp}
use Rattle.acs_tree.specs.declared.line.Line.{Line}
use Rattle.acs_tree.specs.declared.routine.Form.{Form, fold-Form, map-Form, roll-Form}
use Rattle.acs_tree.specs.declared.routine.Form.TheFolds.{fold-roll-Form, fold_out-Stmt}
use Rattle.acs_tree.specs.declared.routine.Form.TheOpen.{Form-F}
use Rattle.acs_tree.specs.declared.routine.Form.TheVariants as forms
use Rattle.acs_tree.specs.declared.routine.Operand.{Operand}
use Rattle.acs_tree.specs.declared.routine.OperandForm.TheVariants.{Literal, Word, Var}
use Rattle.acs_tree.specs.declared.routine.Ref.{Ref}
use Rattle.acs_tree.specs.declared.routine.Routine.{Routine}
use Rattle.acs_tree.specs.declared.routine.Stmt.{Stmt}
use Rattle.acs_tree.specs.declared.routine.When.{When, fold-When}
use Rattle.sms_construct.specs.Configuration.{Configuration}
use Rattle.sms_construct.specs.declared.alloc.Alloc.{Alloc}
use Rattle.sms_construct.specs.declared.data_set.DataSet.{DataSet}
use Rattle.sms_construct.specs.declared.reply.Reply.{Reply}
use Rattle.sms_construct.specs.declared.reply.Reply.TheVariants as replies
use Rattle.sms_construct.specs.declared.status.Status.TheVariants.{Enable}
use Rattle.sms_construct.specs.declared.trace.Trace.{Trace}
use Rattle.sms_construct.specs.declared.unit.Unit.TheVariants.{Cyl, Trk}
use Rattle.desk_law.specs.State.{DeskState, with_set}
use Rattle.desk_law.specs.Candidates.{view_of}
use Rattle.desk_law.specs.Classification.{begin, classes_under, went_through}
use Rattle.desk_law.specs.Allocation.{AllocRule, GrantRule, space_case}
use Rattle.desk_law.specs.Replies.{Leaves}
use Rattle.desk_law.proofs.ExampleDecks.{ask, asks, asks_nothing, data_set, desk_under, extent, one, piece, volume}
use Rattle.desk_law.proofs.TraceExamples.{line, these, trace}

-- statements: SET of a class or of the storage groups, WRITE, EXIT

abbrev variable : List ℕ → Ref
variable name = record { at = 0; name = name; index = None; index_at = 0 }

abbrev quoted : List ℕ → Operand
quoted text = record { at = 0; form = Literal text }

abbrev value : List ℕ → Operand
value name = record { at = 0; form = Var (variable name) }

abbrev statement : Form → Stmt
statement form = record { at = 0; form = form }

abbrev put : List ℕ → List ℕ → Stmt
put name text = statement (forms.Put (variable name) (quoted text ∷ []))

abbrev write : List Operand → Stmt
write parts = statement (forms.Write parts)

abbrev exit : List ℕ → Stmt
exit code = statement (forms.Exit (Some (record { at = 0; form = Word code })))

abbrev tree : List Stmt → Routine
tree body = record { head = codes "R"; head_at = 0; body = body }

abbrev routine : Kind → List Stmt → CheckedRoutine
routine kind body = record { tree = tree body; kind = kind }

-- EXIT
abbrev ends : List ℕ → Action
ends code input values = exits (code_of (Some (record { at = 0; form = Word code }))) values

-- what they mean

module _ (kind : Kind) (within : List Stmt) where
  layer : (form : Form) (parts : Form-F Form Stmt When) (action : Action) → roll-Form parts ≡ form
      → form_step kind within (map-Form Form Stmt When Action Action Arm (fold-Form Action Action Arm (form_step kind within) stmt_step (when_step within)) (meaning kind within) (fold-When Action Action Arm (form_step kind within) stmt_step (when_step within)) parts) ≡ action
      → meaning kind within (statement form) ≡ action
  layer form parts action e f =
      fold_out-Stmt Action Action Arm (form_step kind within) stmt_step (when_step within) (statement form)
      ∙ ap (fold-Form Action Action Arm (form_step kind within) stmt_step (when_step within)) (sym e)
      ∙ fold-roll-Form Action Action Arm (form_step kind within) stmt_step (when_step within) parts
      ∙ f

  means_put : (name text : List ℕ) → meaning kind within (put name text) ≡ sets kind (variable name) (quoted text ∷ [])
  means_put name text = layer _ (Form-F.Put (variable name) (quoted text ∷ [])) _ (forms.rolls-Put (variable name) (quoted text ∷ [])) refl

  means_write : (parts : List Operand) → meaning kind within (write parts) ≡ writes parts
  means_write parts = layer _ (Form-F.Write parts) _ (forms.rolls-Write parts) refl

  means_exit : (code : List ℕ) → meaning kind within (exit code) ≡ ends code
  means_exit code = layer _ (Form-F.Exit (Some (record { at = 0; form = Word code }))) _ (forms.rolls-Exit (Some (record { at = 0; form = Word code }))) refl

-- one volume of 100 tracks, a storage class routine and a storage group routine
abbrev under : List Stmt → List Stmt → Configuration
under storclas storgrp = record (one 100) {
  system = Some (codes "SYSA");
  sysplex = Some (codes "PLEX1");
  routines = record { dataclas = None; storclas = Some (routine StorClas storclas); mgmtclas = None; storgrp = Some (routine StorGrp storgrp) };
}

-- an ALLOC of JOB1 where the two routines mean this
abbrev rule_with : Action → Action → Configuration → Alloc → Reply → DeskState → Type 0
rule_with storclas storgrp config alloc reply after =
    MatchResult (went_through (classes_under config (these storclas storgrp) (input_under alloc.input (codes "JOB1") config.system config.sysplex) (begin alloc)) ⊳ λ classes. space_case alloc config classes)
    (λ wish. GrantRule (desk_under config) alloc wish reply after)
    (λ answer. Leaves (desk_under config) answer reply after)

-- the rule is that where the trees mean this
by_meaning : (storclas storgrp : List Stmt) (first second : Action) (alloc : Alloc) (reply : Reply) (after : DeskState) → meaning_of (tree storclas) StorClas ≡ first → meaning_of (tree storgrp) StorGrp ≡ second
    → rule_with first second (under storclas storgrp) alloc reply after → AllocRule (desk_under (under storclas storgrp)) (codes "JOB1") alloc reply after
by_meaning storclas storgrp first second alloc reply after e f rule =
    let one : rule_with (meaning_of (tree storclas) StorClas) second (under storclas storgrp) alloc reply after = subst (λ (a : Action). rule_with a second (under storclas storgrp) alloc reply after) (sym e) rule in
    subst (λ (a : Action). rule_with (meaning_of (tree storclas) StorClas) a (under storclas storgrp) alloc reply after) (sym f) one

-- a routine that sets and writes

abbrev body : List ℕ → List ℕ → List ℕ → List Stmt
body name text words = put name text ∷ write (quoted words ∷ []) ∷ []

abbrev does : Kind → List ℕ → List ℕ → List ℕ → Action
does kind name text words = in_turn (sets kind (variable name) (quoted text ∷ []) ∷ writes (quoted words ∷ []) ∷ [])

-- it means this
means : (kind : Kind) (name text words : List ℕ) → meaning_of (tree (body name text words)) kind ≡ does kind name text words
means kind name text words =
    ap (λ (action : Action). in_turn (action ∷ meaning kind (body name text words) (write (quoted words ∷ [])) ∷ [])) (means_put kind (body name text words) name text)
    ∙ ap (λ (action : Action). in_turn (sets kind (variable name) (quoted text ∷ []) ∷ action ∷ [])) (means_write kind (body name text words) (quoted words ∷ []))

-- a routine that writes alone
means_line : (kind : Kind) (parts : List Operand) → meaning_of (tree (write parts ∷ [])) kind ≡ in_turn (writes parts ∷ [])
means_line kind parts = ap (λ (action : Action). in_turn (action ∷ [])) (means_write kind (write parts ∷ []) parts)

-- a routine that writes and ends with a code
means_end : (kind : Kind) (parts : List Operand) (code : List ℕ) → meaning_of (tree (write parts ∷ exit code ∷ [])) kind ≡ in_turn (writes parts ∷ ends code ∷ [])
means_end kind parts code =
    ap (λ (action : Action). in_turn (action ∷ meaning kind (write parts ∷ exit code ∷ []) (exit code) ∷ [])) (means_write kind (write parts ∷ exit code ∷ []) parts)
    ∙ ap (λ (action : Action). in_turn (writes parts ∷ action ∷ [])) (means_exit kind (write parts ∷ exit code ∷ []) code)

-- the storage class SC1 and the storage group SG1, each with a line
abbrev fast : List Stmt
fast = body (codes "STORCLAS") (codes "SC1") (codes "FAST")

abbrev pool : List Stmt
pool = body (codes "STORGRP") (codes "SG1") (codes "POOL")

abbrev config : Configuration
config = under fast pool

abbrev bare : DeskState
bare = desk_under config

abbrev two_lines : Trace
two_lines = trace (line StorClas (codes "FAST") ∷ line StorGrp (codes "POOL") ∷ [])

-- an ALLOC under these two
by_fast_and_pool : (alloc : Alloc) (reply : Reply) (after : DeskState)
    → rule_with (does StorClas (codes "STORCLAS") (codes "SC1") (codes "FAST")) (does StorGrp (codes "STORGRP") (codes "SG1") (codes "POOL")) config alloc reply after → AllocRule bare (codes "JOB1") alloc reply after
by_fast_and_pool alloc reply after rule =
    by_meaning fast pool _ _ alloc reply after (means StorClas (codes "STORCLAS") (codes "SC1") (codes "FAST")) (means StorGrp (codes "STORGRP") (codes "SG1") (codes "POOL")) rule

-- A00: ten tracks are granted
alloc_granted : AllocRule bare (codes "JOB1") (asks Trk 10 5) (replies.Granted (data_set 5 1 (extent (codes "VOL001") 0 10 ∷ [])) two_lines) (with_set bare (data_set 5 1 (extent (codes "VOL001") 0 10 ∷ [])))
alloc_granted = by_fast_and_pool (asks Trk 10 5) _ _ (inr (record {
  position = 0;
  may = record { view = view_of bare (ask Trk 10 1) (volume (codes "VOL001") 100 Enable); there = refl; listed = refl; first = refl };
  volume = volume (codes "VOL001") 100 Enable;
  there = refl;
  does = record { pieces = piece 0 10 ∷ []; granted = refl; makes = record { reply_is = refl; after_is = refl } };
}))

-- R18: no volume has room
alloc_no_volume : AllocRule bare (codes "JOB1") (asks Trk 101 5) (replies.NoVolume two_lines) bare
alloc_no_volume = by_fast_and_pool (asks Trk 101 5) _ _ (inl (refl, record { reply_is = refl; after_is = refl }))

-- R16: the request names no space
alloc_no_quantity : AllocRule bare (codes "JOB1") asks_nothing (replies.NoQuantity two_lines) bare
alloc_no_quantity = by_fast_and_pool asks_nothing _ _ (record { reply_is = refl; after_is = refl })

-- two cylinders, on up to two volumes
abbrev in_cylinders : DataSet
in_cylinders = record (data_set 15 2 (extent (codes "VOL001") 0 30 ∷ [])) { dataclas = Some (codes "DC1"); unit = Cyl }

-- A00: the request names the data class DC1 and no space
alloc_of_data_class : AllocRule bare (codes "JOB1") (record asks_nothing { dataclas = Some (codes "DC1") }) (replies.Granted in_cylinders two_lines) (with_set bare in_cylinders)
alloc_of_data_class = by_fast_and_pool (record asks_nothing { dataclas = Some (codes "DC1") }) _ _ (inr (record {
  position = 0;
  may = record { view = view_of bare (ask Cyl 30 1) (volume (codes "VOL001") 100 Enable); there = refl; listed = refl; first = refl };
  volume = volume (codes "VOL001") 100 Enable;
  there = refl;
  does = record { pieces = piece 0 30 ∷ []; granted = refl; makes = record { reply_is = refl; after_is = refl } };
}))

-- R15: a data class that isn't there, although the request names a space
alloc_unknown_class : AllocRule bare (codes "JOB1") (record (asks Trk 10 5) { dataclas = Some (codes "DC9") }) (replies.UnknownClass DataClas (codes "DC9") (trace [])) bare
alloc_unknown_class = record { reply_is = refl; after_is = refl }

-- a storage class routine that writes the job, the system and the sysplex
abbrev names : List Operand
names = value (codes "JOB") ∷ quoted (codes " ") ∷ value (codes "SYSNAME") ∷ quoted (codes " ") ∷ value (codes "SYSPLEX") ∷ []

abbrev tells : List Stmt → DeskState
tells storgrp = desk_under (under (write names ∷ []) storgrp)

abbrev told : Line
told = line StorClas (codes "JOB1 SYSA PLEX1")

-- A01: it sets no storage class
alloc_not_managed : AllocRule (tells pool) (codes "JOB1") (asks Trk 10 5) (replies.NotManaged (trace (told ∷ []))) (tells pool)
unfolding variable_value
alloc_not_managed = by_meaning (write names ∷ []) pool _ _ (asks Trk 10 5) _ _ (means_line StorClas names) (means StorGrp (codes "STORGRP") (codes "SG1") (codes "POOL")) (record { reply_is = refl; after_is = refl })

-- the same request with the storage class SC1
abbrev asks_storage_class : ℕ → Alloc
asks_storage_class primary = record (asks Trk primary 5) { storclas = Some (codes "SC1") }

-- R18: the storage class of the request goes on
alloc_of_own_class : AllocRule (tells pool) (codes "JOB1") (asks_storage_class 101) (replies.NoVolume (trace (told ∷ line StorGrp (codes "POOL") ∷ []))) (tells pool)
unfolding variable_value
alloc_of_own_class =
    by_meaning (write names ∷ []) pool _ _ (asks_storage_class 101) _ _ (means_line StorClas names) (means StorGrp (codes "STORGRP") (codes "SG1") (codes "POOL")) (inl (refl, record { reply_is = refl; after_is = refl }))

-- a line
abbrev dry : List Operand
dry = quoted (codes "DRY") ∷ []

-- R17: the storage group routine lists none
alloc_no_group : AllocRule (tells (write dry ∷ [])) (codes "JOB1") (asks_storage_class 10) (replies.NoGroup (trace (told ∷ line StorGrp (codes "DRY") ∷ []))) (tells (write dry ∷ []))
unfolding variable_value
alloc_no_group = by_meaning (write names ∷ []) (write dry ∷ []) _ _ (asks_storage_class 10) _ _ (means_line StorClas names) (means_line StorGrp dry) (record { reply_is = refl; after_is = refl })

-- R14: the storage group routine ends with the code 8
alloc_exit : AllocRule (tells (write dry ∷ exit (codes "8") ∷ [])) (codes "JOB1") (asks_storage_class 10) (replies.Exit StorGrp 8 (trace (told ∷ line StorGrp (codes "DRY") ∷ []))) (tells (write dry ∷ exit (codes "8") ∷ []))
unfolding variable_value
alloc_exit = by_meaning (write names ∷ []) (write dry ∷ exit (codes "8") ∷ []) _ _ (asks_storage_class 10) _ _ (means_line StorClas names) (means_end StorGrp dry (codes "8")) (record { reply_is = refl; after_is = refl })

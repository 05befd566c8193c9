-- The lines of a rule answer with replies that change nothing, and are kept.
use Rattle.std.proofs.Common.{◌≡◌, ℕ, Bool, true, false, List, refl, ap, subst}
use Rattle.std.specs.Prelude.{Option, None, Some, Result, Ok, Err, nat_eq, nat_lt, is_some}
use Rattle.desk_common.specs.Steps.{◌⊳◌}
use Rattle.sms_construct.specs.Fate.{fate_of}
use Rattle.sms_construct.specs.declared.alloc.Alloc.{Alloc}
use Rattle.sms_construct.specs.declared.fate.Fate.TheVariants.{Kept}
use Rattle.sms_construct.specs.declared.reply.Reply.{Reply}
use Rattle.sms_construct.specs.declared.reply.Reply.TheVariants as replies
use Rattle.sms_construct.specs.declared.target.Target.{Target}
use Rattle.sms_construct.specs.declared.target.Target.TheVariants as targets
use Rattle.sms_construct.specs.declared.why_no_extend.WhyNoExtend.TheVariants as reasons
use Rattle.sms_construct.specs.Configuration.{Configuration}
use Rattle.sms_construct.specs.Quantities.{Quantities}
use Rattle.sms_construct.specs.declared.data_set.DataSet.{DataSet}
use Rattle.desk_law.specs.State.{DeskState, set_named}
use Rattle.desk_law.specs.Extents.{tracks_of_set}
use Rattle.sms_construct.specs.declared.stop.Stop.{Stop}
use Rattle.sms_construct.specs.declared.stop.Stop.TheVariants as stops
use Rattle.desk_law.specs.Classification.{Classes, answer_of, classes_of, trace_of, went_through}
use Rattle.desk_law.specs.Replies.{found_or, reply_if}
use Rattle.desk_law.specs.Allocation.{alloc_case, data_class_of, space_case, space_of, wish_with}
use Rattle.desk_law.specs.Extension.{extend_case}
use Rattle.desk_law.specs.Usage.{used_case}
use Rattle.desk_law.specs.Display.{reply_for_none, view_of_target}
use Rattle.desk_law.specs.Changes.{may_change}

-- the reply changes nothing, and is kept for its number
abbrev pub IsQuiet : Reply → Type 0
IsQuiet reply = (may_change reply ≡ false) × (fate_of reply ≡ Kept)

-- each answer of the lines is quiet
abbrev pub AreQuiet : {A : Type 0} → Result A Reply → Type 0
AreQuiet r = (y : Reply) → r ≡ Err y → IsQuiet y

same-error : {A : Type 0} (x y : Reply) → ◌≡◌ {A = Result A Reply} (Err x) (Err y) → x ≡ y
same-error x y is = cc

pub quiet-found : {A : Type 0} (reply : Reply) (o : Option A) → IsQuiet reply → AreQuiet (found_or reply o)
quiet-found reply None quiet y is = subst IsQuiet (same-error reply y is) quiet
quiet-found reply (Some x) quiet y is = absurd cc

pub quiet-if : (reply : Reply) (b : Bool) → IsQuiet reply → AreQuiet (reply_if reply b)
quiet-if reply true quiet y is = subst IsQuiet (same-error reply y is) quiet
quiet-if reply false quiet y is = absurd cc

quiet-after : {A B : Type 0} (r : Result A Reply) (next : A → Result B Reply) → AreQuiet r → ((x : A) → AreQuiet (next x)) → AreQuiet (r ⊳ next)
quiet-after (Ok x) next first rest y is = rest x y is
quiet-after (Err e) next first rest y is = first y (ap Err (same-error e y is))

quiet-ok : {A : Type 0} (x : A) → AreQuiet (Ok x)
quiet-ok x y is = absurd cc

quiet-answer : (stop : Stop) (classes : Classes) → AreQuiet (answer_of stop classes)
quiet-answer stops.Done classes y is = absurd cc
quiet-answer stops.Unmanaged classes y is = subst IsQuiet (same-error (replies.NotManaged (trace_of classes)) y is) (refl, refl)
quiet-answer (stops.Exit kind code) classes y is = subst IsQuiet (same-error (replies.Exit kind code (trace_of classes)) y is) (refl, refl)
quiet-answer (stops.Unknown kind name) classes y is = subst IsQuiet (same-error (replies.UnknownClass kind name (trace_of classes)) y is) (refl, refl)
quiet-answer stops.NoGroup classes y is = subst IsQuiet (same-error (replies.NoGroup (trace_of classes)) y is) (refl, refl)

rest-quiet : (alloc : Alloc) (config : Configuration) (classes : Classes) → AreQuiet (space_case alloc config classes)
rest-quiet alloc config classes =
    quiet-after (found_or (replies.NoQuantity (trace_of classes)) (space_of alloc (data_class_of config classes.values.dataclas))) (λ (space : Quantities). Ok (wish_with alloc config classes space))
    (quiet-found _ _ (refl, refl)) (λ space. quiet-ok (wish_with alloc config classes space))

pub alloc-quiet : (s : DeskState) (job : List ℕ) (alloc : Alloc) → AreQuiet (alloc_case s job alloc)
alloc-quiet s job alloc =
    quiet-after _ _ (quiet-found replies.NoConfig s.active (refl, refl)) (λ config.
    quiet-after _ _ (quiet-if replies.NameInUse (is_some (set_named alloc.input.dsn s.sets)) (refl, refl)) (λ u.
    quiet-after (went_through (classes_of config job alloc)) (space_case alloc config) (quiet-answer (classes_of config job alloc).stop (classes_of config job alloc)) (λ classes. rest-quiet alloc config classes)))

pub extend-quiet : (s : DeskState) (dsn : List ℕ) → AreQuiet (extend_case s dsn)
extend-quiet s dsn =
    quiet-after _ _ (quiet-found replies.NotFound (set_named dsn s.sets) (refl, refl)) (λ (set : DataSet).
    quiet-after _ _ (quiet-if (replies.NoExtend reasons.Secondary) (nat_eq set.secondary 0) (refl, refl)) (λ u. quiet-ok set))

pub used-quiet : (s : DeskState) (dsn : List ℕ) (tracks : ℕ) → AreQuiet (used_case s dsn tracks)
used-quiet s dsn tracks =
    quiet-after _ _ (quiet-found replies.NotFound (set_named dsn s.sets) (refl, refl)) (λ (set : DataSet).
    quiet-after _ _ (quiet-if (replies.PastGrant (tracks_of_set set)) (nat_lt (tracks_of_set set) tracks) (refl, refl)) (λ u. quiet-ok set))

none-quiet : (target : Target) → IsQuiet (reply_for_none target)
none-quiet (targets.Group name) = (refl, refl)
none-quiet (targets.Volume volser) = (refl, refl)
none-quiet (targets.Set dsn) = (refl, refl)

pub display-quiet : (s : DeskState) (target : Target) → AreQuiet (found_or (reply_for_none target) (view_of_target s target))
display-quiet s target = quiet-found (reply_for_none target) (view_of_target s target) (none-quiet target)

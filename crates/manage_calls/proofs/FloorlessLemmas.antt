-- Which rules answer with a floor: that of PURGE alone.
use Rattle.std.proofs.Common.{◌≡◌, ℕ, Bool, true, false, List, [], refl, ap, ◌∙◌, subst, inl, inr}
use Rattle.std.specs.Prelude.{Option, None, Some, Result, Ok, Err, is_some, nat_eq, nat_lt, length}
use Rattle.desk_common.specs.Steps.{◌⊳◌}
use Rattle.sms_construct.specs.Configuration.{Configuration}
use Rattle.sms_construct.specs.Quantities.{Quantities}
use Rattle.sms_construct.specs.declared.alloc.Alloc.{Alloc}
use Rattle.sms_construct.specs.declared.data_set.DataSet.{DataSet}
use Rattle.sms_construct.specs.declared.reply.Reply.{Reply}
use Rattle.sms_construct.specs.declared.reply.Reply.TheVariants as replies
use Rattle.sms_construct.specs.declared.request.Op.{Op}
use Rattle.sms_construct.specs.declared.request.Op.TheVariants as ops
use Rattle.sms_construct.specs.declared.target.Target.{Target}
use Rattle.sms_construct.specs.declared.target.Target.TheVariants as targets
use Rattle.sms_construct.specs.declared.why_no_extend.WhyNoExtend.TheVariants as reasons
use Rattle.desk_law.specs.State.{DeskState, set_named}
use Rattle.desk_law.specs.Activation.{ActivateRule, first_barred}
use Rattle.desk_law.specs.Allocation.{AllocRule, GrantsOn, Wish, alloc_case, ask_of, candidates_of, data_class_of}
use Rattle.desk_law.specs.Allocation.{space_case, space_of, wish_with}
use Rattle.desk_law.specs.Candidates.{Chosen}
use Rattle.desk_law.specs.Classification.{Classes, answer_of, classes_of, trace_of, went_through}
use Rattle.sms_construct.specs.declared.stop.Stop.{Stop}
use Rattle.sms_construct.specs.declared.stop.Stop.TheVariants as stops
use Rattle.desk_law.specs.Display.{reply_for_none, view_of_target}
use Rattle.desk_law.specs.Extension.{ExtendRule, ExtendsOn, FurtherRule, ask_more, extend_case, first_volume, growth_on}
use Rattle.desk_law.specs.Extension.{last_volume, others_of}
use Rattle.desk_law.specs.Extents.{tracks_of_set, volumes_of}
use Rattle.desk_law.specs.Kept.{floor_told}
use Rattle.desk_law.specs.Replies.{Leaves, Makes, found_or, reply_if}
use Rattle.desk_law.specs.Rule.{Rule}
use Rattle.desk_law.specs.Usage.{used_case}
use Rattle.desk_law.specs.Volumes.{times_target}
use Rattle.desk_law.proofs.LineLemmas.{on-bool, on-option, on-result}

-- the reply tells no floor
abbrev pub IsFloorless : Reply → Type 0
IsFloorless reply = floor_told reply ≡ []

-- nor does any answer of the lines
abbrev AreFloorless : {A : Type 0} → Result A Reply → Type 0
AreFloorless r = (y : Reply) → r ≡ Err y → IsFloorless y

same-error : {A : Type 0} (x y : Reply) → ◌≡◌ {A = Result A Reply} (Err x) (Err y) → x ≡ y
same-error x y is = cc

told : {A : Type 0} (reply y : Reply) → IsFloorless reply → ◌≡◌ {A = Result A Reply} (Err reply) (Err y) → IsFloorless y
told reply y none is = subst IsFloorless (same-error reply y is) none

none-found : {A : Type 0} (reply : Reply) (o : Option A) → IsFloorless reply → AreFloorless (found_or reply o)
none-found reply None none y is = told reply y none is
none-found reply (Some x) none y is = absurd cc

none-if : (reply : Reply) (b : Bool) → IsFloorless reply → AreFloorless (reply_if reply b)
none-if reply true none y is = told reply y none is
none-if reply false none y is = absurd cc

none-after : {A B : Type 0} (r : Result A Reply) (next : A → Result B Reply) → AreFloorless r → ((x : A) → AreFloorless (next x)) → AreFloorless (r ⊳ next)
none-after (Ok x) next first rest y is = rest x y is
none-after (Err e) next first rest y is = first y (ap Err (same-error e y is))

none-ok : {A : Type 0} (x : A) → AreFloorless (Ok x)
none-ok x y is = absurd cc

none-answer : (stop : Stop) (classes : Classes) → AreFloorless (answer_of stop classes)
none-answer stops.Done classes y is = absurd cc
none-answer stops.Unmanaged classes y is = told (replies.NotManaged (trace_of classes)) y refl is
none-answer (stops.Exit kind code) classes y is = told (replies.Exit kind code (trace_of classes)) y refl is
none-answer (stops.Unknown kind name) classes y is = told (replies.UnknownClass kind name (trace_of classes)) y refl is
none-answer stops.NoGroup classes y is = told (replies.NoGroup (trace_of classes)) y refl is

none-space : (alloc : Alloc) (config : Configuration) (classes : Classes) → AreFloorless (space_case alloc config classes)
none-space alloc config classes =
    none-after (found_or (replies.NoQuantity (trace_of classes)) (space_of alloc (data_class_of config classes.values.dataclas))) (λ (space : Quantities). Ok (wish_with alloc config classes space))
    (none-found _ _ refl) (λ space. none-ok (wish_with alloc config classes space))

none-alloc : (s : DeskState) (job : List ℕ) (alloc : Alloc) → AreFloorless (alloc_case s job alloc)
none-alloc s job alloc =
    none-after _ _ (none-found replies.NoConfig s.active refl) (λ config.
    none-after _ _ (none-if replies.NameInUse (is_some (set_named alloc.input.dsn s.sets)) refl) (λ u.
    none-after (went_through (classes_of config job alloc)) (space_case alloc config) (none-answer (classes_of config job alloc).stop (classes_of config job alloc)) (λ classes. none-space alloc config classes)))

none-extend : (s : DeskState) (dsn : List ℕ) → AreFloorless (extend_case s dsn)
none-extend s dsn =
    none-after _ _ (none-found replies.NotFound (set_named dsn s.sets) refl) (λ (set : DataSet).
    none-after _ _ (none-if (replies.NoExtend reasons.Secondary) (nat_eq set.secondary 0) refl) (λ u. none-ok set))

none-used : (s : DeskState) (dsn : List ℕ) (tracks : ℕ) → AreFloorless (used_case s dsn tracks)
none-used s dsn tracks =
    none-after _ _ (none-found replies.NotFound (set_named dsn s.sets) refl) (λ (set : DataSet).
    none-after _ _ (none-if (replies.PastGrant (tracks_of_set set)) (nat_lt (tracks_of_set set) tracks) refl) (λ u. none-ok set))

none-shown : (target : Target) → IsFloorless (reply_for_none target)
none-shown (targets.Group name) = refl
none-shown (targets.Volume volser) = refl
none-shown (targets.Set dsn) = refl

-- what is left or made tells what its reply tells
left : (s : DeskState) (answer reply : Reply) (after : DeskState) → IsFloorless answer → Leaves s answer reply after → IsFloorless reply
left s answer reply after none leaves = ap floor_told leaves.reply_is ∙ none

made : (next : DeskState) (answer reply : Reply) (after : DeskState) → IsFloorless answer → Makes next answer reply after → IsFloorless reply
made next answer reply after none makes = ap floor_told makes.reply_is ∙ none

alloc-floorless : (s : DeskState) (job : List ℕ) (alloc : Alloc) (reply : Reply) (after : DeskState) → AllocRule s job alloc reply after → IsFloorless reply
alloc-floorless s job alloc reply after rule =
    on-result (alloc_case s job alloc) _ _ (IsFloorless reply) rule (λ wish e chosen. choice wish chosen) (λ answer e leaves. left s answer reply after (none-alloc s job alloc answer e) leaves)
  where
    choice : (wish : Wish) → Chosen s (ask_of wish) (candidates_of wish) (Leaves s (replies.NoVolume (trace_of wish.classes)) reply after) (λ volume. GrantsOn s alloc wish volume reply after) → IsFloorless reply
    choice wish (inl rejected) = left s _ reply after refl rejected.1
    choice wish (inr one) = made _ _ reply after refl one.does.makes

further-floorless : (s : DeskState) (set : DataSet) (reply : Reply) (after : DeskState) → FurtherRule s set reply after → IsFloorless reply
further-floorless s set reply after rule =
    on-bool (nat_lt (length (volumes_of set.extents)) set.volumes) _ _ (IsFloorless reply) rule (λ e chosen. choice chosen) (λ e leaves. left s _ reply after refl leaves)
  where
    choice : Chosen s (ask_more set) (others_of s set (first_volume s set.extents)) (Leaves s (replies.NoExtend reasons.Room) reply after) (λ volume. ExtendsOn s set volume reply after) → IsFloorless reply
    choice (inl rejected) = left s _ reply after refl rejected.1
    choice (inr one) = made _ _ reply after refl one.does.extends

extend-floorless : (s : DeskState) (dsn : List ℕ) (reply : Reply) (after : DeskState) → ExtendRule s dsn reply after → IsFloorless reply
extend-floorless s dsn reply after rule =
    on-result (extend_case s dsn) _ _ (IsFloorless reply) rule
    (λ set e case. on-option (growth_on s set (last_volume s set.extents)) _ _ (IsFloorless reply) case
    (λ e2 further. further-floorless s set reply after further)
    (λ added e2 extends. made _ _ reply after refl extends))
    (λ answer e leaves. left s answer reply after (none-extend s dsn answer e) leaves)

activate-floorless : (s : DeskState) (deck : List ℕ) (reply : Reply) (after : DeskState) → ActivateRule s deck reply after → IsFloorless reply
activate-floorless s deck reply after (inl refused) = ap floor_told refused.leaves.reply_is
activate-floorless s deck reply after (inr taken) =
    on-option (first_barred s taken.config) _ _ (IsFloorless reply) taken.rule (λ e makes. ap floor_told makes.reply_is) (λ volume e leaves. ap floor_told leaves.reply_is)

-- the op doesn't purge
abbrev pub IsNoPurge : Op → Type 0
IsNoPurge (ops.Purge job floor) = ⊥
IsNoPurge op = Unit {0}

pub rule-floorless : (old_floor : List ℕ → ℕ) (s : DeskState) (job : List ℕ) (op : Op) (reply : Reply) (after : DeskState) → IsNoPurge op → Rule old_floor s job op reply after → IsFloorless reply
rule-floorless old_floor s job (ops.Alloc alloc) reply after other rule = alloc-floorless s job alloc reply after rule
rule-floorless old_floor s job (ops.Activate deck) reply after other rule = activate-floorless s deck reply after rule
rule-floorless old_floor s job (ops.Extend dsn) reply after other rule = extend-floorless s dsn reply after rule
rule-floorless old_floor s job (ops.Delete dsn) reply after other rule =
    on-result (found_or replies.NotFound (set_named dsn s.sets)) _ _ (IsFloorless reply) rule
    (λ set e makes. made _ _ reply after refl makes)
    (λ answer e leaves. left s answer reply after (none-found replies.NotFound (set_named dsn s.sets) refl answer e) leaves)
rule-floorless old_floor s job (ops.Used dsn tracks) reply after other rule =
    on-result (used_case s dsn tracks) _ _ (IsFloorless reply) rule (λ set e makes. made _ _ reply after refl makes) (λ answer e leaves. left s answer reply after (none-used s dsn tracks answer e) leaves)
rule-floorless old_floor s job (ops.Release dsn) reply after other rule =
    on-result (found_or replies.NotFound (set_named dsn s.sets)) _ _ (IsFloorless reply) rule
    (λ set e makes. made _ _ reply after refl makes)
    (λ answer e leaves. left s answer reply after (none-found replies.NotFound (set_named dsn s.sets) refl answer e) leaves)
rule-floorless old_floor s job (ops.Display target) reply after other rule =
    on-result (found_or (reply_for_none target) (view_of_target s target)) _ _ (IsFloorless reply) rule
    (λ view e leaves. left s (replies.Shown view) reply after refl leaves)
    (λ answer e leaves. left s answer reply after (none-found (reply_for_none target) (view_of_target s target) (none-shown target) answer e) leaves)
rule-floorless old_floor s job (ops.Vary target action) reply after other rule =
    on-result (reply_if replies.UnknownName (nat_eq (times_target s.active target) 0)) _ _ (IsFloorless reply) rule
    (λ u e makes. made _ _ reply after refl makes)
    (λ answer e leaves. left s answer reply after (none-if replies.UnknownName (nat_eq (times_target s.active target) 0) refl answer e) leaves)
rule-floorless old_floor s job (ops.Purge name floor) reply after other rule = absurd other

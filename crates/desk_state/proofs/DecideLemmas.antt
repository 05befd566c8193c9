-- A decision by the rule of the op is one that the records take.
use Rattle.std.proofs.Common.{◌≡◌, ◌≤◌, ℕ, ◌+◌, Bool, true, false, List, [], ◌∷◌, ◌++◌, map, refl, sym, ap, ◌∙◌, subst}
use Rattle.std.proofs.Common.{arith, inl, inr}
use Rattle.std.specs.Prelude.{Option, None, Some, Result, Ok, Err, IsSome, is_some, max, nat_eq, nat_lt, length}
use Rattle.std.specs.List.{list_all}
use Rattle.desk_common.specs.Steps.{◌⊳◌}
use Rattle.sms_construct.specs.Configuration.{Configuration}
use Rattle.sms_construct.specs.Quantities.{Quantities}
use Rattle.sms_construct.specs.declared.alloc.Alloc.{Alloc}
use Rattle.sms_construct.specs.declared.data_set.DataSet.{DataSet}
use Rattle.sms_construct.specs.declared.reply.Reply.{Reply}
use Rattle.sms_construct.specs.declared.reply.Reply.TheVariants as replies
use Rattle.sms_construct.specs.declared.request.Op.{Op}
use Rattle.sms_construct.specs.declared.request.Op.TheVariants as ops
use Rattle.sms_construct.specs.declared.request.Request.{Request}
use Rattle.sms_construct.specs.declared.storage_group.StorGroup.{StorGroup}
use Rattle.sms_construct.specs.declared.target.Target.{Target}
use Rattle.sms_construct.specs.declared.target.Target.TheVariants as targets
use Rattle.sms_construct.specs.declared.volume.VolumeDef.{VolumeDef}
use Rattle.sms_construct.specs.declared.why_no_extend.WhyNoExtend.TheVariants as reasons
use Rattle.sms_keeper.specs.Suits.{SuitsOp, deck_of, has_status}
use Rattle.sms_keeper.specs.declared.status_row.StatusRow.{StatusRow}
use Rattle.desk_law.specs.State.{DeskState, set_named}
use Rattle.desk_law.specs.Activation.{ActivateRule, first_barred, row_of_group, row_of_volume, statuses_under}
use Rattle.desk_law.specs.Allocation.{AllocRule, GrantsOn, Wish, alloc_case, ask_of, candidates_of, data_class_of}
use Rattle.desk_law.specs.Allocation.{space_case, space_of, wish_with}
use Rattle.desk_law.specs.Candidates.{Chosen}
use Rattle.desk_law.specs.Classification.{Classes, answer_of, classes_of, trace_of, went_through}
use Rattle.sms_construct.specs.declared.stop.Stop.{Stop}
use Rattle.sms_construct.specs.declared.stop.Stop.TheVariants as stops
use Rattle.desk_law.specs.Display.{reply_for_none, view_of_target}
use Rattle.desk_law.specs.Extension.{ExtendRule, ExtendsOn, FurtherRule, ask_more, extend_case, first_volume, growth_on}
use Rattle.desk_law.specs.Extension.{last_volume, others_of}
use Rattle.desk_law.specs.Extents.{tracks_of_set, volumes_of}
use Rattle.desk_law.specs.Purging.{PurgeRule}
use Rattle.desk_law.specs.Replies.{Leaves, Makes, found_or, reply_if}
use Rattle.desk_law.specs.Rule.{IsSound, Rule}
use Rattle.desk_law.specs.Usage.{used_case}
use Rattle.desk_law.specs.Volumes.{times_target}
use Rattle.desk_law.proofs.LineLemmas.{on-bool, on-option, on-result}
use Rattle.desk_records.specs.Effects.{IsDecided, Matches, state_with}
use Rattle.desk_records.proofs.EffectLemmas.{activated-matches, drop-matches, floor-matches, nothing-matches}
use Rattle.desk_records.proofs.EffectLemmas.{put-matches, status-matches}
use Rattle.desk_state.specs.Answering.{Answers, IsOldFloor}
use Rattle.desk_state.specs.Deeds.{config_of, effect_of}
use Rattle.desk_state.specs.declared.decision.Decision.{Decision}
use Rattle.desk_state.specs.declared.deed.Deed.{Deed}
use Rattle.desk_state.specs.declared.deed.Deed.TheVariants as deeds
use Rattle.desk_state.specs.declared.running.Running.{Running}

-- Which rules answer with a floor.

-- the reply tells a floor
abbrev tells_floor : Reply → Bool
tells_floor (replies.Purged job floor) = true
tells_floor reply = false

-- each answer of the lines tells none
abbrev AreFloorless : {A : Type 0} → Result A Reply → Type 0
AreFloorless r = (y : Reply) → r ≡ Err y → tells_floor y ≡ false

same-error : {A : Type 0} (x y : Reply) → ◌≡◌ {A = Result A Reply} (Err x) (Err y) → x ≡ y
same-error x y is = cc

told : {A : Type 0} (reply y : Reply) → tells_floor reply ≡ false → ◌≡◌ {A = Result A Reply} (Err reply) (Err y) → tells_floor y ≡ false
told reply y none is = subst (λ (r : Reply). tells_floor r ≡ false) (same-error reply y is) none

none-found : {A : Type 0} (reply : Reply) (o : Option A) → tells_floor reply ≡ false → AreFloorless (found_or reply o)
none-found reply None none y is = told reply y none is
none-found reply (Some x) none y is = absurd cc

none-if : (reply : Reply) (b : Bool) → tells_floor reply ≡ false → AreFloorless (reply_if reply b)
none-if reply true none y is = told reply y none is
none-if reply false none y is = absurd cc

none-after : {A B : Type 0} (r : Result A Reply) (next : A → Result B Reply) → AreFloorless r → ((x : A) → AreFloorless (next x)) → AreFloorless (r ⊳ next)
none-after (Ok x) next first rest y is = rest x y is
none-after (Err e) next first rest y is = first y (ap Err (same-error e y is))

none-ok : {A : Type 0} (x : A) → AreFloorless (Ok x)
none-ok x y is = absurd cc

none-answer : (stop : Stop) (classes : Classes) → AreFloorless (answer_of stop classes)
none-answer stops.Done classes y is = absurd cc
none-answer stops.Unmanaged classes y is = told (replies.NotManaged (trace_of classes)) y refl is
none-answer (stops.Exit kind code) classes y is = told (replies.Exit kind code (trace_of classes)) y refl is
none-answer (stops.Unknown kind name) classes y is = told (replies.UnknownClass kind name (trace_of classes)) y refl is
none-answer stops.NoGroup classes y is = told (replies.NoGroup (trace_of classes)) y refl is

none-space : (alloc : Alloc) (config : Configuration) (classes : Classes) → AreFloorless (space_case alloc config classes)
none-space alloc config classes =
    none-after (found_or (replies.NoQuantity (trace_of classes)) (space_of alloc (data_class_of config classes.values.dataclas))) (λ (space : Quantities). Ok (wish_with alloc config classes space))
    (none-found _ _ refl) (λ space. none-ok (wish_with alloc config classes space))

none-alloc : (s : DeskState) (job : List ℕ) (alloc : Alloc) → AreFloorless (alloc_case s job alloc)
none-alloc s job alloc =
    none-after _ _ (none-found replies.NoConfig s.active refl) (λ config.
    none-after _ _ (none-if replies.NameInUse (is_some (set_named alloc.input.dsn s.sets)) refl) (λ u.
    none-after (went_through (classes_of config job alloc)) (space_case alloc config) (none-answer (classes_of config job alloc).stop (classes_of config job alloc)) (λ classes. none-space alloc config classes)))

none-extend : (s : DeskState) (dsn : List ℕ) → AreFloorless (extend_case s dsn)
none-extend s dsn =
    none-after _ _ (none-found replies.NotFound (set_named dsn s.sets) refl) (λ (set : DataSet).
    none-after _ _ (none-if (replies.NoExtend reasons.Secondary) (nat_eq set.secondary 0) refl) (λ u. none-ok set))

none-used : (s : DeskState) (dsn : List ℕ) (tracks : ℕ) → AreFloorless (used_case s dsn tracks)
none-used s dsn tracks =
    none-after _ _ (none-found replies.NotFound (set_named dsn s.sets) refl) (λ (set : DataSet).
    none-after _ _ (none-if (replies.PastGrant (tracks_of_set set)) (nat_lt (tracks_of_set set) tracks) refl) (λ u. none-ok set))

none-shown : (target : Target) → tells_floor (reply_for_none target) ≡ false
none-shown (targets.Group name) = refl
none-shown (targets.Volume volser) = refl
none-shown (targets.Set dsn) = refl

-- Which rules activate.

-- the reply tells no floor, and no configuration became active
record IsPlain (s : DeskState) (reply : Reply) (after : DeskState) : Type 0 where
  floorless : tells_floor reply ≡ false
  same : after.activations ≡ s.activations

plain-left : (s : DeskState) (answer reply : Reply) (after : DeskState) → tells_floor answer ≡ false → Leaves s answer reply after → IsPlain s reply after
plain-left s answer reply after none leaves = record {
  floorless = ap tells_floor leaves.reply_is ∙ none;
  same = ap (λ (t : DeskState). t.activations) leaves.after_is;
}

plain-made : (s next : DeskState) (answer reply : Reply) (after : DeskState) → tells_floor answer ≡ false → next.activations ≡ s.activations → Makes next answer reply after → IsPlain s reply after
plain-made s next answer reply after none is makes = record {
  floorless = ap tells_floor makes.reply_is ∙ none;
  same = ap (λ (t : DeskState). t.activations) makes.after_is ∙ is;
}

alloc-plain : (s : DeskState) (job : List ℕ) (alloc : Alloc) (reply : Reply) (after : DeskState) → AllocRule s job alloc reply after → IsPlain s reply after
alloc-plain s job alloc reply after rule =
    on-result (alloc_case s job alloc) _ _ (IsPlain s reply after) rule
    (λ wish e chosen. choice wish chosen)
    (λ answer e leaves. plain-left s answer reply after (none-alloc s job alloc answer e) leaves)
  where
    choice : (wish : Wish) → Chosen s (ask_of wish) (candidates_of wish) (Leaves s (replies.NoVolume (trace_of wish.classes)) reply after) (λ volume. GrantsOn s alloc wish volume reply after) → IsPlain s reply after
    choice wish (inl rejected) = plain-left s _ reply after refl rejected.1
    choice wish (inr one) = plain-made s _ _ reply after refl refl one.does.makes

further-plain : (s : DeskState) (set : DataSet) (reply : Reply) (after : DeskState) → FurtherRule s set reply after → IsPlain s reply after
further-plain s set reply after rule =
    on-bool (nat_lt (length (volumes_of set.extents)) set.volumes) _ _ (IsPlain s reply after) rule (λ e chosen. choice chosen) (λ e leaves. plain-left s _ reply after refl leaves)
  where
    choice : Chosen s (ask_more set) (others_of s set (first_volume s set.extents)) (Leaves s (replies.NoExtend reasons.Room) reply after) (λ volume. ExtendsOn s set volume reply after) → IsPlain s reply after
    choice (inl rejected) = plain-left s _ reply after refl rejected.1
    choice (inr one) = plain-made s _ _ reply after refl refl one.does.extends

extend-plain : (s : DeskState) (dsn : List ℕ) (reply : Reply) (after : DeskState) → ExtendRule s dsn reply after → IsPlain s reply after
extend-plain s dsn reply after rule =
    on-result (extend_case s dsn) _ _ (IsPlain s reply after) rule
    (λ set e case. on-option (growth_on s set (last_volume s set.extents)) _ _ (IsPlain s reply after) case
    (λ e2 further. further-plain s set reply after further)
    (λ added e2 extends. plain-made s _ _ reply after refl refl extends))
    (λ answer e leaves. plain-left s answer reply after (none-extend s dsn answer e) leaves)

activate-floorless : (s : DeskState) (deck : List ℕ) (reply : Reply) (after : DeskState) → ActivateRule s deck reply after → tells_floor reply ≡ false
activate-floorless s deck reply after (inl refused) = ap tells_floor refused.leaves.reply_is
activate-floorless s deck reply after (inr taken) =
    on-option (first_barred s taken.config) _ _ (tells_floor reply ≡ false) taken.rule (λ e makes. ap tells_floor makes.reply_is) (λ volume e leaves. ap tells_floor leaves.reply_is)

-- the op neither activates a deck nor purges
abbrev IsOther : Op → Type 0
IsOther (ops.Activate deck) = ⊥
IsOther (ops.Purge job floor) = ⊥
IsOther op = Unit {0}

rule-plain : (old_floor : List ℕ → ℕ) (s : DeskState) (job : List ℕ) (op : Op) (reply : Reply) (after : DeskState) → IsOther op → Rule old_floor s job op reply after → IsPlain s reply after
rule-plain old_floor s job (ops.Alloc alloc) reply after other rule = alloc-plain s job alloc reply after rule
rule-plain old_floor s job (ops.Activate deck) reply after other rule = absurd other
rule-plain old_floor s job (ops.Extend dsn) reply after other rule = extend-plain s dsn reply after rule
rule-plain old_floor s job (ops.Delete dsn) reply after other rule =
    on-result (found_or replies.NotFound (set_named dsn s.sets)) _ _ (IsPlain s reply after) rule
    (λ set e makes. plain-made s _ _ reply after refl refl makes)
    (λ answer e leaves. plain-left s answer reply after (none-found replies.NotFound (set_named dsn s.sets) refl answer e) leaves)
rule-plain old_floor s job (ops.Used dsn tracks) reply after other rule =
    on-result (used_case s dsn tracks) _ _ (IsPlain s reply after) rule
    (λ set e makes. plain-made s _ _ reply after refl refl makes)
    (λ answer e leaves. plain-left s answer reply after (none-used s dsn tracks answer e) leaves)
rule-plain old_floor s job (ops.Release dsn) reply after other rule =
    on-result (found_or replies.NotFound (set_named dsn s.sets)) _ _ (IsPlain s reply after) rule
    (λ set e makes. plain-made s _ _ reply after refl refl makes)
    (λ answer e leaves. plain-left s answer reply after (none-found replies.NotFound (set_named dsn s.sets) refl answer e) leaves)
rule-plain old_floor s job (ops.Display target) reply after other rule =
    on-result (found_or (reply_for_none target) (view_of_target s target)) _ _ (IsPlain s reply after) rule
    (λ view e leaves. plain-left s (replies.Shown view) reply after refl leaves)
    (λ answer e leaves. plain-left s answer reply after (none-found (reply_for_none target) (view_of_target s target) (none-shown target) answer e) leaves)
rule-plain old_floor s job (ops.Vary target action) reply after other rule =
    on-result (reply_if replies.UnknownName (nat_eq (times_target s.active target) 0)) _ _ (IsPlain s reply after) rule
    (λ u e makes. plain-made s _ _ reply after refl refl makes)
    (λ answer e leaves. plain-left s answer reply after (none-if replies.UnknownName (nat_eq (times_target s.active target) 0) refl answer e) leaves)
rule-plain old_floor s job (ops.Purge name floor) reply after other rule = absurd other

more-than-same : {C : Type 0} (n m : ℕ) → m ≡ n + 1 → m ≡ n → C
more-than-same n m more same = absurd (omega (arith, more, same))

-- only ACTIVATE adds an activation
only-activates : (old_floor : List ℕ → ℕ) (s : DeskState) (job : List ℕ) (op : Op) (reply : Reply) (after : DeskState) → after.activations ≡ s.activations + 1 → Rule old_floor s job op reply after → IsSome (deck_of op)
only-activates old_floor s job (ops.Alloc alloc) reply after more rule = more-than-same s.activations after.activations more (rule-plain old_floor s job (ops.Alloc alloc) reply after tt rule).same
only-activates old_floor s job (ops.Activate deck) reply after more rule = refl
only-activates old_floor s job (ops.Extend dsn) reply after more rule = more-than-same s.activations after.activations more (rule-plain old_floor s job (ops.Extend dsn) reply after tt rule).same
only-activates old_floor s job (ops.Delete dsn) reply after more rule = more-than-same s.activations after.activations more (rule-plain old_floor s job (ops.Delete dsn) reply after tt rule).same
only-activates old_floor s job (ops.Used dsn tracks) reply after more rule = more-than-same s.activations after.activations more (rule-plain old_floor s job (ops.Used dsn tracks) reply after tt rule).same
only-activates old_floor s job (ops.Release dsn) reply after more rule = more-than-same s.activations after.activations more (rule-plain old_floor s job (ops.Release dsn) reply after tt rule).same
only-activates old_floor s job (ops.Display target) reply after more rule = more-than-same s.activations after.activations more (rule-plain old_floor s job (ops.Display target) reply after tt rule).same
only-activates old_floor s job (ops.Vary target action) reply after more rule = more-than-same s.activations after.activations more (rule-plain old_floor s job (ops.Vary target action) reply after tt rule).same
only-activates old_floor s job (ops.Purge name floor) reply after more rule = more-than-same s.activations after.activations more (ap (λ (t : DeskState). t.activations) rule.after_is)

-- only PURGE sets a floor, and it raises it
floor-is : (f g : List ℕ) (a b : ℕ) → replies.Purged f a ≡ replies.Purged g b → (f ≡ g) × (a ≡ b)
floor-is f g a b is = (cc, cc)

told-no-floor : {C : Type 0} (reply : Reply) (job : List ℕ) (floor : ℕ) → reply ≡ replies.Purged job floor → tells_floor reply ≡ false → C
told-no-floor reply job floor is none =
    let bad : true ≡ false = sym (ap tells_floor is) ∙ none in absurd cc

abbrev Rises : (List ℕ → ℕ) → List ℕ → ℕ → Type 0
Rises old_floor job floor = (old_floor job ≤ floor) × (1 ≤ floor)

raised : (old_floor : List ℕ → ℕ) (name : List ℕ) (asked : ℕ) (job : List ℕ) (floor : ℕ) → 1 ≤ asked → (job ≡ name) × (floor ≡ max (old_floor name) asked) → Rises old_floor job floor
raised old_floor name asked job floor some is =
    let old : old_floor job ≡ old_floor name = ap old_floor is.0 in
    (omega (arith, is.1, old), omega (arith, is.1, some))

only-purges : (old_floor : List ℕ → ℕ) (s : DeskState) (job : List ℕ) (op : Op) (reply : Reply) (after : DeskState) (purged : List ℕ) (floor : ℕ) → reply ≡ replies.Purged purged floor → IsSound op
    → Rule old_floor s job op reply after → Rises old_floor purged floor
only-purges old_floor s job (ops.Alloc alloc) reply after purged floor is sound rule = told-no-floor reply purged floor is (rule-plain old_floor s job (ops.Alloc alloc) reply after tt rule).floorless
only-purges old_floor s job (ops.Activate deck) reply after purged floor is sound rule = told-no-floor reply purged floor is (activate-floorless s deck reply after rule)
only-purges old_floor s job (ops.Extend dsn) reply after purged floor is sound rule = told-no-floor reply purged floor is (rule-plain old_floor s job (ops.Extend dsn) reply after tt rule).floorless
only-purges old_floor s job (ops.Delete dsn) reply after purged floor is sound rule = told-no-floor reply purged floor is (rule-plain old_floor s job (ops.Delete dsn) reply after tt rule).floorless
only-purges old_floor s job (ops.Used dsn tracks) reply after purged floor is sound rule = told-no-floor reply purged floor is (rule-plain old_floor s job (ops.Used dsn tracks) reply after tt rule).floorless
only-purges old_floor s job (ops.Release dsn) reply after purged floor is sound rule = told-no-floor reply purged floor is (rule-plain old_floor s job (ops.Release dsn) reply after tt rule).floorless
only-purges old_floor s job (ops.Display target) reply after purged floor is sound rule = told-no-floor reply purged floor is (rule-plain old_floor s job (ops.Display target) reply after tt rule).floorless
only-purges old_floor s job (ops.Vary target action) reply after purged floor is sound rule = told-no-floor reply purged floor is (rule-plain old_floor s job (ops.Vary target action) reply after tt rule).floorless
only-purges old_floor s job (ops.Purge name asked) reply after purged floor is sound rule =
    raised old_floor name asked purged floor sound.0 (floor-is purged name floor (max (old_floor name) asked) (sym is ∙ rule.reply_is))

-- The statuses of a configuration are of storage groups and volumes.

all-append-at : {X : Type 0} (p : X → Bool) (x : X) (xs ys : List X) (b : Bool) → p x ≡ b → (list_all p xs ≡ true → list_all p (xs ++ ys) ≡ true) → list_all p (x ∷ xs) ≡ true → list_all p ((x ∷ xs) ++ ys) ≡ true
all-append-at p x xs ys true is rest all = rw is (rest (rw is at all))
all-append-at p x xs ys false is rest all = let bad : false ≡ true = rw is at all in absurd cc

all-append : {X : Type 0} (p : X → Bool) (xs ys : List X) → list_all p xs ≡ true → list_all p ys ≡ true → list_all p (xs ++ ys) ≡ true
all-append p [] ys one other = other
all-append p (x ∷ xs) ys one other = all-append-at p x xs ys _ refl (λ all. all-append p xs ys all other) one

groups-suit : (present : List StatusRow) (groups : List StorGroup) → list_all (λ (row : StatusRow). has_status row.target) (map (row_of_group present) groups) ≡ true
groups-suit present [] = refl
groups-suit present (g ∷ groups) = groups-suit present groups

volumes-suit : (present : List StatusRow) (volumes : List VolumeDef) → list_all (λ (row : StatusRow). has_status row.target) (map (row_of_volume present) volumes) ≡ true
volumes-suit present [] = refl
volumes-suit present (v ∷ volumes) = volumes-suit present volumes

statuses-suit : (config : Configuration) (present : List StatusRow) → list_all (λ (row : StatusRow). has_status row.target) (statuses_under config present) ≡ true
statuses-suit config present =
    all-append (λ (row : StatusRow). has_status row.target) (map (row_of_group present) config.groups) (map (row_of_volume present) config.volumes) (groups-suit present config.groups) (volumes-suit present config.volumes)

-- Decisions.

abbrev By : (List ℕ → ℕ) → DeskState → List ℕ → Op → Reply → Deed → Type 0
By floors s job op reply deed = Rule floors s job op reply (state_with s (effect_of deed) (config_of deed))

deed-matches : (floors : List ℕ → ℕ) (s : DeskState) (running : Running) (job : List ℕ) (op : Op) (reply : Reply) (deed : Deed) → IsSound op
    → By floors s job op reply deed → Answers s running (Rule floors s job op) (record { reply = reply; deed = deed }) → Matches floors op reply (effect_of deed)
deed-matches floors s running job op reply deeds.Nothing sound rule answers = nothing-matches floors op reply answers.tells
deed-matches floors s running job op reply (deeds.Get set place pieces) sound rule answers = put-matches floors op reply set answers.tells
deed-matches floors s running job op reply (deeds.Note set) sound rule answers = put-matches floors op reply set answers.tells
deed-matches floors s running job op reply (deeds.Keep set) sound rule answers = put-matches floors op reply set answers.tells
deed-matches floors s running job op reply (deeds.Remove dsn) sound rule answers = drop-matches floors op reply dsn answers.tells
deed-matches floors s running job op reply (deeds.Become count config volumes statuses) sound rule answers =
    subst (λ (r : Reply). Matches floors op r (effect_of (deeds.Become count config volumes statuses))) (sym answers.tells) (activated-matches floors op count statuses)
deed-matches floors s running job op reply (deeds.Vary target status) sound rule answers = status-matches floors op reply target status answers.tells
deed-matches floors s running job op reply (deeds.Raise raised_job floor) sound rule answers =
    let rises = only-purges floors s job op reply (state_with s (effect_of (deeds.Raise raised_job floor)) None) raised_job floor answers.tells sound rule in
    subst (λ (r : Reply). Matches floors op r (effect_of (deeds.Raise raised_job floor))) (sym answers.tells) (floor-matches floors op raised_job floor rises.0 rises.1)

deed-suits : (floors : List ℕ → ℕ) (s : DeskState) (running : Running) (job : List ℕ) (op : Op) (reply : Reply) (deed : Deed)
    → By floors s job op reply deed → Answers s running (Rule floors s job op) (record { reply = reply; deed = deed }) → SuitsOp op (effect_of deed)
deed-suits floors s running job op reply deeds.Nothing rule answers = tt
deed-suits floors s running job op reply (deeds.Get set place pieces) rule answers = tt
deed-suits floors s running job op reply (deeds.Note set) rule answers = tt
deed-suits floors s running job op reply (deeds.Keep set) rule answers = tt
deed-suits floors s running job op reply (deeds.Remove dsn) rule answers = tt
deed-suits floors s running job op reply (deeds.Become count config volumes statuses) rule answers = (
  only-activates floors s job op reply (state_with s (effect_of (deeds.Become count config volumes statuses)) (Some config)) refl rule,
  subst (λ (l : List StatusRow). list_all (λ (row : StatusRow). has_status row.target) l ≡ true) (sym answers.fits.statuses_are) (statuses-suit config s.statuses),
)
deed-suits floors s running job op reply (deeds.Vary target status) rule answers = answers.fits
deed-suits floors s running job op reply (deeds.Raise raised_job floor) rule answers = tt

pub answers-decided : (floors : List ℕ → ℕ) (s : DeskState) (running : Running) (request : Request) (made : Decision) → IsSound request.op
    → Answers s running (Rule floors s request.job request.op) made → IsDecided floors s request made.reply (effect_of made.deed) (config_of made.deed)
answers-decided floors s running request made sound answers = record {
  rule = answers.rule;
  matches = deed-matches floors s running request.job request.op made.reply made.deed sound answers.rule answers;
  suits = deed-suits floors s running request.job request.op made.reply made.deed answers.rule answers;
}

-- a PURGE of a job that had this floor
pub purge-answers : (floors : List ℕ → ℕ) (s : DeskState) (running : Running) (job : List ℕ) (op : Op) (purged : List ℕ) (asked old floor : ℕ) (made : Decision) → op ≡ ops.Purge purged asked → floor ≡ asked
    → IsOldFloor floors op old → Answers s running (PurgeRule s old purged floor) made → Answers s running (Rule floors s job op) made
purge-answers floors s running job op purged asked old floor made is same old_is answers =
    let after : DeskState = state_with s (effect_of made.deed) (config_of made.deed) in
    let before : floors purged ≡ old = subst (λ (o : Op). IsOldFloor floors o old) is old_is in
    let asked_rule : PurgeRule s old purged asked made.reply after = subst (λ (n : ℕ). PurgeRule s old purged n made.reply after) same answers.rule in
    let old_rule : PurgeRule s (floors purged) purged asked made.reply after = subst (λ (n : ℕ). PurgeRule s n purged asked made.reply after) (sym before) asked_rule in
    record {
      rule = subst (λ (o : Op). Rule floors s job o made.reply after) (sym is) old_rule;
      tells = answers.tells;
      fits = answers.fits;
    }

-- the floor before, where all jobs have it
pub old-anywhere : (op : Op) (old : ℕ) → IsOldFloor (λ job. old) op old
old-anywhere (ops.Alloc alloc) old = tt
old-anywhere (ops.Activate deck) old = tt
old-anywhere (ops.Extend dsn) old = tt
old-anywhere (ops.Delete dsn) old = tt
old-anywhere (ops.Used dsn tracks) old = tt
old-anywhere (ops.Release dsn) old = tt
old-anywhere (ops.Display target) old = tt
old-anywhere (ops.Vary target action) old = tt
old-anywhere (ops.Purge job floor) old = refl

-- What a rule does: one walk over all operations, on which the laws stand.
use Rattle.std.proofs.Common.{◌≡◌, ℕ, ◌+◌, true, false, List, refl, ap, ◌∙◌, subst, inl, inr}
use Rattle.std.specs.Prelude.{None, Some, Ok, MatchResult, nat_eq, nat_lt, length}
use Rattle.sms_construct.specs.Configuration.{Configuration}
use Rattle.sms_construct.specs.Status.{status_of_action}
use Rattle.sms_construct.specs.declared.action.Action.{Action}
use Rattle.sms_construct.specs.declared.alloc.Alloc.{Alloc}
use Rattle.sms_construct.specs.declared.data_set.DataSet.{DataSet}
use Rattle.sms_construct.specs.declared.extent.Extent.{Extent}
use Rattle.sms_construct.specs.declared.reply.Reply.{Reply}
use Rattle.sms_construct.specs.declared.reply.Reply.TheVariants as replies
use Rattle.sms_construct.specs.declared.request.Op.{Op}
use Rattle.sms_construct.specs.declared.request.Op.TheVariants as ops
use Rattle.sms_construct.specs.declared.target.Target.{Target}
use Rattle.deck_meaning.specs.Reading.{Configures}
use Rattle.desk_law.specs.State.{DeskState, set_named, with_set, with_status, without_name}
use Rattle.desk_law.specs.Extents.{tracks_of_set, volumes_of, with_extents}
use Rattle.desk_law.specs.Volumes.{times_target}
use Rattle.desk_law.specs.Replies.{found_or, reply_if, Leaves, Makes}
use Rattle.desk_law.specs.Allocation.{Wish, alloc_case, ask_of, candidates_of, AllocRule, GrantsOn}
use Rattle.desk_law.specs.Extension.{ask_more, extend_case, first_volume, growth_on, last_volume, others_of, ExtendRule}
use Rattle.desk_law.specs.Extension.{Extends, ExtendsOn, FurtherRule}
use Rattle.desk_law.specs.Usage.{used_case}
use Rattle.desk_law.specs.Releasing.{kept_of}
use Rattle.desk_law.specs.Display.{reply_for_none, view_of_target}
use Rattle.desk_law.specs.Activation.{activated, first_barred, ActivateRule}
use Rattle.desk_law.specs.Rule.{Rule}
use Rattle.desk_law.proofs.LineLemmas.{OneOf, after-line, found-line, last-line, on-bool, on-chosen, on-option}
use Rattle.desk_law.proofs.LineLemmas.{on-result, passed-line}
use Rattle.desk_law.proofs.QuietLemmas.{IsQuiet, alloc-quiet, display-quiet, extend-quiet, quiet-found, quiet-if}
use Rattle.desk_law.proofs.QuietLemmas.{used-quiet}

-- what the lines of EXTEND come to: a catalogued data set with a secondary quantity
pub record IsExtendable (s : DeskState) (dsn : List ℕ) (set : DataSet) : Type 0 where
  pub found : set_named dsn s.sets ≡ Some set
  pub some : nat_eq set.secondary 0 ≡ false

extendable : (s : DeskState) (dsn : List ℕ) (set : DataSet) → extend_case s dsn ≡ Ok set → IsExtendable s dsn set
extendable s dsn set e =
    after-line _ _ set (IsExtendable s dsn set) e (λ found e1 e2.
    after-line _ _ set (IsExtendable s dsn set) e2 (λ u e3 e4.
    let same : found ≡ set = last-line found set e4 in
    record {
      found = found-line replies.NotFound (set_named dsn s.sets) found e1 ∙ ap Some same;
      some = subst (λ (d : DataSet). nat_eq d.secondary 0 ≡ false) same (passed-line _ (nat_eq found.secondary 0) u e3);
    }))

-- what the lines of USED come to
used-found : (s : DeskState) (dsn : List ℕ) (tracks : ℕ) (set : DataSet) → used_case s dsn tracks ≡ Ok set → set_named dsn s.sets ≡ Some set
used-found s dsn tracks set e =
    after-line _ _ set (set_named dsn s.sets ≡ Some set) e (λ found e1 e2.
    after-line _ _ set (set_named dsn s.sets ≡ Some set) e2 (λ u e3 e4.
    found-line replies.NotFound (set_named dsn s.sets) found e1 ∙ ap Some (last-line found set e4)))

-- what follows in each of the cases
pub record Cases (s : DeskState) (job : List ℕ) (op : Op) (reply : Reply) (after : DeskState) (C : Type 0) : Type 0 where
  -- nothing changes
  pub leaves : (answer : Reply) → IsQuiet answer → Leaves s answer reply after → C
  -- a new data set
  pub grants : (alloc : Alloc) (wish : Wish) → op ≡ ops.Alloc alloc → alloc_case s job alloc ≡ Ok wish
      → OneOf s (ask_of wish) (candidates_of wish) (λ volume. GrantsOn s alloc wish volume reply after) → C
  -- more tracks of the last volume
  pub grows : (dsn : List ℕ) (set : DataSet) (added : List Extent) → op ≡ ops.Extend dsn → IsExtendable s dsn set
      → growth_on s set (last_volume s set.extents) ≡ Some added → Extends s set added reply after → C
  -- tracks of a further volume
  pub spreads : (dsn : List ℕ) (set : DataSet) → op ≡ ops.Extend dsn → IsExtendable s dsn set → nat_lt (length (volumes_of set.extents)) set.volumes ≡ true
      → OneOf s (ask_more set) (others_of s set (first_volume s set.extents)) (λ volume. ExtendsOn s set volume reply after) → C
  pub deletes : (dsn : List ℕ) (set : DataSet) → op ≡ ops.Delete dsn → set_named dsn s.sets ≡ Some set → Makes (without_name s dsn) (replies.Deleted (tracks_of_set set)) reply after → C
  pub notes : (dsn : List ℕ) (tracks : ℕ) (set : DataSet) → op ≡ ops.Used dsn tracks → set_named dsn s.sets ≡ Some set
      → Makes (with_set s (with_extents set tracks set.extents)) replies.Noted reply after → C
  pub releases : (dsn : List ℕ) (set : DataSet) (tracks : ℕ) → op ≡ ops.Release dsn → set_named dsn s.sets ≡ Some set → Makes (with_set s (kept_of set)) (replies.Released tracks) reply after → C
  pub varies : (target : Target) (action : Action) → Makes (with_status s target (status_of_action action)) (replies.Varied target (status_of_action action)) reply after → C
  -- a configuration that nothing bars
  pub activates : (deck : List ℕ) (config : Configuration) → op ≡ ops.Activate deck → Configures deck config → first_barred s config ≡ None
      → Makes (activated s config) (replies.Activated (s.activations + 1)) reply after → C

on-alloc : (s : DeskState) (job : List ℕ) (alloc : Alloc) (reply : Reply) (after : DeskState) (C : Type 0) → AllocRule s job alloc reply after → Cases s job (ops.Alloc alloc) reply after C → C
on-alloc s job alloc reply after C rule on =
    on-result (alloc_case s job alloc) _ _ C rule
    (λ wish e chosen. on-chosen s (ask_of wish) (candidates_of wish) _ _ C chosen (λ leaves. on.leaves _ (refl, refl) leaves) (λ one. on.grants alloc wish refl e one))
    (λ answer e leaves. on.leaves answer (alloc-quiet s job alloc answer e) leaves)

on-further : (s : DeskState) (job dsn : List ℕ) (set : DataSet) (reply : Reply) (after : DeskState) (C : Type 0) → IsExtendable s dsn set → FurtherRule s set reply after → Cases s job (ops.Extend dsn) reply after C → C
on-further s job dsn set reply after C is rule on =
    on-bool (nat_lt (length (volumes_of set.extents)) set.volumes) _ _ C rule
    (λ may chosen. on-chosen s (ask_more set) (others_of s set (first_volume s set.extents)) _ _ C chosen (λ leaves. on.leaves _ (refl, refl) leaves) (λ one. on.spreads dsn set refl is may one))
    (λ e leaves. on.leaves _ (refl, refl) leaves)

on-extend : (s : DeskState) (job dsn : List ℕ) (reply : Reply) (after : DeskState) (C : Type 0) → ExtendRule s dsn reply after → Cases s job (ops.Extend dsn) reply after C → C
on-extend s job dsn reply after C rule on =
    on-result (extend_case s dsn) _ _ C rule
    (λ set e case. let is = extendable s dsn set e in
    on-option (growth_on s set (last_volume s set.extents)) _ _ C case
    (λ e2 further. on-further s job dsn set reply after C is further on)
    (λ added e2 extends. on.grows dsn set added refl is e2 extends))
    (λ answer e leaves. on.leaves answer (extend-quiet s dsn answer e) leaves)

on-activate : (s : DeskState) (job deck : List ℕ) (reply : Reply) (after : DeskState) (C : Type 0) → ActivateRule s deck reply after → Cases s job (ops.Activate deck) reply after C → C
on-activate s job deck reply after C (inl refused) on = on.leaves _ (refl, refl) refused.leaves
on-activate s job deck reply after C (inr taken) on =
    on-option (first_barred s taken.config) _ _ C taken.rule
    (λ e makes. on.activates deck taken.config refl taken.configures e makes)
    (λ volume e leaves. on.leaves _ (refl, refl) leaves)

-- a catalogued data set, or the reply that there is none
on-found : (s : DeskState) (job dsn : List ℕ) (op : Op) (reply : Reply) (after : DeskState) (next : DataSet → Type 0) (C : Type 0)
    → MatchResult (found_or replies.NotFound (set_named dsn s.sets)) next (λ answer. Leaves s answer reply after) → ((set : DataSet) → set_named dsn s.sets ≡ Some set → next set → C) → Cases s job op reply after C → C
on-found s job dsn op reply after next C rule found on =
    on-result (found_or replies.NotFound (set_named dsn s.sets)) _ _ C rule
    (λ set e makes. found set (found-line replies.NotFound (set_named dsn s.sets) set e) makes)
    (λ answer e leaves. on.leaves answer (quiet-found replies.NotFound (set_named dsn s.sets) (refl, refl) answer e) leaves)

-- whatever follows in each of the cases follows of the rule
pub on-rule : (old_floor : List ℕ → ℕ) (s : DeskState) (job : List ℕ) (op : Op) (reply : Reply) (after : DeskState) (C : Type 0) → Rule old_floor s job op reply after → Cases s job op reply after C → C
on-rule old_floor s job (ops.Alloc alloc) reply after C rule on = on-alloc s job alloc reply after C rule on
on-rule old_floor s job (ops.Activate deck) reply after C rule on = on-activate s job deck reply after C rule on
on-rule old_floor s job (ops.Extend dsn) reply after C rule on = on-extend s job dsn reply after C rule on
on-rule old_floor s job (ops.Delete dsn) reply after C rule on = on-found s job dsn (ops.Delete dsn) reply after _ C rule (λ set is makes. on.deletes dsn set refl is makes) on
on-rule old_floor s job (ops.Release dsn) reply after C rule on = on-found s job dsn (ops.Release dsn) reply after _ C rule (λ set is makes. on.releases dsn set _ refl is makes) on
on-rule old_floor s job (ops.Used dsn tracks) reply after C rule on =
    on-result (used_case s dsn tracks) _ _ C rule
    (λ set e makes. on.notes dsn tracks set refl (used-found s dsn tracks set e) makes)
    (λ answer e leaves. on.leaves answer (used-quiet s dsn tracks answer e) leaves)
on-rule old_floor s job (ops.Display target) reply after C rule on =
    on-result (found_or (reply_for_none target) (view_of_target s target)) _ _ C rule
    (λ view e leaves. on.leaves (replies.Shown view) (refl, refl) leaves)
    (λ answer e leaves. on.leaves answer (display-quiet s target answer e) leaves)
on-rule old_floor s job (ops.Vary target action) reply after C rule on =
    on-result (reply_if replies.UnknownName (nat_eq (times_target s.active target) 0)) _ _ C rule
    (λ u e makes. on.varies target action makes)
    (λ answer e leaves. on.leaves answer (quiet-if replies.UnknownName (nat_eq (times_target s.active target) 0) (refl, refl) answer e) leaves)
on-rule old_floor s job (ops.Purge other floor) reply after C rule on = on.leaves _ (refl, refl) rule

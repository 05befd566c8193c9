-- Decisions that are by the rules.
use Rattle.std.proofs.Common.{◌≡◌, ℕ, ◌-◌, true, false, List, refl, sym, ap, ◌∙◌}
use Rattle.std.specs.Prelude.{◌==◌, max, None, Some, nat_lt}
use Rattle.sms_construct.specs.Status.{status_of_action}
use Rattle.sms_construct.specs.declared.action.Action.{Action}
use Rattle.sms_construct.specs.declared.data_set.DataSet.{DataSet}
use Rattle.sms_construct.specs.declared.reply.Reply.{Reply}
use Rattle.sms_construct.specs.declared.reply.Reply.TheVariants as replies
use Rattle.sms_construct.specs.declared.target.Target.{Target}
use Rattle.sms_construct.specs.declared.target.Target.TheVariants as targets
use Rattle.sms_construct.specs.declared.view.View.{View}
use Rattle.sms_keeper.specs.Suits.{has_status}
use Rattle.desk_law.specs.Display.{DisplayRule, reply_for_none, view_of_target}
use Rattle.desk_law.specs.Purging.{PurgeRule}
use Rattle.desk_law.specs.Varying.{VaryRule}
use Rattle.desk_law.specs.Volumes.{times_target}
use Rattle.desk_law.specs.State.{DeskState, set_named}
use Rattle.desk_law.specs.Deletion.{DeleteRule}
use Rattle.desk_law.specs.Extents.{front_tracks, tracks_of_set, with_extents}
use Rattle.desk_law.specs.Releasing.{ReleaseRule, kept_of, tracks_kept}
use Rattle.desk_law.specs.Usage.{UsedRule}
use Rattle.desk_law.proofs.SetLemmas.{found-extents}
use Rattle.desk_records.specs.Effects.{tells_nothing}
use Rattle.desk_state.specs.Answering.{Answers}
use Rattle.desk_state.specs.Catalog.{set_in}
use Rattle.desk_state.specs.Standing.{IsRunning}
use Rattle.desk_state.specs.declared.deed.Deed.TheVariants as deeds
use Rattle.desk_state.specs.declared.running.Running.{Running}

-- a decision with which nothing is done
pub quiet-answers : (s : DeskState) (running : Running) (R : Reply → DeskState → Type 0) (reply : Reply) → R reply s → tells_nothing reply ≡ true → Answers s running R (record { reply = reply; deed = deeds.Nothing })
quiet-answers s running R reply rule tells = record { rule = rule; tells = tells; fits = tt }

-- USED.

pub used-none : (s : DeskState) (running : Running) (dsn : List ℕ) (tracks : ℕ) → IsRunning s running → set_in dsn running.catalog.sets ≡ None
    → Answers s running (UsedRule s dsn tracks) (record { reply = replies.NotFound; deed = deeds.Nothing })
used-none s running dsn tracks is none =
    let gone : set_named dsn s.sets ≡ None = sym (is.sets dsn) ∙ none in
    quiet-answers s running (UsedRule s dsn tracks) replies.NotFound (rw gone (record { reply_is = refl; after_is = refl })) refl

pub used-past : (s : DeskState) (running : Running) (dsn : List ℕ) (tracks : ℕ) (set : DataSet) → IsRunning s running → set_in dsn running.catalog.sets ≡ Some set → nat_lt (tracks_of_set set) tracks ≡ true
    → Answers s running (UsedRule s dsn tracks) (record { reply = replies.PastGrant (tracks_of_set set); deed = deeds.Nothing })
used-past s running dsn tracks set is found past =
    let there : set_named dsn s.sets ≡ Some set = sym (is.sets dsn) ∙ found in
    quiet-answers s running (UsedRule s dsn tracks) (replies.PastGrant (tracks_of_set set)) (rw (there, past) (record { reply_is = refl; after_is = refl })) refl

pub used-noted : (s : DeskState) (running : Running) (dsn : List ℕ) (tracks : ℕ) (set : DataSet) → IsRunning s running → set_in dsn running.catalog.sets ≡ Some set → nat_lt (tracks_of_set set) tracks ≡ false
    → Answers s running (UsedRule s dsn tracks) (record { reply = replies.Noted; deed = deeds.Note (with_extents set tracks set.extents) })
used-noted s running dsn tracks set is found fits =
    let there : set_named dsn s.sets ≡ Some set = sym (is.sets dsn) ∙ found in
    record {
      rule = rw (there, fits) (record { reply_is = refl; after_is = refl });
      tells = refl;
      fits = sym (found-extents dsn s.sets set there);
    }

-- DELETE.

pub delete-none : (s : DeskState) (running : Running) (dsn : List ℕ) → IsRunning s running → set_in dsn running.catalog.sets ≡ None
    → Answers s running (DeleteRule s dsn) (record { reply = replies.NotFound; deed = deeds.Nothing })
delete-none s running dsn is none =
    let gone : set_named dsn s.sets ≡ None = sym (is.sets dsn) ∙ none in
    quiet-answers s running (DeleteRule s dsn) replies.NotFound (rw gone (record { reply_is = refl; after_is = refl })) refl

pub delete-done : (s : DeskState) (running : Running) (dsn : List ℕ) (set : DataSet) → IsRunning s running → set_in dsn running.catalog.sets ≡ Some set
    → Answers s running (DeleteRule s dsn) (record { reply = replies.Deleted (tracks_of_set set); deed = deeds.Remove dsn })
delete-done s running dsn set is found =
    let there : set_named dsn s.sets ≡ Some set = sym (is.sets dsn) ∙ found in
    record { rule = rw there (record { reply_is = refl; after_is = refl }); tells = refl; fits = tt }

-- RELEASE.

pub release-none : (s : DeskState) (running : Running) (dsn : List ℕ) → IsRunning s running → set_in dsn running.catalog.sets ≡ None
    → Answers s running (ReleaseRule s dsn) (record { reply = replies.NotFound; deed = deeds.Nothing })
release-none s running dsn is none =
    let gone : set_named dsn s.sets ≡ None = sym (is.sets dsn) ∙ none in
    quiet-answers s running (ReleaseRule s dsn) replies.NotFound (rw gone (record { reply_is = refl; after_is = refl })) refl

pub release-done : (s : DeskState) (running : Running) (dsn : List ℕ) (set : DataSet) → IsRunning s running → set_in dsn running.catalog.sets ≡ Some set
    → Answers s running (ReleaseRule s dsn) (record { reply = replies.Released (tracks_of_set set - tracks_of_set (kept_of set)); deed = deeds.Keep (kept_of set) })
release-done s running dsn set is found =
    let there : set_named dsn s.sets ≡ Some set = sym (is.sets dsn) ∙ found in
    record {
      rule = rw there (record { reply_is = refl; after_is = refl });
      tells = refl;
      fits = record { keep = tracks_kept set; extents = ap (front_tracks (tracks_kept set)) (sym (found-extents dsn s.sets set there)) };
    }

-- PURGE.

pub purge-done : (s : DeskState) (running : Running) (job : List ℕ) (old floor greater : ℕ) → greater ≡ max old floor
    → Answers s running (PurgeRule s old job floor) (record { reply = replies.Purged job greater; deed = deeds.Raise job greater })
purge-done s running job old floor greater is = record { rule = record { reply_is = ap (replies.Purged job) is; after_is = refl }; tells = refl; fits = tt }

-- VARY.

pub vary-none : (s : DeskState) (running : Running) (target : Target) (action : Action) → (times_target s.active target == 0) ≡ true
    → Answers s running (VaryRule s target action) (record { reply = replies.UnknownName; deed = deeds.Nothing })
vary-none s running target action none = quiet-answers s running (VaryRule s target action) replies.UnknownName (rw none (record { reply_is = refl; after_is = refl })) refl

-- what is there is a storage group or a volume
there-status : (s : DeskState) (target : Target) → (times_target s.active target == 0) ≡ false → has_status target ≡ true
there-status s (targets.Group name) some = refl
there-status s (targets.Volume volser) some = refl
there-status s (targets.Set dsn) some = absurd cc

pub vary-done : (s : DeskState) (running : Running) (target : Target) (action : Action) → (times_target s.active target == 0) ≡ false
    → Answers s running (VaryRule s target action) (record { reply = replies.Varied target (status_of_action action); deed = deeds.Vary target (status_of_action action) })
vary-done s running target action some = record { rule = rw some (record { reply_is = refl; after_is = refl }); tells = refl; fits = there-status s target some }

-- DISPLAY.

pub display-shown : (s : DeskState) (running : Running) (target : Target) (view : View) → Some view ≡ view_of_target s target
    → Answers s running (DisplayRule s target) (record { reply = replies.Shown view; deed = deeds.Nothing })
display-shown s running target view is = quiet-answers s running (DisplayRule s target) (replies.Shown view) (rw (sym is) (record { reply_is = refl; after_is = refl })) refl

none-tells : (target : Target) → tells_nothing (reply_for_none target) ≡ true
none-tells (targets.Group name) = refl
none-tells (targets.Volume volser) = refl
none-tells (targets.Set dsn) = refl

pub display-none : (s : DeskState) (running : Running) (target : Target) → None ≡ view_of_target s target
    → Answers s running (DisplayRule s target) (record { reply = reply_for_none target; deed = deeds.Nothing })
display-none s running target is = quiet-answers s running (DisplayRule s target) (reply_for_none target) (rw (sym is) (record { reply_is = refl; after_is = refl })) (none-tells target)

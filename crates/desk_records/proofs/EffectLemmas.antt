-- Replies and effects that tell one thing, rules that read the floors alone, and the states that effects make.
use Rattle.std.proofs.Common.{◌≡◌, ◌≤◌, ℕ, true, false, List, [], refl, arith}
use Rattle.std.specs.Prelude.{Option, None, Some, max}
use Rattle.sms_construct.specs.Configuration.{Configuration}
use Rattle.sms_construct.specs.Fate.{fate_of}
use Rattle.sms_construct.specs.declared.data_set.DataSet.{DataSet}
use Rattle.sms_construct.specs.declared.fate.Fate.TheVariants as fates
use Rattle.sms_construct.specs.declared.reply.Reply.{Reply}
use Rattle.sms_construct.specs.declared.reply.Reply.TheVariants as replies
use Rattle.sms_construct.specs.declared.request.Op.{Op}
use Rattle.sms_construct.specs.declared.request.Op.TheVariants as ops
use Rattle.sms_construct.specs.declared.status.Status.{Status}
use Rattle.sms_construct.specs.declared.target.Target.{Target}
use Rattle.sms_keeper.specs.declared.effect.Effect.{Effect}
use Rattle.sms_keeper.specs.declared.effect.Effect.TheVariants as effects
use Rattle.sms_keeper.specs.declared.status_row.StatusRow.{StatusRow}
use Rattle.sms_keeper.specs.Suits.{deck_of}
use Rattle.desk_law.specs.State.{DeskState, with_set, with_status, without_name}
use Rattle.desk_law.specs.Activation.{activated, statuses_under}
use Rattle.desk_law.specs.Kept.{floor_told, is_entered, is_fault}
use Rattle.desk_law.specs.Records.{decks_told}
use Rattle.desk_law.specs.Rule.{Rule}
use Rattle.desk_records.specs.Effects.{Matches, Raises, state_with, tells_nothing}

-- A reply that tells nothing.

nothing-floor : (reply : Reply) → tells_nothing reply ≡ true → floor_told reply ≡ []
nothing-floor (replies.Purged job floor) is = absurd cc
nothing-floor reply is = refl

nothing-deck : (reply : Reply) (deck : Option (List ℕ)) → tells_nothing reply ≡ true → decks_told reply deck ≡ []
nothing-deck (replies.Activated count) deck is = absurd cc
nothing-deck reply deck is = refl

nothing-kept : (reply : Reply) → tells_nothing reply ≡ true → fate_of reply ≡ fates.Kept
nothing-kept (replies.Reused first) is = absurd cc
nothing-kept (replies.Below floor) is = absurd cc
nothing-kept replies.JournalFull is = absurd cc
nothing-kept replies.KeeperFault is = absurd cc
nothing-kept replies.Memory is = absurd cc
nothing-kept (replies.Activated count) is = refl
nothing-kept (replies.Purged job floor) is = refl
nothing-kept reply is = refl

-- What each effect and its reply tell.

pub nothing-matches : (old_floor : List ℕ → ℕ) (op : Op) (reply : Reply) → tells_nothing reply ≡ true → Matches old_floor op reply effects.Nothing
nothing-matches old_floor op reply is = record { floors_match = nothing-floor reply is; decks_match = nothing-deck reply (deck_of op) is; kept = nothing-kept reply is; raises = tt }

pub put-matches : (old_floor : List ℕ → ℕ) (op : Op) (reply : Reply) (set : DataSet) → tells_nothing reply ≡ true → Matches old_floor op reply (effects.PutSet set)
put-matches old_floor op reply set is = record { floors_match = nothing-floor reply is; decks_match = nothing-deck reply (deck_of op) is; kept = nothing-kept reply is; raises = tt }

pub drop-matches : (old_floor : List ℕ → ℕ) (op : Op) (reply : Reply) (dsn : List ℕ) → tells_nothing reply ≡ true → Matches old_floor op reply (effects.DropSet dsn)
drop-matches old_floor op reply dsn is = record { floors_match = nothing-floor reply is; decks_match = nothing-deck reply (deck_of op) is; kept = nothing-kept reply is; raises = tt }

pub status-matches : (old_floor : List ℕ → ℕ) (op : Op) (reply : Reply) (target : Target) (status : Status) → tells_nothing reply ≡ true → Matches old_floor op reply (effects.SetStatus target status)
status-matches old_floor op reply target status is = record { floors_match = nothing-floor reply is; decks_match = nothing-deck reply (deck_of op) is; kept = nothing-kept reply is; raises = tt }

pub activated-matches : (old_floor : List ℕ → ℕ) (op : Op) (count : ℕ) (statuses : List StatusRow) → Matches old_floor op (replies.Activated count) (effects.Activated count statuses)
activated-matches old_floor op count statuses = record { floors_match = refl; decks_match = refl; kept = refl; raises = tt }

pub floor-matches : (old_floor : List ℕ → ℕ) (op : Op) (job : List ℕ) (floor : ℕ) → old_floor job ≤ floor → 1 ≤ floor → Matches old_floor op (replies.Purged job floor) (effects.Floor job floor)
floor-matches old_floor op job floor rises some = record { floors_match = refl; decks_match = refl; kept = refl; raises = (rises, some) }

-- the floor that a PURGE with this number sets
pub purge-matches : (old_floor : List ℕ → ℕ) (op : Op) (job : List ℕ) (floor : ℕ) → 1 ≤ floor → Matches old_floor op (replies.Purged job (max (old_floor job) floor)) (effects.Floor job (max (old_floor job) floor))
purge-matches old_floor op job floor some = floor-matches old_floor op job (max (old_floor job) floor) (omega arith) (omega (arith, some))

-- The states that effects make.

pub nothing-state : (s : DeskState) → state_with s effects.Nothing None ≡ s
nothing-state s = refl

pub put-state : (s : DeskState) (set : DataSet) → state_with s (effects.PutSet set) None ≡ with_set s set
put-state s set = refl

pub drop-state : (s : DeskState) (dsn : List ℕ) → state_with s (effects.DropSet dsn) None ≡ without_name s dsn
drop-state s dsn = refl

pub status-state : (s : DeskState) (target : Target) (status : Status) → state_with s (effects.SetStatus target status) None ≡ with_status s target status
status-state s target status = refl

pub floor-state : (s : DeskState) (job : List ℕ) (floor : ℕ) → state_with s (effects.Floor job floor) None ≡ s
floor-state s job floor = refl

pub activated-state : (s : DeskState) (config : Configuration) (count : ℕ) → state_with s (effects.Activated count (statuses_under config s.statuses)) (Some config) ≡ activated s config
activated-state s config count = refl

-- Rules and effects read the floors alone.

pub rule-floors : (f g : List ℕ → ℕ) (s : DeskState) (job : List ℕ) (op : Op) (reply : Reply) (after : DeskState) → ((j : List ℕ) → f j ≡ g j) → Rule f s job op reply after → Rule g s job op reply after
rule-floors f g s job (ops.Alloc alloc) reply after same rule = rule
rule-floors f g s job (ops.Activate deck) reply after same rule = rule
rule-floors f g s job (ops.Extend dsn) reply after same rule = rule
rule-floors f g s job (ops.Delete dsn) reply after same rule = rule
rule-floors f g s job (ops.Used dsn tracks) reply after same rule = rule
rule-floors f g s job (ops.Release dsn) reply after same rule = rule
rule-floors f g s job (ops.Display target) reply after same rule = rule
rule-floors f g s job (ops.Vary target action) reply after same rule = rule
rule-floors f g s job (ops.Purge other floor) reply after same rule = record { reply_is = rw (← same other) rule.reply_is; after_is = rule.after_is }

raises-floors : (f g : List ℕ → ℕ) (effect : Effect) → ((j : List ℕ) → f j ≡ g j) → Raises f effect → Raises g effect
raises-floors f g (effects.Floor job floor) same raises = (rw (← same job) raises.0, raises.1)
raises-floors f g effects.Nothing same raises = tt
raises-floors f g (effects.PutSet set) same raises = tt
raises-floors f g (effects.DropSet dsn) same raises = tt
raises-floors f g (effects.Activated count statuses) same raises = tt
raises-floors f g (effects.SetStatus target status) same raises = tt

pub matches-floors : (f g : List ℕ → ℕ) (op : Op) (reply : Reply) (effect : Effect) → ((j : List ℕ) → f j ≡ g j) → Matches f op reply effect → Matches g op reply effect
matches-floors f g op reply effect same match_ = record { floors_match = match_.floors_match; decks_match = match_.decks_match; kept = match_.kept; raises = raises-floors f g effect same match_.raises }

-- What follows of a kept reply.

pub kept-no_fault : (reply : Reply) → fate_of reply ≡ fates.Kept → is_fault reply ≡ false
kept-no_fault replies.KeeperFault is = absurd cc
kept-no_fault reply is = refl

pub kept-entered : (reply : Reply) → fate_of reply ≡ fates.Kept → is_entered reply ≡ true
kept-entered reply is = rw is refl

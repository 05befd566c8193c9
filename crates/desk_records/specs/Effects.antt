-- What the effect of a fresh request makes of the state, and whether its reply tells it.
use Rattle.std.specs.Prelude.{ℕ, Bool, true, false, ◌≡◌, ◌≤◌, ◌+◌, List, [], ◌∷◌, Option, None, Some}
use Rattle.sms_construct.specs.Configuration.{Configuration}
use Rattle.sms_construct.specs.Fate.{fate_of}
use Rattle.sms_construct.specs.declared.entry.Entry.{Entry}
use Rattle.sms_construct.specs.declared.fate.Fate.TheVariants as fates
use Rattle.sms_construct.specs.declared.reply.Reply.{Reply}
use Rattle.sms_construct.specs.declared.reply.Reply.TheVariants as replies
use Rattle.sms_construct.specs.declared.request.Op.{Op}
use Rattle.sms_construct.specs.declared.request.Request.{Request}
use Rattle.sms_keeper.specs.declared.change.Change.{Change}
use Rattle.sms_keeper.specs.declared.effect.Effect.{Effect}
use Rattle.sms_keeper.specs.declared.effect.Effect.TheVariants as effects
use Rattle.sms_keeper.specs.declared.floor.Floor.{Floor}
use Rattle.sms_keeper.specs.Suits.{SuitsOp, deck_of}
use Rattle.sms_keeper.specs.Tables.{decks_added, sets_with, statuses_with}
use Rattle.desk_law.specs.State.{DeskState}
use Rattle.desk_law.specs.Kept.{floor_told}
use Rattle.desk_law.specs.Records.{decks_told}
use Rattle.desk_law.specs.Rule.{Rule}

-- the activations after an effect
abbrev pub activations_with : Effect → ℕ → ℕ
activations_with effects.Nothing count = count
activations_with (effects.PutSet set) count = count
activations_with (effects.DropSet dsn) count = count
activations_with (effects.Activated number statuses) count = count + 1
activations_with (effects.SetStatus target status) count = count
activations_with (effects.Floor job floor) count = count

-- the configuration that a request brings, and else the old one
abbrev pub active_with : Option Configuration → Option Configuration → Option Configuration
active_with None old = old
active_with (Some config) old = Some config

-- the state with the effect made, and with the configuration that it brings, if any
abbrev pub state_with : DeskState → Effect → Option Configuration → DeskState
state_with s effect config = record {
  activations = activations_with effect s.activations;
  active = active_with config s.active;
  statuses = statuses_with effect s.statuses;
  sets = sets_with effect s.sets;
}

-- the floor that an effect sets, if any
abbrev pub floor_put : Effect → List Floor
floor_put effects.Nothing = []
floor_put (effects.PutSet set) = []
floor_put (effects.DropSet dsn) = []
floor_put (effects.Activated count statuses) = []
floor_put (effects.SetStatus target status) = []
floor_put (effects.Floor job floor) = record { job = job; floor = floor } ∷ []

-- a floor that is set isn't lower than the old one, and isn't 0
abbrev pub Raises : (List ℕ → ℕ) → Effect → Type 0
Raises old_floor effects.Nothing = Unit {0}
Raises old_floor (effects.PutSet set) = Unit {0}
Raises old_floor (effects.DropSet dsn) = Unit {0}
Raises old_floor (effects.Activated count statuses) = Unit {0}
Raises old_floor (effects.SetStatus target status) = Unit {0}
Raises old_floor (effects.Floor job floor) = (old_floor job ≤ floor) × (1 ≤ floor)

-- the effect does to the tables what the reply tells; `old_floor` is the floor of each job before
pub record Matches (old_floor : List ℕ → ℕ) (op : Op) (reply : Reply) (effect : Effect) : Type 0 where
  pub floors_match : floor_told reply ≡ floor_put effect
  pub decks_match : decks_told reply (deck_of op) ≡ decks_added op effect
  pub kept : fate_of reply ≡ fates.Kept
  pub raises : Raises old_floor effect

-- the reply and the effect are by the rule of the op, they match, and a keeper takes them
pub record IsDecided (old_floor : List ℕ → ℕ) (s : DeskState) (request : Request) (reply : Reply) (effect : Effect)
    (config : Option Configuration) : Type 0 where
  pub rule : Rule old_floor s request.job request.op reply (state_with s effect config)
  pub matches : Matches old_floor request.op reply effect
  pub suits : SuitsOp request.op effect

-- the reply is kept, and tells no floor and no deck
abbrev pub tells_nothing : Reply → Bool
tells_nothing (replies.Granted set trace) = true
tells_nothing (replies.NotManaged trace) = true
tells_nothing (replies.Extended added) = true
tells_nothing (replies.Deleted tracks) = true
tells_nothing (replies.Activated count) = false
tells_nothing (replies.Varied target status) = true
tells_nothing (replies.Shown view) = true
tells_nothing (replies.Purged job floor) = false
tells_nothing replies.Noted = true
tells_nothing (replies.Released tracks) = true
tells_nothing (replies.Reused first) = false
tells_nothing (replies.Below floor) = false
tells_nothing replies.NoConfig = true
tells_nothing replies.NameInUse = true
tells_nothing (replies.Exit kind code trace) = true
tells_nothing (replies.UnknownClass kind name trace) = true
tells_nothing (replies.NoQuantity trace) = true
tells_nothing (replies.NoGroup trace) = true
tells_nothing (replies.NoVolume trace) = true
tells_nothing replies.NotFound = true
tells_nothing (replies.NoExtend why) = true
tells_nothing (replies.Deck fault) = true
tells_nothing (replies.VolumeInUse volser) = true
tells_nothing replies.UnknownName = true
tells_nothing replies.JournalFull = false
tells_nothing (replies.PastGrant granted) = true
tells_nothing replies.KeeperFault = false
tells_nothing replies.Memory = false

-- the change that an entry makes
abbrev pub change_of : Entry → Effect → Change
change_of e effect = record { place = e.answer.place; request = e.request; reply = e.answer.reply; effect = effect }

-- What comes with each reply.
use Rattle.std.specs.Prelude.{ℕ, Bool, true, false, List}
use Rattle.sms_construct.specs.declared.reply.Reply.{Reply}
use Rattle.sms_construct.specs.declared.reply.Reply.TheVariants as replies

-- nothing; a change of the data sets or of a status; an activation; a floor; a fault of the keeper
pub data Consequence : Type 0 where
  NoChange : Consequence
  Change : Consequence
  Activation : ℕ → Consequence
  FloorOf : List ℕ → ℕ → Consequence
  Fault : Consequence

-- what comes with a reply
abbrev pub consequence_of : Reply → Consequence
consequence_of (replies.Granted set trace) = Change
consequence_of (replies.NotManaged trace) = NoChange
consequence_of (replies.Extended added) = Change
consequence_of (replies.Deleted tracks) = Change
consequence_of (replies.Activated count) = Activation count
consequence_of (replies.Varied target status) = Change
consequence_of (replies.Shown view) = NoChange
consequence_of (replies.Purged job floor) = FloorOf job floor
consequence_of replies.Noted = Change
consequence_of (replies.Released tracks) = Change
consequence_of (replies.Reused first) = NoChange
consequence_of (replies.Below floor) = NoChange
consequence_of replies.NoConfig = NoChange
consequence_of replies.NameInUse = NoChange
consequence_of (replies.Exit kind code trace) = NoChange
consequence_of (replies.UnknownClass kind name trace) = NoChange
consequence_of (replies.NoQuantity trace) = NoChange
consequence_of (replies.NoGroup trace) = NoChange
consequence_of (replies.NoVolume trace) = NoChange
consequence_of replies.NotFound = NoChange
consequence_of (replies.NoExtend why) = NoChange
consequence_of (replies.Deck fault) = NoChange
consequence_of (replies.VolumeInUse volser) = NoChange
consequence_of replies.UnknownName = NoChange
consequence_of replies.JournalFull = NoChange
consequence_of (replies.PastGrant granted) = NoChange
consequence_of replies.KeeperFault = Fault
consequence_of replies.Memory = NoChange

-- the state may be another after it
abbrev pub changes_state : Consequence → Bool
changes_state NoChange = false
changes_state Change = true
changes_state (Activation count) = true
changes_state (FloorOf job floor) = false
changes_state Fault = false

-- the state may be another after this reply; after each other it is as before
abbrev pub may_change : Reply → Bool
may_change reply = changes_state (consequence_of reply)

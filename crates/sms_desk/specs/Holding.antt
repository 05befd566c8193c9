-- What a seat holds: a configuration, with the number of activations under which it was active (docs/manual/workers.md,
-- "What a seat holds").
use Rattle.std.specs.Prelude.{ℕ, ◌≡◌, ◌==◌, Bool, true, false, List, ◌++◌, Option, None, Some, IfSome, MatchOption}
use Rattle.std.specs.Prelude.{if◌then◌else◌}
use Rattle.sms_construct.specs.Configuration.{Configuration}
use Rattle.sms_construct.specs.declared.entry.Answer.{Answer}
use Rattle.sms_construct.specs.declared.entry.Entry.{Entry}
use Rattle.sms_construct.specs.declared.request.Op.TheVariants as ops
use Rattle.sms_construct.specs.declared.request.Request.{Request}
use Rattle.deck_meaning.specs.Reading.{Configures}
use Rattle.desk_law.specs.State.{DeskState, Opening}
use Rattle.desk_law.specs.History.{Reaches, WasActive}
use Rattle.desk_law.specs.Kept.{is_entered}
use Rattle.sms_core.specs.Core.{IsNext, entry_of}
use Rattle.sms_desk.specs.declared.held.Held.{Held}

-- the seat holds the configuration that was active after so many activations
abbrev pub holds : Option Held → ℕ → Bool
holds None count = false
holds (Some held) count = held.count == count

-- the number of activations under which the seat holds its configuration; 0 where it holds none
abbrev pub held_count : Option Held → ℕ
held_count None = 0
held_count (Some held) = held.count

-- what the seat holds was active after so many activations of the history
abbrev pub IsHolding : Opening → List Entry → Option Held → Type 0
IsHolding o h held = IfSome held (λ held. WasActive o h held.count held.config)

-- what the seat holds is active in the state, after as many activations as there were; it holds none where none is
abbrev pub IsHeldIn : DeskState → Option Held → Type 0
IsHeldIn s held = MatchOption held (s.active ≡ None) (λ held. (held.count ≡ s.activations) ×
    (s.active ≡ Some held.config))

-- what the seat holds is active where the history ends
abbrev pub IsCurrent : Opening → List Entry → Option Held → Type 0
IsCurrent o h held = (s : DeskState) → Reaches o h s → IsHeldIn s held

-- what the deck configures; nothing only where it configures nothing
abbrev pub IsOwnOf : List ℕ → Option Configuration → Type 0
IsOwnOf deck own = MatchOption own ((config : Configuration) → Configures deck config →
    ⊥) (λ config. Configures deck config)

-- the same of the deck of an ACTIVATE
abbrev pub IsOwn : Request → Option Configuration → Type 0
IsOwn request own = (deck : List ℕ) → request.op ≡ ops.Activate deck → IsOwnOf deck own

-- the configuration, held under so many activations
abbrev pub held_under : ℕ → Option Configuration → Option Held
held_under count None = None
held_under count (Some config) = Some (record { count = count; config = config })

-- what the seat holds where so many activations were made: the same if it holds what was active then, and else its own
abbrev pub renewed : ℕ → Option Configuration → Option Held → Option Held
renewed count own held = if holds held count then held else held_under count own

-- the history went on by the answer's entry, which is lawful there
pub record GoesOn (o : Opening) (old new : List Entry) (request : Request) (answer : Answer) : Type 0 where
  pub grown : new ≡ old ++ entry_of request answer
  pub lawful : is_entered answer.reply ≡ true → IsNext o old (record { request = request; answer = answer })

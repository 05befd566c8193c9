-- What had been sent whenever a read was made (docs/manual/http.md, "How a connection ends").
use Rattle.std.specs.Prelude.{◌≡◌, ℕ, List, ◌++◌, All, Option, None, Some, MatchOption}
use Rattle.std.specs.Io.KnownBytes.{Consumes, Appends}
use Rattle.sms_base.specs.Beside.{ReadMoment}
use Rattle.sms_base.specs.Observed.{Observed}
use Rattle.http_message.specs.Message.{Message}
use Rattle.http_talk.specs.Hearing.{ClerkMoment, AreTalksOf}
use Rattle.http_talk.specs.Talking.{Reads}
use Rattle.http_talk.specs.Conversation.{IsPause}
use Rattle.http_talk.specs.declared.talk.Talk.{Talk}

-- a moment of the conversation at which what had come was answered: the talks of its messages are the first of all,
-- what is due for them had been sent, and no whole message was left
pub record IsPauseAt (old : Observed) (talks : List Talk) (moment : ReadMoment) : Type 0 where
  pub came : List ℕ
  pub messages : List Message
  pub rest : List ℕ
  pub sent : List ℕ
  pub firsts : List Talk
  pub others : List Talk
  pub consumed : Consumes old.left moment.left came
  pub reads : Reads came messages rest
  pub talks_are : talks ≡ firsts ++ others
  pub asked : AreTalksOf messages firsts
  pub took : Appends old.taken moment.taken sent
  pub pause : IsPause messages firsts rest sent

-- so it was at each read that was made, where their moments are told
abbrev pub PausedAtReads : Observed → List Talk → Option (List ReadMoment) → Option (List ReadMoment) → Type 0
PausedAtReads old talks told told' =
    MatchOption told (told' ≡ None)
    (λ before. (moments : List ReadMoment) × (told' ≡ Some (before ++ moments)) × All (IsPauseAt old talks) moments)

-- the clerk's list grew by talks, and no read was made before all was sent that was due by then
pub record IsPrompt {S : Type 0} (clerk clerk' : ClerkMoment S) (old : Observed) (told told' : Option (List ReadMoment))
    : Type 0 where
  pub talks : List Talk
  pub grown : clerk'.talks ≡ clerk.talks ++ talks
  pub paused : PausedAtReads old talks told told'

-- What the answers to the items of a script enter.
use Rattle.std.specs.Prelude.{ℕ, ◌≡◌, ◌↔◌, List, [], ◌∷◌, ◌++◌, length, true, false}
use Rattle.sms_construct.specs.declared.entry.Answer.{Answer}
use Rattle.sms_construct.specs.declared.entry.Entry.{Entry}
use Rattle.sms_construct.specs.declared.reply.Reply.TheVariants as replies
use Rattle.sms_construct.specs.declared.request.Request.{Request}
use Rattle.desk_law.specs.Kept.{is_entered}
use Rattle.desk_records.specs.Full.{is_full_for}
use Rattle.sms_core.specs.Core.{entry_of}
use Rattle.sms_script.specs.declared.item.Item.{Item}
use Rattle.desk_workers.specs.Phases.{entries_for}

-- behind these entries the answer has no place exactly where its reply comes without an entry, then with the first
-- place 0 too, and R24 comes exactly where the journal has no place for the op
pub record IsDue (h : List Entry) (request : Request) (answer : Answer) : Type 0 where
  pub unplaced : answer.place ≡ 0 ↔ is_entered answer.reply ≡ false
  pub first : is_entered answer.reply ≡ false → answer.first ≡ 0
  pub full : answer.reply ≡ replies.JournalFull ↔ is_full_for h request.op ≡ true

-- each answer to an item is due behind these entries and those of the answers before it
abbrev pub AreDue : List Entry → List Answer → List Item → Type 0
AreDue h [] items = Unit {0}
AreDue h (answer ∷ answers) [] = Unit {0}
AreDue h (answer ∷ answers) (item ∷ items) =
    IsDue h item.request answer × AreDue (h ++ entry_of item.request answer) answers items

-- each item has its answer, and the journal grew by their entries, each once and in script order
pub record AnswersInOrder (items : List Item) (answers : List Answer) (old new : List Entry) : Type 0 where
  pub each : length answers ≡ length items
  pub once : new ≡ old ++ entries_for answers items
  pub due : AreDue old answers items

-- so many of the items have their answers, behind those before them
pub record AnswersFront (items : List Item) (count : ℕ) (before after : List Answer)
    (old new : List Entry) : Type 0 where
  pub answers : List Answer
  pub behind : after ≡ before ++ answers
  pub counted : length answers ≡ count
  pub once : new ≡ old ++ entries_for answers items
  pub due : AreDue old answers items

-- A script answered by several workers: one history, and each job in order (docs/manual/workers.md, "Phases").
use Rattle.std.specs.Prelude.{ℕ, ◌≡◌, ◌↔◌, Bool, true, false, bytes_eq, filter, List, [], ◌∷◌, ◌++◌, length, take}
use Rattle.std.specs.List.{AllZip}
use Rattle.sms_construct.specs.declared.entry.Answer.{Answer}
use Rattle.sms_construct.specs.declared.entry.Entry.{Entry}
use Rattle.sms_construct.specs.declared.reply.Reply.TheVariants as replies
use Rattle.sms_construct.specs.declared.request.Request.{Request}
use Rattle.desk_law.specs.Kept.{is_entered}
use Rattle.desk_records.specs.Full.{is_full_for}
use Rattle.sms_core.specs.Core.{entry_of}
use Rattle.sms_script.specs.declared.item.Item.{Item}
use Rattle.desk_plan.specs.Sharing.{made_of}

-- the entry that an answer to an item makes, if any
abbrev pub entry_for : Item → Answer → List Entry
entry_for item answer = entry_of item.request answer

-- the entries that answers to items make, in their order
abbrev pub entries_for : List Answer → List Item → List Entry
entries_for answers items = made_of entry_for answers items

-- the entry is of this job
abbrev pub is_of : List ℕ → Entry → Bool
is_of job entry = bytes_eq entry.request.job job

-- in this history the answer has no place exactly where its reply comes without an entry, then with the first place 0
-- too, and that the journal is full is told only where it has no place for the op
pub record IsDueIn (history : List Entry) (request : Request) (answer : Answer) : Type 0 where
  pub unplaced : answer.place ≡ 0 ↔ is_entered answer.reply ≡ false
  pub first : is_entered answer.reply ≡ false → answer.first ≡ 0
  pub full : answer.reply ≡ replies.JournalFull → is_full_for history request.op ≡ true

-- the same of each answer to an item
abbrev pub AreDueIn : List Entry → List Answer → List Item → Type 0
AreDueIn history answers items = AllZip (λ answer item. IsDueIn history item.request answer) answers items

-- the items of a phase are answered: each once, and the history went on by the entries of the answers, those of each
-- job in the order of its items
pub record IsPhaseAnswered (items : List Item) (answers : List Answer) (old new : List Entry) : Type 0 where
  pub each : length answers ≡ length items
  pub added : List Entry
  pub grown : new ≡ old ++ added
  pub jobs : (job : List ℕ) → filter (is_of job) added ≡ filter (is_of job) (entries_for answers items)
  pub due : AreDueIn new answers items

-- the phases are answered one after the other
abbrev pub AreAnswered : List (List Item) → List Answer → List Entry → List Entry → Type 0
AreAnswered [] answers old new = (answers ≡ []) × (new ≡ old)
AreAnswered (items ∷ phases) answers old new =
    (front : List Answer) × (rest : List Answer) × (middle : List Entry) × (answers ≡ front ++ rest) ×
    IsPhaseAnswered items front old middle × AreAnswered phases rest middle new

-- some of the first phases are answered whole, and nothing of the others
pub record IsFrontAnswered (phases : List (List Item)) (old new : List Entry) : Type 0 where
  pub count : ℕ
  pub answers : List Answer
  pub answered : AreAnswered (take count phases) answers old new

-- the items of a phase are answered, and the answers stand behind the others
pub record HasPhase (items : List Item) (before after : List Answer) (old new : List Entry) : Type 0 where
  pub answers : List Answer
  pub behind : after ≡ before ++ answers
  pub answered : IsPhaseAnswered items answers old new

-- so many of the items are answered in their order, behind the others
pub record HasSteps (items : List Item) (count : ℕ) (before after : List Answer) (old new : List Entry) : Type 0 where
  pub answers : List Answer
  pub behind : after ≡ before ++ answers
  pub counted : length answers ≡ count
  pub grown : new ≡ old ++ entries_for answers (take count items)
  pub due : AreDueIn new answers (take count items)

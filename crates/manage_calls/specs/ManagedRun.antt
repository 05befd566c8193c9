-- A run with a day of space management behind it: the headline of the run, and of the day.
use Rattle.std.specs.Prelude.{◌≡◌, ◌⊎◌, ℕ, List, [], ◌++◌, length, Ok}
use Rattle.sms_construct.specs.declared.entry.Answer.{Answer}
use Rattle.sms_construct.specs.declared.entry.Entry.{Entry}
use Rattle.sms_script.specs.AnswerText.{text_of}
use Rattle.sms_script.specs.Script.{items_of}
use Rattle.sms_script.specs.declared.item.Item.{Item}
use Rattle.desk_law.specs.Records.{empty_opening}
use Rattle.desk_workers.specs.Phases.{AreAnswered}
use Rattle.desk_calls.specs.Headline.{IsLawfulHistory, IsRecorded, Keeping}
use Rattle.desk_calls.specs.Run.{AnswersInOrder}
use Rattle.sms_manage.specs.Managed.{IsAsking, WasDayBegun, WasManaged}
use Rattle.sms_manage.specs.ManageText.{managed_text}
use Rattle.sms_manage.specs.declared.act.Act.{Act}
use Rattle.manage_calls.specs.Reserved.{managed_script_of}

-- the items were answered on a new desk by one worker
pub record WasAnsweredAlone (phases : List (List Item)) (answers : List Answer) (history : List Entry) : Type 0 where
  -- one history, each request once, and those of a phase behind those of the phases before it
  pub once : AreAnswered phases answers [] history
  -- all entries stand in script order, and R24 comes exactly where the history before the item has no place for the op
  pub in_order : AnswersInOrder (items_of phases) answers [] history
  pub lawful : IsLawfulHistory empty_opening history

-- the items were answered over a keeper, which was one thing before and is another after all, and then the acts of the
-- day were done
pub record WasRunAndManaged (day : ℕ) (before after : Keeping) (phases : List (List Item)) (answers : List Answer)
    (history : List Entry) (acts : List Act) : Type 0 where
  pub run : WasAnsweredAlone phases answers history
  -- the history with the acts at its end
  pub whole : List Entry
  -- exactly what is due on the day was asked for
  pub managed : WasManaged empty_opening day history whole acts
  -- faults and tables are those of the whole history
  pub recorded : IsRecorded empty_opening before after whole

-- the text is that of the answers to the script in these bytes, with the number of entries before the acts, and behind
-- it that of the acts
pub record IsAnsweredAndManaged (day : ℕ) (before after : Keeping) (bytes text : List ℕ) : Type 0 where
  pub phases : List (List Item)
  pub answers : List Answer
  pub history : List Entry
  pub acts : List Act
  -- whole input
  pub script : managed_script_of bytes ≡ Ok phases
  -- whole output
  pub printed : text ≡ text_of phases answers (length history) ++ managed_text acts
  pub run : WasRunAndManaged day before after phases answers history acts

-- the script in these bytes was answered, and behind its history some first acts of the day may have been done
pub record WasManageBegun (day : ℕ) (before after : Keeping) (bytes : List ℕ) : Type 0 where
  pub phases : List (List Item)
  pub answers : List Answer
  pub history : List Entry
  pub whole : List Entry
  pub script : managed_script_of bytes ≡ Ok phases
  pub run : WasAnsweredAlone phases answers history
  pub begun : WasDayBegun empty_opening day history whole
  pub asking : IsAsking history whole
  pub recorded : IsRecorded empty_opening before after whole

-- where memory was wanting, the keeper is as it was, or the script was answered
abbrev pub IsManageLeft : ℕ → Keeping → Keeping → List ℕ → Type 0
IsManageLeft day before after bytes = (after ≡ before) ⊎ WasManageBegun day before after bytes

-- A run behind which a day was managed.
use Rattle.std.proofs.Common.{◌≡◌, ◌≤◌, ◌+◌, ◌-◌, ◌^◌, ℕ, true, List, [], sym, subst}
use Rattle.std.specs.Prelude.{Option, Ok, min}
use Rattle.sms_construct.specs.declared.entry.Answer.{Answer}
use Rattle.sms_construct.specs.declared.entry.Entry.{Entry}
use Rattle.sms_keeper.specs.declared.rows.Rows.{Rows}
use Rattle.desk_law.specs.State.{Opening}
use Rattle.desk_law.specs.History.{IsLegal}
use Rattle.desk_law.specs.Records.{empty_opening}
use Rattle.desk_records.specs.Tied.{faults_in}
use Rattle.sms_core.specs.Core.{HasTables}
use Rattle.sms_script.specs.Script.{items_of}
use Rattle.sms_script.specs.declared.item.Item.{Item}
use Rattle.desk_calls.specs.Headline.{IsLawfulHistory, IsRecorded, Keeping}
use Rattle.desk_calls.specs.Run.{AnswersInOrder}
use Rattle.desk_calls.proofs.OrderLemmas.{in_order_answered}
use Rattle.sms_manage.specs.Managed.{IsAsking, IsUnused, WasDayBegun}
use Rattle.manage_calls.specs.ManagedRun.{WasAnsweredAlone, WasManageBegun}
use Rattle.manage_calls.specs.Reserved.{are_free, managed_script_of}
use Rattle.manage_calls.proofs.UnusedLemmas.{run-unused}

-- legal histories of a new desk are lawful
abbrev AreLawful : Type 0
AreLawful = (history : List Entry) → IsLegal empty_opening history → IsLawfulHistory empty_opening history

module _ (phases : List (List Item)) (answers : List Answer) (o : Opening) (start h : List Entry) (opening : o ≡ empty_opening) (none : start ≡ []) (done : AnswersInOrder (items_of phases) answers start h) (legal : IsLegal o h) where
  in-order : AnswersInOrder (items_of phases) answers [] h
  in-order = subst (λ (s : List Entry). AnswersInOrder (items_of phases) answers s h) none done

  here : IsLegal empty_opening h
  here = subst (λ (p : Opening). IsLegal p h) opening legal

  -- the job of space management is unused
  pub unused-behind : are_free phases ≡ true → IsUnused o h
  unused-behind free = subst (λ (p : Opening). IsUnused p h) (sym opening) (run-unused phases answers h free in-order here)

  -- the script was answered
  pub answered-alone : AreLawful → WasAnsweredAlone phases answers h
  answered-alone lawful = record { once = in_order_answered phases answers [] h in-order; in_order = in-order; lawful = lawful h here }

  -- and only space management may have asked behind it
  pub begun : AreLawful → (bytes : List ℕ) → managed_script_of bytes ≡ Ok phases → (whole : List Entry) → IsAsking h whole → (day : ℕ) → WasDayBegun empty_opening day h whole → (before after : Keeping) → IsRecorded empty_opening before after whole
      → WasManageBegun day before after bytes
  begun lawful bytes script whole asking day first before after recorded = record {
    phases = phases;
    answers = answers;
    history = h;
    whole = whole;
    script = script;
    run = answered-alone lawful;
    begun = first;
    asking = asking;
    recorded = recorded;
  }

-- the keeper's count and tables go with the whole history
pub recorded-whole : (o : Opening) (whole : List Entry) (before : Keeping) (mark count : ℕ) (told : Option Rows) → o ≡ empty_opening → mark ≡ before.count → IsLegal o whole
    → min (mark + faults_in whole) (2 ^ 64 - 1) ≤ count → HasTables o whole told → AreLawful → IsRecorded empty_opening before (record { told = told; count = count }) whole
recorded-whole o whole before mark count told opening mark_is legal counted tables lawful = record {
  lawful = lawful whole (subst (λ (p : Opening). IsLegal p whole) opening legal);
  faults = subst (λ n. min (n + faults_in whole) (2 ^ 64 - 1) ≤ count) mark_is counted;
  tables = subst (λ (p : Opening). HasTables p whole told) opening tables;
}

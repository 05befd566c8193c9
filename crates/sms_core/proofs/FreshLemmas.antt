-- What a fresh request enters.
use Rattle.std.proofs.Common.{◌≡◌, ◌≤◌, ℕ, List, Option, refl}
use Rattle.desk_common.specs.Causes.{Rose}
use Rattle.sms_construct.specs.declared.entry.Answer.{Answer}
use Rattle.sms_construct.specs.declared.entry.Entry.{Entry}
use Rattle.sms_construct.specs.declared.reply.Reply.{Reply}
use Rattle.sms_construct.specs.declared.reply.Reply.TheVariants as replies
use Rattle.sms_construct.specs.declared.request.Request.{Request}
use Rattle.sms_keeper.specs.declared.effect.Effect.{Effect}
use Rattle.sms_keeper.specs.declared.rows.Rows.{Rows}
use Rattle.sms_keeper.specs.Log.{LogView, floor_in}
use Rattle.desk_law.specs.State.{DeskState, Opening}
use Rattle.desk_records.specs.Effects.{IsDecided, state_with}
use Rattle.desk_records.specs.Logged.{IsDone, IsUntouched}
use Rattle.desk_records.specs.Recall.{IsUnknown, Recalls}
use Rattle.desk_records.specs.Tied.{IsReady}
use Rattle.desk_records.proofs.StepLemmas.{failed-step, made-step, quiet-step}
use Rattle.desk_state.specs.declared.deed.Deed.{Deed}
use Rattle.desk_state.specs.declared.running.Running.{Running}
use Rattle.desk_state.specs.Deeds.{config_of, effect_of}
use Rattle.desk_state.specs.Standing.{IsRunning}
use Rattle.sms_core.specs.Inner.Standing.{HasEntered}

-- the change was made, and what was decided is done
pub made-entered : (o : Opening) (h : List Entry) (s : DeskState) (log log' : LogView) (told told' : Option Rows) (mark old new place : ℕ) (request committed entered : Request) (reply answered : Reply)
    (effect : Effect) (deed : Deed) (running : Running)
    → IsReady o h s log told mark old place request → IsUnknown log request → IsDecided (λ job. floor_in job log.floors) s request reply (effect_of deed) (config_of deed)
    → committed ≡ request → entered ≡ request → answered ≡ reply → effect ≡ effect_of deed
    → IsDone (record { place = place; request = committed; reply = reply; effect = effect }) told told' log log' → old ≤ new
    → IsRunning (state_with s (effect_of deed) (config_of deed)) running
    → HasEntered o h s (record { request = entered; answer = record { place = place; first = place; reply = answered } }) running log' told' mark new
made-entered o h s log log' told told' mark old new place request committed entered reply answered effect deed running ready unknown decided p q r e done later stands =
    let made : IsDone (record { place = place; request = committed; reply = reply; effect = effect_of deed }) told told' log log' = rw e at done in
    record {
      after = state_with s (effect_of deed) (config_of deed);
      entered = made-step o h s (state_with s (effect_of deed) (config_of deed)) log log' told told' mark old new place request committed entered reply answered (effect_of deed) (config_of deed)
          ready unknown decided p q r refl made later;
      stands = stands;
    }

-- the keeper failed, and nothing was done
pub failed-entered : (o : Opening) (h : List Entry) (s : DeskState) (log log' : LogView) (told told' : Option Rows) (mark old new place : ℕ) (request entered : Request) (running : Running)
    → IsReady o h s log told mark old place request → IsUnknown log request → entered ≡ request → IsUntouched told told' log log' → Rose old new → IsRunning s running
    → HasEntered o h s (record { request = entered; answer = record { place = place; first = place; reply = replies.KeeperFault } }) running log' told' mark new
failed-entered o h s log log' told told' mark old new place request entered running ready unknown q untouched rose stands = record {
  after = s;
  entered = failed-step o h s s log log' told told' mark old new place request entered ready unknown q refl untouched rose;
  stands = stands;
}

-- the answer was recalled, and nothing changed
pub recalled-entered : (o : Opening) (h : List Entry) (s : DeskState) (log : LogView) (told : Option Rows) (mark count place : ℕ) (request : Request) (answer : Answer) (running : Running)
    → IsReady o h s log told mark count place request → Recalls log request answer → answer.place ≡ place → IsRunning s running
    → HasEntered o h s (record { request = request; answer = answer }) running log told mark count
recalled-entered o h s log told mark count place request answer running ready recalls there stands = record {
  after = s;
  entered = (quiet-step o h s log told mark count place request request answer answer ready recalls there refl refl).entered;
  stands = stands;
}

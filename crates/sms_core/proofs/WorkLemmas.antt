-- Work that is handed in with a request.
use Rattle.std.proofs.Common.{◌≡◌, ℕ, List, [], append-nil, sym, subst, ◌∙◌}
use Rattle.std.specs.Prelude.{Option, Some}
use Rattle.acs_tree.specs.Slates.{SlateLines}
use Rattle.sms_construct.specs.Configuration.{Configuration}
use Rattle.sms_construct.specs.declared.entry.Entry.{Entry}
use Rattle.sms_construct.specs.declared.request.Request.{Request}
use Rattle.sms_keeper.specs.declared.rows.Rows.{Rows}
use Rattle.sms_keeper.specs.Log.{LogView}
use Rattle.desk_law.specs.State.{Opening}
use Rattle.desk_law.specs.History.{WasActive}
use Rattle.desk_law.proofs.ActiveLemmas.{active-once}
use Rattle.desk_state.specs.declared.running.Running.{Running}
use Rattle.desk_state.specs.declared.work.Work.{Work}
use Rattle.desk_state.specs.declared.work.Work.TheVariants.{Classes, Deck, Nothing}
use Rattle.desk_state.specs.Working.{IsClassified, IsWork, IsWorkNow, WasClassified}
use Rattle.sms_core.specs.Inner.Standing.{IsHeld}

-- what is active is so after as many activations as there were
pub held-active : (o : Opening) (h : List Entry) (running : Running) (log : LogView) (told : Option Rows) (mark count : ℕ) (config : Configuration)
    → IsHeld o h running log told mark count → running.config ≡ Some config → WasActive o h running.activations config
held-active o h running log told mark count config held active = record {
  front = h;
  rest = [];
  whole = sym (append-nil h);
  state = held.state;
  reaches = held.tied.reaches;
  counted = sym held.stands.activations;
  active = sym held.stands.active ∙ active;
}

-- work for the history is work for the running state that is held behind it
pub held-work : (o : Opening) (h : List Entry) (running : Running) (log : LogView) (told : Option Rows) (mark count : ℕ) (request : Request) (written : SlateLines) (work : Work)
    → IsHeld o h running log told mark count → IsWork o h request written work → IsWorkNow running request written work
held-work o h running log told mark count request written Nothing held is = tt
held-work o h running log told mark count request written (Deck read) held is = is
held-work o h running log told mark count request written (Classes under made) held is = λ same config alloc active op.
    let was : WasClassified o h under request.job alloc made written = is alloc op in
    let now : WasActive o h under config = subst (λ (n : ℕ). WasActive o h n config) (sym same) (held-active o h running log told mark count config held active) in
    subst (λ (c : Configuration). IsClassified c request.job alloc made written) (active-once o h under was.config config was.was_active now) was.classified

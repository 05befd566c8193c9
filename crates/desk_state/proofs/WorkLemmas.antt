-- Work that was done before a step: what of it is used, and that it stays work.
use Rattle.std.proofs.Common.{◌≡◌, ℕ, List, ◌++◌, Option, None, Some, append_assoc, refl, sym, ap, subst, inl, inr, ◌∙◌}
use Rattle.std.specs.Prelude.{IfOk, IfSome, Result, Ok, Err}
use Rattle.std.specs.declared.alloc.AllocError.{AllocError}
use Rattle.acs_tree.specs.Slates.{SlateLines}
use Rattle.desk_common.specs.Exact.{MayRefuse}
use Rattle.sms_construct.specs.Configuration.{Configuration}
use Rattle.sms_construct.specs.declared.alloc.Alloc.{Alloc}
use Rattle.sms_construct.specs.declared.entry.Entry.{Entry}
use Rattle.sms_construct.specs.declared.fault.Fault.{Fault}
use Rattle.sms_construct.specs.declared.request.Op.TheVariants as ops
use Rattle.sms_construct.specs.declared.request.Request.{Request}
use Rattle.sms_construct.specs.declared.stop.Stop.TheVariants.{Done}
use Rattle.deck_meaning.specs.declared.deck_err.DeckErr.{DeckErr}
use Rattle.deck_meaning.specs.declared.deck_err.DeckErr.TheVariants.{Fault as Faulted, NoMemory}
use Rattle.deck_meaning.specs.Reading.{Configures, HasFirstFault, TellsFirstFault}
use Rattle.sms_classes.specs.Known.{AreKnown}
use Rattle.sms_classes.specs.declared.classified.Classified.{Classified}
use Rattle.desk_law.specs.State.{Opening}
use Rattle.desk_law.specs.History.{WasActive}
use Rattle.desk_law.specs.Classification.{classes_of}
use Rattle.desk_state.specs.declared.running.Running.{Running}
use Rattle.desk_state.specs.declared.work.Work.{Work}
use Rattle.desk_state.specs.declared.work.Work.TheVariants.{Classes, Deck, Nothing}
use Rattle.desk_state.specs.Working.{IsClassified, IsReadAs, IsWork, IsWorkNow, WasClassified}

-- classes of the work under as many activations as there were are those under what is active
pub classes-used : (running : Running) (request : Request) (written : SlateLines) (work : Work) (found : Option Classified) (alloc : Alloc)
    → IsWorkNow running request written work → request.op ≡ ops.Alloc alloc → IfSome found (λ made. work ≡ Classes running.activations made)
    → IfSome found (λ made. (config : Configuration) → running.config ≡ Some config → IsClassified config request.job alloc made written)
classes-used running request written work None alloc is_work op is = tt
classes-used running request written work (Some made) alloc is_work op is =
    let now : IsWorkNow running request written (Classes running.activations made) = subst (IsWorkNow running request written) is is_work in
    λ config active. now refl config alloc active op

-- a deck of the work is that of the request
pub deck-used : (running : Running) (request : Request) (written : SlateLines) (work : Work) (read : Result Configuration DeckErr) (deck : List ℕ)
    → IsWorkNow running request written work → request.op ≡ ops.Activate deck → work ≡ Deck read → IsReadAs deck read
deck-used running request written work read deck is_work op is =
    let now : IsWorkNow running request written (Deck read) = subst (IsWorkNow running request written) is is_work in
    now deck op

-- the fault that is told
told-fault : (deck : List ℕ) (fault : Fault) → MayRefuse (TellsFirstFault deck) (Some NoMemory) (Faulted fault) → HasFirstFault deck fault
told-fault deck fault (inl found) = found
told-fault deck fault (inr none) = absurd cc

-- a deck that is read as a fault has it
pub fault-found : (deck : List ℕ) (read : Result Configuration DeckErr) (fault same : Fault) → read ≡ Err (Faulted fault) → same ≡ fault → IsReadAs deck read → HasFirstFault deck same
fault-found deck read fault same is shared as_read =
    subst (HasFirstFault deck) (sym shared) (told-fault deck fault (subst (IsReadAs deck) is as_read).err)

-- a configuration that was read is shared, or memory is wanting
pub read-shared : (deck : List ℕ) (read : Result Configuration DeckErr) (config : Configuration) (made : Result Configuration AllocError)
    → read ≡ Ok config → IfOk made (λ same. same ≡ config) → IsReadAs deck read → IfOk made (Configures deck)
read-shared deck read config (Ok same) is shared as_read =
    let configures : Configures deck config = (subst (IsReadAs deck) is as_read).ok in
    subst (Configures deck) (sym shared) configures
read-shared deck read config (Err error) is shared as_read = tt

-- the same of one that is read now
pub made-shared : (deck : List ℕ) (config : Configuration) (made : Result Configuration AllocError) → Configures deck config → IfOk made (λ same. same ≡ config) → IfOk made (Configures deck)
made-shared deck config (Ok same) configures shared = subst (Configures deck) (sym shared) configures
made-shared deck config (Err error) configures shared = tt

-- what was classified under the active configuration
pub classified-active : (running : Running) (job : List ℕ) (alloc : Alloc) (written : SlateLines) (found : Option Classified) (config same : Configuration)
    → IfSome found (λ made. (config : Configuration) → running.config ≡ Some config → IsClassified config job alloc made written)
    → running.config ≡ Some config → same ≡ config → IfSome found (λ made. IsClassified same job alloc made written)
classified-active running job alloc written None config same was active is = tt
classified-active running job alloc written (Some made) config same was active is =
    subst (λ (c : Configuration). IsClassified c job alloc made written) (sym is) (was config active)

-- so the configuration has its classes, where the classification came through
pub found-known : (config : Configuration) (job : List ℕ) (alloc : Alloc) (made : Classified) (written : SlateLines) → IsClassified config job alloc made written
    → ((classes_of config job alloc).stop ≡ Done → AreKnown config (classes_of config job alloc).values) → made.stop ≡ Done → AreKnown config made.values
found-known config job alloc made written is known done = subst (AreKnown config) (sym is.values_are) (known (sym is.stop_is ∙ done))

-- what was active in a history was so in each longer one
pub active-longer : (o : Opening) (h more : List Entry) (n : ℕ) (config : Configuration) → WasActive o h n config → WasActive o (h ++ more) n config
active-longer o h more n config was = record {
  front = was.front;
  rest = was.rest ++ more;
  whole = ap (λ (list : List Entry). list ++ more) was.whole ∙ append_assoc was.front was.rest more;
  state = was.state;
  reaches = was.reaches;
  counted = was.counted;
  active = was.active;
}

-- what was classified in a history was so in each longer one
pub classified-longer : (o : Opening) (h more : List Entry) (under : ℕ) (job : List ℕ) (alloc : Alloc) (made : Classified) (written : SlateLines)
    → WasClassified o h under job alloc made written → WasClassified o (h ++ more) under job alloc made written
classified-longer o h more under job alloc made written was = record {
  config = was.config;
  was_active = active-longer o h more under was.config was.was_active;
  classified = was.classified;
}

-- work stays work
pub work-longer : (o : Opening) (h more : List Entry) (request : Request) (written : SlateLines) (work : Work)
    → IsWork o h request written work → IsWork o (h ++ more) request written work
work-longer o h more request written Nothing is = tt
work-longer o h more request written (Classes under made) is = λ alloc op. classified-longer o h more under request.job alloc made written (is alloc op)
work-longer o h more request written (Deck read) is = is

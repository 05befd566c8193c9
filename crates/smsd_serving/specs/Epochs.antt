-- What is known of a store's desk that was served through several journals (docs/manual/smsd.md, "A full journal").
use Rattle.std.specs.Prelude.{ℕ, false, ◌≡◌, ◌≤◌, ◌+◌, ◌-◌, ◌^◌, List, [], ◌∷◌, ◌++◌, All, IfSome, Option, min}
use Rattle.std.specs.List.{flat_map}
use Rattle.desk_common.specs.Causes.{Rose}
use Rattle.sms_base.specs.Counts.{after_calls}
use Rattle.ready_wires.specs.Wires.{WireSeen}
use Rattle.ready_wires.specs.Events.{ReadySeen}
use Rattle.http_talk.specs.declared.talk.Talk.{Talk}
use Rattle.http_flow.specs.Exchange.{Exchange, AreShown, talks_in}
use Rattle.sms_keeper.specs.declared.rows.Rows.{Rows}
use Rattle.sms_keeper.specs.declared.table.Table.{Table}
use Rattle.sms_keeper.specs.Told.{Stays}
use Rattle.desk_law.specs.History.{IsLegal}
use Rattle.desk_records.specs.Tied.{faults_in}
use Rattle.sms_core.specs.Core.{CoreView, HasTables, last_place}
use Rattle.sms_open.specs.Own.{AreOwn, SparesTables}
use Rattle.sms_open.specs.Reopening.{IsOpenedAt, NamesRefusal}
use Rattle.sms_open.specs.declared.open_err.OpenErr.{OpenErr}
use Rattle.sms_open.specs.declared.open_err.OpenErr.TheVariants.{Failed}
use Rattle.desk_http.specs.Entered.{HasEntered}
use Rattle.page_text.specs.RefusalText.{said_refusal}
use Rattle.page_clerk.specs.Filling.{AreUnfilled}
use Rattle.page_clerk.specs.Shows.{ShowsPage, begun_with}
use Rattle.serve_poll.specs.Halls.{House, Stands, WasAsked}
use Rattle.serve_poll.specs.declared.hall.Hall.{Hall}
use Rattle.serve_poll.specs.declared.serving.LoopEnd.TheVariants as loops
use Rattle.smsd_serving.specs.declared.serving_end.ServingEnd.{ServingEnd}
use Rattle.smsd_serving.specs.declared.serving_end.ServingEnd.TheVariants as ends

-- how a desk is served at this port: each refusal says in a sentence what is wrong, also to one that is turned away
abbrev pub house_at : ℕ → House
house_at port = record { terms = record { port = port; refusal = said_refusal }; away = said_refusal 503 }

-- what was served with one core: the core as it was opened, the core as it was left, and what all connections asked and
-- were answered between, in that order
pub record Epoch (P : Type 0) : Type 0 where
  pub start : CoreView P
  pub core : CoreView P
  pub exchanges : List Exchange

-- what was asked and answered in all epochs, one behind the other
abbrev pub exchanges_in : {P : Type 0} → List (Epoch P) → List Exchange
exchanges_in epochs = flat_map (λ epoch. epoch.exchanges) epochs

-- its journal came to have no room for one more question
abbrev pub HasFilled : {P : Type 0} → Epoch P → Type 0
HasFilled epoch = (begun_with epoch.start).has_room (talks_in epoch.exchanges) ≡ false

module _ {P : Type 0} (told : P → Option Rows) (count : P → ℕ) where
  -- a core is opened from the tables of this keeper, which stay, and no fault is counted for that; its entries come
  -- behind this place
  pub record IsOpenedBehind (keeper : P) (place : ℕ) (start : CoreView P) : Type 0 where
    pub kept : Stays (told keeper) (told start.keeper)
    pub stands : count start.keeper ≡ count keeper
    pub opened : IsOpenedAt place (told start.keeper) start.opening
    pub new : start.journal ≡ []
    pub mark : start.mark ≡ count start.keeper

  -- a core was served: each request that was heard is in its journal once, in the order of the talks, none was answered
  -- that the journal is full, and the journal is legal behind the opening; the tables are those of the journal, and its
  -- faults were counted by the keeper
  pub record IsLeft (start core : CoreView P) (talks : List Talk) : Type 0 where
    pub entered : HasEntered start core talks
    pub unfilled : AreUnfilled talks
    pub legal : IsLegal core.opening core.journal
    pub tables : HasTables core.opening core.journal (told core.keeper)
    pub counted : min (core.mark + faults_in core.journal) (2 ^ 64 - 1) ≤ count core.keeper

  -- an epoch behind this keeper and this place: whatever was asked in it was asked where the journal had room, and each page shows
  -- what was answered before it
  pub record IsEpoch (keeper : P) (place : ℕ) (epoch : Epoch P) : Type 0 where
    pub opened : IsOpenedBehind keeper place epoch.start
    pub left : IsLeft epoch.start epoch.core (talks_in epoch.exchanges)
    pub shown : AreShown ShowsPage (begun_with epoch.start) [] epoch.exchanges

  -- each epoch is one behind the keeper that the one before it left, and behind the place of its last entry, the first
  -- behind the first keeper and place; the last ones are those which the last epoch left
  abbrev pub AreInTurn : P → ℕ → List (Epoch P) → P → ℕ → Type 0
  AreInTurn keeper place [] last end = (last ≡ keeper) × (end ≡ place)
  AreInTurn keeper place (epoch ∷ epochs) last end =
      IsEpoch keeper place epoch × AreInTurn epoch.core.keeper (last_place epoch.core) epochs last end

  -- no core is opened from the tables of this keeper, for this cause, and the tables stay; tables that a desk left are
  -- never refused for what they hold
  pub record IsUnopened (damage : P → Option (Table × ℕ)) (keeper last : P) (err : OpenErr) : Type 0 where
    pub names : NamesRefusal (told last) (damage last) err
    pub own : IfSome (told last) (λ tables. AreOwn tables → SparesTables err)
    pub kept : Stays (told keeper) (told last)
    pub cause : err ≡ Failed → Rose (count keeper) (count last)

  -- why serving ended, and with which keeper: no further event was awaited, the keeper is that of the core, and behind
  -- the last of so many events that were asked for the journal has room; or the journal had none, and no core is opened
  -- from the tables that it left
  abbrev pub EndsWith : (P → Option (Table × ℕ)) → Epoch P → P → ServingEnd → Type 0
  EndsWith damage epoch last (ends.Loop end) =
      (last ≡ epoch.core.keeper) × (end ≡ loops.Turns → HasFilled epoch → ⊥)
  EndsWith damage epoch last (ends.Unopened err) = HasFilled epoch × IsUnopened damage epoch.core.keeper last err

-- so many events were asked for, and no further one for this
abbrev pub WereAsked : ℕ → ReadySeen → ReadySeen → ℕ → ServingEnd → Type 0
WereAsked turns ready ready' count (ends.Loop end) = WasAsked turns ready ready' count end
WereAsked turns ready ready' count (ends.Unopened err) =
    (made : ℕ) × (made ≤ turns) × (ready'.calls ≡ after_calls ready.calls made)

-- a desk was served, epoch by epoch, the first behind this keeper; each epoch but the last ended where its journal was
-- nearly full; what the connections asked and took is what was asked and answered in all epochs
pub record WasKept {P C : Type 0} (told : P → Option Rows) (count : P → ℕ) (damage : P → Option (Table × ℕ))
    (seen : C → WireSeen) (port : ℕ) (keeper last : P) (ready ready' : ReadySeen) (back back' : Option (List C))
    (hall : Hall C) (end : ServingEnd) : Type 0 where
  pub before : List (Epoch P)
  pub left : P
  pub place : ℕ
  pub epoch : Epoch P
  pub in_turn : AreInTurn told count keeper 0 before left place
  pub filled : All HasFilled before
  pub is_epoch : IsEpoch told count left place epoch
  pub ending : EndsWith told count damage epoch last end
  pub stands : Stands (house_at port) seen ready ready' (exchanges_in before ++ epoch.exchanges) back back' hall

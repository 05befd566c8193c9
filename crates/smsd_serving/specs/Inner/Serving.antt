-- A desk while it is served.
use Rattle.std.specs.Prelude.{ℕ, false, ◌≡◌, List, [], ◌++◌, All, Option}
use Rattle.ready_wires.specs.Wires.{WireSeen}
use Rattle.ready_wires.specs.Events.{ReadySeen}
use Rattle.http_flow.specs.Exchange.{Exchange, AreShown, talks_in}
use Rattle.sms_keeper.specs.declared.rows.Rows.{Rows}
use Rattle.sms_keeper.specs.declared.table.Table.{Table}
use Rattle.sms_core.specs.Core.{CoreView, last_place}
use Rattle.desk_http.specs.Entered.{ClerkView}
use Rattle.page_clerk.specs.Shows.{ShowsPage, begun_with}
use Rattle.serve_poll.specs.Halls.{Stands}
use Rattle.serve_poll.specs.declared.hall.Hall.{Hall}
use Rattle.smsd_serving.specs.Epochs.{AreInTurn, Epoch, HasFilled, IsLeft, IsOpenedBehind, WasKept}
use Rattle.smsd_serving.specs.Epochs.{exchanges_in, house_at}
use Rattle.smsd_serving.specs.declared.serving_end.ServingEnd.{ServingEnd}

module _ {P : Type 0} (told : P → Option Rows) (count : P → ℕ) where
  -- the clerk had no room for one more question, and another clerk goes on from the tables that it left
  pub record IsRenewed (clerk next : ClerkView P) : Type 0 where
    pub filled : (begun_with clerk.start).has_room clerk.talks ≡ false
    pub left : IsLeft told count clerk.start clerk.core clerk.talks
    pub opened : IsOpenedBehind told count clerk.core.keeper (last_place clerk.core) next.start
    pub none : next.talks ≡ []

  module _ {C : Type 0} (seen : C → WireSeen) (port : ℕ) where
    -- the epochs that ended, and what was asked and answered since, of this clerk
    pub record IsServing (keeper : P) (clerk : ClerkView P) (ready ready' : ReadySeen) (back back' : Option (List C))
        (hall : Hall C) : Type 0 where
      pub before : List (Epoch P)
      pub left : P
      pub place : ℕ
      pub in_turn : AreInTurn told count keeper 0 before left place
      pub filled : All HasFilled before
      pub start : CoreView P
      pub opened : IsOpenedBehind told count left place start
      pub same : begun_with clerk.start ≡ begun_with start
      pub exchanges : List Exchange
      pub talks : clerk.talks ≡ talks_in exchanges
      pub shown : AreShown ShowsPage (begun_with start) [] exchanges
      pub stands : Stands (house_at port) seen ready ready' (exchanges_in before ++ exchanges) back back' hall

    -- whatever was served before, the desk goes on so
    abbrev pub GoesOnServing : ClerkView P → ClerkView P → ReadySeen → ReadySeen → Option (List C) → Option (List C)
        → Hall C → Hall C → Type 0
    GoesOnServing clerk clerk' ready ready' back back' hall hall' =
        (keeper : P) (first : ReadySeen) (before : Option (List C))
        → IsServing keeper clerk first ready before back hall
        → IsServing keeper clerk' first ready' before back' hall'

    -- whatever was served before, the desk ends so
    abbrev pub EndsServing : (P → Option (Table × ℕ)) → ClerkView P → P → ReadySeen → ReadySeen → Option (List C)
        → Option (List C) → Hall C → Hall C → ServingEnd → Type 0
    EndsServing damage clerk last ready ready' back back' hall hall' end =
        (keeper : P) (first : ReadySeen) (before : Option (List C))
        → IsServing keeper clerk first ready before back hall
        → WasKept told count damage seen port keeper last first ready' before back' hall' end

-- What the pages of a core show (docs/manual/smsd.md, "Pages").
use Rattle.std.specs.Prelude.{ℕ, List, ◌++◌}
use Rattle.http_flow.specs.Exchange.{Basis}
use Rattle.http_flow.specs.declared.page.Page.{Page}
use Rattle.http_page.specs.Pages.{PageAsk}
use Rattle.http_talk.specs.declared.talk.Talk.{Talk}
use Rattle.sms_construct.specs.declared.entry.Entry.{Entry}
use Rattle.desk_law.specs.State.{DeskState, Opening}
use Rattle.desk_law.specs.History.{Reaches}
use Rattle.sms_core.specs.Core.{CoreView}
use Rattle.desk_http.specs.Entered.{entries_of}
use Rattle.desk_pages.specs.DeskPages.{IsPage}
use Rattle.page_clerk.specs.Filling.{has_room_behind}

-- what a core was when a clerk began, but for its keeper: what the desk began with, its entries, and the keeper's count
-- of faults as the core found it
pub record Begun : Type 0 where
  pub opening : Opening
  pub journal : List Entry
  pub mark : ℕ

-- the same of a core, and for which talks its journal has room
abbrev pub begun_with : {P : Type 0} → CoreView P → Basis Begun
begun_with core = record {
  begun = record { opening = core.opening; journal = core.journal; mark = core.mark };
  has_room = has_room_behind core.journal;
}

-- the page shows the state behind the entries of the talks
abbrev pub ShowsPage : Basis Begun → List Talk → PageAsk → Page → Type 0
ShowsPage basis talks ask page =
    (s : DeskState) → Reaches basis.begun.opening (basis.begun.journal ++ entries_of talks) s
    → IsPage s (basis.begun.journal ++ entries_of talks) ask page

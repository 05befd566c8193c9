-- A page of a core shows the state behind the talks.
use Rattle.std.proofs.Common.{◌≡◌, ◌++◌, List, sym}
use Rattle.http_flow.specs.declared.page.Page.{Page}
use Rattle.http_page.specs.Pages.{PageAsk}
use Rattle.http_talk.specs.declared.talk.Talk.{Talk}
use Rattle.desk_law.specs.State.{DeskState}
use Rattle.desk_law.specs.History.{Reaches}
use Rattle.sms_core.specs.Core.{CoreView}
use Rattle.desk_http.specs.Entered.{HasEntered}
use Rattle.desk_pages.specs.DeskPages.{IsPage}
use Rattle.page_clerk.specs.Shows.{ShowsPage, begun_with}

pub shows_now : {P : Type 0} (start core : CoreView P) (talks : List Talk) (ask : PageAsk) (page : Page) → HasEntered start core talks → ((s : DeskState) → Reaches core.opening core.journal s → IsPage s core.journal ask page) → ShowsPage (begun_with start) talks ask page
shows_now start core talks ask page h shows = λ s reaches. rw (sym h.journal) (shows s (rw (h.opening, h.journal) reaches))

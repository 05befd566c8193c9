-- The journal is that behind the talks.
use Rattle.std.proofs.Common.{◌≡◌, ◌∙◌, ap, sym}
use Rattle.std.specs.Prelude.{not}
use Rattle.page_clerk.specs.Filling.{has_room_behind, is_nearly_full}
use Rattle.page_clerk.proofs.page_clerk.PageClerkPages.has_room.Goals as goal

pub returns : goal.returns
returns g c =
    let now = c.args.self.now in
    let same : has_room_behind now.start.journal now.talks ≡ not (is_nearly_full now.core.journal now.talks) =
    ap (λ l. not (is_nearly_full l now.talks)) (sym c.entered.ensures.journal) in
    ap not c.is_nearly_full.ensures ∙ sym same

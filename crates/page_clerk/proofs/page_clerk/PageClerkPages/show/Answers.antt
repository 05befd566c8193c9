-- The state is that behind the talks.
use Rattle.std.proofs.lemmas.Result.{IfOk-weaker}
use Rattle.http_page.specs.Pages.{PageAsk}
use Rattle.page_clerk.proofs.ShowLaws.{shows_now}
use Rattle.page_clerk.proofs.page_clerk.PageClerkPages.show.Goals as goal

pub returns : goal.returns
returns g c =
    let ask : PageAsk = record { posts = c.args.posts; path = c.args.path.now; body = c.args.body.now } in
    IfOk-weaker c.show_page.result _ _ (λ page shown. shows_now c.args.self.now.start c.args.self.now.core c.args.self.now.talks ask page c.entered.ensures shown) c.show_page.ensures

-- The page is that of what comes of the deck.
use Rattle.std.proofs.lemmas.Result.{IfOk-weaker}
use Rattle.std.specs.Prelude.{None, Some}
use Rattle.desk_pages.proofs.CheckLaws.{page_of_check}
use Rattle.desk_pages.proofs.checking.check.Goals as goal

pub returns-in-Some : goal.returns-in-Some
returns-in-Some g c = IfOk-weaker c.barred.result _ _ (λ page is s stands.
    page_of_check s c.in_ok-deck.deck c.args.deck.now (Some c.in-Some.reply) page c.in_ok-deck.ensures (rw c.in-Some.is at (c.in_ok-found.ensures s stands)) is) c.barred.ensures

pub returns : goal.returns
returns g c = IfOk-weaker c.passed.result _ _ (λ page is s stands.
    page_of_check s c.in_ok-deck.deck c.args.deck.now None page c.in_ok-deck.ensures (rw c.in-None.is at (c.in_ok-found.ensures s stands)) is) c.passed.ensures

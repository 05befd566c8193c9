-- A head that asks for no page.
use Rattle.std.proofs.Common.{◌≡◌, ◌∙◌, sym, arith, true, false}
use Rattle.http_page.proofs.LookLaws.{not_asked, not_stated}
use Rattle.http_page.proofs.look.look_at.Goals as goal

pub returns-then-not-asks_page : goal.returns-then-not-asks_page
returns-then-not-asks_page c =
    let here : c.is_asked.result ≡ true = grind (arith, c.if-not-is_asked.false) in
    let asks : c.asks_page.result ≡ false = grind (arith, c.if-not-asks_page.true) in
    not_asked c.args.site.now c.args.buf.now c.args.headers.now c.args.spans c.requires.0 c.requires.1 (sym c.is_asked.ensures ∙ here) (sym (rw (c.of-method.ensures, c.of.ensures) at c.asks_page.ensures) ∙ asks)

pub returns-in-None : goal.returns-in-None
returns-in-None c =
    let here : c.is_asked.result ≡ true = grind (arith, c.if-not-is_asked.false) in
    not_stated c.args.site.now c.args.buf.now c.args.headers.now c.args.spans c.requires.0 c.requires.1 (sym c.is_asked.ensures ∙ here) (sym c.page_size.ensures.value ∙ c.in-None.is)

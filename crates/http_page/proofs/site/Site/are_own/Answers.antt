-- The headers behind one that names no other site.
use Rattle.std.proofs.Common.{◌≡◌, ◌∙◌, sym, arith, true, length}
use Rattle.std.proofs.lemmas.List.Elements.{All-tail}
use Rattle.httparse.specs.Spans.{IsHeaderWithin}
use Rattle.http_page.proofs.LookLaws.{own_rest}
use Rattle.http_page.proofs.site.Site.are_own.Goals as goal

pub loop-header-preserved : goal.loop-header-preserved
loop-header-preserved c =
    let first = c.in-Some.ensures.cases in
    let own : c.is_own.result ≡ true = grind (arith, c.if-not-is_own.false) in
    record {
      same = own_rest c.args.self.now c.args.buf.now c.loop-header.rest.now c.args.headers.now c.in-Some.header.now c.in-Some.others.now first.0 (sym (rw (c.of.ensures, c.of-in-Some.ensures) at c.is_own.ensures) ∙ own) c.loop-header.invariant.same;
      within = All-tail (IsHeaderWithin (length c.args.buf.now)) c.in-Some.header.now c.in-Some.others.now (rw first.0 at c.loop-header.invariant.within);
      fewer = omega (arith, c.loop-header.invariant.fewer, first.1);
    }

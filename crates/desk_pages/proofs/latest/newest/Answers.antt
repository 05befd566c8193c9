-- One entry more.
use Rattle.std.proofs.Common.{◌∙◌, sym, arith, rules}
use Rattle.desk_pages.proofs.NewestLaws.{length_pushed, newest_none, newest_more, newest_full, newest_all}
use Rattle.desk_pages.proofs.latest.newest.Goals as goal

pub loop-left-init : goal.loop-left-init
loop-left-init c = record { newest = rw c.new-found.ensures.items (newest_none (λ entry. entry.now) c.args.journal.now); len = search rules }

pub loop-left-preserved : goal.loop-left-preserved
loop-left-preserved c = record {
  newest = newest_more (λ entry. entry.now) c.args.journal.now c.loop-left.left _ c.loop-left.found.items _ _ c.loop-left.invariant.newest (omega arith) c.in_ok-push.ensures.items c.index-journal-left.is (λ e. c.if-len-eq-MOST_SHOWN.false (c.len.ensures ∙ c.loop-left.invariant.len ∙ e));
  len = omega (arith, c.in_ok-push.ensures.len, c.loop-left.invariant.len, length_pushed _ _ _ c.in_ok-push.ensures.items);
}

pub returns-then-len-eq-MOST_SHOWN : goal.returns-then-len-eq-MOST_SHOWN
returns-then-len-eq-MOST_SHOWN c =
    newest_full _ c.args.journal.now c.loop-left.left c.loop-left.found.items c.loop-left.invariant.newest (sym c.loop-left.invariant.len ∙ sym c.len.ensures ∙ c.if-len-eq-MOST_SHOWN.true)

pub returns : goal.returns
returns c = newest_all _ c.args.journal.now c.loop-left.left c.loop-left.found.items c.loop-left.invariant.newest (omega arith)

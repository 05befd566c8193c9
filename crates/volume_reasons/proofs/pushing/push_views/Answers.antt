use Rattle.volume_reasons.proofs.PushLemmas.{views_parts}
use Rattle.volume_reasons.proofs.pushing.push_views.Goals as goal

pub returns : goal.returns
returns c =
    views_parts c.args.views.now c.args.want.now c.first_turn-first.result c.is_last.result c.args.text.now.items
    c.push_asked.new.text.items c.push_volumes.new.text.items c.push_none.new.text.items
    c.first_turn-first.ensures.may c.first_turn-first.ensures.none c.is_last.ensures
    c.in_ok-push_asked.ensures c.in_ok-push_volumes.ensures c.in_ok-push_none.ensures

use Rattle.std.proofs.Common.{◌∙◌}
use Rattle.track_ledger.specs.GapRule.{longest_first}
use Rattle.track_ledger.specs.Inner.Measures.{cuts_by}
use Rattle.track_ledger.specs.Inner.Trees.{items_of}
use Rattle.track_ledger.proofs.MeasureLemmas.{cuts-apart, cuts-some}
use Rattle.track_ledger.proofs.NextLemmas.{next-behind}
use Rattle.track_ledger.proofs.OrderLemmas.{strict-longest}
use Rattle.track_ledger.proofs.gap_rule.gap_behind.Goals as goal

pub returns-in-Some : goal.returns-in-Some
returns-in-Some c =
    let m = c.args.measure in
    let gaps = items_of c.args.gaps.now in
    let cuts = cuts_by m gaps in
    c.next_gap.ensures ∙ next-behind (longest_first cuts) c.args.front.now c.in-Some.last.now (strict-longest cuts (cuts-apart m gaps c.requires.apart) (cuts-some m gaps)) c.requires.front c.in-Some.ensures.value

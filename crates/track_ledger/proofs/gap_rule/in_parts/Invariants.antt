use Rattle.std.proofs.Common.{◌≡◌, ◌-◌, drop, length, take}
use Rattle.track_ledger.specs.GapRule.{longest_first, taken_from}
use Rattle.track_ledger.specs.Inner.Measures.{cuts_by}
use Rattle.track_ledger.specs.Inner.Trees.{items_of}
use Rattle.track_ledger.proofs.LongestLemmas.{behind}
use Rattle.track_ledger.proofs.gap_rule.in_parts.Given as goal

abbrev pub invariant-loop : goal.invariant-loop
invariant-loop l =
    let gaps = longest_first (cuts_by l.measure (items_of l.gaps)) in
    record {
      count : length l.taken.items ≡ l.counter;
      front : l.taken.items ≡ take l.counter gaps;
      rest : taken_from gaps l.tracks l.allowed ≡ behind l.taken.items (taken_from (drop l.counter gaps) l.left (l.allowed - l.counter));
    }

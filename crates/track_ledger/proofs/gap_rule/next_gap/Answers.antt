use Rattle.std.proofs.Common.{◌∙◌, sym}
use Rattle.std.specs.Prelude.{Bool, not}
use Rattle.track_ledger.specs.declared.piece.Piece.{Piece}
use Rattle.track_ledger.specs.GapRule.{comes_first}
use Rattle.track_ledger.specs.Inner.Measures.{cuts_by}
use Rattle.track_ledger.specs.Inner.Trees.{items_of}
use Rattle.track_ledger.proofs.MeasureLemmas.{cuts-apart, cuts-some}
use Rattle.track_ledger.proofs.NextLemmas.{find-longest, find-none}
use Rattle.track_ledger.proofs.gap_rule.next_gap.Goals as goal

pub returns-then-length-eq0 : goal.returns-then-length-eq0
returns-then-length-eq0 c =
    let m = c.args.measure in
    let gaps = items_of c.args.gaps.now in
    let p : Piece → Bool = λ (cut : Piece). not (comes_first cut c.args.last.now) in
    sym (find-none p (cuts_by m gaps) (sym c.if-length-eq0.true ∙ c.longest_behind-length.ensures) (cuts-some m gaps))

pub returns : goal.returns
returns c =
    let m = c.args.measure in
    let gaps = items_of c.args.gaps.now in
    let p : Piece → Bool = λ (cut : Piece). not (comes_first cut c.args.last.now) in
    c.lowest_behind.ensures ∙ sym (find-longest p c.longest_behind-length.result (cuts_by m gaps) c.longest_behind-length.ensures (cuts-apart m gaps c.requires) (cuts-some m gaps))

use Rattle.std.proofs.Common.{◌≡◌, ◌<◌, ◌∙◌, sym, refl}
use Rattle.std.specs.Prelude.{Bool, true}
use Rattle.std.proofs.lemmas.List.Elements.{All-weaker}
use Rattle.track_ledger.specs.declared.piece.Piece.{Piece}
use Rattle.track_ledger.specs.GapRule.{longest_first}
use Rattle.track_ledger.specs.Inner.Measures.{cuts_by, longest_among}
use Rattle.track_ledger.specs.Inner.Trees.{items_of}
use Rattle.track_ledger.proofs.MeasureLemmas.{among-all, cuts-apart, cuts-some}
use Rattle.track_ledger.proofs.NextLemmas.{find-first, find-longest}
use Rattle.track_ledger.proofs.gap_rule.longest_gap.Goals as goal

pub returns : goal.returns
returns c =
    let m = c.args.measure in
    let gaps = items_of c.args.gaps.now in
    let cuts = cuts_by m gaps in
    let all : Piece → Bool = λ (cut : Piece). true in
    let some = cuts-some m gaps in
    let longest = among-all all m gaps (All-weaker (λ (cut : Piece). 0 < cut.length) (λ (cut : Piece). all cut ≡ true) (λ cut h. refl) cuts some) in
    let most : c.from.result ≡ longest_among all cuts = c.from.ensures ∙ c.by.ensures ∙ c.longest.ensures m ∙ sym longest in
    c.lowest_holding.ensures.lowest ∙ sym (find-longest all c.from.result cuts most (cuts-apart m gaps c.requires) some) ∙ find-first (longest_first cuts)

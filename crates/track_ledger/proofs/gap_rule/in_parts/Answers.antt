use Rattle.std.proofs.Common.{◌≡◌, ◌<◌, ◌+◌, ◌-◌, ◌∷◌, ◌++◌, [], List, None, Some, suc, drop, length}
use Rattle.std.proofs.Common.{length-append, take, sym, ap, ◌∙◌, arith}
use Rattle.std.specs.Prelude.{slice_get}
use Rattle.track_ledger.specs.declared.piece.Piece.{Piece}
use Rattle.track_ledger.specs.GapRule.{longest_first, taken_from}
use Rattle.track_ledger.specs.Inner.Measures.{cuts_by}
use Rattle.track_ledger.specs.Inner.Trees.{items_of}
use Rattle.track_ledger.proofs.LongestLemmas.{behind, behind-last, behind-more, behind-none, take-next, taken-none}
use Rattle.track_ledger.proofs.gap_rule.in_parts.Goals as goal

pub returns-in_err-gap : goal.returns-in_err-gap
returns-in_err-gap c =
    let gaps = longest_first (cuts_by c.args.measure (items_of c.args.gaps.now)) in
    let i = c.loop.counter in
    let found : c.gap_behind.result ≡ slice_get gaps i = c.gap_behind.ensures ∙ ap (λ (l : List Piece). slice_get gaps (length l)) c.as_slice.ensures.value ∙ ap (slice_get gaps) c.loop.invariant.count in
    let none : slice_get gaps i ≡ None = sym found ∙ c.in_err-gap.was in
    let whole = c.loop.invariant.rest ∙ behind-none gaps c.loop.taken.items i c.loop.left (c.args.allowed - i) none in
    rw c.from_residual.ensures (sym whole)

pub returns-then-left-length : goal.returns-then-left-length
returns-then-left-length c =
    let gaps = longest_first (cuts_by c.args.measure (items_of c.args.gaps.now)) in
    let i = c.loop.counter in
    let found : c.gap_behind.result ≡ slice_get gaps i = c.gap_behind.ensures ∙ ap (λ (l : List Piece). slice_get gaps (length l)) c.as_slice.ensures.value ∙ ap (slice_get gaps) c.loop.invariant.count in
    let gap = c.in_ok-gap.gap in
    let at : slice_get gaps i ≡ Some gap = sym found ∙ c.in_ok-gap.was in
    ap (λ (l : List Piece). Some l) c.push.ensures.items
    ∙ sym (c.loop.invariant.rest ∙ behind-last gaps c.loop.taken.items gap i c.loop.left c.args.allowed at c.loop-test.true (omega (arith, c.if-left-length.true, c.from-length.ensures)))

pub loop-preserved : goal.loop-preserved
loop-preserved c =
    let gaps = longest_first (cuts_by c.args.measure (items_of c.args.gaps.now)) in
    let i = c.loop.counter in
    let taken = c.loop.taken.items in
    let found : c.gap_behind.result ≡ slice_get gaps i = c.gap_behind.ensures ∙ ap (λ (l : List Piece). slice_get gaps (length l)) c.as_slice.ensures.value ∙ ap (slice_get gaps) c.loop.invariant.count in
    let gap = c.in_ok-gap.gap in
    let at : slice_get gaps i ≡ Some gap = sym found ∙ c.in_ok-gap.was in
    let next : suc i ≡ i + 1 = omega arith in
    let short : gap.length < c.loop.left = omega (arith, c.if-left-length.false, c.from-length.ensures) in
    let whole : taken_from gaps c.args.tracks c.args.allowed ≡ behind (taken ++ gap ∷ []) (taken_from (drop (suc i) gaps) (c.loop.left - gap.length) (c.args.allowed - suc i)) =
    c.loop.invariant.rest ∙ behind-more gaps taken gap i c.loop.left c.args.allowed at c.loop-test.true short in
    record {
      count = ap length c.push-in-loop.ensures.items ∙ length-append taken (gap ∷ []) ∙ ap (λ n. n + 1) c.loop.invariant.count;
      front = c.push-in-loop.ensures.items ∙ ap (λ (l : List Piece). l ++ gap ∷ []) c.loop.invariant.front ∙ take-next gaps i gap at ∙ ap (λ n. take n gaps) next;
      rest = whole ∙ ap (λ (l : List Piece). behind l (taken_from (drop (suc i) gaps) (c.loop.left - gap.length) (c.args.allowed - suc i))) (sym c.push-in-loop.ensures.items)
          ∙ ap (λ n. behind c.push-in-loop.new.self.items (taken_from (drop n gaps) (c.loop.left - gap.length) (c.args.allowed - n))) next
          ∙ ap (λ n. behind c.push-in-loop.new.self.items (taken_from (drop (i + 1) gaps) (c.loop.left - n) (c.args.allowed - (i + 1)))) (sym c.from-length.ensures);
    }

pub returns : goal.returns
returns c =
    let gaps = longest_first (cuts_by c.args.measure (items_of c.args.gaps.now)) in
    let i = c.loop.counter in
    sym (c.loop.invariant.rest ∙ taken-none gaps c.loop.taken.items i c.loop.left (c.args.allowed - i) (omega arith))

use Rattle.std.proofs.Common.{◌≡◌, ◌∙◌, rules}
use Rattle.std.proofs.lemmas.List.Sorted.{IsNonDecreasingBy-from_sort_by_key}
use Rattle.track_ledger.specs.declared.piece.Piece.{Piece}
use Rattle.volume_gaps.proofs.GapLaws.{Ascends, moved-gap}
use Rattle.volume_gaps.proofs.longest.longest_gap.Goals as goal

pub longest_beside-requires : goal.longest_beside-requires
longest_beside-requires c =
    let seen : c.deref.result.now ≡ c.sort_unstable_by_key.new.self.items = search rules in
    let up : Ascends c.sort_unstable_by_key.new.self.items = IsNonDecreasingBy-from_sort_by_key (λ (piece : Piece). piece.start) _ c.sort_unstable_by_key.ensures.sorted (λ a r q k. search rules) in
    rw seen up

pub returns : goal.returns
returns c =
    let seen : c.deref.result.now ≡ c.sort_unstable_by_key.new.self.items = search rules in
    (rw (seen, c.from.ensures) at c.longest_beside.ensures.value) ∙ moved-gap c.args.capacity c.args.pieces.items c.sort_unstable_by_key.new.self.items c.sort_unstable_by_key.ensures.permutation

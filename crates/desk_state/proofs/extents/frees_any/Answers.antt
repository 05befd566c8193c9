use Rattle.std.proofs.Common.{rules, ◌≡◌, ◌≤◌, ◌<◌, ◌+◌, ◌-◌, ◌∷◌, drop, length, sym, ap, ◌∙◌, arith}
use Rattle.desk_state.proofs.FreeLemmas.{drop-one, frees-behind, frees-here}
use Rattle.desk_state.proofs.extents.frees_any.Goals as goal

-- a track of the next extent is freed
pub returns-then-kept_of-extent : goal.returns-then-kept_of-extent
returns-then-kept_of-extent c =
    let es = c.args.extents.now in
    let i = c.loop-extent.extent-index in
    let e = c.extent-item.result in
    let less : i < length es = omega (arith, c.loop-extent-test.true) in
    let here : drop i es ≡ e ∷ drop (i + 1) es = drop-one es i e less c.extent-item.is in
    sym (frees-here c.loop-extent.left e (drop (i + 1) es) c.kept_of.result c.kept_of.ensures (omega (arith, c.if-kept_of-extent.true)))
    ∙ (rw here at c.loop-extent.invariant)

-- none of it is
pub loop-extent-preserved : goal.loop-extent-preserved
loop-extent-preserved c =
    let es = c.args.extents.now in
    let i = c.loop-extent.extent-index in
    let e = c.extent-item.result in
    let less : i < length es = omega (arith, c.loop-extent-test.true) in
    let here : drop i es ≡ e ∷ drop (i + 1) es = drop-one es i e less c.extent-item.is in
    let left : c.saturating_sub-left.result ≡ c.loop-extent.left - e.length = search rules in
    rw left (sym (frees-behind c.loop-extent.left e (drop (i + 1) es) c.kept_of.result c.kept_of.ensures (omega (arith, c.if-kept_of-extent.false)))
    ∙ (rw here at c.loop-extent.invariant))

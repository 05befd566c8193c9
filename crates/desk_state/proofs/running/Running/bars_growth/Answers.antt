use Rattle.std.proofs.Common.{◌≡◌, ◌∙◌, true, false, refl, sym}
use Rattle.std.specs.Prelude.{◌||◌}
use Rattle.desk_law.specs.Statuses.{bars_group_growth, bars_volume_growth}
use Rattle.desk_state.proofs.ExtensionLemmas.{bars-at}
use Rattle.desk_state.proofs.running.Running.bars_growth.Goals as goal

pub returns-then-bars_group_growth : goal.returns-then-bars_group_growth
returns-then-bars_group_growth c = λ s volume is there.
    let v = c.index-volume.result.now in
    let g = c.index-group.result.now in
    let on : bars_group_growth g.status ≡ true = sym c.bars_group_growth.ensures ∙ c.if-bars_group_growth.true in
    let one : true ≡ (bars_group_growth g.status || bars_volume_growth v.status) = rw on refl in
    c.if-bars_group_growth.true ∙ (one ∙ bars-at s c.args.self.now.volumes c.args.place volume v g is.volumes there c.index-volume.ensures c.index-group.ensures)

pub returns-else-bars_group_growth : goal.returns-else-bars_group_growth
returns-else-bars_group_growth c = λ s volume is there.
    let v = c.index-volume.result.now in
    let g = c.index-group.result.now in
    let off : bars_group_growth g.status ≡ false = sym c.bars_group_growth.ensures ∙ c.if-bars_group_growth.false in
    let one : bars_volume_growth v.status ≡ (bars_group_growth g.status || bars_volume_growth v.status) = rw off refl in
    c.bars_volume_growth.ensures ∙ (one ∙ bars-at s c.args.self.now.volumes c.args.place volume v g is.volumes there c.index-volume.ensures c.index-group.ensures)

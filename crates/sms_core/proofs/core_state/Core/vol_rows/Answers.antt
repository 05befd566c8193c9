use Rattle.std.proofs.Common.{◌≡◌, length, ap, ◌∙◌, arith}
use Rattle.std.proofs.lemmas.List.{length-map}
use Rattle.desk_law.specs.Display.{shown_volume}
use Rattle.desk_law.specs.Volumes.{volumes_in}
use Rattle.desk_records.proofs.TiedLemmas.{tied-lawful}
use Rattle.desk_state.proofs.FewLemmas.{few-in}
use Rattle.sms_core.proofs.CoreLemmas.{held-stands, if-ok}
use Rattle.sms_core.proofs.core_state.Core.vol_rows.Goals as goal

pub returns-clause-rows : goal.returns-clause-rows
returns-clause-rows g c = rw (← c.self.view_is) (if-ok _ _ c.rows.result c.rows.ensures (λ rows are s reaches. are s (held-stands _ _ _ _ _ _ _ s c.self.invariant.held reaches).volumes))

pub returns-clause-few : goal.returns-clause-few
returns-clause-few g c =
    let held = c.self.invariant.held in
    let volumes = volumes_in held.state.active in
    let few = few-in held.state.active (tied-lawful _ _ _ _ _ _ _ held.tied).config in
    if-ok _ _ c.rows.result c.rows.ensures (λ rows are.
    let shown : length rows ≡ length volumes = ap length (are held.state held.stands.volumes) ∙ length-map volumes (shown_volume held.state) in
    omega (arith, shown, few))

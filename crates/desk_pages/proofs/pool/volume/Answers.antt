-- The row that was found is that of the volume.
use Rattle.std.proofs.Common.{◌≡◌, map, rules, arith}
use Rattle.std.proofs.lemmas.Result.{IfOk-weaker}
use Rattle.desk_law.specs.Display.{shown_volume}
use Rattle.desk_law.specs.Volumes.{volumes_in}
use Rattle.desk_pages.proofs.FindLaws.{page_found, page_missing}
use Rattle.desk_pages.proofs.pool.volume.Goals as goal

pub returns-in-Some : goal.returns-in-Some
returns-in-Some g c = IfOk-weaker c.tracks.result _ _ (λ page tracks s stands.
    let shown = c.in_ok-rows.ensures.rows s stands in
    let rows : c.as_slice.result.now ≡ map (shown_volume s) (volumes_in s.active) = first_of (cc, search rules, grind arith) in
    page_found s c.args.volser.now c.in-Some.row.now c.as_slice.result.now c.args.from page rows c.in-Some.ensures (tracks s stands)) c.tracks.ensures

pub returns : goal.returns
returns g c = IfOk-weaker c.refused.result _ _ (λ page is s stands.
    let shown = c.in_ok-rows.ensures.rows s stands in
    let rows : c.as_slice.result.now ≡ map (shown_volume s) (volumes_in s.active) = first_of (cc, search rules, grind arith) in
    page_missing s c.args.volser.now c.as_slice.result.now c.args.from page rows c.in-None.ensures is) c.refused.ensures

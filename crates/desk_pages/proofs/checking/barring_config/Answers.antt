-- The first volume that stands in the way is that of the law.
use Rattle.std.proofs.Common.{◌≡◌, map, rules, arith}
use Rattle.desk_law.specs.Display.{shown_volume}
use Rattle.desk_law.specs.Volumes.{volumes_in}
use Rattle.desk_pages.proofs.CheckLaws.{comes_barred, comes_passed}
use Rattle.desk_pages.proofs.checking.barring_config.Goals as goal

pub returns-in-Some : goal.returns-in-Some
returns-in-Some g c = λ s stands.
    let shown = c.in_ok-rows.ensures.rows s stands in
    let rows : c.as_slice.result.now ≡ map (shown_volume s) (volumes_in s.active) = first_of (cc, search rules, grind arith) in
    comes_barred s c.args.config.now c.as_slice.result.now c.volumes-2.result.now c.in-Some.row.now rows c.volumes-2.ensures c.in-Some.ensures

pub returns : goal.returns
returns g c = λ s stands.
    let shown = c.in_ok-rows.ensures.rows s stands in
    let rows : c.as_slice.result.now ≡ map (shown_volume s) (volumes_in s.active) = first_of (cc, search rules, grind arith) in
    comes_passed s c.args.config.now c.as_slice.result.now c.volumes-2.result.now rows c.volumes-2.ensures c.in-None.ensures

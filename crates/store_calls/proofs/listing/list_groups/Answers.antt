use Rattle.std.proofs.Common.{◌∙◌, ap, ap₂, map, refl}
use Rattle.std.specs.Prelude.{filter}
use Rattle.std.proofs.lemmas.Result.{IfOk-weaker}
use Rattle.desk_law.specs.State.{start_of}
use Rattle.store_report.specs.GroupSums.{group_row}
use Rattle.store_report.specs.Selecting.{fits_group}
use Rattle.store_report.specs.Texts.{groups_text}
use Rattle.store_calls.proofs.listing.list_groups.Goals as goal

pub returns : goal.returns
returns c =
    let s = start_of c.args.core.now.opening in
    let rows = c.as_slice.ensures ∙ c.in_ok-rows.ensures.rows s (rw c.requires refl) in
    let groups = c.groups_in.ensures s (rw c.requires refl) in
    let picked = c.in_ok-picked.ensures ∙ ap₂ (λ volumes found. filter (fits_group c.args.query.now.selection) (map (group_row volumes) found)) rows groups in
    IfOk-weaker c.groups_text.result _ _ (λ text e. e ∙ ap (groups_text c.args.query.now.format) (c.deref.ensures.value ∙ picked)) c.groups_text.ensures

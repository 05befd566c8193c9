-- The page is that of the extents on the volume.
use Rattle.std.proofs.Common.{◌∙◌, ap}
use Rattle.std.proofs.lemmas.Result.{IfOk-weaker}
use Rattle.desk_pages.specs.DeskPages.{tracks_page}
use Rattle.desk_pages.proofs.pool.tracks.Goals as goal

pub returns : goal.returns
returns g c = IfOk-weaker c.tracks_page.result _ _ (λ page is s stands. record {
  extents = c.in_ok-extents.extents.items;
  lying = c.in_ok-extents.ensures s stands;
  page_is = is ∙ ap (λ l. tracks_page c.args.row.now c.args.from l) c.deref.ensures.value;
}) c.tracks_page.ensures

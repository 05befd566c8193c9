-- The three parts are the whole.
use Rattle.std.proofs.Common.{◌++◌, ◌∙◌, ap}
use Rattle.store_report.proofs.ClassLemmas.{three_behind}
use Rattle.store_report.proofs.VolumeLemmas.{volume_is}
use Rattle.store_report.proofs.volumes_json.push_volume.Goals as goal

pub returns : goal.returns
returns c =
    three_behind _ _ _ _ _ _ _ c.in_ok-push_measures.ensures c.in_ok-push_figures.ensures c.in_ok-push_names.ensures
    ∙ ap (λ l. c.args.text.now.items ++ l) (volume_is c.args.volume.now)

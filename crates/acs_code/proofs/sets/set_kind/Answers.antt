use Rattle.std.proofs.lemmas.Result.{on_ok_weaker}
use Rattle.acs_code.proofs.SetLemmas.{class_turn, groups_turn}
use Rattle.acs_code.proofs.sets.set_kind.Goals as goal

pub returns-in-DataClas : goal.returns-in-DataClas
returns-in-DataClas c = on_ok_weaker _ (class_turn c.args.kind c.args.values.now c.in-DataClas.is) c.set_class.ensures

pub returns-in-StorGrp : goal.returns-in-StorGrp
returns-in-StorGrp c = on_ok_weaker _ (groups_turn c.args.kind c.args.values.now c.in-StorGrp.is) c.set_groups.ensures

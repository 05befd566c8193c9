use Rattle.std.proofs.Common.{◌≤◌, ◌∙◌, List, ap, subst, sym}
use Rattle.sms_construct.specs.declared.data_set.DataSet.{DataSet}
use Rattle.desk_law.specs.State.{set_named}
use Rattle.desk_law.specs.Lawful.{times_named}
use Rattle.desk_restoring.proofs.restoring.running_of.Goals as goal

pub catalog_of-requires : goal.catalog_of-requires
catalog_of-requires c = λ dsn. subst (λ (l : List DataSet). times_named dsn l ≤ 1) (sym c.as_slice.ensures) (c.requires.names dsn)

pub returns : goal.returns
returns c = record {
  activations = c.len.ensures;
  active = c.in_ok-config.ensures;
  volumes = c.in_ok-volumes.ensures;
  sets = λ dsn. c.in_ok-catalog.ensures dsn ∙ ap (set_named dsn) c.as_slice.ensures;
}

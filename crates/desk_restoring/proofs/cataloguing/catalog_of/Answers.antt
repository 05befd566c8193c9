use Rattle.std.proofs.Common.{◌∙◌, Some, ap, bytes_eq, cond}
use Rattle.std.proofs.lemmas.List.{take_all}
use Rattle.sms_construct.specs.declared.data_set.DataSet.{DataSet}
use Rattle.desk_law.specs.State.{set_named}
use Rattle.desk_state.specs.Catalog.{set_in}
use Rattle.desk_restoring.proofs.CatalogLemmas.{found-next}
use Rattle.desk_restoring.proofs.cataloguing.catalog_of.Goals as goal

pub loop-set-preserved : goal.loop-set-preserved
loop-set-preserved c = λ dsn.
    let set = c.set-item.result in
    let before = set_in dsn c.reserve.new.self.sets in
    c.put.ensures dsn
    ∙ (ap (λ (d : DataSet). cond (bytes_eq d.dsn dsn) (Some d) before) c.in_ok-shared.ensures
    ∙ found-next dsn c.args.sets.now c.loop-set.set-index set before c.loop-set-test.true c.set-item.is (c.requires dsn) (c.in_ok-reserve.ensures.same dsn ∙ c.loop-set.invariant dsn))

pub returns : goal.returns
returns c = λ dsn. c.loop-set.invariant dsn ∙ ap (set_named dsn) (take_all c.loop-set.set-index c.args.sets.now c.loop-set-test.false)

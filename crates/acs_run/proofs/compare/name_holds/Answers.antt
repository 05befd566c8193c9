use Rattle.std.proofs.Common.{◌∙◌, refl, sym, ap}
use Rattle.std.specs.Prelude.{slice_get}
use Rattle.acs_code.specs.declared.field.Field.TheVariants.{Dsn}
use Rattle.acs_run.proofs.VariableLemmas.{by_list, whole_name}
use Rattle.acs_run.proofs.compare.name_holds.Goals as goal

pub returns-in-Filter-eq0-clause-holds : goal.returns-in-Filter-eq0-clause-holds
returns-in-Filter-eq0-clause-holds c =
    c.texts_compare.ensures ∙ by_list c.args.filters.now c.args.probe.now c.args.input.now c.args.values.now Dsn c.dsn.result.now c.in-Filter-eq0.place c.name_passes.result (sym c.requires.name)
    (whole_name c.args.probe.now.left.index c.args.input.now c.args.values.now c.dsn.result.now c.in-Filter-eq0.is-1 c.dsn.ensures) c.in-Filter-eq0.is-0 c.name_passes.ensures.passes

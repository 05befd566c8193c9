use Rattle.std.proofs.Common.{◌∙◌, sym, ap, List, ℕ}
use Rattle.acs_tree.specs.Value.{Text}
use Rattle.acs_tree.specs.Variables.{first_qualifier}
use Rattle.acs_code.specs.declared.field.Field.TheVariants.{Hlq}
use Rattle.acs_run.proofs.VariableLemmas.{by_list}
use Rattle.acs_run.proofs.compare.first_holds.Goals as goal

pub returns-in-Filter-clause-holds : goal.returns-in-Filter-clause-holds
returns-in-Filter-clause-holds c =
    c.texts_compare.ensures ∙ by_list c.args.filters.now c.args.probe.now c.args.input.now c.args.values.now Hlq (first_qualifier c.dsn.result.now) c.in-Filter.place c.first_passes.result (sym c.requires.name)
    (ap (λ (dsn : List ℕ). Text (first_qualifier dsn)) c.dsn.ensures) c.in-Filter.is c.first_passes.ensures.passes

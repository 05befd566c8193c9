use Rattle.std.proofs.Common.{◌≡◌, ◌∙◌, List, ℕ, subst, sym, ap}
use Rattle.std.specs.Prelude.{Option, IfSome}
use Rattle.acs_tree.specs.Compares.{texts_compare}
use Rattle.acs_tree.specs.Value.{Text}
use Rattle.acs_tree.specs.Variables.{last_qualifier}
use Rattle.acs_code.specs.declared.field.Field.TheVariants.{Llq}
use Rattle.acs_run.proofs.MemoLemmas.{known_after}
use Rattle.acs_run.proofs.VariableLemmas.{by_text}
use Rattle.acs_run.proofs.compare.last_holds.Goals as goal

pub returns-in-Some-clause-holds : goal.returns-in-Some-clause-holds
returns-in-Some-clause-holds c =
    c.texts_compare.ensures ∙ ap (texts_compare c.args.probe.now.op) c.equals.ensures
    ∙ by_text c.args.filters.now c.args.probe.now c.args.input.now c.args.values.now Llq c.in-Some.text (sym c.requires.name)
    (ap Text (subst (λ (made : Option (List ℕ)). IfSome made (λ text. text ≡ last_qualifier c.args.input.now.dsn)) c.in-Some.is (known_after c.args.filters.now c.args.input.now.dsn c.dsn.result.now c.args.memo.now c.learn_last.new.self c.dsn.ensures (c.learn_last.ensures c.args.filters.now) c.requires.knows).last))

pub returns-in-Some-clause-knows : goal.returns-in-Some-clause-knows
returns-in-Some-clause-knows c = known_after c.args.filters.now c.args.input.now.dsn c.dsn.result.now c.args.memo.now c.learn_last.new.self c.dsn.ensures (c.learn_last.ensures c.args.filters.now) c.requires.knows

pub returns-in-None-clause-knows : goal.returns-in-None-clause-knows
returns-in-None-clause-knows c = known_after c.args.filters.now c.args.input.now.dsn c.dsn.result.now c.args.memo.now c.learn_last.new.self c.dsn.ensures (c.learn_last.ensures c.args.filters.now) c.requires.knows

use Rattle.std.proofs.Common.{◌≡◌, ◌∙◌, Bool, List, ℕ, subst, ap}
use Rattle.std.specs.Prelude.{Option, IfSome, slice_get}
use Rattle.acs_tree.specs.Variables.{first_qualifier}
use Rattle.acs_run.specs.Inner.Seen.{passes_if_any}
use Rattle.acs_run.proofs.memo.Memo.first_passes.Goals as goal

pub returns-in-Some-clause-passes : goal.returns-in-Some-clause-passes
returns-in-Some-clause-passes c =
    subst (λ (known : Option Bool). IfSome known (λ answer. answer ≡ passes_if_any (first_qualifier c.args.dsn.now) (slice_get c.args.filters.now c.args.place))) c.in-Some.is (c.known.ensures c.args.filters.now (first_qualifier c.args.dsn.now) c.requires.firsts)

pub returns-clause-passes : goal.returns-clause-passes
returns-clause-passes c = c.passes-answer.ensures ∙ ap (λ (text : List ℕ). passes_if_any text (slice_get c.args.filters.now c.args.place)) c.qualifier.ensures

pub returns-clause-knows : goal.returns-clause-knows
returns-clause-knows c = record { whole = c.requires.whole; first = c.requires.first; last = c.requires.last; names = c.requires.names; firsts = c.note.ensures c.args.filters.now (first_qualifier c.args.dsn.now) c.requires.firsts (c.passes-answer.ensures ∙ ap (λ (text : List ℕ). passes_if_any text (slice_get c.args.filters.now c.args.place)) c.qualifier.ensures) }

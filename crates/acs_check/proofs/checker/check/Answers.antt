use Rattle.std.proofs.Common.{sym, ◌∙◌}
use Rattle.desk_common.proofs.ExactLemmas.{exact_thing, exact_fault}
use Rattle.acs_check.proofs.FirstLemmas.{found, none_found, one_first}
use Rattle.acs_check.proofs.checker.check.Goals as goal

pub seal-requires : goal.seal-requires
seal-requires c = none_found c.args.tree c.args.kind c.first_fault.result c.first_fault.ensures c.in-None.is

pub returns-in-Some-clause-err : goal.returns-in-Some-clause-err
returns-in-Some-clause-err c = found c.args.tree c.args.kind c.in-Some.err c.first_fault.result c.first_fault.ensures c.in-Some.is

pub returns-in-Some-clause-exactly : goal.returns-in-Some-clause-exactly
returns-in-Some-clause-exactly c =
    let first = found c.args.tree c.args.kind c.in-Some.err c.first_fault.result c.first_fault.ensures c.in-Some.is in
    exact_fault (λ made s. s.0 c.in-Some.err first.met) (λ err f. one_first c.args.tree c.args.kind c.in-Some.err err first f)

pub returns-in-None-clause-ok : goal.returns-in-None-clause-ok
returns-in-None-clause-ok c = (none_found c.args.tree c.args.kind c.first_fault.result c.first_fault.ensures c.in-None.is, c.seal.ensures)

pub returns-in-None-clause-exactly : goal.returns-in-None-clause-exactly
returns-in-None-clause-exactly c =
    exact_thing (λ other s. c.seal.ensures ∙ sym s.1) (λ err f. none_found c.args.tree c.args.kind c.first_fault.result c.first_fault.ensures c.in-None.is err f.met)

use Rattle.std.proofs.Common.{◌≡◌, ◌∷◌, arith}
use Rattle.std.proofs.lemmas.Grind.{common_steps}
use Rattle.std.proofs.lemmas.Result.{err_from_is_err_and}
use Rattle.acs_symbol.specs.declared.symbol.WordKind.TheVariants as word
use Rattle.acs_symbol.specs.declared.symbol.Symbol.TheVariants.{Word}
use Rattle.acs_parse.proofs.OperandLemmas.{include_exclude_fails}
use Rattle.acs_parse.proofs.lists.lists.Goals as goal

pub returns-in_err-exclude-in-Some-Word-Include-default-default : goal.returns-in_err-exclude-in-Some-Word-Include-default-default
returns-in_err-exclude-in-Some-Word-Include-default-default c =
    let e : c.args.rest.now ≡ Word word.Include c.in-Some-Word-Include-default-default.field-0-0-1 ∷ c.in-Some-Word-Include-default-default.behind = grind (arith, common_steps) in
    let p = err_from_is_err_and c.from_residual-in_err-exclude-in-Some-Word-Include-default-default.result c.from_residual-in_err-exclude-in-Some-Word-Include-default-default.ensures.1 in
    rw (p.1, p.2) (include_exclude_fails c.in_err-exclude-in-Some-Word-Include-default-default.field-0.0 e c.in_ok-include-in-Some-Word-Include-default-default.ensures c.in_err-exclude-in-Some-Word-Include-default-default.ensures)

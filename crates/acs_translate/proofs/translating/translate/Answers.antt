use Rattle.std.proofs.Common.{◌<◌, ◌^◌, length, sym, subst, arith}
use Rattle.std.proofs.lemmas.Grind.{common_steps}
use Rattle.acs_parse.specs.Grammar.{limited, IsRoutine}
use Rattle.acs_translate.specs.Translation.{MayRefuse}
use Rattle.acs_translate.proofs.TranslateLemmas.{ParseMayRefuse, few_symbols, right_lex, read_parse, read_check}
use Rattle.acs_translate.proofs.translating.translate.Goals as goal

pub returns-in-Err-clause-err : goal.returns-in-Err-clause-err
returns-in-Err-clause-err c =
    subst (λ x. MayRefuse c.args.text.now c.args.kind x) (sym c.told_by_scanner.ensures) (right_lex c.args.text.now c.args.kind c.in-Err.fault c.in-Err.ensures.err)

pub overflow_cast-count : goal.overflow_cast-count
overflow_cast-count c =
    let less : length c.in-Ok.symbols < 2 ^ 32 = few_symbols c.args.text.now c.in-Ok.symbols c.requires c.in-Ok.ensures.ok in
    grind (arith, common_steps)

pub parse_symbols-requires : goal.parse_symbols-requires
parse_symbols-requires c =
    let less : length c.in-Ok.symbols < 2 ^ 32 = few_symbols c.args.text.now c.in-Ok.symbols c.requires c.in-Ok.ensures.ok in
    grind (arith, common_steps)

pub returns-in-Err-parse_symbols-clause-err : goal.returns-in-Err-parse_symbols-clause-err
returns-in-Err-parse_symbols-clause-err c =
    let refused : ParseMayRefuse c.in-Ok.symbols c.in-Err-parse_symbols.fault =
    subst (λ z. ParseMayRefuse z c.in-Err-parse_symbols.fault) c.as_slice.ensures c.in-Err-parse_symbols.ensures.err in
    subst (λ x. MayRefuse c.args.text.now c.args.kind x) (sym c.told_by_parser.ensures) (read_parse c.args.kind c.in-Err-parse_symbols.fault c.in-Ok.ensures.ok refused c.len-count.ensures)

pub returns-clause-err : goal.returns-clause-err
returns-clause-err c =
    let read : IsRoutine limited c.in-Ok.symbols c.in-Ok-parse_symbols.tree =
    subst (λ z. IsRoutine limited z c.in-Ok-parse_symbols.tree) c.as_slice.ensures c.in-Ok-parse_symbols.ensures.ok in
    subst (λ x. MayRefuse c.args.text.now c.args.kind x) (sym c.told_by_checks.ensures) (read_check c.in-Ok.ensures.ok read c.in-Err-check.ensures.err)

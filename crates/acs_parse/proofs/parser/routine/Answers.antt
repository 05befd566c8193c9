use Rattle.std.proofs.Common.{◌≡◌, [], ◌∷◌, arith}
use Rattle.std.proofs.lemmas.Grind.{common_steps}
use Rattle.std.proofs.lemmas.Result.{err_from_is_err_and}
use Rattle.acs_parse.proofs.RoutineLemmas.{number_at, whole_at, whole_body_fails, whole_rest_fails}
use Rattle.acs_parse.proofs.parser.routine.Goals as goal

pub returns-in_err-body : goal.returns-in_err-body
returns-in_err-body c =
    let p = err_from_is_err_and c.from_residual-in_err-body.result c.from_residual-in_err-body.ensures.1 in
    rw (p.1, p.2) (whole_body_fails c.in_err-body.field-0.0 c.in_ok-expect.ensures (number_at _ c.skip-numbered.ensures) c.in_ok-head.ensures c.in_err-body.ensures)

pub returns-in-None : goal.returns-in-None
returns-in-None c =
    let e : c.body.new.rest ≡ [] = grind (arith, common_steps) in
    whole_at c.in_ok-expect.ensures (number_at _ c.skip-numbered.ensures) c.in_ok-head.ensures c.place-head_at.ensures c.in_ok-body.ensures e

pub returns-in-Some : goal.returns-in-Some
returns-in-Some c =
    let e : c.body.new.rest ≡ c.in-Some.field-0.0.now ∷ c.in-Some.field-0.1 = grind (arith, common_steps) in
    rw c.len.ensures (whole_rest_fails c.in_ok-expect.ensures (number_at _ c.skip-numbered.ensures) c.in_ok-head.ensures c.in_ok-body.ensures e)

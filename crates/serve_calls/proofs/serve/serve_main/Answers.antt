use Rattle.std.proofs.Common.{rules, ◌≡◌, ◌≤◌, length, Some, map, string_bytes, arith}
use Rattle.desk_words.specs.Serving.{serving_in}
use Rattle.serve_calls.proofs.serve.serve_main.Goals as goal

-- the words ask for so many workers at most
pub serve_doors-requires-clause-doors : goal.serve_doors-requires-clause-doors
serve_doors-requires-clause-doors g c κs within =
    let this : serving_in (map string_bytes c.args.words.now) ≡ Some c.in-Some.asked = search rules in
    let many = c.requires.doors c.in-Some.asked this in
    let limits = c.in-Some.ensures.limits.workers in
    let both : (1 ≤ length c.args.doors.items) × (length c.args.doors.items ≤ 16) = (omega (arith, many, limits.0), omega (arith, many, limits.1)) in
    both

-- what was asked is what the words ask
pub returns-in-Some-clause-ends : goal.returns-in-Some-clause-ends
returns-in-Some-clause-ends g c = λ asked is.
    let this : serving_in (map string_bytes c.args.words.now) ≡ Some c.in-Some.asked = search rules in
    let same : c.in-Some.asked ≡ asked = cc in
    rw (← same) c.serve_doors.ensures.ends

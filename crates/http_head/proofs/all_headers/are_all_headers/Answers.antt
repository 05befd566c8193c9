-- What the parser finds in the lines and an empty one.
use Rattle.std.proofs.Common.{arith}
use Rattle.std.proofs.lemmas.Grind.{common_steps}
use Rattle.http_head.proofs.HeaderLemmas.{full_is_all, text_is}
use Rattle.http_head.proofs.all_headers.are_all_headers.Goals as goal

pub returns : goal.returns
returns c =
    full_is_all c.args.lines.now _ _ _ c.parse_request-parsed.result c.is_full.result c.parse_request-parsed.ensures.within c.parse_request-parsed.ensures.complete c.parse_request-parsed.ensures.found
    (grind (arith, common_steps)) (grind (arith, common_steps)) (text_is c.args.lines.now c.copy_from_slice.new.self 8193 c.copy_from_slice.ensures.after (omega (arith, c.requires))) c.is_full.ensures

-- Each part is of ASCII, from the last to the first.
use Rattle.std.proofs.Common.{◌≡◌, ◌++◌, ◌∷◌, [], arith, subst, sym}
use Rattle.std.proofs.lemmas.Grind.{common_steps}
use Rattle.std.specs.Str.{IsAscii}
use Rattle.json.specs.Print.{escape}
use Rattle.http_message.proofs.AsciiLemmas.{end_ascii, quote_behind}
use Rattle.http_message.proofs.plain_member.plain_member.Goals as goal

pub returns-clause-ascii : goal.returns-clause-ascii
returns-clause-ascii c =
    let k = c.in_ok-key in
    let t = c.in_ok-text in
    let last : t.rest.now ≡ 125 ∷ [] = grind (arith, common_steps) in
    let middle : k.rest.now ≡ 58 ∷ 34 ∷ (escape t.text.now ++ 34 ∷ t.rest.now) = grind (arith, common_steps) in
    let whole : c.args.body.now ≡ 123 ∷ 34 ∷ (escape k.key.now ++ 34 ∷ k.rest.now) = grind (arith, common_steps) in
    let third = subst IsAscii t.ensures.cut (t.ensures.ascii (subst IsAscii (sym last) end_ascii)) in
    let second = subst IsAscii k.ensures.cut (k.ensures.ascii (subst IsAscii (sym middle) (quote_behind 58 _ (omega arith) third))) in
    subst IsAscii (sym whole) (quote_behind 123 _ (omega arith) second)

-- The front stands for itself.
use Rattle.std.proofs.Common.{◌++◌, ◌∙◌, sym, ap, append_assoc, take, drop}
use Rattle.std.proofs.lemmas.List.{take_rest}
use Rattle.json.specs.Print.{escape}
use Rattle.json_text.proofs.EscapeLemmas.{plain_front}
use Rattle.json_text.proofs.quoting.push_escaped.Goals as goal

pub loop-rest-init : goal.loop-rest-init
loop-rest-init c =
    let bytes = c.args.bytes.now in
    let old = c.args.text.now.items in
    let n = c.plain_len-count.result in
    let whole = plain_front bytes n c.plain_len-count.ensures.plain c.plain_len-count.ensures.within in
    rw take_rest
    (ap (λ l. l ++ escape (drop n bytes)) c.in_ok-extend_from_slice.ensures.items
    ∙ append_assoc old (take n bytes) (escape (drop n bytes))
    ∙ ap (λ l. old ++ l) (sym whole))

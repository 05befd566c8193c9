use Rattle.std.proofs.Common.{◌++◌, ◌∷◌, [], ◌∙◌, ap}
use Rattle.std.specs.Prelude.{codes, decimal, unwrap_or}
use Rattle.http.specs.StatusCode.{reason_phrase}
use Rattle.http_answer.proofs.TextLemmas.{behind}
use Rattle.http_answer.proofs.text.refusal_bytes.Goals as goal

-- the status and its phrase stand between what is fixed
pub returns : goal.returns
returns c =
    let size = decimal c.args.status in
    let phrase = unwrap_or (reason_phrase c.args.status) [] in
    let last = codes "\r\nContent-Length: 0\r\nConnection: close\r\n\r\n" in
    let all = c.extend_from_slice-4.new.self.items in
    behind all c.extend_from_slice.new.self.items [] (codes "HTTP/1.1 ") (size ++ (32 ∷ (phrase ++ last)))
    (behind all c.push_number.new.text.items c.extend_from_slice.new.self.items size (32 ∷ (phrase ++ last))
    (behind all c.extend_from_slice-2.new.self.items c.push_number.new.text.items (32 ∷ []) (phrase ++ last)
    (behind all c.extend_from_slice-3.new.self.items c.extend_from_slice-2.new.self.items phrase last c.in_ok-extend_from_slice-4.ensures.items
    (c.in_ok-extend_from_slice-3.ensures.items ∙ ap (λ l. c.extend_from_slice-2.new.self.items ++ l) (c.as_bytes.ensures.value ∙ c.phrase_of.ensures)))
    c.in_ok-extend_from_slice-2.ensures.items) (c.in_ok-push_number.ensures ∙ ap (λ n. c.extend_from_slice.new.self.items ++ decimal n) c.from.ensures)) (c.in_ok-extend_from_slice.ensures.items ∙ ap (λ l. l ++ codes "HTTP/1.1 ") c.new-text.ensures.items)

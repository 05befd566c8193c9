-- The bytes of a page are those of its parts.
use Rattle.std.proofs.Common.{◌≡◌, ◌++◌, ◌∙◌, ap, List, ℕ, [], length}
use Rattle.std.specs.Prelude.{codes, decimal}
use Rattle.http_answer.specs.AnswerText.{connection_text}
use Rattle.http_answer.proofs.TextLemmas.{behind}
use Rattle.http_flow.specs.PageText.{kind_lines, status_line}
use Rattle.http_flow.proofs.page.page_bytes.Goals as goal

pub returns : goal.returns
returns c =
    let all = c.extend_from_slice-7.new.self.items in
    let body = c.args.page.now.body in
    let blank = codes "\r\n\r\n" in
    let word = connection_text c.args.closes in
    let connection = codes "\r\nConnection: " in
    let size = decimal (length body) in
    let length_of = codes "Content-Length: " in
    let type_of = kind_lines c.args.page.now.kind in
    let line = status_line c.args.page.now.status in
    let after_word : List ℕ = blank ++ body in
    let after_connection : List ℕ = word ++ after_word in
    let after_size : List ℕ = connection ++ after_connection in
    let after_length : List ℕ = size ++ after_size in
    let after_type : List ℕ = length_of ++ after_length in
    let after_line : List ℕ = type_of ++ after_type in
    let h6 : all ≡ c.extend_from_slice-6.new.self.items ++ body =
    c.in_ok-extend_from_slice-7.ensures.items ∙ ap (λ l. c.extend_from_slice-6.new.self.items ++ l) c.as_slice-body.ensures in
    let h5 : all ≡ c.extend_from_slice-5.new.self.items ++ after_word =
    behind all c.extend_from_slice-6.new.self.items c.extend_from_slice-5.new.self.items blank body h6 c.in_ok-extend_from_slice-6.ensures.items in
    let h4 : all ≡ c.extend_from_slice-4.new.self.items ++ after_connection =
    behind all c.extend_from_slice-5.new.self.items c.extend_from_slice-4.new.self.items word after_word h5
    (c.in_ok-extend_from_slice-5.ensures.items ∙ ap (λ l. c.extend_from_slice-4.new.self.items ++ l) c.connection_text.ensures) in
    let h3 : all ≡ c.push_number.new.text.items ++ after_size =
    behind all c.extend_from_slice-4.new.self.items c.push_number.new.text.items connection after_connection h4 c.in_ok-extend_from_slice-4.ensures.items in
    let h2 : all ≡ c.extend_from_slice-3.new.self.items ++ after_length =
    behind all c.push_number.new.text.items c.extend_from_slice-3.new.self.items size after_size h3
    (c.in_ok-push_number.ensures ∙ ap (λ l. c.extend_from_slice-3.new.self.items ++ decimal (length l)) c.as_slice-body.ensures) in
    let h1 : all ≡ c.extend_from_slice-2.new.self.items ++ after_type =
    behind all c.extend_from_slice-3.new.self.items c.extend_from_slice-2.new.self.items length_of after_length h2 c.in_ok-extend_from_slice-3.ensures.items in
    let h0 : all ≡ c.extend_from_slice.new.self.items ++ after_line =
    behind all c.extend_from_slice-2.new.self.items c.extend_from_slice.new.self.items type_of after_type h1
    (c.in_ok-extend_from_slice-2.ensures.items ∙ ap (λ l. c.extend_from_slice.new.self.items ++ l) c.kind_lines.ensures) in
    behind all c.extend_from_slice.new.self.items [] line after_line h0
    (c.in_ok-extend_from_slice.ensures.items ∙ ap (λ l. l ++ c.status_line.result.now) c.new-text.ensures.items ∙ c.status_line.ensures)

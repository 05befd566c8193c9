use Rattle.std.proofs.Common.{◌++◌}
use Rattle.std.specs.Prelude.{codes, decimal}
use Rattle.http_answer.specs.AnswerText.{connection_text}
use Rattle.http_answer.proofs.TextLemmas.{behind, on-behind}
use Rattle.http_answer.proofs.text.push_head.Goals as goal

-- the length stands between what is fixed and the rest of the head
pub returns : goal.returns
returns c =
    let front = codes "HTTP/1.1 200 OK\r\nContent-Type: application/json\r\nContent-Length: " in
    on-behind c.push_connection.result c.push_connection.new.text.items c.push_number.new.text.items c.args.text.now.items (front ++ decimal c.args.size)
    (codes "\r\nConnection: " ++ (connection_text c.args.closes ++ codes "\r\n\r\n")) c.push_connection.ensures
    (behind c.push_number.new.text.items c.extend_from_slice.new.self.items c.args.text.now.items front (decimal c.args.size) c.in_ok-push_number.ensures c.in_ok-extend_from_slice.ensures.items)

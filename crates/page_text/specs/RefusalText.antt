-- The bytes of refusals (docs/manual/smsd.md, "Refusals").
use Rattle.std.specs.Prelude.{ℕ, List, [], ◌++◌, ◌==◌, codes, decimal, length, unwrap_or, if◌then◌else◌}
use Rattle.http.specs.StatusCode.{reason_phrase}
use Rattle.page_text.specs.PageBodies.{error_body}

-- the sentence that says what is wrong
abbrev pub sentence_of : ℕ → List ℕ
sentence_of status =
    if status == 400 then codes "this isn't a request as the desk reads them" else
    if status == 403 then codes "Host, Origin or Sec-Fetch-Site names another site" else
    if status == 404 then codes "no request and no page is asked so" else
    if status == 405 then codes "this path is asked by POST" else
    if status == 411 then codes "a deck needs a Content-Length" else
    if status == 413 then codes "the body is longer than this path allows" else
    if status == 431 then codes "the head is longer than 8192 bytes or has more than 32 headers" else
    if status == 501 then codes "a body with a Transfer-Encoding isn't read" else
    if status == 503 then codes "as many connections are served as may be" else
    codes "the request is refused"

-- the bytes of a refusal with this body, its reason phrase being that of the status
abbrev pub refusal_with : ℕ → List ℕ → List ℕ
refusal_with status body =
    codes "HTTP/1.1 "
    ++ (decimal status ++ (codes " " ++ (unwrap_or (reason_phrase status) []
    ++ (codes "\r\nContent-Type: application/json\r\nContent-Length: " ++ (decimal (length body)
    ++ (codes "\r\nConnection: close\r\n\r\n" ++ body))))))

-- the bytes of a refusal whose body says what is wrong
abbrev pub said_refusal : ℕ → List ℕ
said_refusal status = refusal_with status (error_body (sentence_of status))

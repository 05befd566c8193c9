-- The bytes of a page (docs/manual/smsd.md, "Pages").
use Rattle.std.specs.Prelude.{ℕ, Bool, List, ◌++◌, length, decimal, codes}
use Rattle.http_answer.specs.AnswerText.{connection_text}
use Rattle.http_flow.specs.declared.page.Page.{Page}
use Rattle.http_flow.specs.declared.page.PageStatus.{PageStatus}
use Rattle.http_flow.specs.declared.page.PageStatus.TheVariants as statuses
use Rattle.http_flow.specs.declared.page_kind.PageKind.{PageKind}
use Rattle.http_flow.specs.declared.page_kind.PageKind.TheVariants as kinds

-- the first line
abbrev pub status_line : PageStatus → List ℕ
status_line statuses.Shown = codes "HTTP/1.1 200 OK\r\n"
status_line statuses.Bad = codes "HTTP/1.1 400 Bad Request\r\n"
status_line statuses.Missing = codes "HTTP/1.1 404 Not Found\r\n"
status_line statuses.NotAllowed = codes "HTTP/1.1 405 Method Not Allowed\r\n"

-- a browser takes the file as what it is said to be
abbrev pub no_sniffing : List ℕ
no_sniffing = codes "X-Content-Type-Options: nosniff\r\n"

-- a browser takes nothing for the markup but what this desk serves, and shows it in no other site's frame
abbrev pub policy : List ℕ
policy =
    codes "Content-Security-Policy: default-src 'self'; frame-ancestors 'none'; base-uri 'none'; form-action 'none'\r\n"

-- the headers that a kind of body has
abbrev pub kind_lines : PageKind → List ℕ
kind_lines kinds.Json = codes "Content-Type: application/json\r\n"
kind_lines kinds.Markup = codes "Content-Type: text/html; charset=utf-8\r\n" ++ (no_sniffing ++ policy)
kind_lines kinds.Style = codes "Content-Type: text/css; charset=utf-8\r\n" ++ no_sniffing
kind_lines kinds.Script = codes "Content-Type: text/javascript; charset=utf-8\r\n" ++ no_sniffing

-- the bytes of a page
abbrev pub page_text : Page → Bool → List ℕ
page_text page closes =
    status_line page.status
    ++ (kind_lines page.kind
    ++ (codes "Content-Length: "
    ++ (decimal (length page.body)
    ++ (codes "\r\nConnection: " ++ (connection_text closes ++ (codes "\r\n\r\n" ++ page.body))))))

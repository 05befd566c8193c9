-- Pages by their kind (docs/manual/smsd.md, "Pages").
use Rattle.std.specs.Prelude.{ℕ, List}
use Rattle.http_flow.specs.declared.page.Page.{Page}
use Rattle.http_flow.specs.declared.page.PageStatus.{PageStatus}
use Rattle.http_flow.specs.declared.page.PageStatus.TheVariants as statuses
use Rattle.http_flow.specs.declared.page_kind.PageKind.{PageKind}
use Rattle.http_flow.specs.declared.page_kind.PageKind.TheVariants as kinds
use Rattle.page_text.specs.PageBodies.{error_body}

-- a page that shows something
abbrev pub showing : List ℕ → Page
showing body = record { status = statuses.Shown; kind = kinds.Json; body = body }

-- a page that says what is wrong
abbrev pub refusing : PageStatus → List ℕ → Page
refusing status sentence = record { status = status; kind = kinds.Json; body = error_body sentence }

-- a file of the desk's page
abbrev pub filed : PageKind → List ℕ → Page
filed kind file = record { status = statuses.Shown; kind = kind; body = file }

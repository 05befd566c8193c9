-- What the parser answers where a head has as many headers as one may have.
use Rattle.std.specs.Prelude.{ℕ, Bool, false, ◌==◌, ◌&&◌, Result, Ok, Err}
use Rattle.httparse.specs.declared.Error.{Error}
use Rattle.httparse.specs.declared.Status.{Status}
use Rattle.httparse.specs.declared.Status.TheVariants.{Complete, Partial}
use Rattle.httparse.specs.declared.spans.RequestSpans.{RequestSpans}
use Rattle.http_head.specs.Limits.{most_headers}

-- a head of so many bytes was found that has as many headers as one may have
abbrev pub is_full : Result (Status RequestSpans) Error → ℕ → Bool
is_full (Ok (Complete spans)) size = (spans.len == size) && (spans.headers == most_headers)
is_full (Ok Partial) size = false
is_full (Err error) size = false

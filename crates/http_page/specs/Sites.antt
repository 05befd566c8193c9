-- From which site a head is asked (docs/manual/smsd.md, "Who may ask").
use Rattle.std.specs.Prelude.{ℕ, ◌&&◌, ◌||◌, Bool, true, false, List, ◌++◌, length, take, drop, nat_lt, codes, decimal}
use Rattle.std.specs.Prelude.{if◌then◌else◌}
use Rattle.std.specs.List.{list_all}
use Rattle.std.specs.Str.{str_eq_ignore_ascii_case}
use Rattle.http_head.specs.Headers.{Header, values_of, has_some}

-- a name with a port behind it
abbrev pub host_text : List ℕ → ℕ → List ℕ
host_text name port = name ++ (codes ":" ++ decimal port)

-- one of the names of this machine with the port, in any case
abbrev pub is_host : ℕ → List ℕ → Bool
is_host port value =
    str_eq_ignore_ascii_case value (host_text (codes "127.0.0.1") port)
    || (str_eq_ignore_ascii_case value (host_text (codes "localhost") port)
    || str_eq_ignore_ascii_case value (host_text (codes "[::1]") port))

-- the bytes of `http://`
abbrev pub scheme_bytes : ℕ
scheme_bytes = 7

-- `http://` and one of these names
abbrev pub is_origin : ℕ → List ℕ → Bool
is_origin port value =
    if nat_lt (length value) scheme_bytes then false else
    (str_eq_ignore_ascii_case (take scheme_bytes value) (codes "http://") && is_host port (drop scheme_bytes value))

-- a page of the same origin asks, or none does
abbrev pub is_fetch : List ℕ → Bool
is_fetch value =
    str_eq_ignore_ascii_case value (codes "same-origin") || str_eq_ignore_ascii_case value (codes "none")

-- a header that names no other site
abbrev pub is_own : ℕ → Header → Bool
is_own port header =
    if str_eq_ignore_ascii_case header.0 (codes "host") then is_host port header.1 else
    if str_eq_ignore_ascii_case header.0 (codes "origin") then is_origin port header.1 else
    if str_eq_ignore_ascii_case header.0 (codes "sec-fetch-site") then is_fetch header.1 else true

-- a head with these headers is asked from the site of this port: it names its host, and no other site
abbrev pub is_asked_here : ℕ → List Header → Bool
is_asked_here port headers = has_some (values_of (codes "host") headers) && list_all (is_own port) headers

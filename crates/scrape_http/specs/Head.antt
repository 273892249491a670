-- What the head of a request asks for (RFC 9112, sections 3 and 3.2; RFC 9110, section 9).
use Rattle.std.specs.Prelude.{ℕ, ◌==◌, nat_lt, Bool, ◌||◌, ◌&&◌, not, List, count_by, codes, if◌then◌else◌, Option, Some, None}
use Rattle.std.specs.Prelude.{bytes_eq, take, drop}
use Rattle.std.specs.Str.{str_eq_ignore_ascii_case, byte}
use Rattle.httparse.specs.Grammar.{RequestHead, Field}
use Rattle.scrape_http.specs.declared.status.Status.{Status}
use Rattle.scrape_http.specs.declared.status.Status.TheVariants.{BadRequest, NotFound, MethodNotAllowed}
use Rattle.scrape_http.specs.declared.request.Wanted.{Wanted}
use Rattle.std.specs.List.{before_first, position_or_len}

-- what stands before the first '?', or all
abbrev pub before_query : List ℕ → List ℕ
before_query target = before_first (λ b. b == byte "?") target

-- the first '/' and what stands behind it, or nothing
abbrev pub from_slash : List ℕ → List ℕ
from_slash bytes = drop (position_or_len (λ b. b == byte "/") bytes) bytes

-- it begins with "http://", in any case
abbrev pub is_absolute : List ℕ → Bool
is_absolute target = str_eq_ignore_ascii_case (take 7 target) (codes "http://")

-- the path: what stands before the query, and of an absolute target the part of that from the first '/' behind the scheme on
abbrev pub path_of : List ℕ → List ℕ
path_of target = if is_absolute target then from_slash (drop 7 (before_query target)) else before_query target

-- the name of a Host field, in any case
abbrev pub is_host : List ℕ → Bool
is_host name = str_eq_ignore_ascii_case name (codes "Host")

-- how many Host fields there are
abbrev pub hosts : RequestHead → ℕ
hosts head = count_by (λ (field : Field). is_host field.name) head.fields

-- a method by which metrics are read; methods have a case
abbrev pub is_get_or_head : List ℕ → Bool
is_get_or_head method = bytes_eq method (codes "GET") || bytes_eq method (codes "HEAD")

-- why a request is refused, if it is, by the first of these: several Host fields, or none in HTTP/1.1; another path; another
-- method
abbrev pub refusal_by : (hosts minor : ℕ) → (target method : List ℕ) → Option Status
refusal_by hosts minor target method =
    if nat_lt 1 hosts || (minor == 1 && hosts == 0) then Some BadRequest
    else (if not (bytes_eq (path_of target) (codes "/metrics")) then Some NotFound
    else (if not (is_get_or_head method) then Some MethodNotAllowed
    else None))

-- what a whole head asks for: a scrape, where it is not refused; and that the body is sent, unless it is a HEAD
abbrev pub wanted_of : RequestHead → Wanted
wanted_of head = record {
  refusal = refusal_by (hosts head) head.minor head.target head.method;
  with_body = not (bytes_eq head.method (codes "HEAD"));
}

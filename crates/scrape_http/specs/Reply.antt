-- The bytes of replies (RFC 9112, sections 4 and 9.6; RFC 9110, sections 8.3, 8.6 and 10.2.1; the exposition format's page).
use Rattle.std.specs.Prelude.{◌≡◌, ℕ, ◌<◌, Bool, true, List, [], ◌++◌, length, codes, decimal, if◌then◌else◌, Option, Some, None}
use Rattle.std.specs.Prelude.{Result, Ok, Err}
use Rattle.httparse.specs.Ascii.{crlf_bytes}
use Rattle.expo_text.specs.Scraped.{Scraped}
use Rattle.expo_text.specs.Shown.{shown_text}
use Rattle.scrape_http.specs.declared.source.NoScrape.{NoScrape}
use Rattle.scrape_http.specs.declared.status.Status.{Status}
use Rattle.scrape_http.specs.declared.status.Status.TheVariants.{Success, MethodNotAllowed, Unavailable}
use Rattle.scrape_http.specs.declared.request.Wanted.{Wanted}
use Rattle.scrape_http.specs.Status.{code_of, phrase_of}
use Rattle.scrape_http.specs.Asks.{Asks}

-- a reply: its status, and all its bytes
pub record Reply : Type 0 where
  pub status : Status
  pub bytes : List ℕ

-- a line, with its end
abbrev pub line : List ℕ → List ℕ
line words = words ++ crlf_bytes

-- the line that a reply begins with
abbrev pub status_line : Status → List ℕ
status_line status = line (codes "HTTP/1.1 " ++ decimal (code_of status) ++ codes " " ++ phrase_of status)

-- the field that names the methods of `/metrics`, which the reply to another method has (RFC 9110, section 10.2.1)
abbrev pub allow_line : Status → List ℕ
allow_line MethodNotAllowed = line (codes "Allow: GET, HEAD")
allow_line _ = []

-- the type of the body
abbrev pub type_of : Status → List ℕ
type_of Success = codes "text/plain; version=0.0.4; charset=utf-8"
type_of _ = codes "text/plain; charset=utf-8"

-- the head of a reply whose body has so many bytes
abbrev pub head_of : Status → (len : ℕ) → List ℕ
head_of status len =
    status_line status
    ++ allow_line status
    ++ line (codes "Content-Type: " ++ type_of status)
    ++ line (codes "Content-Length: " ++ decimal len)
    ++ line (codes "Connection: close")
    ++ line []

-- a head with the length of the body, and the body where it is sent
abbrev pub reply_of : Status → (body : List ℕ) → (with_body : Bool) → Reply
reply_of status body with_body = record {
  status = status;
  bytes = head_of status (length body) ++ (if with_body then body else
      []);
}

-- the reply of a refusal, whose body is its phrase and a line feed
abbrev pub refusal_reply : Status → (with_body : Bool) → Reply
refusal_reply status with_body = reply_of status (phrase_of status ++ codes "\n") with_body

-- what a source gave: a scrape, or why there is none
abbrev pub Outcome : Type 0
Outcome = Result Scraped NoScrape

-- the reply with the text of a scrape; where there is none, the service is unavailable
abbrev pub outcome_reply : Outcome → (with_body : Bool) → Reply
outcome_reply (Ok scrape) with_body = reply_of Success (shown_text scrape) with_body
outcome_reply (Err _) with_body = refusal_reply Unavailable with_body

-- The reply to what is asked for: a refusal, for which no source is asked, or else that of what the source gave.
abbrev pub Replies : (refusal : Option Status) → (with_body : Bool) → Option Outcome → Reply → Type 0
Replies (Some status) with_body None reply = reply ≡ refusal_reply status with_body
Replies (Some status) with_body (Some outcome) reply = ⊥
Replies None with_body None reply = ⊥
Replies None with_body (Some outcome) reply = reply ≡ outcome_reply outcome with_body

-- The reply to the bytes of a connection, of which no more come where they have ended, and to what the source gave, where it
-- was asked: none to no byte, and else the reply to what the bytes ask for.
abbrev pub IsReply : List ℕ → (ended : Bool) → Option Outcome → Option Reply → Type 0
IsReply bytes ended outcome None = (bytes ≡ []) × (ended ≡ true) × (outcome ≡ None)
IsReply bytes ended outcome (Some reply) =
    (0 < length bytes) × (wanted : Wanted) × Asks bytes ended wanted × Replies wanted.refusal wanted.with_body outcome reply

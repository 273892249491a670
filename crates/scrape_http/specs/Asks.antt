-- What the bytes of a connection ask for, by the grammar of a request's head (RFC 9112, sections 2.1, 3 and 5).
use Rattle.std.specs.Prelude.{◌≡◌, ℕ, ◌≤◌, Bool, true, ◌⊎◌, List, length, take, Option, Some, IsTrue}
use Rattle.httparse.specs.Grammar.{RequestHead, ReadsRequest, HasNoRequest, NeverHasRequest, MayBecomeRequest}
use Rattle.httparse.specs.Spans.{RequestExceeds}
use Rattle.scrape_http.specs.declared.status.Status.{Status}
use Rattle.scrape_http.specs.declared.status.Status.TheVariants.{BadRequest, TooLarge}
use Rattle.scrape_http.specs.declared.request.Wanted.{Wanted}
use Rattle.scrape_http.specs.Head.{wanted_of}

-- this head stands whole at the front of the first 8,192 bytes, and has at most 64 fields
pub record HeadStands (bytes : List ℕ) (head : RequestHead) : Type 0 where
  pub rest : List ℕ
  pub reads : ReadsRequest (take 8192 bytes) head rest
  pub few : length head.fields ≤ 64

-- no head does
abbrev pub NoHeadStands : List ℕ → Type 0
NoHeadStands bytes = (head : RequestHead) → ¬ (HeadStands bytes head)

-- there are 8,192 bytes or more, or a start line with more than 64 fields stands at their front
abbrev pub IsTooLarge : List ℕ → Type 0
IsTooLarge bytes = (8192 ≤ length bytes) ⊎ RequestExceeds 64 bytes

-- no more bytes come, or no head begins with these
abbrev pub CannotBecomeHead : List ℕ → (ended : Bool) → Type 0
CannotBecomeHead bytes ended = IsTrue ended ⊎ NeverHasRequest bytes

-- bytes that are no head may be refused by this status
abbrev pub MayBeRefusedBy : List ℕ → (ended : Bool) → Option Status → Type 0
MayBeRefusedBy bytes ended (Some TooLarge) = IsTooLarge bytes
MayBeRefusedBy bytes ended (Some BadRequest) = CannotBecomeHead bytes ended
MayBeRefusedBy bytes ended _ = ⊥

-- What the bytes ask for: what the head asks for that stands whole at their front; where none does, they are refused by a status
-- that may be, and the refusal is sent with its body.
abbrev pub Asks : List ℕ → (ended : Bool) → Wanted → Type 0
Asks bytes ended wanted =
    ((head : RequestHead) × HeadStands bytes head × (wanted ≡ wanted_of head))
    ⊎ (NoHeadStands bytes × MayBeRefusedBy bytes ended wanted.refusal × (wanted.with_body ≡ true))

-- no head stands whole at their front, and more bytes can make one
pub record IsOpen (bytes : List ℕ) : Type 0 where
  pub none : HasNoRequest bytes
  pub may : MayBecomeRequest bytes

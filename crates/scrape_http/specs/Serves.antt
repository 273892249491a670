-- What serving one request does to the ends of a connection and to the source: x' is what x is after the call.
use Rattle.std.specs.Prelude.{◌≡◌, ℕ, ◌-◌, ◌<◌, ◌≤◌, Bool, true, false, List, [], ◌++◌, length, take, Option, Some, None, Result}
use Rattle.std.specs.Prelude.{Ok, Err, IsOk}
use Rattle.std.specs.Io.KnownBytes.{Consumes, Appends, Keeps, IsAtEnd}
use Rattle.scrape_http.specs.declared.fault.WireFault.{WireFault}
use Rattle.scrape_http.specs.declared.fault.WireFault.TheVariants.{ReadFailed, WriteFailed, EndBeforeHead}
use Rattle.scrape_http.specs.declared.request.Wanted.{Wanted}
use Rattle.scrape_http.specs.declared.serve.Served.{Served}
use Rattle.scrape_http.specs.Asks.{Asks, IsOpen}
use Rattle.scrape_http.specs.Reply.{Reply, Outcome, IsReply}

-- the numbers of the refusals
abbrev pub number_of : WireFault → ℕ
number_of ReadFailed = 24
number_of (WriteFailed sent) = 25
number_of EndBeforeHead = 26

-- a read failed
abbrev pub is_read_failed : {A : Type 0} → Result A WireFault → Bool
is_read_failed (Ok _) = false
is_read_failed (Err ReadFailed) = true
is_read_failed (Err (WriteFailed sent)) = false
is_read_failed (Err EndBeforeHead) = false

-- a write failed
abbrev pub is_write_failed : {A : Type 0} → Result A WireFault → Bool
is_write_failed (Ok _) = false
is_write_failed (Err ReadFailed) = false
is_write_failed (Err (WriteFailed sent)) = true
is_write_failed (Err EndBeforeHead) = false

-- the bytes that a reader has left, or that a writer holds, where those are known
abbrev pub Known : Type 0
Known = Option (List ℕ)

-- what was read before the last read, if anything was, said nothing yet
abbrev pub WasOpenBefore : (bytes : List ℕ) → (latest : ℕ) → Type 0
WasOpenBefore bytes latest = latest < length bytes → IsOpen (take (length bytes - latest) bytes)

-- The bytes that a reader gave, at most 8,192, ask for this, and would, whatever came after them; no read was made once a whole
-- head stood there, or none could come.
pub record IsHeard (input input' : Known) (ended : Bool) (latest : ℕ) (wanted : Wanted) : Type 0 where
  pub bytes : List ℕ
  pub consumed : Consumes input input' bytes
  pub some : 0 < length bytes
  pub few : length bytes ≤ 8192
  pub at_end : ended ≡ true → IsAtEnd input'
  pub needed : WasOpenBefore bytes latest
  pub asks : (more : List ℕ) → (ended ≡ true → more ≡ []) → Asks (bytes ++ more) ended wanted

-- what reading a request came to
abbrev pub Hears : (input input' : Known) → (ended : Bool) → (latest : ℕ) → Result Wanted WireFault → Type 0
Hears input input' ended latest (Ok wanted) = IsHeard input input' ended latest wanted
Hears input input' ended latest (Err EndBeforeHead) = (ended ≡ true) × Consumes input input' [] × IsAtEnd input'
Hears input input' ended latest (Err ReadFailed) = Unit {0}
Hears input input' ended latest (Err (WriteFailed sent)) = ⊥

-- the source was asked and gave this outcome; or it was not asked, and is as it was
abbrev pub Gives : {S : Type 0} → (S → S → Outcome → Type 0) → S → S → Option Outcome → Type 0
Gives gave source source' None = source' ≡ source
Gives gave source source' (Some outcome) = gave source source' outcome

-- What the writer took: after Ok all bytes of the reply, and the result tells its status and how many they are; after
-- refusal 25 so many of its first bytes as the fault tells; and where there is no reply, nothing, and the result is refusal 26.
abbrev pub Sends : (output output' : Known) → Option Reply → Result Served WireFault → Type 0
Sends output output' (Some reply) (Ok served) =
    (served.status ≡ reply.status) × (served.sent ≡ length reply.bytes) × Appends output output' reply.bytes
Sends output output' (Some reply) (Err (WriteFailed sent)) =
    (sent ≤ length reply.bytes) × Appends output output' (take sent reply.bytes)
Sends output output' None (Err EndBeforeHead) = Keeps output output'
Sends output output' _ _ = ⊥

-- what was noted of the writer that a reply was sent to: that it failed exactly after refusal 25, and after Ok that all is
-- flushed
pub record IsWritten (noted_failed noted_flushed : Bool) (result : Result Served WireFault) : Type 0 where
  pub failed : noted_failed ≡ is_write_failed result
  pub flushed : IsOk result → noted_flushed ≡ true

-- What is written is the reply to the bytes that were read, at most 8,192, and to what the source gave. It would be the same,
-- whatever came after them, and no read was made once a whole head stood there, or none could come.
--   gave                what one scrape says of the source before it, of the source after it, and of what it gave
--   source, source'     the source, before the call and after it
--   input, input'       the bytes that the reader has left, before the call and after it
--   output, output'     the bytes that the writer holds, before the call and after it
--   ended               whether some read has found the end of the input
--   latest              how many bytes the reader's last read gave, where it failed none
--   result              the call's result
pub record IsServed
    {S : Type 0} (gave : S → S → Outcome → Type 0) (source source' : S)
    (input input' output output' : Known) (ended : Bool) (latest : ℕ) (result : Result Served WireFault) : Type 0 where
  pub bytes : List ℕ
  pub consumed : Consumes input input' bytes
  pub few : length bytes ≤ 8192
  pub at_end : ended ≡ true → IsAtEnd input'
  pub needed : WasOpenBefore bytes latest
  pub outcome : Option Outcome
  pub gives : Gives gave source source' outcome
  pub reply : Option Reply
  pub is_reply : (more : List ℕ) → (ended ≡ true → more ≡ []) → IsReply (bytes ++ more) ended outcome reply
  pub sends : Sends output output' reply result

-- where a read failed, nothing is written, and the source is not asked
pub record IsUnserved {S : Type 0} (source source' : S) (output output' : Known) : Type 0 where
  pub writer : Keeps output output'
  pub same : source' ≡ source

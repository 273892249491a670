-- Connections that were replied to, and what became of the source.
use Rattle.std.proofs.Common.{◌≡◌, ℕ, suc, Bool, true, false, ◌⊎◌, inl, inr, List, [], ◌++◌, Option, Some, None}
use Rattle.std.proofs.Common.{Ok, Err, refl, sym, subst, ap}
use Rattle.std.specs.Prelude.{◌==◌, nat_lt, ◌||◌, ◌&&◌, not, codes, bytes_eq, if◌then◌else◌}
use Rattle.scrape_http.specs.Asks.{Asks, MayBeRefusedBy}
use Rattle.scrape_http.specs.Head.{is_get_or_head, refusal_by, hosts}
use Rattle.scrape_http.specs.Head.{path_of}
use Rattle.scrape_http.specs.Reply.{Outcome, Reply, IsReply, Replies, outcome_reply}
use Rattle.scrape_http.specs.Serves.{Known, IsServed, IsUnserved, Sends, is_read_failed, is_write_failed, Gives}
use Rattle.scrape_http.specs.declared.fault.WireFault.{WireFault}
use Rattle.scrape_http.specs.declared.fault.WireFault.TheVariants.{ReadFailed, WriteFailed, EndBeforeHead}
use Rattle.scrape_http.specs.declared.serve.Served.{Served}
use Rattle.scrape_http.specs.declared.status.Status.{Status}
use Rattle.scrape_http.specs.declared.status.Status.TheVariants.{Success, BadRequest, NotFound, MethodNotAllowed, TooLarge}
use Rattle.scrape_http.specs.declared.status.Status.TheVariants.{Unavailable}
use Rattle.dirgwako.specs.Answering.{AnswersBy, AreAnswered, GaveScrape, GaveNone}
use Rattle.scrape_server.specs.Again.{AsksAgain}

-- a status by which a request is refused
abbrev IsRefusal : Option Status → Type 0
IsRefusal (Some Success) = ⊥
IsRefusal (Some Unavailable) = ⊥
IsRefusal _ = Unit {0}

by_three : (host path method : Bool)
    → IsRefusal (if host then Some BadRequest else
    (if path then Some NotFound else (if method then Some MethodNotAllowed else None)))
by_three true path method = tt
by_three false true method = tt
by_three false false true = tt
by_three false false false = tt

head_refusal : (hosts minor : ℕ) (target method : List ℕ) → IsRefusal (refusal_by hosts minor target method)
head_refusal hosts minor target method = by_three (nat_lt 1 hosts || (minor == 1 && hosts == 0))
    (not (bytes_eq (path_of target) (codes "/metrics"))) (not (is_get_or_head method))

refusal : (bytes : List ℕ) (ended : Bool) (status : Option Status) → MayBeRefusedBy bytes ended status → IsRefusal status
refusal bytes ended None is = tt
refusal bytes ended (Some Success) is = absurd is
refusal bytes ended (Some BadRequest) is = tt
refusal bytes ended (Some NotFound) is = tt
refusal bytes ended (Some MethodNotAllowed) is = tt
refusal bytes ended (Some TooLarge) is = tt
refusal bytes ended (Some Unavailable) is = absurd is

asks_refusal : (bytes : List ℕ) (ended : Bool) (wanted : _) → Asks bytes ended wanted → IsRefusal wanted.refusal
asks_refusal bytes ended wanted asks = elim asks [
  | inl whole ↦ rw whole.2 (head_refusal (hosts whole.0) whole.0.minor whole.0.target whole.0.method)
  | inr none ↦ refusal bytes ended wanted.refusal none.1
]

module _ {P S : Type 0} (source : P → S) (gave : S → S → Outcome → Type 0) (again : ℕ) where
  abbrev pub Again : P → P → Outcome → Type 0
  Again before after answer = AsksAgain gave again (source before) (source after) answer

  -- a reply of this status
  abbrev By : P → P → Status → Type 0
  By before after status = AnswersBy gave again (source before) (source after) status

  by_refusal : (before after : P) (status : Status) → IsRefusal (Some status) → after ≡ before → By before after status
  by_refusal before after Success is same = absurd is
  by_refusal before after BadRequest is same = ap source same
  by_refusal before after NotFound is same = ap source same
  by_refusal before after MethodNotAllowed is same = ap source same
  by_refusal before after TooLarge is same = ap source same
  by_refusal before after Unavailable is same = absurd is

  by_outcome : (before after : P) (outcome : Outcome) (sent : Bool) → Again before after outcome
      → By before after (outcome_reply outcome sent).status
  by_outcome before after (Ok scrape) sent given = (scrape, given)
  by_outcome before after (Err why) sent given = (why, given)

  by_wanted : (before after : P) (status : Option Status) (sent : Bool) (outcome : Option Outcome) (reply : Reply)
      → IsRefusal status → Replies status sent outcome reply → Gives Again before after outcome → By before after reply.status
  by_wanted before after (Some status) sent None reply fits is given = subst (λ (r : Reply). By before after r.status) (sym is)
      (by_refusal before after status fits given)
  by_wanted before after (Some status) sent (Some outcome) reply fits is given = absurd is
  by_wanted before after None sent None reply fits is given = absurd is
  by_wanted before after None sent (Some outcome) reply fits is given = subst (λ (r : Reply). By before after r.status) (sym is)
      (by_outcome before after outcome sent given)

  by_reply : (before after : P) (bytes : List ℕ) (ended : Bool) (outcome : Option Outcome) (reply : Option Reply)
      (output output_then : Known) (served : Served)
      → IsReply bytes ended outcome reply → Gives Again before after outcome → Sends output output_then reply (Ok served)
      → By before after served.status
  by_reply before after bytes ended outcome None output output_then served is given sends = absurd sends
  by_reply before after bytes ended outcome (Some reply) output output_then served is given sends =
      subst (λ (s : Status). By before after s) (sym sends.0)
      (by_wanted before after is.1.refusal is.1.with_body outcome reply (asks_refusal bytes ended is.1 is.2) is.3 given)

  -- a reply was sent
  pub replied : (before after : P) (input input_then output output_then : Known) (ended : Bool) (latest : ℕ) (served : Served)
      → IsServed Again before after input input_then output output_then ended latest (Ok served)
      → AnswersBy gave again (source before) (source after) served.status
  replied before after input input_then output output_then ended latest served is =
      by_reply before after (is.bytes ++ []) ended is.outcome is.reply output output_then served (is.is_reply [] (λ _. refl))
      is.gives is.sends

  by_asking : (before after : P) (outcome : Option Outcome) → Gives Again before after outcome
      → (source after ≡ source before)
      ⊎ (GaveScrape gave again (source before) (source after) ⊎ GaveNone gave again (source before) (source after))
  by_asking before after None same = inl (ap source same)
  by_asking before after (Some (Ok scrape)) given = inr (inl (scrape, given))
  by_asking before after (Some (Err why)) given = inr (inr (why, given))

  -- a fault
  pub not_served : (before after : P) (input input_then output output_then : Known) (ended failed : Bool) (latest : ℕ)
      (fault : WireFault) → failed ≡ is_read_failed {A = Served} (Err fault)
      → (failed ≡ false → IsServed Again before after input input_then output output_then ended latest (Err fault))
      → (failed ≡ true → IsUnserved before after output output_then)
      → (source after ≡ source before)
      ⊎ (GaveScrape gave again (source before) (source after) ⊎ GaveNone gave again (source before) (source after))
  not_served before after input input_then output output_then ended failed latest ReadFailed is served none =
      inl (ap source (none is).same)
  not_served before after input input_then output output_then ended failed latest (WriteFailed sent) is served none =
      by_asking before after (served is).outcome (served is).gives
  not_served before after input input_then output output_then ended failed latest EndBeforeHead is served none =
      by_asking before after (served is).outcome (served is).gives

no_bytes : (bytes : List ℕ) (ended : Bool) (outcome : Option Outcome) (reply : Option Reply) (output output_then : Known)
    → IsReply bytes ended outcome reply → Sends output output_then reply (Err EndBeforeHead) → ended ≡ true
no_bytes bytes ended outcome None output output_then is sends = is.1
no_bytes bytes ended outcome (Some reply) output output_then is sends = absurd sends

-- why there was no reply
pub no_reply : {P : Type 0} (gave : P → P → Outcome → Type 0) (before after : P) (input input_then output output_then : Known)
    (ended read_failed write_failed : Bool) (latest : ℕ) (fault : WireFault)
    → read_failed ≡ is_read_failed {A = Served} (Err fault) → write_failed ≡ is_write_failed {A = Served} (Err fault)
    → (read_failed ≡ false → IsServed gave before after input input_then output output_then ended latest (Err fault))
    → (read_failed ≡ true) ⊎ ((write_failed ≡ true) ⊎ (ended ≡ true))
no_reply gave before after input input_then output output_then ended read_failed write_failed latest ReadFailed read write
    served = inl read
no_reply gave before after input input_then output output_then ended read_failed write_failed latest (WriteFailed sent) read write
    served = inr (inl write)
no_reply gave before after input input_then output output_then ended read_failed write_failed latest EndBeforeHead read write
    served =
    let is = served read in
    inr (inr (no_bytes (is.bytes ++ []) ended is.outcome is.reply output output_then (is.is_reply [] (λ _. refl)) is.sends))

-- one connection more, which was replied to or not
pub one_more : {S : Type 0} (answered : S → S → Option Served → Type 0) (met replies : ℕ) (before mid after : S)
    (reply : Option Served)
    → AreAnswered answered met replies before mid → answered mid after reply → (met : ℕ) × (replies : ℕ)
    × AreAnswered answered met replies before after
one_more answered met replies before mid after (Some served) are is = (
  suc met,
  suc replies,
  (mid, inl (served, replies, refl, are, is)),
)
one_more answered met replies before mid after None are is = (suc met, replies, (mid, inr (are, is)))

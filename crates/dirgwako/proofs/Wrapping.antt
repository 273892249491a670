-- Sources that wrap others: what is said of the one is said of the other.
use Rattle.std.proofs.Common.{ℕ, zero, suc, ◌<◌, inl, inr, Option, Some, None, Result, Ok, Err, IfOk, OnErr, ap}
use Rattle.expo_text.specs.Scraped.{Scraped}
use Rattle.scrape_http.specs.declared.serve.Served.{Served}
use Rattle.scrape_http.specs.declared.source.NoScrape.{NoScrape}
use Rattle.scrape_http.specs.declared.status.Status.{Status}
use Rattle.scrape_http.specs.declared.status.Status.TheVariants.{Success, BadRequest, NotFound, MethodNotAllowed, TooLarge}
use Rattle.scrape_http.specs.declared.status.Status.TheVariants.{Unavailable}
use Rattle.scrape_server.proofs.Askings.{asks_within}
use Rattle.dirgwako.specs.Answering.{Answers, AnswersBy, AreAnswered, IsBroken}

pub if_ok_from : {X E : Type 0} {P Q : X → Type 0} (r : Result X E) → ((x : X) → Q x → P x) → IfOk r Q → IfOk r P
if_ok_from (Ok x) f q = f x q
if_ok_from (Err e) f q = tt

pub on_err_from : {X E P Q : Type 0} (r : Result X E) → (P → Q) → OnErr r P → OnErr r Q
on_err_from (Ok x) f p = tt
on_err_from (Err e) f p = f p

module _ {S T : Type 0} (f : S → T) where
  module _ (P : S → S → Option Served → Type 0) (Q : T → T → Option Served → Type 0)
      (each : (a b : S) (r : Option Served) → P a b r → Q (f a) (f b) r) where
    -- so many connections were met there, too
    pub met_there : (connections replies : ℕ) (a b : S) → AreAnswered P connections replies a b
        → AreAnswered Q connections replies (f a) (f b)
    met_there zero replies a b are = (are.0, ap f are.1)
    met_there (suc more) replies a b (mid, are) = (
      f mid,
      elim are [
        | inl got ↦ inl (got.0, got.1, got.2, met_there more got.1 a mid got.3, each mid b (Some got.0) got.4)
        | inr lost ↦ inr (met_there more replies a mid lost.0, each mid b None lost.1)
      ],
    )

    -- and the next one was refused there, too
    broken_there : (failed : S → S → Type 0) (fails : T → T → Type 0) → ((a b : S) → failed a b → fails (f a) (f b))
        → (connections : ℕ) (a b : S) → IsBroken P failed connections a b → IsBroken Q fails connections (f a) (f b)
    broken_there failed fails also connections a b (replies, mid, are, last) =
        (replies, f mid, met_there connections replies a mid are, also mid b last)

    pub some_broken : (failed : S → S → Type 0) (fails : T → T → Type 0) → ((a b : S) → failed a b → fails (f a) (f b))
        → (connections : ℕ) (a b : S) → ((met : ℕ) × (met < connections) × IsBroken P failed met a b)
        → (met : ℕ) × (met < connections) × IsBroken Q fails met (f a) (f b)
    some_broken failed fails also connections a b (met, less, is) = (met, less, broken_there failed fails also met a b is)

  module _ (gave : T → T → Result Scraped NoScrape → Type 0) (again : ℕ) (a b : S) where
    abbrev Within : S → S → Result Scraped NoScrape → Type 0
    Within x y r = gave (f x) (f y) r

    by_status : (status : Status) → AnswersBy Within again a b status → AnswersBy gave again (f a) (f b) status
    by_status Success is = (is.0, asks_within gave f again a b (Ok is.0) is.1)
    by_status Unavailable is = (is.0, asks_within gave f again a b (Err is.0) is.1)
    by_status BadRequest is = ap f is
    by_status NotFound is = ap f is
    by_status MethodNotAllowed is = ap f is
    by_status TooLarge is = ap f is

    -- one connection did to what is wrapped what it did to what wraps it
    pub answers_there : (r : Option Served) → Answers Within again a b r → Answers gave again (f a) (f b) r
    answers_there (Some served) is = by_status served.status is
    answers_there None is = elim is [
      | inl same ↦ inl (ap f same)
      | inr asked ↦ inr (elim asked [
        | inl got ↦ inl (got.0, asks_within gave f again a b (Ok got.0) got.1)
        | inr lost ↦ inr (lost.0, asks_within gave f again a b (Err lost.0) lost.1)
      ])
    ]

-- What serving one connection does to the source of its scrape. What the socket gave and took no clause can name.
use Rattle.std.specs.Prelude.{Option}
use Rattle.scrape_http.specs.Reply.{Outcome}
use Rattle.scrape_http.specs.Serves.{Gives}

-- the source was asked for one scrape, or for none, and then it is as it was
abbrev pub IsAskedOnce : {S : Type 0} (gave : S → S → Outcome → Type 0) (source source' : S) → Type 0
IsAskedOnce gave source source' = (outcome : Option Outcome) × Gives gave source source' outcome

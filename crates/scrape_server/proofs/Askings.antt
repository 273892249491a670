-- Scrapes that are asked for again.
use Rattle.std.proofs.Common.{◌≡◌, ℕ, zero, suc, Result, Err, inl, inr, subst, sym}
use Rattle.expo_text.specs.Scraped.{Scraped}
use Rattle.scrape_http.specs.declared.source.NoScrape.{NoScrape}
use Rattle.scrape_http.specs.declared.source.NoScrape.TheVariants.{Contended}
use Rattle.scrape_server.specs.Again.{AsksAgain, IsDone}

module _ {S : Type 0} (gave : S → S → Result Scraped NoScrape → Type 0) where
  -- the first answer counts
  pub at_once : (more : ℕ) (before after : S) (answer : Result Scraped NoScrape) → IsDone answer → gave before after answer
      → AsksAgain gave more before after answer
  at_once zero before after answer done given = given
  at_once (suc more) before after answer done given = inl (done, given)

  -- a scan was given up, and it was asked again
  pub again : (all more : ℕ) → all ≡ suc more → (before mid after : S) (answer : Result Scraped NoScrape)
      → gave before mid (Err Contended) → AsksAgain gave more mid after answer → AsksAgain gave all before after answer
  again all more one before mid after answer given rest = subst (λ (n : ℕ). AsksAgain gave n before after answer) (sym one)
      (inr (mid, given, rest))

  -- it is asked no more
  pub at_last : (more : ℕ) → more ≡ zero → (before after : S) (answer : Result Scraped NoScrape) → gave before after answer
      → AsksAgain gave more before after answer
  at_last more none before after answer given = subst (λ (n : ℕ). AsksAgain gave n before after answer) (sym none) given

  -- the answer is that of the last asking
  pub at_end : (more : ℕ) (before after : S) (answer : Result Scraped NoScrape) → AsksAgain gave more before after answer
      → (mid : S) × gave mid after answer
  at_end zero before after answer given = (before, given)
  at_end (suc more) before after answer asked =
      elim asked [ inl done ↦ (before, done.1) | inr later ↦ at_end more later.0 after answer later.2 ]

-- what is asked is a part of the source
pub asks_within : {S T : Type 0} (gave : T → T → Result Scraped NoScrape → Type 0) (part : S → T) (more : ℕ) (before after : S)
    (answer : Result Scraped NoScrape)
    → AsksAgain (λ x y r. gave (part x) (part y) r) more before after answer
    → AsksAgain gave more (part before) (part after) answer
asks_within gave part zero before after answer given = given
asks_within gave part (suc more) before after answer asked =
    elim asked [
      | inl done ↦ inl done
      | inr later ↦ inr (
        part later.0,
        later.1,
        asks_within gave part more later.0 after answer later.2,
      )
    ]

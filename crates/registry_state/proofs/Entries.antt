-- The changes and the scrapes of a journal that grows, or from which the oldest scrapes are dropped.
use Rattle.std.proofs.Common.{◌≡◌, ℕ, zero, suc, ◌-◌, ◌≤◌, List, [], ◌∷◌, ◌++◌, length, drop, refl, ap, ◌∙◌, arith}
use Rattle.std.specs.Prelude.{Some}
use Rattle.std.proofs.lemmas.List.{length-drop}
use Rattle.std.proofs.lemmas.Option.{none-some}
use Rattle.register_rule.specs.declared.view.Answer.{Answer}
use Rattle.register_rule.specs.Members.{newest}
use Rattle.registry_state.specs.Journal.{RegistryChange, Entry, Changed, Scraped, changes, scrapes, without_oldest, without}
use Rattle.registry_state.specs.Journal.{within}

-- one change more
pub changes_change : (journal : List Entry) (change : RegistryChange)
    → changes (journal ++ Changed change ∷ []) ≡ changes journal ++ change ∷ []
changes_change [] change = refl
changes_change (Changed first ∷ journal) change = ap (λ rest. first ∷ rest) (changes_change journal change)
changes_change (Scraped first ∷ journal) change = changes_change journal change

pub scrapes_change : (journal : List Entry) (change : RegistryChange) → scrapes (journal ++ Changed change ∷ []) ≡ scrapes journal
scrapes_change [] change = refl
scrapes_change (Changed first ∷ journal) change = scrapes_change journal change
scrapes_change (Scraped first ∷ journal) change = ap (λ rest. first ∷ rest) (scrapes_change journal change)

-- one scrape more
pub changes_scrape : (journal : List Entry) (answer : Answer) → changes (journal ++ Scraped answer ∷ []) ≡ changes journal
changes_scrape [] answer = refl
changes_scrape (Changed first ∷ journal) answer = ap (λ rest. first ∷ rest) (changes_scrape journal answer)
changes_scrape (Scraped first ∷ journal) answer = changes_scrape journal answer

pub scrapes_scrape : (journal : List Entry) (answer : Answer)
    → scrapes (journal ++ Scraped answer ∷ []) ≡ scrapes journal ++ answer ∷ []
scrapes_scrape [] answer = refl
scrapes_scrape (Changed first ∷ journal) answer = scrapes_scrape journal answer
scrapes_scrape (Scraped first ∷ journal) answer = ap (λ rest. first ∷ rest) (scrapes_scrape journal answer)

-- the oldest scrapes dropped
changes_less : (journal : List Entry) → changes (without_oldest journal) ≡ changes journal
changes_less [] = refl
changes_less (Changed change ∷ journal) = ap (λ rest. change ∷ rest) (changes_less journal)
changes_less (Scraped first ∷ journal) = refl

pub scrapes_less : (journal : List Entry) → scrapes (without_oldest journal) ≡ drop 1 (scrapes journal)
scrapes_less [] = refl
scrapes_less (Changed change ∷ journal) = scrapes_less journal
scrapes_less (Scraped first ∷ journal) = refl

pub changes_without : (k : ℕ) (journal : List Entry) → changes (without k journal) ≡ changes journal
changes_without zero journal = refl
changes_without (suc k) journal = changes_without k (without_oldest journal) ∙ changes_less journal

drop_one : (k : ℕ) (answers : List Answer) → drop k (drop 1 answers) ≡ drop (suc k) answers
drop_one zero [] = refl
drop_one (suc k) [] = refl
drop_one k (a ∷ answers) = refl

pub scrapes_without : (k : ℕ) (journal : List Entry) → scrapes (without k journal) ≡ drop k (scrapes journal)
scrapes_without zero journal = refl
scrapes_without (suc k) journal =
    scrapes_without k (without_oldest journal) ∙ ap (drop k) (scrapes_less journal) ∙ drop_one k (scrapes journal)

pub changes_within : (window : ℕ) (journal : List Entry) → changes (within window journal) ≡ changes journal
changes_within window journal = changes_without (length (scrapes journal) - window) journal

pub scrapes_within : (window : ℕ) (journal : List Entry)
    → scrapes (within window journal) ≡ drop (length (scrapes journal) - window) (scrapes journal)
scrapes_within window journal = scrapes_without (length (scrapes journal) - window) journal

-- they are at most the window
pub few_within : (window : ℕ) (journal : List Entry) → length (scrapes (within window journal)) ≤ window
few_within window journal =
    let e : length (scrapes (within window journal)) ≡ length (scrapes journal) - (length (scrapes journal) - window) =
    ap length (scrapes_within window journal) ∙ length-drop (length (scrapes journal) - window) (scrapes journal) in
    omega (arith, e)

-- the newest stays, unless all are dropped
pub newest_drop : (k : ℕ) (answers : List Answer) → k ≤ length answers - 1 → newest (drop k answers) ≡ newest answers
newest_drop zero answers le = refl
newest_drop (suc k) [] le = absurd (omega (arith, le))
newest_drop (suc k) (a ∷ []) le = absurd (omega (arith, le))
newest_drop (suc k) (a ∷ b ∷ rest) le = newest_drop k (b ∷ rest) (omega (arith, le))

pub newest_within : (window : ℕ) (journal : List Entry) → 1 ≤ window → newest (scrapes (within window journal)) ≡ newest
    (scrapes journal)
newest_within window journal some =
    ap newest (scrapes_within window journal)
    ∙ newest_drop (length (scrapes journal) - window) (scrapes journal) (omega (arith, some))

-- the newest of some that are the last of others is the newest of all
newest_front : (a b : Answer) (answers : List Answer) → newest answers ≡ Some b → newest (a ∷ answers) ≡ Some b
newest_front a b [] is = absurd (none-some b is)
newest_front a b (second ∷ answers) is = is

pub newest_behind : (older answers : List Answer) (b : Answer) → newest answers ≡ Some b → newest (older ++ answers) ≡ Some b
newest_behind [] answers b is = is
newest_behind (a ∷ older) answers b is = newest_front a b (older ++ answers) (newest_behind older answers b is)

newest_last : (answers : List Answer) (a : Answer) → newest (answers ++ a ∷ []) ≡ Some a
newest_last answers a = newest_behind answers (a ∷ []) a refl

-- a scrape that was just made is the newest
pub newest_scrape : (window : ℕ) (journal : List Entry) (answer : Answer) → 1 ≤ window
    → newest (scrapes (within window (journal ++ Scraped answer ∷ []))) ≡ Some answer
newest_scrape window journal answer some =
    newest_within window (journal ++ Scraped answer ∷ []) some
    ∙ ap newest (scrapes_scrape journal answer)
    ∙ newest_last (scrapes journal) answer

-- a change leaves the newest
pub newest_change : (journal : List Entry) (change : RegistryChange) → newest (scrapes (journal ++ Changed change ∷ [])) ≡ newest
    (scrapes journal)
newest_change journal change = ap newest (scrapes_change journal change)

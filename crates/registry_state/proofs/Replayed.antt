-- The replay of a journal: by its parts, one entry further, and without its oldest scrapes.
use Rattle.std.proofs.Common.{◌≡◌, ℕ, zero, suc, ◌-◌, ◌<◌, ◌≤◌, List, [], ◌∷◌, ◌++◌, length, refl, ap, sym, subst, ◌∙◌, arith}
use Rattle.std.specs.Prelude.{⊤, Option, Some, None}
use Rattle.std.proofs.lemmas.List.{length-drop}
use Rattle.std.proofs.lemmas.Option.{none-some}
use Rattle.register_rule.specs.declared.view.Answer.{Answer}
use Rattle.register_rule.specs.Members.{newest}
use Rattle.registry_state.specs.Journal.{RegistryChange, Entry, Changed, Scraped, changes, scrapes, without_oldest, without}
use Rattle.registry_state.specs.Journal.{within}
use Rattle.registry_state.specs.Replay.{Family, State, nothing, IsAcceptedChange, IsNext, after, Leads, Replays}
use Rattle.registry_state.specs.Parts.{families_after, AreAccepted}
use Rattle.registry_state.proofs.Entries.{scrapes_less}

module _ (n c h g : ℕ) where
  -- each scrape is accepted after the one before it
  abbrev pub AreNext : Option Answer → List Answer → Type 0
  AreNext last [] = ⊤
  AreNext last (answer ∷ rest) = IsNext n c h g last answer × AreNext (Some answer) rest

  -- the changes are accepted one after the other, and so are the scrapes; and the state has what the changes made, and the last
  -- scrape
  pub record ReplaysByParts (journal : List Entry) (state : State) : Type 0 where
    pub accepted : AreAccepted n c h g [] (changes journal)
    pub scraped : AreNext None (scrapes journal)
    pub families : state.families ≡ families_after [] (changes journal)
    pub last : state.last ≡ newest (scrapes journal)

-- the last of these answers, or else the one before them
abbrev last_of : Option Answer → List Answer → Option Answer
last_of last [] = last
last_of last (answer ∷ rest) = last_of (Some answer) rest

last_some : (a : Answer) (answers : List Answer) → last_of (Some a) answers ≡ newest (a ∷ answers)
last_some a [] = refl
last_some a (b ∷ answers) = last_some b answers

last_newest : (answers : List Answer) → last_of None answers ≡ newest answers
last_newest [] = refl
last_newest (a ∷ answers) = last_some a answers

-- what lies between two states, by its parts
record Parts (n c h g : ℕ) (from : State) (entries : List Entry) (to : State) : Type 0 where
  accepted : AreAccepted n c h g from.families (changes entries)
  scraped : AreNext n c h g from.last (scrapes entries)
  families : to.families ≡ families_after from.families (changes entries)
  last : to.last ≡ last_of from.last (scrapes entries)

module _ (n c h g : ℕ) where
  leads_by_parts : (from : State) (entries : List Entry) (to : State) → Parts n c h g from entries to
      → Leads n c h g from entries to
  leads_by_parts from [] to parts =
      ap (λ (families : List Family). record { families = families; last = from.last }) (sym parts.families)
      ∙ ap (λ (last : Option Answer). record { families = to.families; last = last }) (sym parts.last)
  leads_by_parts from (Changed change ∷ entries) to parts = (
    parts.accepted.0,
    leads_by_parts (record { families = after from.families change; last = from.last }) entries to
        (record { accepted = parts.accepted.1; scraped = parts.scraped; families = parts.families; last = parts.last }),
  )
  leads_by_parts from (Scraped answer ∷ entries) to parts = (
    parts.scraped.0,
    leads_by_parts (record { families = from.families; last = Some answer }) entries to
        (record { accepted = parts.accepted; scraped = parts.scraped.1; families = parts.families; last = parts.last }),
  )

  parts_of_leads : (from : State) (entries : List Entry) (to : State) → Leads n c h g from entries to
      → Parts n c h g from entries to
  parts_of_leads from [] to leads = record {
    accepted = tt;
    scraped = tt;
    families = ap (λ (s : State). s.families) (sym leads);
    last = ap (λ (s : State). s.last) (sym leads);
  }
  parts_of_leads from (Changed change ∷ entries) to leads =
      let rest = parts_of_leads (record { families = after from.families change; last = from.last }) entries to leads.1 in
      record { accepted = (leads.0, rest.accepted); scraped = rest.scraped; families = rest.families; last = rest.last }
  parts_of_leads from (Scraped answer ∷ entries) to leads =
      let rest = parts_of_leads (record { families = from.families; last = Some answer }) entries to leads.1 in
      record { accepted = rest.accepted; scraped = (leads.0, rest.scraped); families = rest.families; last = rest.last }

  -- a journal replays to a state where its parts do
  pub replays_by_parts : (journal : List Entry) (state : State) → ReplaysByParts n c h g journal state
      → Replays n c h g journal state
  replays_by_parts journal state parts = leads_by_parts nothing journal state (record {
    accepted = parts.accepted;
    scraped = parts.scraped;
    families = parts.families;
    last = parts.last ∙ sym (last_newest (scrapes journal));
  })

  -- and only there
  pub parts_of_replay : (journal : List Entry) (state : State) → Replays n c h g journal state
      → ReplaysByParts n c h g journal state
  parts_of_replay journal state replays =
      let parts = parts_of_leads nothing journal state replays in
      record {
        accepted = parts.accepted;
        scraped = parts.scraped;
        families = parts.families;
        last = parts.last ∙ last_newest (scrapes journal);
      }

  leads_more : (from : State) (entries : List Entry) (middle : State) (more : List Entry) (to : State)
      → Leads n c h g from entries middle → Leads n c h g middle more to → Leads n c h g from (entries ++ more) to
  leads_more from [] middle more to leads rest = subst (λ (s : State). Leads n c h g s more to) (sym leads) rest
  leads_more from (Changed change ∷ entries) middle more to leads rest = (
    leads.0,
    leads_more (record { families = after from.families change; last = from.last }) entries middle more to leads.1
        rest,
  )
  leads_more from (Scraped answer ∷ entries) middle more to leads rest =
      (leads.0, leads_more (record { families = from.families; last = Some answer }) entries middle more to leads.1 rest)

  -- one change further
  pub replays_change : (journal : List Entry) (state : State) (change : RegistryChange) → Replays n c h g journal state
      → IsAcceptedChange n c h g state.families change
      → Replays n c h g (journal ++ Changed change ∷ []) (record { families = after state.families change; last = state.last })
  replays_change journal state change replays accepted =
      leads_more nothing journal state (Changed change ∷ [])
      (record { families = after state.families change; last = state.last }) replays (accepted, refl)

  -- one scrape further
  pub replays_scrape : (journal : List Entry) (state : State) (answer : Answer) → Replays n c h g journal state
      → IsNext n c h g state.last answer
      → Replays n c h g (journal ++ Scraped answer ∷ []) (record { families = state.families; last = Some answer })
  replays_scrape journal state answer replays next =
      leads_more nothing journal state (Scraped answer ∷ []) (record { families = state.families; last = Some answer }) replays
      (next, refl)

  -- where another scrape follows, the first one may be left out
  leads_behind : (families : List Family) (first : Answer) (entries : List Entry) (to : State) → 0 < length (scrapes entries)
      → Leads n c h g (record { families = families; last = Some first }) entries to
      → Leads n c h g (record { families = families; last = None }) entries to
  leads_behind families first [] to some leads = absurd (omega (arith, some))
  leads_behind families first (Changed change ∷ entries) to some leads =
      (leads.0, leads_behind (after families change) first entries to some leads.1)
  leads_behind families first (Scraped answer ∷ entries) to some leads =
      (record { whole = leads.0.whole; rises = λ before is. absurd (none-some before is) }, leads.1)

  leads_less : (families : List Family) (entries : List Entry) (to : State) → 1 < length (scrapes entries)
      → Leads n c h g (record { families = families; last = None }) entries to
      → Leads n c h g (record { families = families; last = None }) (without_oldest entries) to
  leads_less families [] to two leads = absurd (omega (arith, two))
  leads_less families (Changed change ∷ entries) to two leads =
      (leads.0, leads_less (after families change) entries to two leads.1)
  leads_less families (Scraped answer ∷ entries) to two leads = leads_behind families answer entries to (omega (arith, two))
      leads.1

  -- the oldest scrapes may be left out, as long as one stays where there was one
  pub replays_without : (k : ℕ) (journal : List Entry) (state : State) → k ≤ length (scrapes journal) - 1
      → Replays n c h g journal state → Replays n c h g (without k journal) state
  replays_without zero journal state le replays = replays
  replays_without (suc k) journal state le replays =
      let e : length (scrapes (without_oldest journal)) ≡ length (scrapes journal) - 1 =
      ap length (scrapes_less journal) ∙ length-drop 1 (scrapes journal) in
      replays_without k (without_oldest journal) state (omega (arith, e, le))
      (leads_less [] journal state (omega (arith, le)) replays)

  pub replays_within : (window : ℕ) (journal : List Entry) (state : State) → 1 ≤ window
      → Replays n c h g journal state → Replays n c h g (within window journal) state
  replays_within window journal state some replays =
      replays_without (length (scrapes journal) - window) journal state (omega (arith, some)) replays

-- What a registry keeps, where it scrapes or gets another window, and what contracts see of it.
use Rattle.std.proofs.Common.{◌≡◌, ℕ, ◌≤◌, List, [], ◌∷◌, ◌++◌, refl, ap, sym, subst, ◌∙◌}
use Rattle.std.specs.Prelude.{Option, Some, None}
use Rattle.metric_desc.specs.declared.kind.Kind.{Kind}
use Rattle.register_rule.specs.declared.view.Answer.{Answer}
use Rattle.snapshot_scan.specs.Moments.{AreMoments}
use Rattle.snapshot_scan.specs.Sources.{Records}
use Rattle.register_rule.specs.Members.{newest}
use Rattle.registry_state.specs.Journal.{Entry, Scraped, scrapes, within}
use Rattle.registry_state.specs.Replay.{Family, State}
use Rattle.snapshot_scan.specs.declared.contended.Contended.{Contended}
use Rattle.registry_state.specs.Faults.{IsWindow, Leaves}
use Rattle.registry_state.specs.declared.fault.ScrapeFault.{ScrapeFault}
use Rattle.registry_state.specs.declared.fault.ScrapeFault.TheVariants as Scrape
use Rattle.registry_state.specs.Kept.{RegistryView, IsKept}
use Rattle.registry_state.specs.Calls.{KeepsScrape}
use Rattle.registry_state.specs.Held.{IsHeld}
use Rattle.registry_state.proofs.Entries.{newest_within, newest_scrape}
use Rattle.registry_state.proofs.Keeping.{view_of, keeps_at_window, kept_scrape}

-- the newest scrape that is kept after a scrape
pub newest_after : (window : ℕ) (journal journal' : List Entry) (answer : Answer) → 1 ≤ window
    → journal' ≡ within window (journal ++ Scraped answer ∷ [])
    → newest (scrapes journal') ≡ Some answer
newest_after window journal journal' answer some same =
    ap (λ (l : List Entry). newest (scrapes l)) same ∙ newest_scrape window journal answer some

pub is_newest : (window : ℕ) (journal journal' : List Entry) (answer other : Answer) → 1 ≤ window
    → journal' ≡ within window (journal ++ Scraped answer ∷ [])
    → newest (scrapes journal') ≡ Some other → answer ≡ other
is_newest window journal journal' answer other some same is =
    let e : Some answer ≡ Some other = sym (newest_after window journal journal' answer some same) ∙ is in
    cc

pub is_some : (window : ℕ) (journal journal' : List Entry) (answer : Answer) → 1 ≤ window
    → journal' ≡ within window (journal ++ Scraped answer ∷ [])
    → ¬ (newest (scrapes journal') ≡ None)
is_some window journal journal' answer some same is =
    let e : Some answer ≡ None = sym (newest_after window journal journal' answer some same) ∙ is in
    cc

module _ (n c h g : ℕ) (recorded : List Answer) (journal : List Entry) (window : ℕ) (families : List Family) (order : List ℕ)
    (used : Kind → ℕ)
    (is : IsHeld n c h g recorded journal window families order used) where
  -- another window
  pub held_window : (window' : ℕ) (journal' : List Entry) → IsWindow window' → journal' ≡ within window' journal
      → IsHeld n c h g recorded journal' window' families order used
  held_window window' journal' room same =
      subst (λ (j : List Entry). IsHeld n c h g recorded j window' families order used) (sym same)
      (record {
        geometry = is.geometry;
        kept = keeps_at_window n c h g recorded journal window window' families is.kept room;
        held = is.held;
        ordered = is.ordered;
      })

  -- a scrape
  pub held_scrape : (recorded' : List Answer) (journal' : List Entry) (answer : Answer)
      → Records n c h g recorded recorded' answer
      → journal' ≡ within window (journal ++ Scraped answer ∷ [])
      → IsHeld n c h g recorded' journal' window families order used
  held_scrape recorded' journal' answer records same =
      let before : State = record { families = families; last = newest (scrapes journal) } in
      let now : List Entry = within window (journal ++ Scraped answer ∷ []) in
      subst (λ (j : List Entry). IsHeld n c h g recorded' j window families order used) (sym same)
      (record {
        geometry = is.geometry;
        kept = subst (λ (last : Option Answer). IsKept n c h g recorded' now window (record { families = families; last = last }))
            (sym (newest_scrape window journal answer is.kept.room.0))
            (kept_scrape n c h g recorded recorded' journal window before answer is.kept records);
        held = is.held;
        ordered = is.ordered;
      })

  -- a scrape that was refused
  pub held_left : (recorded' : List Answer) (journal' : List Entry) → recorded' ≡ recorded → journal' ≡ journal
      → IsHeld n c h g recorded' journal' window families order used
  held_left recorded' journal' one two =
      subst (λ (l : List Answer). IsHeld n c h g l journal' window families order used) (sym one)
      (subst (λ (j : List Entry). IsHeld n c h g recorded j window families order used) (sym two) is)

-- a refused scrape recorded nothing
pub recorded_left : {S : Type 0} (n : ℕ) (recorded : S → List Answer) (quit : S → ℕ) (gave_up : S → S → Contended → Type 0)
    (old new : S) (fault : ScrapeFault)
    → Leaves n recorded quit gave_up old new fault → recorded new ≡ recorded old
recorded_left n recorded quit gave_up old new Scrape.NoMemory left = ap recorded left
recorded_left n recorded quit gave_up old new (Scrape.Contended fault) left = left.0

-- what contracts see of a registry whose window is another
pub seen_window : {S : Type 0} (id window' : ℕ) (source : S) (journal journal' : List Entry) (families : List Family)
    → 1 ≤ window' → journal' ≡ within window' journal
    → ◌≡◌ {A = RegistryView S}
    (view_of id window' source journal' families)
    (record {
      id = id;
      window = window';
      source = source;
      journal = within window' journal;
      state = record { families = families; last = newest (scrapes journal) };
    })
seen_window {S} id window' source journal journal' families some same =
    let with_journal : List Entry → RegistryView S = λ j. view_of id window' source j families in
    let with_last : Option Answer → RegistryView S = λ last. record {
      id = id;
      window = window';
      source = source;
      journal = within window' journal;
      state = record { families = families; last = last };
    } in
    ap with_journal same ∙ ap with_last (newest_within window' journal some)

-- what contracts see of a registry that has scraped
pub keeps_scrape : {S : Type 0} (n c h g : ℕ) (recorded : S → List Answer) (gave : S → S → Answer → Type 0) (id window : ℕ)
    (source source' : S) (journal journal' : List Entry) (families : List Family)
    (answer : Answer) → 1 ≤ window → Records n c h g (recorded source) (recorded source') answer → gave source source' answer
    → journal' ≡ within window (journal ++ Scraped answer ∷ []) → AreMoments n c h g (scrapes journal')
    → KeepsScrape n c h g recorded gave
    (view_of id window source journal families)
    (view_of id window source' journal' families)
keeps_scrape n c h g recorded gave id window source source' journal journal' families answer some records given same moments =
    record {
      answer = answer;
      once = records;
      given = given;
      journal = same;
      moments = moments;
      state = ap (λ (last : Option Answer). record { families = families; last = last })
          (newest_after window journal journal' answer some same);
      id = refl;
      window = refl;
    }

-- and so of the one that is there
pub kept_of : {S : Type 0} (n c h g : ℕ) (recorded : S → List Answer) (gave : S → S → Answer → Type 0) (old : RegistryView S)
    (id window : ℕ) (source source' : S) (journal journal' : List Entry) (families : List Family) (order : List ℕ)
    (used : Kind → ℕ) (answer : Answer)
    → view_of id window source journal families ≡ old
    → IsHeld n c h g (recorded source) journal window families order used
    → Records n c h g (recorded source) (recorded source') answer → gave source source' answer
    → journal' ≡ within window (journal ++ Scraped answer ∷ [])
    → KeepsScrape n c h g recorded gave old
    (view_of id window source' journal' families)
kept_of {S} n c h g recorded gave old id window source source' journal journal' families order used last view is once given same =
    let held =
    held_scrape n c h g (recorded source) journal window families order used is (recorded source') journal' last once same in
    let now : RegistryView S = view_of id window source' journal' families in
    subst (λ (r : RegistryView S). KeepsScrape n c h g recorded gave r now) view
    (keeps_scrape n c h g recorded gave id window source source' journal journal' families last is.kept.room.0 once given same
    held.kept.moments)

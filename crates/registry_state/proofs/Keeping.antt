-- What a registry keeps stays so, whatever its calls do to it.
use Rattle.std.proofs.Common.{◌≡◌, ℕ, zero, suc, ◌-◌, ◌≤◌, List, [], ◌∷◌, ◌++◌, length, drop, refl, ap, sym, subst, ◌∙◌, arith}
use Rattle.std.specs.Prelude.{Option, Some}
use Rattle.std.proofs.lemmas.List.{append_assoc, append-nil}
use Rattle.register_rule.specs.declared.view.Answer.{Answer}
use Rattle.snapshot_scan.specs.Moments.{AreMoments}
use Rattle.snapshot_scan.specs.Sources.{Records}
use Rattle.register_rule.specs.Members.{newest}
use Rattle.snapshot_scan.proofs.Publishing.{no_moments, moments_later}
use Rattle.registry_state.specs.Journal.{RegistryChange, Entry, Changed, Scraped, scrapes, within}
use Rattle.registry_state.specs.Replay.{Family, State, nothing, IsAcceptedChange, IsNext, after, Replays}
use Rattle.registry_state.specs.Kept.{AreLast, IsKept, RegistryView}
use Rattle.registry_state.specs.Faults.{IsWindow}
use Rattle.registry_state.proofs.Entries.{scrapes_change, scrapes_scrape, scrapes_within, few_within, newest_behind}
use Rattle.registry_state.proofs.Entries.{newest_change, newest_within}
use Rattle.registry_state.proofs.Replayed.{parts_of_replay, replays_change, replays_scrape, replays_within}

-- what contracts see of a registry
abbrev pub view_of : {S : Type 0} (id window : ℕ) → S → (journal : List Entry) → List Family → RegistryView S
view_of id window source journal families = record {
  id = id;
  window = window;
  source = source;
  journal = journal;
  state = record { families = families; last = newest (scrapes journal) };
}

-- no answers are the last of any
pub last_none : (recorded : List Answer) → AreLast [] recorded
last_none recorded = record { older = recorded; is = sym (append-nil recorded) }

-- one answer more
pub last_more : (kept recorded : List Answer) (answer : Answer) → AreLast kept recorded
    → AreLast (kept ++ answer ∷ []) (recorded ++ answer ∷ [])
last_more kept recorded answer last = record {
  older = last.older;
  is = ap (λ (l : List Answer). l ++ answer ∷ []) last.is ∙ append_assoc last.older kept (answer ∷ []);
}

-- the oldest dropped
pub last_drop : (k : ℕ) (kept recorded : List Answer) → AreLast kept recorded → AreLast (drop k kept) recorded
last_drop zero kept recorded last = last
last_drop (suc k) [] recorded last = last
last_drop (suc k) (a ∷ kept) recorded last =
    last_drop k kept recorded
    (record { older = last.older ++ a ∷ []; is = last.is ∙ sym (append_assoc last.older (a ∷ []) kept) })

-- the last of some moments are moments
pub moments_last : (n c h g : ℕ) (kept recorded : List Answer) → AreLast kept recorded → AreMoments n c h g recorded
    → AreMoments n c h g kept
moments_last n c h g kept recorded last moments = moments_later n c h g last.older kept
    (subst (AreMoments n c h g) last.is moments)

module _ (n c h g : ℕ) where
  -- an answer that the source recorded is accepted by the journal
  pub next_recorded : (recorded recorded' : List Answer) (journal : List Entry) (state : State) (answer : Answer)
      → Replays n c h g journal state → AreLast (scrapes journal) recorded → Records n c h g recorded recorded' answer
      → IsNext n c h g state.last answer
  next_recorded recorded recorded' journal state answer replays last records = record {
    whole = records.whole;
    rises = λ before is. records.rises before
        (ap newest last.is ∙ newest_behind last.older (scrapes journal) before
        (sym (parts_of_replay n c h g journal state replays).last ∙ is));
  }

  -- nothing is kept at first
  pub kept_new : (recorded : List Answer) (window : ℕ) → IsWindow window → IsKept n c h g recorded [] window nothing
  kept_new recorded window room = record {
    replays = refl;
    room = room;
    few = omega arith;
    newest = last_none recorded;
    moments = no_moments n c h g;
  }

  -- a change
  pub kept_change : (recorded : List Answer) (journal : List Entry) (window : ℕ) (state : State) (change : RegistryChange)
      → IsKept n c h g recorded journal window state → IsAcceptedChange n c h g state.families change
      → IsKept n c h g recorded (journal ++ Changed change ∷ []) window
      (record { families = after state.families change; last = state.last })
  kept_change recorded journal window state change kept accepted =
      let same : scrapes journal ≡ scrapes (journal ++ Changed change ∷ []) = sym (scrapes_change journal change) in
      record {
        replays = replays_change n c h g journal state change kept.replays accepted;
        room = kept.room;
        few = subst (λ (l : List Answer). length l ≤ window) same kept.few;
        newest = subst (λ (l : List Answer). AreLast l recorded) same kept.newest;
        moments = subst (AreMoments n c h g) same kept.moments;
      }

  -- another window, and the scrapes that are over it dropped
  pub kept_window : (recorded : List Answer) (journal : List Entry) (old window : ℕ) (state : State)
      → IsKept n c h g recorded journal old state → IsWindow window
      → IsKept n c h g recorded (within window journal) window state
  kept_window recorded journal old window state kept room = record {
    replays = replays_within n c h g window journal state room.0 kept.replays;
    room = room;
    few = few_within window journal;
    newest = subst (λ (l : List Answer). AreLast l recorded) (sym (scrapes_within window journal))
        (last_drop (length (scrapes journal) - window) (scrapes journal) recorded kept.newest);
    moments = subst (AreMoments n c h g) (sym (scrapes_within window journal))
        (moments_last n c h g (drop (length (scrapes journal) - window) (scrapes journal)) (scrapes journal)
        (last_drop (length (scrapes journal) - window) (scrapes journal) (scrapes journal) (record { older = []; is = refl }))
        kept.moments);
  }

  -- a scrape
  pub kept_scrape : (recorded recorded' : List Answer) (journal : List Entry) (window : ℕ) (state : State) (answer : Answer)
      → IsKept n c h g recorded journal window state → Records n c h g recorded recorded' answer
      → IsKept n c h g recorded' (within window (journal ++ Scraped answer ∷ [])) window
      (record { families = state.families; last = Some answer })
  kept_scrape recorded recorded' journal window state answer kept records =
      let next : IsNext n c h g state.last answer = next_recorded recorded recorded' journal state answer kept.replays kept.newest
      records in
      let last : AreLast (scrapes (journal ++ Scraped answer ∷ [])) recorded' =
      subst (λ (l : List Answer). AreLast l recorded') (sym (scrapes_scrape journal answer))
      (subst (λ (l : List Answer). AreLast (scrapes journal ++ answer ∷ []) l) (sym records.recorded)
      (last_more (scrapes journal) recorded answer kept.newest)) in
      let now : AreLast (scrapes (within window (journal ++ Scraped answer ∷ []))) recorded' =
      subst (λ (l : List Answer). AreLast l recorded') (sym (scrapes_within window (journal ++ Scraped answer ∷ [])))
      (last_drop (length (scrapes (journal ++ Scraped answer ∷ [])) - window) (scrapes (journal ++ Scraped answer ∷ [])) recorded'
      last) in
      record {
        replays = replays_within n c h g window (journal ++ Scraped answer ∷ [])
            (record { families = state.families; last = Some answer }) kept.room.0
            (replays_scrape n c h g journal state answer kept.replays next);
        room = kept.room;
        few = few_within window (journal ++ Scraped answer ∷ []);
        newest = now;
        moments = moments_last n c h g (scrapes (within window (journal ++ Scraped answer ∷ []))) recorded' now records.moments;
      }

  -- the same where the state has the newest scrape that is kept: a change
  pub keeps_at_change : (recorded : List Answer) (journal : List Entry) (window : ℕ) (families : List Family)
      (change : RegistryChange)
      → IsKept n c h g recorded journal window (record { families = families; last = newest (scrapes journal) })
      → IsAcceptedChange n c h g families change
      → IsKept n c h g recorded (journal ++ Changed change ∷ []) window
      (record { families = after families change; last = newest (scrapes (journal ++ Changed change ∷ [])) })
  keeps_at_change recorded journal window families change kept accepted =
      subst (λ (last : Option Answer). IsKept n c h g recorded (journal ++ Changed change ∷ []) window
      (record { families = after families change; last = last }))
      (sym (newest_change journal change))
      (kept_change recorded journal window (record { families = families; last = newest (scrapes journal) }) change kept accepted)

  -- another window
  pub keeps_at_window : (recorded : List Answer) (journal : List Entry) (old window : ℕ) (families : List Family)
      → IsKept n c h g recorded journal old (record { families = families; last = newest (scrapes journal) }) → IsWindow window
      → IsKept n c h g recorded (within window journal) window
      (record { families = families; last = newest (scrapes (within window journal)) })
  keeps_at_window recorded journal old window families kept room =
      subst (λ (last : Option Answer). IsKept n c h g recorded (within window journal) window
      (record { families = families; last = last }))
      (sym (newest_within window journal room.0))
      (kept_window recorded journal old window (record { families = families; last = newest (scrapes journal) }) kept room)

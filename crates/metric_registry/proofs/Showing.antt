-- What is behind a lock begins with what was there, and a scrape of it shows one moment.
use Rattle.std.proofs.Common.{◌≡◌, ℕ, List, [], ◌∷◌, ◌++◌, Result, Ok, Err, IfOk, OnOk, OnErr, ⊎_elim, sym, ap, ◌∙◌, subst}
use Rattle.std.proofs.Common.{append_assoc}
use Rattle.std.specs.Prelude.{IsSomeAnd}
use Rattle.std.proofs.Math.Logic.{∥∥₁_map}
use mathlib.Core.List.{IsPrefix}
use Rattle.expo_text.specs.Scraped.{Scraped}
use Rattle.register_rule.specs.declared.view.Answer.{Answer}
use Rattle.snapshot_scan.specs.Moments.{AreMoments}
use Rattle.snapshot_scan.proofs.Publishing.{moments_later}
use Rattle.metric_desc.specs.Desc.{Descriptor}
use Rattle.registry_state.specs.Calls.{KeepsScrape, IsGiven, WasThere, WasMade, changed}
use Rattle.registry_state.specs.Journal.{RegistryChange, Registered, ChildMade, Entry, Changed, Scraped as Kept, changes, within}
use Rattle.registry_state.specs.Kept.{RegistryView, IsKept}
use Rattle.registry_state.specs.Parts.{AreAccepted, families_after}
use Rattle.registry_state.specs.Replay.{Family, State}
use Rattle.registry_state.specs.Shown.{IsShown}
use Rattle.registry_state.specs.declared.fault.ScrapeFault.{ScrapeFault}
use Rattle.registry_state.specs.declared.fault.RegisterFault.{RegisterFault}
use Rattle.registry_state.specs.declared.fault.ChildFault.{ChildFault}
use Rattle.registry_state.specs.declared.fault.BadWindow.{BadWindow}
use Rattle.registry_state.specs.declared.handle.FamilyId.{FamilyId}
use Rattle.registry_state.specs.declared.handle.Handle.{Handle}
use Rattle.registry_state.proofs.Entries.{changes_change, changes_scrape, changes_within}
use Rattle.registry_state.proofs.Replayed.{parts_of_replay}
use Rattle.metric_registry.specs.Naming.{BeginsWith, ShowsMoment}

-- a change more
pub begins_change : (first : List RegistryChange) (journal journal' : List Entry) (change : RegistryChange)
    → journal' ≡ journal ++ Changed change ∷ [] → BeginsWith first journal → BeginsWith first journal'
begins_change first journal journal' change same begins = ∥∥₁_map begins (λ (more, is). (
  more ++ change ∷ [],
  sym (append_assoc first more (change ∷ []))
      ∙ (ap (λ (l : List RegistryChange). l ++ change ∷ []) is ∙ (sym (changes_change journal change) ∙ ap changes (sym same))),
))

-- a scrape more, and the oldest dropped
pub begins_scrape : (first : List RegistryChange) (journal journal' : List Entry) (window : ℕ) (answer : Answer)
    → journal' ≡ within window (journal ++ Kept answer ∷ []) → BeginsWith first journal
    → BeginsWith first journal'
begins_scrape first journal journal' window answer same =
    subst (λ (l : List RegistryChange). ∥ IsPrefix first l ∥₁)
    (sym (ap changes same ∙ (changes_within window (journal ++ Kept answer ∷ []) ∙ changes_scrape journal answer)))

pub begins_window : (first : List RegistryChange) (journal journal' : List Entry) (window : ℕ) → journal' ≡ within window journal
    → BeginsWith first journal → BeginsWith first journal'
begins_window first journal journal' window same = subst (λ (l : List RegistryChange). ∥ IsPrefix first l ∥₁)
    (sym (ap changes same ∙ changes_within window journal))

pub shows_moment : {S : Type 0} (n c h g : ℕ) (first : List RegistryChange) (recorded : S → List Answer) (gave : S → S
    → Answer → Type 0)
    (old new : RegistryView S) (r : Result Scraped ScrapeFault)
    → BeginsWith first old.journal → IsKept n c h g (recorded old.source) old.journal old.window old.state
    → OnOk r (KeepsScrape n c h g recorded gave old new)
    → IfOk r (λ (scrape : Scraped). IsSomeAnd new.state.last (λ answer. IsShown c h new.state.families answer scrape))
    → IfOk r (ShowsMoment n c h g first)
shows_moment n c h g first recorded gave old new (Ok scrape) begins was kept shown = ∥∥₁_map begins (λ (more, is).
    let parts = parts_of_replay n c h g old.journal old.state was.replays in
    let shown' : IsShown c h old.state.families kept.answer scrape =
    subst (λ (s : State). IsSomeAnd s.last (λ answer. IsShown c h s.families answer scrape)) kept.state shown in
    record {
      more = more;
      accepted = subst (AreAccepted n c h g []) (sym is) parts.accepted;
      answer = kept.answer;
      moment = moments_later n c h g (recorded old.source) (kept.answer ∷ [])
          (subst (AreMoments n c h g) kept.once.recorded kept.once.moments);
      shown = subst (λ (l : List Family). IsShown c h l kept.answer scrape) (parts.families ∙ ap (families_after []) (sym is))
          shown';
    })
shows_moment n c h g first recorded gave old new (Err fault) begins was kept shown = tt

-- what each call leaves begins as it began
module _ {S : Type 0} (first : List RegistryChange) (old new : RegistryView S) (begins : BeginsWith first old.journal) where
  same_begins : new ≡ old → BeginsWith first new.journal
  same_begins same = subst (λ (r : RegistryView S). BeginsWith first r.journal) (sym same) begins

  pub registered_begins : (desc : Descriptor) (r : Result FamilyId RegisterFault) → OnOk r (new ≡ changed (Registered desc) old)
      → OnErr r (new ≡ old) → BeginsWith first new.journal
  registered_begins desc (Ok family) is same = begins_change first old.journal new.journal (Registered desc)
      (ap (λ (r : RegistryView S). r.journal) is) begins
  registered_begins desc (Err fault) is same = same_begins same

  pub given_begins : (c h g family : ℕ) (values : List (List ℕ)) (r : Result Handle ChildFault)
      → IfOk r (IsGiven c h g old new family values) → OnErr r (new ≡ old) → BeginsWith first new.journal
  given_begins c h g family values (Ok handle) is same =
      ⊎_elim (λ (was : WasThere c h g old new family values handle). same_begins was.same)
      (λ (made : WasMade c h g old new family values handle). begins_change first old.journal new.journal
      (ChildMade family values made.slot) (ap (λ (r : RegistryView S). r.journal) made.after_it) begins) is
  given_begins c h g family values (Err fault) is same = same_begins same

  pub scraped_begins : (n c h g : ℕ) (recorded : S → List Answer) (gave : S → S → Answer → Type 0)
      (r : Result Scraped ScrapeFault) → OnOk r (KeepsScrape n c h g recorded gave old new)
      → OnErr r ((new.journal ≡ old.journal) × (new.state ≡ old.state) × (new.id ≡ old.id) × (new.window ≡ old.window))
      → BeginsWith first new.journal
  scraped_begins n c h g recorded gave (Ok scrape) kept same = begins_scrape first old.journal new.journal old.window kept.answer
      kept.journal begins
  scraped_begins n c h g recorded gave (Err fault) kept same = subst (BeginsWith first) (sym same.0) begins

  pub windowed_begins : (window : ℕ) (r : Result ℕ BadWindow)
      → OnOk r (new ≡ record old { window = window; journal = within window old.journal }) → OnErr r (new ≡ old)
      → BeginsWith first new.journal
  windowed_begins window (Ok kept) is same = begins_window first old.journal new.journal window
      (ap (λ (r : RegistryView S). r.journal) is) begins
  windowed_begins window (Err fault) is same = same_begins same

-- What the calls of a registry do to it.
use Rattle.std.specs.Prelude.{◌≡◌, ℕ, ◌<◌, ◌⊎◌, List, [], ◌∷◌, ◌++◌, Some, slice_get, Contains, IsSomeAnd}
use Rattle.metric_desc.specs.Desc.{Descriptor}
use Rattle.metric_desc.specs.declared.kind.Kind.{Kind}
use Rattle.register_rule.specs.declared.view.Answer.{Answer}
use Rattle.snapshot_scan.specs.Moments.{AreMoments}
use Rattle.snapshot_scan.specs.Sources.{Records}
use Rattle.registry_state.specs.Journal.{RegistryChange, ChildMade, Changed, Scraped, scrapes, within}
use Rattle.registry_state.specs.Replay.{Family, IsFree, MayMake, after}
use Rattle.registry_state.specs.Kept.{RegistryView}
use Rattle.registry_state.specs.declared.handle.Handle.{Handle}

module _ {S : Type 0} where
  -- the registry after a change
  abbrev pub changed : RegistryChange → RegistryView S → RegistryView S
  changed change r = record r {
    journal = r.journal ++ Changed change ∷ [];
    state = record { families = after r.state.families change; last = r.state.last };
  }

-- the slot is the least free one of its kind
pub record IsLeastFree (families : List Family) (kind : Kind) (slot : ℕ) : Type 0 where
  pub free : IsFree families kind slot
  pub least : (k : ℕ) → k < slot → ¬ (IsFree families kind k)

-- the handle of a slot: of the registry of this id, and of a family of this kind and of these bounds
abbrev pub IsHandle : (id : ℕ) → Descriptor → (slot : ℕ) → Handle → Type 0
IsHandle id desc slot (Handle.Counter counter) = (desc.kind ≡ Kind.Counter) × (counter.registry ≡ id) × (counter.slot ≡ slot)
IsHandle id desc slot (Handle.Histogram hist) = (desc.kind ≡ Kind.Histogram) × (hist.registry ≡ id) × (hist.slot ≡ slot)
    × (hist.bounds ≡ desc.bounds)
IsHandle id desc slot (Handle.Gauge gauge) = (desc.kind ≡ Kind.Gauge) × (gauge.registry ≡ id) × (gauge.slot ≡ slot)

-- the handle of the child of these values of the family of this number, in the registry of this id
abbrev pub IsFound : (id : ℕ) → List Family → (family : ℕ) → (values : List (List ℕ)) → Handle → Type 0
IsFound id families family values handle = IsSomeAnd (slice_get families family) (λ (it : Family). (slot : ℕ)
    × Contains it.children (record { values = values; slot = slot }) × IsHandle id it.desc slot handle)

-- its slot is one of a row of c counters, h histograms and g gauges
abbrev pub IsInside : (c h g : ℕ) → Handle → Type 0
IsInside c h g (Handle.Counter counter) = counter.slot < c
IsInside c h g (Handle.Histogram hist) = hist.slot < h
IsInside c h g (Handle.Gauge gauge) = gauge.slot < g

module _ {S : Type 0} (c h g : ℕ) (old new : RegistryView S) (family : ℕ) (values : List (List ℕ)) (handle : Handle) where
  -- the child was there, and nothing changed
  pub record WasThere : Type 0 where
    pub slot : ℕ
    pub there : IsSomeAnd (slice_get old.state.families family) (λ (it : Family).
        Contains it.children (record { values = values; slot = slot }) × IsHandle old.id it.desc slot handle)
    pub same : new ≡ old

  -- it was made, in the least free slot
  pub record WasMade : Type 0 where
    pub slot : ℕ
    pub made : IsSomeAnd (slice_get old.state.families family) (λ (it : Family).
        MayMake c h g old.state.families values slot it × IsLeastFree old.state.families it.desc.kind slot
        × IsHandle old.id it.desc slot handle)
    pub after_it : new ≡ changed (ChildMade family values slot) old

  -- the handle of the child of these values of the family of this number
  abbrev pub IsGiven : Type 0
  IsGiven = WasThere ⊎ WasMade

-- one scan of the source was recorded, which the source gave, and it stands last in the journal, from which the
-- oldest scrape went only if they were too many; all that are kept, with this one, are moments of one history of
-- publishes
pub record KeepsScrape {S : Type 0} (n c h g : ℕ) (recorded : S → List Answer) (gave : S → S → Answer → Type 0)
    (old new : RegistryView S) : Type 0 where
  pub answer : Answer
  pub once : Records n c h g (recorded old.source) (recorded new.source) answer
  pub given : gave old.source new.source answer
  pub journal : new.journal ≡ within old.window (old.journal ++ Scraped answer ∷ [])
  pub moments : AreMoments n c h g (scrapes new.journal)
  pub state : new.state ≡ record { families = old.state.families; last = Some answer }
  pub id : new.id ≡ old.id
  pub window : new.window ≡ old.window

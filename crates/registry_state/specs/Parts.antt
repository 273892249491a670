-- The changes of a journal, by themselves.
use Rattle.std.specs.Prelude.{⊤, ℕ, List, [], ◌∷◌}
use Rattle.registry_state.specs.Journal.{RegistryChange}
use Rattle.registry_state.specs.Replay.{Family, IsAcceptedChange, after}

-- the families after these changes
abbrev pub families_after : List Family → List RegistryChange → List Family
families_after families [] = families
families_after families (change ∷ rest) = families_after (after families change) rest

module _ (n c h g : ℕ) where
  -- each change is accepted after those before it
  abbrev pub AreAccepted : List Family → List RegistryChange → Type 0
  AreAccepted families [] = ⊤
  AreAccepted families (change ∷ rest) = IsAcceptedChange n c h g families change × AreAccepted (after families change) rest

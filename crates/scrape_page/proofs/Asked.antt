-- A family of a page that is asked for a child.
use Rattle.std.proofs.Common.{◌≡◌, ℕ, zero, suc, ◌<◌, List, [], ◌∷◌, Some, length, get_or, refl, arith, All, Contains}
use Rattle.std.specs.Prelude.{⊤, slice_get, IsSomeAnd}
use Rattle.std.specs.List.{Any}
use Rattle.std.proofs.lemmas.List.Elements.{All-weaker}
use Rattle.std.proofs.lemmas.List.Sorted.{All-permutation, IsPermutation-sym}
use Rattle.std.proofs.lemmas.Option.{get_or_from_slice_get, slice_get_within}
use Rattle.metric_desc.specs.declared.kind.Kind.{Kind}
use Rattle.registry_state.specs.Replay.{Family, IsNew}
use Rattle.registry_state.specs.Kept.{RegistryView}
use Rattle.registry_state.proofs.Making.{at_some, some_within, there_at}
use Rattle.scrape_page.specs.declared.family.Part.{Part}
use Rattle.scrape_page.specs.Families.{PageFamily, PageView}
use Rattle.scrape_page.specs.Faults.{IsMissing}
use Rattle.scrape_page.specs.Kept.{IsSpread, IsHeldPage}
use Rattle.scrape_page.specs.Places.{places_of, HasPart}
use Rattle.scrape_page.specs.Rooms.{IsFirstWithRoom}
use Rattle.scrape_page.proofs.Valued.{nowhere}
use Rattle.scrape_page.proofs.Facts.{all_there, part_there}

-- what is somewhere has a property there
pub some_weaker : {X : Type 0} (P Q : X → Type 0) → ((x : X) → P x → Q x) → (xs : List X) (i : ℕ) → IsSomeAnd (slice_get xs i) P
    → IsSomeAnd (slice_get xs i) Q
some_weaker P Q weaker [] i some = absurd some
some_weaker P Q weaker (x ∷ xs) zero some = weaker x some
some_weaker P Q weaker (x ∷ xs) (suc i) some = some_weaker P Q weaker xs i some

-- what has it somewhere, has it
pub any_at : {X : Type 0} (P : X → Type 0) (xs : List X) (i : ℕ) → IsSomeAnd (slice_get xs i) P → Any P xs
any_at P [] i some = absurd some
any_at P (x ∷ xs) zero some = (0, x, omega arith, refl, some)
any_at P (x ∷ xs) (suc i) some =
    let rest = any_at P xs i some in let lt = rest.2 in (suc rest.0, rest.1, omega (arith, lt), rest.3, rest.4)

pub contains_at : {X : Type 0} (xs : List X) (i : ℕ) (x : X) → slice_get xs i ≡ Some x → Contains xs x
contains_at xs i x is = (i, slice_get_within xs i x is, get_or_from_slice_get xs i x x is)

module _ {S : Type 0} (page : PageView S) (order : List ℕ) (held : IsHeldPage page order) (number : ℕ) (it : PageFamily)
    (there : slice_get page.families number ≡ Some it) where
  named : All (λ part. HasPart page.boards part (λ _ (family : Family). family.desc.name ≡ it.desc.name)) it.parts
  named = part_there page held.page_is number it there

  -- each of its parts is there
  pub parts_hold : All (λ part. HasPart page.boards part (λ _ _. ⊤)) it.parts
  parts_hold = All-weaker (λ part. HasPart page.boards part (λ _ (family : Family). family.desc.name ≡ it.desc.name))
      (λ part. HasPart page.boards part (λ _ _. ⊤))
      (λ part has. some_weaker
      (λ (board : RegistryView S). IsSomeAnd (slice_get board.state.families part.family.number) (λ (family : Family).
      family.desc.name ≡ it.desc.name))
      (λ (board : RegistryView S). IsSomeAnd (slice_get board.state.families part.family.number) (λ _. ⊤))
      (λ board some. some_weaker (λ (family : Family). family.desc.name ≡ it.desc.name) (λ _. ⊤) (λ _ _. tt) board.state.families
      part.family.number some) page.boards part.board has) it.parts named

  -- on a board that is there
  pub parts_within : All (λ (part : Part). part.board < length page.boards) it.parts
  parts_within = All-weaker (λ part. HasPart page.boards part (λ _ _. ⊤)) (λ (part : Part). part.board < length page.boards)
      (λ part has. some_within (λ (board : RegistryView S). IsSomeAnd (slice_get board.state.families part.family.number) (λ _.
      ⊤)) page.boards
      part.board has) it.parts parts_hold

  -- values that none of them has are missing
  pub is_missing : (values : List (List ℕ)) → length values ≡ length it.desc.labels
      → All (λ part. HasPart page.boards part (λ _ (family : Family). IsNew family values)) it.parts → IsMissing page.boards it
      values
  is_missing values fit new = (
    fit,
    nowhere it.desc.name values page.boards
        (All-permutation (λ part. HasPart page.boards part (λ _ (family : Family). IsNew family values)) it.parts
        (places_of it.desc.name page.boards)
        (IsPermutation-sym (places_of it.desc.name page.boards) it.parts
        (all_there (IsSpread page.boards) page.families number it there held.page_is.spread).parts) new),
  )

-- the first part with room is the one that was read
pub first_at : {S : Type 0} (c h g : ℕ) (kind : Kind) (boards : List (RegistryView S)) (parts : List Part) (place : ℕ) (part :
    Part)
    → IsSomeAnd (slice_get parts place) (IsFirstWithRoom c h g kind boards parts place) → part ≡ get_or parts place part
    → IsFirstWithRoom c h g kind boards parts place part
first_at c h g kind boards parts place part some read =
    at_some (IsFirstWithRoom c h g kind boards parts place) parts place part
    (there_at (IsFirstWithRoom c h g kind boards parts place) parts place part some read) some

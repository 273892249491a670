-- A child for which a board came.
use Rattle.std.proofs.Common.{◌≡◌, ◌≢◌, ℕ, ◌+◌, ◌<◌, ◌≤◌, List, [], ◌∷◌, ◌++◌, Some, length, slice_get, refl, sym, ap, subst}
use Rattle.std.proofs.Common.{◌∙◌, arith, inl, inr}
use Rattle.std.specs.Prelude.{◌⊎◌, Option, None, Result, Ok, Err, IfOk, IfErr, IsSomeAnd}
use Rattle.std.proofs.lemmas.Option.{slice_get_within}
use Rattle.std.proofs.lemmas.List.{length_push, get_or_push}
use Rattle.metric_desc.specs.declared.kind.Kind.{Kind}
use Rattle.registry_state.specs.Faults.{HasSlot}
use Rattle.registry_state.specs.Kept.{RegistryView}
use Rattle.registry_state.specs.Replay.{nothing, slots}
use Rattle.registry_state.specs.declared.handle.Handle.{Handle}
use Rattle.scrape_page.specs.Calls.{IsGivenOnPage, LeavesPage}
use Rattle.scrape_page.specs.Families.{PageFamily, PageView}
use Rattle.scrape_page.specs.Faults.{IsMissing, IsPageChildFault}
use Rattle.scrape_page.specs.Rooms.{HasRoom, AreFull}
use Rattle.scrape_page.specs.declared.fault.PageChildFault.{PageChildFault}
use Rattle.scrape_page.specs.declared.fault.PageChildFault.TheVariants.{NoSuchFamily, LabelCount, TooManyChildren, Full, NoMemory}
use Rattle.page_crew.specs.Opened.{IsNewBoard}
use Rattle.page_crew.specs.Owned.{page_of, rings_of, first_of, window_of, IsGrown, IsUnchanged, PageDid, IsGivenFurther}
use Rattle.page_crew.specs.Owned.{IsRefusedFurther, IsGivenByCrew, IsRefusedByCrew}
use Rattle.page_crew.specs.Rings.{Ring, AreGiven}
use Rattle.page_crew.specs.declared.owner.PageCrew.{PageCrew}
use Rattle.page_crew.specs.declared.shared_scanner.SharedScanner.{SharedScanner}

-- what is there
one_there : {A : Type 0} (P : A → Type 0) (o : Option A) → IsSomeAnd o P → (x : A) × (o ≡ Some x)
one_there P None p = absurd p
one_there P (Some x) p = (x, refl)

-- two properties of what is there
both_there : {A : Type 0} (P Q : A → Type 0) (o : Option A) → IsSomeAnd o P → IsSomeAnd o Q → (x : A) × (o ≡ Some x) × P x × Q x
both_there P Q None p q = absurd p
both_there P Q (Some x) p q = (x, refl, p, q)

module _ {S : Type 0} (c h g : ℕ) (page : PageView S) (board : RegistryView S) (empty : board.state ≡ nothing) (number : ℕ)
    (values : List (List ℕ)) (kind : Kind) (many : ℕ) (full : IsPageChildFault c h g page number values (Full kind many))
    (some : 0 < slots c h g kind) where
  -- an empty board has a free slot of the kind
  has_room : HasRoom c h g kind board
  has_room = subst (λ state. HasSlot c h g state.families kind) (sym empty) (
    0,
    some,
    λ k d within. absurd (omega (
      arith,
      within,
    )),
  )

  -- the page with that board refuses for want of memory alone
  pub only_memory : (why : PageChildFault)
      → IsPageChildFault c h g (record { boards = page.boards ++ board ∷ []; families = page.families }) number values why
      → why ≡ NoMemory
  only_memory NoSuchFamily none =
      let it = one_there
      (λ (it : PageFamily). IsMissing page.boards it values × (it.children < 256) × (kind ≡ it.desc.kind)
      × AreFull c h g it.desc.kind page.boards) (slice_get page.families number) full.1 in
      absurd (let within = slice_get_within page.families number it.0 it.1 in omega (arith, within, none))
  only_memory (LabelCount want got) other =
      let it = both_there
      (λ (it : PageFamily). IsMissing page.boards it values × (it.children < 256) × (kind ≡ it.desc.kind)
      × AreFull c h g it.desc.kind page.boards)
      (λ (it : PageFamily). (want ≡ length it.desc.labels) × (got ≡ length values) × (want ≢ got)) (slice_get page.families
      number) full.1
      other in
      absurd (it.3.2 (it.3.0 ∙ sym it.2.0.0 ∙ sym it.3.1))
  only_memory TooManyChildren more =
      let it = both_there
      (λ (it : PageFamily). IsMissing page.boards it values × (it.children < 256) × (kind ≡ it.desc.kind)
      × AreFull c h g it.desc.kind page.boards)
      (λ (it : PageFamily). IsMissing (page.boards ++ board ∷ []) it values × (256 ≤ it.children)) (slice_get page.families
      number) full.1
      more in
      absurd (let few = it.2.1 in let most = it.3.1 in omega (arith, few, most))
  only_memory (Full kind' many') none =
      let it = both_there
      (λ (it : PageFamily). IsMissing page.boards it values × (it.children < 256) × (kind ≡ it.desc.kind)
      × AreFull c h g it.desc.kind page.boards)
      (λ (it : PageFamily). IsMissing (page.boards ++ board ∷ []) it values × (it.children < 256) × (kind' ≡ it.desc.kind)
      × AreFull c h g it.desc.kind (page.boards ++ board ∷ [])) (slice_get page.families number) full.1 none.1 in
      let longer = length_push page.boards board in
      absurd (subst (λ (b : RegistryView S). ¬ (HasRoom c h g it.0.desc.kind b))
      (get_or_push page.boards board board (length page.boards) refl)
      (it.3.3 (length page.boards) board (omega (arith, longer)))
      (subst (λ (k : Kind). HasRoom c h g k board) it.2.2 has_room))
  only_memory NoMemory is = refl

module _ {N C H G : ℕ} where
  module _ (old mid new : PageCrew N C H G) (same : IsUnchanged old mid) where
    pub grown_from : IsGrown mid new → IsGrown old new
    grown_from grown = record {
      owner = (grown.owner.0 ∙ same.0.0, grown.owner.1 ∙ same.0.1);
      board = grown.board;
      recorders = grown.recorders;
      is_new = subst (λ (p : PageView (SharedScanner N C H G)).
          IsNewBoard (first_of old + length p.boards) (window_of old) grown.board grown.recorders) same.1
          (subst (λ w. IsNewBoard (first_of old + length (page_of mid).boards) w grown.board grown.recorders) same.0.1
          (subst (λ f. IsNewBoard (f + length (page_of mid).boards) (window_of mid) grown.board grown.recorders) same.0.0
          grown.is_new));
      page = grown.page ∙ ap (λ (p : PageView (SharedScanner N C H G)). record p { boards = p.boards ++ grown.board ∷ [] })
          same.1;
      given = subst (λ (l : List (Ring N C H G)). AreGiven l (rings_of new) grown.recorders) same.2 grown.given;
    }

    pub unchanged_from : IsUnchanged mid new → IsUnchanged old new
    unchanged_from more = ((more.0.0 ∙ same.0.0, more.0.1 ∙ same.0.1), more.1 ∙ same.1, more.2 ∙ same.2)

  -- a board came, and the page was asked again
  module _ (old mid new : PageCrew N C H G) (grown : IsGrown old mid) (number : ℕ) (values : List (List ℕ)) (kind : Kind) (many :
      ℕ) where
    pub given_further : (result : Result Handle PageChildFault)
        → IfOk result (λ handle. PageDid mid new (λ a b. IsGivenOnPage C H G a b number values handle))
        → IfOk result (IsGivenFurther old new number values)
    given_further (Ok handle) did = (mid, grown, did)
    given_further (Err why) did = tt

    pub refused_further : IsPageChildFault C H G (page_of old) number values (Full kind many) → length (page_of old).boards < 96
        → 0 < slots C H G kind → (result : Result Handle PageChildFault) → IfErr result (IsPageChildFault C H G (page_of mid)
        number values)
        → IfErr result (λ why. PageDid mid new (λ a b. LeavesPage C H G a b number why))
        → IfErr result (IsRefusedFurther old new number kind many)
    refused_further full few some (Ok handle) fault leaves = tt
    refused_further full few some (Err why) fault leaves =
        let memory : why ≡ NoMemory = only_memory C H G (page_of old) grown.board grown.is_new.state number values kind many full
        some why
        (subst (λ (p : PageView (SharedScanner N C H G)). IsPageChildFault C H G p number values why) grown.page fault) in
        inr (
          memory,
          few,
          some,
          inr (
            mid,
            grown,
            subst (λ (w : PageChildFault). PageDid mid new (λ a b. LeavesPage C H G a b number w)) memory leaves,
          ),
        )

  -- nothing had changed before it came
  module _ (old mid new : PageCrew N C H G) (same : IsUnchanged old mid) (number : ℕ) (values : List (List ℕ)) (kind : Kind) (many
      : ℕ)
      (full : IsPageChildFault C H G (page_of old) number values (Full kind many)) where
    pub given_then : (result : Result Handle PageChildFault) → IfOk result (IsGivenFurther mid new number values)
        → IfOk result (IsGivenByCrew old new number values)
    given_then (Ok handle) given = inr (kind, many, full, (given.0, grown_from old mid given.0 same given.1, given.2))
    given_then (Err why) given = tt

    few_from : length (page_of mid).boards < 96 → length (page_of old).boards < 96
    few_from few = subst (λ (p : PageView (SharedScanner N C H G)). length p.boards < 96) same.1 few

    refused_from : (why : PageChildFault) → IsRefusedFurther mid new number kind many why → IsRefusedFurther old new number kind
        many why
    refused_from why (inl none) =
        inl (
          none.0,
          subst (λ (p : PageView (SharedScanner N C H G)). (96 ≤ length p.boards) ⊎ (slots C H G kind ≡ 0)) same.1 none.1,
          unchanged_from old mid new same none.2,
        )
    refused_from why (inr (memory, few, some, inl none)) =
        inr (memory, few_from few, some, inl (unchanged_from old mid new same none))
    refused_from why (inr (memory, few, some, inr came)) =
        inr (memory, few_from few, some, inr (came.0, grown_from old mid came.0 same came.1, came.2))

    pub refused_then : (result : Result Handle PageChildFault) → IfErr result (IsRefusedFurther mid new number kind many)
        → IfErr result (IsRefusedByCrew old new number values)
    refused_then (Ok handle) fault = tt
    refused_then (Err why) fault = inr (kind, many, full, refused_from why fault)

-- a child was refused for want of a slot, and nothing has changed
pub was_full : {N C H G : ℕ} (old mid : PageCrew N C H G) (number : ℕ) (values : List (List ℕ)) (why : PageChildFault) (kind :
    Kind) (slots : ℕ)
    → why ≡ Full kind slots → PageDid old mid (λ a b. LeavesPage C H G a b number why)
    → IsPageChildFault C H G (page_of old) number values why
    → IsUnchanged old mid × IsPageChildFault C H G (page_of old) number values (Full kind slots)
was_full {N} {C} {H} {G} old mid number values why kind slots is leaves fault = (
  subst (λ (w : PageChildFault). PageDid old mid (λ a b. LeavesPage C H G a b number w)) is leaves,
  subst (IsPageChildFault C H G (page_of old) number values) is fault,
)

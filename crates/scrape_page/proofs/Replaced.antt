-- A page of which one family takes the place of another of the same descriptor.
use Rattle.std.proofs.Common.{◌≡◌, ◌≢◌, ℕ, ◌<◌, List, [], Some, length, map, set, get_or, sym, ap, subst, ◌∙◌, arith, All}
use Rattle.std.proofs.Common.{AllPairs}
use Rattle.std.proofs.Common.{Contains}
use Rattle.std.specs.Prelude.{slice_get}
use Rattle.std.proofs.Math.ListN.{length-set}
use Rattle.std.proofs.lemmas.Option.{get_or_from_slice_get, slice_get_within}
use Rattle.metric_desc.specs.Desc.{Descriptor, Clash}
use Rattle.registry_state.specs.Replay.{Family}
use Rattle.registry_state.specs.Held.{IsOrder}
use Rattle.registry_state.specs.Kept.{RegistryView}
use Rattle.scrape_page.specs.Families.{PageFamily, PageView, descs_of, as_family}
use Rattle.scrape_page.specs.Kept.{IsSpread, IsHeldPage}
use Rattle.scrape_page.proofs.Lists.{map_set_same, pairs_along}
use Rattle.scrape_page.proofs.Facts.{all_others, pair_there, names_apart, turned}

-- its group, and the board of that
abbrev pub grouped : PageFamily → ℕ × ℕ
grouped family = (family.group, family.home)

module _ {S : Type 0} (old new : PageView S) (order : List ℕ) (held : IsHeldPage old order) (number : ℕ) (p p' : PageFamily)
    (at : slice_get old.families number ≡ Some p) (desc : p'.desc ≡ p.desc) (group : grouped p' ≡ grouped p)
    (families : new.families ≡ set old.families number p') where
  -- the others have other names
  other_name : (k : ℕ) (d : PageFamily) → k < length old.families → k ≢ number → (get_or old.families k d).desc.name ≢ p.desc.name
  other_name k d within differ =
      let read : get_or old.families number d ≡ p = get_or_from_slice_get old.families number p d at in
      names_apart (get_or old.families k d).desc p.desc
      (subst (λ (q : PageFamily). ¬ (Clash (get_or old.families k d).desc q.desc)) read
      (pair_there (λ (a b : PageFamily). ¬ (Clash a.desc b.desc)) turned old.families k number d held.page_is.apart within
      (slice_get_within old.families number p at) differ))

  same_descs : descs_of new.families ≡ descs_of old.families
  same_descs = ap descs_of families ∙ map_set_same (λ (q : PageFamily). q.desc) old.families number p p' at desc

  same_names : map as_family new.families ≡ map as_family old.families
  same_names = ap (map as_family) families ∙ map_set_same as_family old.families number p p' at
      (ap (λ (d : Descriptor). record { desc = d; children = [] }) desc)

  same_groups : map grouped new.families ≡ map grouped old.families
  same_groups = ap (map grouped) families ∙ map_set_same grouped old.families number p p' at group

  -- it is a page still, where its boards have what it needs
  pub held_replaced : length new.boards ≡ length old.boards
      → map (λ (board : RegistryView S). board.id) new.boards ≡ map (λ (board : RegistryView S). board.id) old.boards
      → All (λ (board : RegistryView S). All (λ (f : Family). Contains (descs_of old.families) f.desc) board.state.families)
      new.boards
      → All (λ (board : RegistryView S). AllPairs (λ (a b : Family). a.desc.name ≢ b.desc.name) board.state.families) new.boards
      → ((q : PageFamily) → q.desc.name ≢ p.desc.name → IsSpread old.boards q → IsSpread new.boards q)
      → IsSpread new.boards p' → IsHeldPage new order
  held_replaced many ids known once others here =
      let some = held.page_is.some in
      let most = held.page_is.most in
      let few = held.page_is.few in
      let as_many : length new.families ≡ length old.families = ap length families ∙ length-set old.families number p' in
      record {
        page_is = record {
          some = omega (arith, many, some);
          most = omega (arith, many, most);
          ids = pairs_along (λ a b. a ≢ b) (λ (board : RegistryView S). board.id) old.boards new.boards ids held.page_is.ids;
          few = omega (arith, as_many, few);
          apart = pairs_along (λ a b. ¬ (Clash a b)) (λ (q : PageFamily). q.desc) old.families new.families same_descs
              held.page_is.apart;
          known = subst (λ l. All (λ (board : RegistryView S). All (λ (f : Family). Contains l f.desc) board.state.families)
              new.boards)
              (sym same_descs) known;
          once = once;
          spread = subst (All (IsSpread new.boards)) (sym families)
              (all_others (IsSpread new.boards) old.families number p'
              (λ k d within differ. others (get_or old.families k d) (other_name k d within differ) (held.page_is.spread k d
              within))
              here);
          groups = pairs_along (λ (a b : ℕ × ℕ). a.0 ≡ b.0 → a.1 ≡ b.1) grouped old.families new.families same_groups
              held.page_is.groups;
        };
        ordered = subst (λ l. IsOrder l order) (sym same_names) held.ordered;
      }

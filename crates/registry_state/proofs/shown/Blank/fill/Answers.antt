use Rattle.std.proofs.Common.{rules, ◌≡◌, List, ℕ, ◌++◌, length, take, drop, sym, subst, ◌∙◌}
use Rattle.std.proofs.lemmas.List.{take_at}
use Rattle.expo_text.specs.Scraped.{Family as FamilyShown, Scraped}
use Rattle.expo_text.specs.Order.{IsScrape}
use Rattle.snapshot_scan.specs.Snapshots.{as_answer}
use Rattle.registry_state.specs.Shown.{IsShown}
use Rattle.registry_state.proofs.Ordered.{order_below}
use Rattle.registry_state.proofs.Showing.{is_scrape, is_shown, showable_within}
use Rattle.registry_state.proofs.shown.Blank.fill.Goals as goal

pub fill_families-requires : goal.fill_families-requires
fill_families-requires g c = (
  search rules,
  (
    search rules,
    (
      order_below c.args.families.now c.args.order.now c.requires.ordered,
      showable_within g.row.C g.row.H g.row.G c.args.families.now c.requires.showable,
    ),
  ),
)

-- what stands in a vector whose elements were all written over
written : {X : Type 0} (new old want : List X) (len : ℕ) → length new ≡ len → new ≡ want
    → take len (new ++ drop (length new) old) ≡ want
written new old want len all is = take_at new (drop (length new) old) len all ∙ is

same : (P : Scraped → Type 0) (vector numbers : List ℕ) (families others : List FamilyShown) → vector ≡ numbers
    → families ≡ others
    → P (record { vector = numbers; families = others }) → P (record { vector = vector; families = families })
same P vector numbers families others e f here =
    subst (λ v. P (record { vector = v; families = families })) (sym e)
    (subst (λ x. P (record { vector = numbers; families = x })) (sym f) here)

pub new-requires : goal.new-requires
new-requires g c =
    same IsScrape _ _ _ _
    (written c.copy_from_slice.new.self c.args.self.vector.items c.args.snapshot.now.vector c.args.self.vector.len
    (c.copy_from_slice.ensures.len ∙ c.as_mut_slice.ensures.len) (c.copy_from_slice.ensures.after ∙ c.vector.ensures.numbers))
    (written c.fill_families.new.shown c.args.self.families.items _ c.args.self.families.len
    (c.fill_families.auto.shown ∙ c.deref_mut.ensures.len) c.fill_families.ensures)
    (is_scrape g.row.N g.row.C g.row.H g.row.G c.args.families.now c.args.order.now (as_answer c.args.snapshot.now)
    c.requires.slots c.requires.showable c.requires.ordered c.requires.whole)

pub returns : goal.returns
returns g c =
    let P : Scraped → Type 0 = IsShown g.row.C g.row.H c.args.families.now (as_answer c.args.snapshot.now) in
    subst P (sym c.new.ensures)
    (same P _ _ _ _
    (written c.copy_from_slice.new.self c.args.self.vector.items c.args.snapshot.now.vector c.args.self.vector.len
    (c.copy_from_slice.ensures.len ∙ c.as_mut_slice.ensures.len) (c.copy_from_slice.ensures.after ∙ c.vector.ensures.numbers))
    (written c.fill_families.new.shown c.args.self.families.items _ c.args.self.families.len
    (c.fill_families.auto.shown ∙ c.deref_mut.ensures.len) c.fill_families.ensures)
    (is_shown g.row.C g.row.H c.args.families.now c.args.order.now (as_answer c.args.snapshot.now) c.requires.ordered))

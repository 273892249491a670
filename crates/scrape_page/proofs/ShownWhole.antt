-- What a scrape of a page shows.
use Rattle.std.proofs.Common.{◌≡◌, ℕ, ◌*◌, ◌≤◌, List, length, refl, sym, subst, ◌∙◌}
use Rattle.std.specs.Prelude.{flat_map, zip}
use Rattle.std.specs.List.{AllZip}
use Rattle.std.specs.List.Sorted.{IsPermutation}
use Rattle.std.proofs.lemmas.List.Elements.{All-weaker}
use Rattle.std.proofs.lemmas.List.Sorted.{IsPermutation-trans}
use Rattle.std.proofs.lemmas.Slice.Zip.{AllZip-long}
use Rattle.metric_desc.specs.Desc.{Descriptor}
use Rattle.expo_text.specs.Scraped.{Family as FamilyShown, Scraped}
use Rattle.register_rule.specs.declared.view.Answer.{Answer}
use Rattle.snapshot_scan.specs.declared.contended.Contended.{Contended}
use Rattle.registry_state.specs.Kept.{RegistryView}
use Rattle.scrape_merge.specs.Frames.{FramesView, descs_of as descs_in}
use Rattle.scrape_merge.specs.Merged.{families_of, children_of, IsMergeable, IsMerged}
use Rattle.scrape_page.specs.Families.{PageFamily, descs_of}
use Rattle.scrape_page.specs.Shown.{shown_on}
use Rattle.scrape_page.specs.Kept.{IsHeldPage}
use Rattle.scrape_page.specs.Framed.{AreFrames}
use Rattle.scrape_page.specs.Scraping.{AreMade, BoardScrapes, ShowsPage}
use Rattle.scrape_page.proofs.Again.{SameFace, IsPartOf, same_made, parts_made}
use Rattle.scrape_page.proofs.Faces.{held_still}
use Rattle.scrape_page.proofs.Mergeable.{descs_moved, mergeable}
use Rattle.scrape_page.proofs.Named.{answers_of, newest_are, vectors_are, children_are}

-- frames of the families that are there
pub framed_as : (families families' : List PageFamily) (order order' : List ℕ) (frames : FramesView) → families' ≡ families
    → order' ≡ order → AreFrames families' order' frames.families → AreFrames families order frames.families
framed_as families families' order order' frames is_families is_order framed =
    subst (λ (l : List PageFamily). AreFrames l order frames.families) is_families
    (subst (λ (l : List ℕ). AreFrames families' l frames.families) is_order framed)

module _ {S : Type 0} (n c h g : ℕ) (recorded : S → List Answer) (quit : S → ℕ) (gave : S → S → Answer → Type 0)
    (gave_up : S → S → Contended → Type 0) (old new : List (RegistryView S)) (families : List PageFamily) (order : List ℕ)
    (held : IsHeldPage (record { boards = old; families = families }) order) (frames : FramesView)
    (framed : AreFrames families order frames.families) (parts : List Scraped)
    (made : AreMade (BoardScrapes n c h g recorded quit gave gave_up) old new parts) where
  same : AllZip SameFace old new
  same = same_made n c h g recorded quit gave gave_up old new parts made

  all : AllZip (IsPartOf n c h) new parts
  all = parts_made n c h g recorded quit gave gave_up old new parts made

  -- the boards have kept what a page keeps
  pub held_made : IsHeldPage (record { boards = new; families = families }) order
  held_made = held_still old new same families order held

  -- their scrapes can be merged
  pub can_merge : n * length old ≤ frames.numbers → IsMergeable frames parts
  can_merge numbers =
      mergeable new families order held_made frames framed n c h parts all
      (subst (λ m. n * m ≤ frames.numbers) (sym (AllZip-long SameFace old new same)) numbers)

  -- and show the page
  pub shows_page : (whole : Scraped) → IsMerged (descs_in frames.families) parts whole
      → ShowsPage n c h g recorded quit gave gave_up (record { boards = old; families = families })
      (record { boards = new; families = families }) whole
  shows_page whole merged = record {
    families = refl;
    parts = parts;
    each = made;
    merged = subst (λ (descs : List Descriptor). IsMerged descs parts whole) (sym merged.families) merged;
    shown = record {
      answers = answers_of n c h new parts all;
      newest = newest_are n c h new parts all;
      vector = merged.vector ∙ vectors_are n c h new parts all;
      families = subst (IsPermutation (descs_of families)) (sym merged.families)
          (descs_moved new families order held_made frames framed);
      children = All-weaker
          (λ (family : FamilyShown). IsPermutation (children_of family.desc.name (families_of parts)) family.children)
          (λ (family : FamilyShown). IsPermutation (flat_map (shown_on c h family.desc.name) (zip new (answers_of n c h new parts
          all)))
          family.children)
          (λ family moved.
          IsPermutation-trans (flat_map (shown_on c h family.desc.name) (zip new (answers_of n c h new parts all)))
          (children_of family.desc.name (families_of parts)) family.children
          (children_are n c h family.desc.name new parts all) moved)
          whole.families merged.children;
    };
  }

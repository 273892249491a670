use Rattle.std.proofs.Common.{◌≡◌, sym, ◌∙◌, ap, subst, ◌∷◌, [], ◌++◌, ◌-◌, ◌+◌, length, map, drop, rules, List, ℕ}
use Rattle.std.proofs.lemmas.List.{length-map, length_push}
use Rattle.snapshot_scan.specs.Snapshots.{Taken, as_answer}
use Rattle.registry_state.specs.Journal.{Scraped, within}
use Rattle.registry_state.specs.Merged.{merged, AreInOrder}
use Rattle.registry_state.specs.Merged.{change_of}
use Rattle.registry_state.proofs.Merging.{noted_scrape, noted_drop, merged_scrape, merged_within}
use Rattle.registry_state.proofs.journal.Journal.note_scrape.Given.{Over}
use Rattle.registry_state.proofs.journal.Journal.note_scrape.Goals as goal

-- all kept scrapes and the new one
abbrev all_of : (g : Over) (c : goal.After-keep g) → List (Taken × ℕ)
all_of g c = c.self.inside.kept.scrapes ++ (c.scan.new.out, length c.self.inside.notes.items) ∷ []

kept_is : (g : Over) (c : goal.After-keep g) → c.keep.new.self.scrapes ≡ drop (length (all_of g c) - c.args.window) (all_of g c)
kept_is g c =
    c.keep.ensures
    ∙ ap (λ l. drop (length l + 1 - c.args.window) (l ++ (c.scan.new.out, c.len-before.result) ∷ [])) c.make_room.ensures.same
    ∙ ap (λ n. drop (length c.self.inside.kept.scrapes + 1 - c.args.window)
    (c.self.inside.kept.scrapes ++ (c.scan.new.out, n) ∷ [])) (search rules)
    ∙ ap (λ n. drop (n - c.args.window) (c.self.inside.kept.scrapes ++ (c.scan.new.out, length c.self.inside.notes.items) ∷ []))
    (sym (length_push c.self.inside.kept.scrapes (c.scan.new.out, length c.self.inside.notes.items)))

pub invariant_of-self-2 : goal.invariant_of-self-2
invariant_of-self-2 g c =
    let P : List (Taken × ℕ) → Type 0 = λ kept. AreInOrder (length c.self.inside.notes.items) 0 kept in
    (c.self.invariant.0, subst P (sym (kept_is g c)) (noted_drop _ 0 _ (all_of g c) (noted_scrape _ 0 _ _ c.self.invariant.1)))

pub returns-clause-scraped : goal.returns-clause-scraped
returns-clause-scraped g c =
    let cs = map change_of c.self.inside.notes.items in
    let e : length c.self.inside.notes.items ≡ length cs = sym (length-map c.self.inside.notes.items change_of) in
    let noted : AreInOrder (length cs) 0 c.self.inside.kept.scrapes = subst (λ n. AreInOrder n 0 c.self.inside.kept.scrapes) e
    c.self.invariant.1 in
    let all : List (Taken × ℕ) = c.self.inside.kept.scrapes ++ (c.scan.new.out, length cs) ∷ [] in (
      as_answer c.scan.new.out,
      search rules,
      search rules,
      ap (λ kept. merged cs 0 kept) (kept_is g c)
          ∙ ap (λ n. merged cs 0 (drop (length (c.self.inside.kept.scrapes ++ (c.scan.new.out, n) ∷ []) - c.args.window)
          (c.self.inside.kept.scrapes ++ (c.scan.new.out, n) ∷ []))) e
          ∙ merged_within cs c.args.window all (noted_scrape (length cs) 0 c.self.inside.kept.scrapes c.scan.new.out noted)
          ∙ ap (within c.args.window) (merged_scrape cs 0 c.self.inside.kept.scrapes c.scan.new.out noted)
          ∙ ap (λ journal. within c.args.window (journal ++ Scraped (as_answer c.scan.new.out) ∷ [])) c.self.view_is,
    )

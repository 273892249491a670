use Rattle.std.proofs.Common.{◌≡◌, ℕ, Result, IfOk, IfErr, subst, rules}
use Rattle.std.proofs.lemmas.Fn.{always_returns_same}
use Rattle.std.specs.List.{HoldsAt}
use Rattle.std.specs.List.Sorted.{IsBinarySearchResult}
use Rattle.std.specs.Ordering.{nat_cmp}
use Rattle.std.specs.Cmp.Lexicographic.{slice_cmp}
use Rattle.scrape_merge.specs.declared.frames.Frame.{Frame as Held}
use Rattle.scrape_merge.specs.Held.{name_of}
use Rattle.scrape_merge.proofs.Places.{found, named}
use Rattle.scrape_merge.proofs.putting.place_of.Goals as goal

pub unreachable-requires : goal.unreachable-requires
unreachable-requires c =
    let position : IsBinarySearchResult (λ (held : Held). slice_cmp nat_cmp (name_of held) c.args.name.now)
    c.args.frames.now c.binary_search_by.result =
    c.binary_search_by.ensures.position (λ (held : Held). slice_cmp nat_cmp (name_of held) c.args.name.now)
    (always_returns_same _ _ _ (λ a r f called. (search rules, search rules))) in
    subst (λ (result : Result ℕ ℕ). IfErr result (λ (place : ℕ). ⊥)) c.in_default.is
    (found name_of c.args.frames.now c.requires.ordered c.args.name.now c.binary_search_by.result c.requires.known position)

pub returns-clause-named : goal.returns-clause-named
returns-clause-named c =
    let position : IsBinarySearchResult (λ (held : Held). slice_cmp nat_cmp (name_of held) c.args.name.now)
    c.args.frames.now c.binary_search_by.result =
    c.binary_search_by.ensures.position (λ (held : Held). slice_cmp nat_cmp (name_of held) c.args.name.now)
    (always_returns_same _ _ _ (λ a r f called. (search rules, search rules))) in
    subst (λ (result : Result ℕ ℕ).
    IfOk result (λ (place : ℕ). HoldsAt (λ (held : Held). name_of held ≡ c.args.name.now) c.args.frames.now place)) c.in-Ok.is
    (named name_of c.args.frames.now c.requires.ordered c.args.name.now c.binary_search_by.result position)

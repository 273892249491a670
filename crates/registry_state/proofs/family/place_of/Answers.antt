use Rattle.std.proofs.Common.{rules}
use Rattle.std.proofs.lemmas.Fn.{always_returns_same}
use Rattle.std.specs.Ordering.{nat_cmp}
use Rattle.std.specs.Cmp.Lexicographic.{slice_cmp}
use Rattle.std.specs.List.Sorted.{IsBinarySearchResult}
use Rattle.registry_state.specs.Replay.{Child}
use Rattle.registry_state.proofs.Placing.{found_at, place_at, new_at}
use Rattle.registry_state.proofs.family.place_of.Goals as goal

pub returns : goal.returns
returns c =
    let position : IsBinarySearchResult (λ (child : Child). slice_cmp (slice_cmp nat_cmp) child.values c.args.values.now)
    c.args.children.now c.binary_search_by.result =
    c.binary_search_by.ensures.position (λ (child : Child). slice_cmp (slice_cmp nat_cmp) child.values c.args.values.now)
    (always_returns_same _ _ _ (λ a r f called. (search rules, search rules))) in
    record {
      found = found_at c.args.children.now c.args.values.now c.binary_search_by.result c.requires.ordered (search rules) position;
      place = place_at c.args.children.now c.args.values.now c.binary_search_by.result c.requires.ordered (search rules) position;
      new = new_at c.args.children.now c.args.values.now c.binary_search_by.result
          (place_at c.args.children.now c.args.values.now c.binary_search_by.result c.requires.ordered (search rules) position);
    }

use Rattle.std.proofs.Common.{rules, arith, ◌≡◌, List, ℕ, ◌<◌, length, get_or, ap, ◌∙◌}
use Rattle.std.proofs.lemmas.List.{get_or_read}
use Rattle.expo_text.specs.Scraped.{Family as FamilyShown}
use Rattle.registry_state.specs.Replay.{Family}
use Rattle.registry_state.specs.Held.{no_family, family_at}
use Rattle.registry_state.specs.Shown.{family_shown}
use Rattle.registry_state.specs.Filled.{family_blank}
use Rattle.registry_state.proofs.Lists.{filled_more}
use Rattle.registry_state.proofs.shown.fill_families.Goals as goal

pub loop-place-preserved : goal.loop-place-preserved
loop-place-preserved g c =
    let totals : List ℕ = c.args.snapshot.now.totals in
    let families : List Family = c.args.families.now in
    let number : ℕ = get_or c.args.order.now c.loop-place.place 0 in
    let shown : ℕ → FamilyShown = λ i. family_shown g.row.C g.row.H totals (family_at families i) in
    let blank : ℕ → FamilyShown = λ i. family_blank (family_at families i) in
    let lt : number < length families = c.requires.order c.loop-place.place 0 (omega arith) in
    let family : c.index-families-family.result ≡ family_at families number =
    get_or_read families number c.index-families-family.result lt (search rules) no_family in
    let written : c.fill_family.new.shown ≡ shown number = c.fill_family.ensures
    ∙ ap (family_shown g.row.C g.row.H totals) family in
    filled_more shown blank c.args.order.now c.loop-place.shown c.loop-place.place number (omega arith) c.loop-place.invariant
    (search rules) c.fill_family.new.shown written

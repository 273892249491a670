-- One more worker is lent.
use Rattle.std.proofs.Common.{◌≡◌, ⊎_elim, ℕ, ◌+◌, List, [], ◌∷◌, ◌++◌, length, map, set, sym, refl, ap, ◌∙◌, subst, arith}
use mathlib.Core.Option.{some, some-injective}
use lib.ListN.{get_elem?}
use Rattle.register_rule.specs.declared.view.Member.{Member}
use Rattle.register_rule.specs.Members.{raised, greatest, met}
use Rattle.register_rule.specs.declared.view.ScanLog.{ScanLog}
use Rattle.snapshot_scan.specs.declared.reader.Reader.{Reader}
use Rattle.snapshot_scan.specs.Readers.{members_with}
use Rattle.snapshot_scan.proofs.Standing.{sees_then}
use Rattle.snapshot_update.specs.declared.worker.Worker.{Worker}
use Rattle.snapshot_update.specs.Workers.{index_of, member_of}
use Rattle.snapshot_update.specs.Workers.{IsLentAs}
use Rattle.snapshot_update.proofs.Lending.{lent_met, met_at, last_mapped}
use Rattle.snapshot_scan.specs.Lent.{HasSeenMore}
use Rattle.chain_law.specs.Lent.{IsLentFrom, AreLentFrom}
use Rattle.chain_law.proofs.Places.{from_set}

length_met : (ms ws : List Member) (f : Member → Member) → length (map f (ms ++ ws)) ≡ length ms + length ws
length_met [] [] f = omega arith
length_met [] (w ∷ ws) f = let e = length_met [] ws f in omega (arith, e)
length_met (m ∷ ms) ws f = let e = length_met ms ws f in omega (arith, e)

module _ {N C H G : ℕ} (vs ws : List (Worker N C H G)) (k place : ℕ) (x y : Worker N C H G) (r r' : Reader N C H G)
    (here : get_elem? vs k ≡ some x) (full : length (members_with r) ≡ place + k)
    (joins : members_with r' ≡ met (members_with r ++ member_of x ∷ []))
    (index : index_of y ≡ index_of x)
    (lent : IsLentAs (raised (greatest (members_with r ++ member_of x ∷ [])) (member_of x)) y r') where
  pub long_more : length (members_with r') ≡ place + (k + 1)
  long_more = let e = length_met (members_with r) (member_of x ∷ []) (raised (greatest (members_with r ++ member_of x ∷ []))) in
      let d = ap (λ (l : List Member). length l) joins in omega (arith, e, d, full)

  pub lent_more : AreLentFrom place k vs ws r → AreLentFrom place (k + 1) vs (set ws k y) r'
  lent_more done p v w below its now = ⊎_elim
      (λ h. let same : x ≡ v = some-injective x v (sym here ∙ (ap (get_elem? vs) (sym h.0) ∙ its)) in
      let at : length (members_with r) ≡ place + p = full ∙ ap (λ (q : ℕ). place + q) (sym h.0) in
      subst (λ (u : Worker N C H G). IsLentFrom (place + p) v u r') h.1
      (subst (λ (u : Worker N C H G). IsLentFrom (place + p) u y r') same (record {
        index = index;
        member = raised (greatest (members_with r ++ member_of x ∷ [])) (member_of x);
        at = ap (λ (l : List Member). get_elem? l (place + p)) joins
            ∙ (ap (get_elem? (met (members_with r ++ member_of x ∷ []))) (sym at)
            ∙ last_mapped (raised (greatest (members_with r ++ member_of x ∷ []))) (members_with r) (member_of x));
        made = refl;
        lent = lent;
      })))
      (λ h. let d = done p v w (let n = h.0 in omega (arith, below, n)) its h.1 in record {
        index = d.index;
        member = raised (greatest (members_with r ++ member_of x ∷ [])) d.member;
        at = ap (λ (l : List Member). get_elem? l (place + p)) joins ∙ met_at (members_with r) (member_of x ∷ [])
            (place + p) d.member d.at;
        made = d.made;
        lent = lent_met w r r' d.member d.lent (member_of x ∷ []) joins;
      })
      (from_set ws k p y w now)

-- what has seen more than what has seen more
pub seen_then : (a b c : ScanLog) → HasSeenMore a b → HasSeenMore b c → HasSeenMore a c
seen_then a b c f g = record {
  only = g.only ∙ ap (λ (x : ScanLog). record x { seen = c.seen }) f.only;
  more = sees_then a.seen b.seen c.seen f.more g.more;
}

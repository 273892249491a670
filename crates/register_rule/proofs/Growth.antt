-- What publishes of others, and members that meet, leave true of a scan.
use Rattle.std.proofs.Common.{◌≡◌, ℕ, suc, ◌+◌, ◌<◌, ◌≤◌, inl, inr, ⊎_elim, List, [], ◌∷◌, ◌++◌, length, map, take, slice_set}
use Rattle.std.proofs.Common.{sym, refl, ap, ◌∙◌, subst, arith, length-set}
use mathlib.Core.Option.{some}
use lib.ListN.{get_elem?}
use Rattle.atomic_table.proofs.Lists.{at_set}
use Rattle.ledger_core.specs.declared.op.Op.{Op}
use Rattle.register_rule.specs.declared.view.PublishEntry.{PublishEntry}
use Rattle.register_rule.specs.declared.view.Look.{Look}
use Rattle.register_rule.specs.declared.view.Version.{Version}
use Rattle.register_rule.specs.declared.view.Answer.{Answer}
use Rattle.register_rule.specs.declared.view.Asked.{Asked}
use Rattle.register_rule.specs.declared.view.ScanLog.{ScanLog}
use Rattle.register_rule.specs.History.{IsCut, Below}
use Rattle.register_rule.specs.Sums.{word_after, vector_total}
use Rattle.register_rule.specs.Shown.{Shows}
use Rattle.register_rule.specs.SoundScans.{opened_at, AtMost, AreLoads, IsStale, IsLook, HasStale, IsVersion, IsOneMoment}
use Rattle.register_rule.specs.SoundScans.{IsAsked}
use Rattle.register_rule.specs.SoundScans.{IsSound}
use Rattle.register_rule.specs.ScanSteps.{upper}
use Rattle.register_rule.proofs.Moments.{past_grows}
use Rattle.register_rule.proofs.Upper.{length_upper, upper_from, upper_of}

-- each worker has published more, or nothing
abbrev pub Grows : (made made' : ℕ → List PublishEntry) → Type 0
Grows made made' = (j : ℕ) → (length (made j) ≤ length (made' j))
    × ((q : ℕ) → q ≤ length (made j) → take q (made' j) ≡ take q (made j))

pub below_upper : (v s u : List ℕ) → length s ≡ length u → Below v s → Below v (upper s u)
below_upper v s u len low i x z ex ez = let t = upper_of s u i z len ez in let p = low i x t.0 ex t.2 in let q = t.4 in
    omega arith

module _ (n w : ℕ) (adds : List Op → ℕ → ℕ) where
  module _ (made made' : ℕ → List PublishEntry) (more : Grows made made') where
    low_grows : (v : List ℕ) → AtMost n w adds made v → AtMost n w adds made' v
    low_grows v low i s e = let up = (more i).0 in let le = low i s e in omega arith

    loads_grow : (xs : List (ℕ × ℕ)) → AreLoads n w adds made xs → AreLoads n w adds made' xs
    loads_grow xs ok q x e = let up = (more x.0).0 in let h = (ok q x e).1 in ((ok q x e).0, omega arith)

    moved_grows : (l : Look) → IsStale n w adds made l → IsStale n w adds made' l
    moved_grows l t = let up = (more l.place).0 in let h = t.1 in (t.0, omega arith)

    look_grows : (from : ℕ) (l : Look) → IsLook n w adds made from l → IsLook n w adds made' from l
    look_grows from l ok = let up = (more l.place).0 in record {
      inside = ok.inside;
      old = let h = ok.old in omega arith;
      risen = ⊎_elim (λ none. inl none) (λ t. let h = t.1 in inr (t.0, omega arith)) ok.risen;
      right = λ k x e. ⊎_elim
          (λ (t : Shows n w adds (take l.number (made l.place)) (from + k) x). inl
          (subst (λ (z : List PublishEntry). Shows n w adds z (from + k) x) (sym ((more l.place).1 l.number ok.old)) t))
          (λ (t : IsStale n w adds made l). inr (moved_grows l t))
          (ok.right k x e);
    }

    doomed_grows : (ls : List Look) → HasStale n w adds made ls → HasStale n w adds made' ls
    doomed_grows ls d = (d.0, d.1, d.2, moved_grows d.1 d.3)

    version_grows : (i : ℕ) (v : Version) → IsVersion n w adds made i v → IsVersion n w adds made' i v
    version_grows i v ok = record {
      old = let up = (more i).0 in let h = ok.old in omega arith;
      wide = ok.wide;
      row = λ k x e. ok.row k x e ∙ ap (λ (z : List PublishEntry). word_after adds z k) (sym ((more i).1 v.number ok.old));
    }

    asked_grows : (e : Asked) → IsAsked n w adds made e → IsAsked n w adds made' e
    asked_grows e ok = record {
      inside = ok.inside;
      risen = ok.risen;
      old = let up = (more e.worker).0 in let h = ok.old in omega arith;
      shown = λ same k x at. subst (λ (z : List PublishEntry). Shows n w adds z (w + k) x)
          (sym ((more e.worker).1 e.number (let h = ok.old in let r = ok.risen in omega arith))) (ok.shown same k x at);
    }

    sums_grow : (i : ℕ) (v : List ℕ) (k : ℕ) → ((q s : ℕ) → get_elem? v q ≡ some s → s ≤ length (made (i + q)))
        → vector_total adds made' i v k ≡ vector_total adds made i v k
    sums_grow i [] k low = refl
    sums_grow i (s ∷ v) k low =
        let e : i + 0 ≡ i = omega arith in
        let le : s ≤ length (made i) = subst (λ (z : ℕ). s ≤ length (made z)) e (low 0 s refl) in
        let here : take s (made' i) ≡ take s (made i) = (more i).1 s le in
        let rest = sums_grow (suc i) v k (λ q x at. let e' : i + suc q ≡ suc i + q = omega arith in
        subst (λ (z : ℕ). x ≤ length (made z)) e' (low (suc q) x at)) in
        λ c. word_after adds (here c) k + rest c

  pub answer_grows : (made made' : ℕ → List PublishEntry) (h more : List ℕ) (a : Answer) → Grows made made'
      → IsOneMoment n w adds made h a → IsOneMoment n w adds made' (h ++ more) a
  answer_grows made made' h more a grows ok = record {
    low = low_grows made made' grows a.vector ok.low;
    moment = past_grows n h more a.vector ok.moment;
    totals = λ k lt. ok.totals k lt
        ∙ ap some (sym (sums_grow made made' grows 0 a.vector k (λ q s at. let e : q ≡ 0 + q = omega arith in
        subst (λ (z : ℕ). s ≤ length (made z)) e (ok.low q s at))));
  }

  pub scan_grows : (made made' : ℕ → List PublishEntry) (h more : List ℕ) (c : ScanLog) → Grows made made'
      → IsSound n w adds made h c
      → IsSound n w adds made' (h ++ more) c
  scan_grows made made' h more c grows ok = record {
    opened = loads_grow made made' grows c.opened ok.opened;
    confirmed = loads_grow made made' grows c.confirmed ok.confirmed;
    ordered = ok.ordered;
    asked = λ q e at. asked_grows made made' grows e (ok.asked q e at);
    recorded = λ q a e. (answer_grows made made' h more a grows (ok.recorded q a e).0, (ok.recorded q a e).1);
    seen = low_grows made made' grows c.seen ok.seen;
    seen_wide = ok.seen_wide;
    remembered = λ i v e. version_grows made made' grows i v (ok.remembered i v e);
    remembered_wide = ok.remembered_wide;
    looks = λ q l e. (look_grows made made' grows 0 l (ok.looks q l e).0, (ok.looks q l e).1);
    asks = λ q l e. look_grows made made' grows w l (ok.asks q l e);
    whole = λ all. ⊎_elim (λ (d : HasStale n w adds made c.trying.looks). inl (doomed_grows made made' grows c.trying.looks d))
        (λ (p : IsCut n h (map opened_at c.trying.looks)). inr (past_grows n h more _ p)) (ok.whole all);
  }

  module _ (made : ℕ → List PublishEntry) (h : List ℕ) where
    -- worker i at its publish has seen its own number and knows its new row
    pub scan_published : (i : ℕ) (v : Version) (c : ScanLog) → i < n → IsVersion n w adds made i v → v.number ≡ length (made i)
        → (len : ℕ) → len ≡ length (made i)
        → ((y : ℕ) → get_elem? c.seen i ≡ some y → y ≤ len) → IsSound n w adds made h c
        → IsSound n w adds made h (record c { seen = slice_set c.seen i len; remembered = slice_set c.remembered i v })
    scan_published i v c inside version new len is most ok = record {
      opened = ok.opened;
      confirmed = ok.confirmed;
      ordered = ok.ordered;
      asked = ok.asked;
      recorded = λ q a e. (
        (ok.recorded q a e).0,
        λ p x z ex ez. ⊎_elim
            (λ t. let le : x ≤ length (made i) = subst (λ (y : ℕ). x ≤ length (made y)) t.0 ((ok.recorded q a e).0.low p x ex) in
            omega (arith, t.1, is, le))
            (λ t. (ok.recorded q a e).1 p x z ex t.1)
            (at_set c.seen i p len z ez),
      );
      seen = λ p s e. ⊎_elim
          (λ t. subst (λ (y : ℕ). s ≤ length (made y)) (sym t.0) (omega (arith, t.1, is)))
          (λ t. ok.seen p s t.1)
          (at_set c.seen i p len s e);
      seen_wide = length-set c.seen i len ∙ ok.seen_wide;
      remembered = λ p u e. ⊎_elim
          (λ t. subst (λ (z : ℕ × Version). IsVersion n w adds made z.0 z.1) (λ k. (sym t.0 k, t.1 k)) version)
          (λ t. ok.remembered p u t.1)
          (at_set c.remembered i p v u e);
      remembered_wide = length-set c.remembered i v ∙ ok.remembered_wide;
      looks = ok.looks;
      asks = ok.asks;
      whole = ok.whole;
    }

    -- members that meet
    pub scan_raised : (c : ScanLog) (v : List ℕ) → AtMost n w adds made v → length v ≡ n → IsSound n w adds made h c
        → IsSound n w adds made h (record c { seen = upper c.seen v })
    scan_raised c v low wide ok = let same : length c.seen ≡ length v = ok.seen_wide ∙ sym wide in record {
      opened = ok.opened;
      confirmed = ok.confirmed;
      ordered = ok.ordered;
      asked = ok.asked;
      recorded = λ q a e. ((ok.recorded q a e).0, below_upper a.vector c.seen v same (ok.recorded q a e).1);
      seen = λ i s e. ⊎_elim (ok.seen i s) (low i s) (upper_from c.seen v i s e);
      seen_wide = length_upper c.seen v (omega (arith, same)) ∙ ok.seen_wide;
      remembered = ok.remembered;
      remembered_wide = ok.remembered_wide;
      looks = ok.looks;
      asks = ok.asks;
      whole = ok.whole;
    }

  -- what is seen at the own place is the own number; what is seen later is at least that, and not above it
  pub own_rises : (made : ℕ → List PublishEntry) (u v : List ℕ) (i : ℕ) → AtMost n w adds made v
      → ((x : ℕ) → get_elem? u i ≡ some x → (z : ℕ) × (get_elem? v i ≡ some z) × (x ≤ z)) → get_elem? u i ≡ some (length (made i))
      → get_elem? v i ≡ some (length (made i))
  own_rises made u v i low rises e = let t = rises (length (made i)) e in let up = t.2 in let le = low i t.0 t.1 in
      let same : t.0 ≡ length (made i) = omega arith in t.1 ∙ ap some same

-- What the machine's invariant says of a turn that has begun, and of what a worker lends.
use Rattle.std.proofs.Common.{◌≡◌, ◌⊎◌, inl, inr, ⊎_elim, ℕ, zero, suc, ◌+◌, ◌-◌, ◌<◌, ◌≤◌, Option, Some, None, List, length, sym}
use Rattle.std.proofs.Common.{refl, ap, ◌∙◌, subst, arith, get_or}
use mathlib.Core.Logic.{dite}
use mathlib.Core.Option.{some}
use native.Mathlib.Decide.{ℕ_discrete, dec_le}
use lib.ListN.{get_elem?}
use Rattle.std.specs.Prelude.{slice_get}
use Rattle.std.proofs.lemmas.Option.{slice_get-get_or}
use Rattle.snapshot_core.specs.declared.event.Event.{Event}
use Rattle.snapshot_core.specs.declared.event.Event.TheVariants.{Begin, Step, Torn}
use Rattle.snapshot_core.specs.declared.next.Next.{Next}
use Rattle.snapshot_core.specs.declared.next.Next.TheVariants.{First, Second, Ask, Direct, Lent, GaveUp}
use Rattle.snapshot_core.specs.declared.actor.Phase.{Phase}
use Rattle.snapshot_core.specs.declared.actor.Phase.TheVariants.{Rest, Scan, Ready}
use Rattle.snapshot_core.specs.History.{Published, number_at}
use Rattle.snapshot_core.specs.Turns.{Answered, IsOpen, IsTurn, BeginsAt, EndsAt, own_reads}
use Rattle.snapshot_core.specs.Faithful.{last_view, lent_at}
use Rattle.snapshot_core.specs.Machine.{Act, World, place_in, idle_of}
use Rattle.snapshot_core.proofs.Unique.{IsMissingChild}
use Rattle.snapshot_core.proofs.Calm.{Scans}
use Rattle.snapshot_core.proofs.Turns.{open_one, open_after, open_before, turn_of}
use Rattle.snapshot_core.proofs.Lending.{NoPublish, NoAnswer, Rising, at_publish, at_answer, number_quiet, number_now, lent_quiet}
use Rattle.snapshot_core.proofs.Lending.{lent_now, view_quiet, view_now, find, number_calm}
use Rattle.snapshot_core.proofs.Justify.{J, ActOk, PublishOk}
use Rattle.snapshot_core.proofs.Past.{number_first}

wanted_by : (next : Next) (p : ℕ) → place_in next ≡ Some p → IsMissingChild next
wanted_by (First q) p e = tt
wanted_by (Second q) p e = tt
wanted_by (Ask q) p e = tt
wanted_by Direct p e = absurd (cc)
wanted_by (Lent q) p e = absurd (cc)
wanted_by (GaveUp x y z) p e = absurd (cc)

module _ (c h g n : ℕ) (es : List Event) (ps : List Published) (zs : List Answered) (worlds : ℕ → World)
    (ok : (k : ℕ) → k ≤ length es → J c h g n es ps zs k (worlds k)) where
  -- a turn that is open is open still, or it was answered
  abbrev pub IsAnswered : (actor b k : ℕ) → Type 0
  IsAnswered actor b k = (q : ℕ) × (a : Answered) × (get_elem? zs q ≡ some a) × (a.actor ≡ actor) × (a.begin ≡ b) × (a.end < k)

  -- a turn that ends was answered
  ended : (actor b e : ℕ) → suc e ≤ length es → IsOpen n c h g es ps zs e actor b → EndsAt n c h g es ps zs e actor
      → IsAnswered actor b (suc e)
  ended actor b e le o ends = ⊎_elim
      (λ (t : (actor < n) × ((q : ℕ) × (p : Published) × (get_elem? ps q ≡ some p) × (p.worker ≡ actor) × (p.at ≡ e))).
      let p : Published = t.1.1 in let at = t.1.4 in
      let k = (ok (suc e) le).published t.1.0 p t.1.2 (omega (arith, at)) in
      let same : k.answer.begin ≡ b = open_one n c h g es ps zs e actor k.answer.begin b
      (subst (λ (z : ℕ × ℕ). IsOpen n c h g es ps zs z.0 z.1 k.answer.begin) (λ i. (t.1.4 i, t.1.3 i)) k.is_open) o in
      let after = k.first.after in
      (k.place, k.answer, k.is_answer, k.of_worker ∙ t.1.3, same, omega (arith, after, at)))
      (λ (t : (n ≤ actor) × ((q : ℕ) × (a : Answered) × (get_elem? zs q ≡ some a) × (a.actor ≡ actor) × (a.end ≡ e))).
      let a : Answered = t.1.1 in let at = t.1.4 in
      let k = (ok (suc e) le).answer t.1.0 a t.1.2 (omega (arith, at)) in
      let same : a.begin ≡ b = open_one n c h g es ps zs e actor a.begin b
      (subst (λ (z : ℕ × ℕ). IsOpen n c h g es ps zs z.0 z.1 a.begin) (λ i. (t.1.4 i, t.1.3 i)) k.is_open) o in
      (t.1.0, a, t.1.2, t.1.3, same, omega (arith, at)))
      ends

  -- whether what the actor has begun ends at e
  ends_or_not : (e actor : ℕ) → EndsAt n c h g es ps zs e actor ⊎ (¬ EndsAt n c h g es ps zs e actor)
  ends_or_not e actor = dite (dec_le (suc actor) n)
      (λ worker. ⊎_elim (λ t. inl (inl (omega arith, t)))
      (λ none. inr (λ ends. ⊎_elim (λ t. none t.1.0 t.1.1 t.1.2 t.1.3 t.1.4) (λ t. let u = t.0 in omega arith) ends))
      (find (λ (p : Published). p.worker) at_publish ps actor e))
      (λ reader. ⊎_elim (λ t. inl (inr (omega arith, t)))
      (λ none. inr (λ ends. ⊎_elim (λ t. let u = t.0 in omega arith) (λ t. none t.1.0 t.1.1 t.1.2 t.1.3 t.1.4) ends))
      (find (λ (a : Answered). a.actor) at_answer zs actor e))

  open_still : (actor b d : ℕ) → b + suc d ≤ length es → IsTurn n c h g es ps zs actor b
      → IsOpen n c h g es ps zs (b + suc d) actor b ⊎ IsAnswered actor b (b + suc d)
  open_still actor b zero le turn = let z : suc b ≡ b + 1 = omega arith in
      inl (subst (λ (y : ℕ). IsOpen n c h g es ps zs y actor b) z turn)
  open_still actor b (suc d) le turn =
      let z : suc (b + suc d) ≡ b + suc (suc d) = omega arith in
      subst (λ (y : ℕ). IsOpen n c h g es ps zs y actor b ⊎ IsAnswered actor b y) z (⊎_elim
      (λ (o : IsOpen n c h g es ps zs (b + suc d) actor b). ⊎_elim
      (λ (ends : EndsAt n c h g es ps zs (b + suc d) actor). inr (ended actor b (b + suc d) (omega arith) o ends))
      (λ (none : ¬ EndsAt n c h g es ps zs (b + suc d) actor). inl (inl (o, none)))
      (ends_or_not (b + suc d) actor))
      (λ (t : IsAnswered actor b (b + suc d)). let lt = t.5 in inr (t.0, t.1, t.2, t.3, t.4, omega arith))
      (open_still actor b d (omega arith) turn))

  -- who may begin is an actor
  is_actor : (actor b : ℕ) → IsTurn n c h g es ps zs actor b → actor < n + 4
  is_actor actor b turn = ⊎_elim (λ t. let l = open_after n c h g es ps zs b actor b t.0 in absurd (omega arith))
      (λ t. by_event (slice_get es b) t.1) turn
    where
      by_event : (o : Option Event) → BeginsAt n c h g es ps zs b actor o → actor < n + 4
      by_event (Some (Begin who ops)) begins = ⊎_elim (λ u. let l = u.0 in omega arith) (λ u. u.1) begins.1
      by_event (Some (Step who)) begins = absurd begins
      by_event (Some (Torn who)) begins = absurd begins
      by_event None begins = absurd begins

  -- a turn goes on with all its own reads told, or it was answered
  pub progress : (actor b m : ℕ) → IsTurn n c h g es ps zs actor b → b + m < length es
      → Scans n ps zs (own_reads es actor (suc b) m) ⊎ ((q : ℕ) × (a : Answered) × (get_elem? zs q ≡ some a) × (a.actor ≡ actor)
      × (a.begin ≡ b) × (a.end ≤ b + m))
  progress actor b m turn inside = ⊎_elim
      (λ (o : IsOpen n c h g es ps zs (b + suc m) actor b).
      let j = ok (b + suc m) (omega arith) in
      let a = get_or (worlds (b + suc m)).actors actor (idle_of 0 n) in
      go a a.phase o (j.actor actor a (slice_get-get_or (worlds (b + suc m)).actors actor (idle_of 0 n) (let l = j.actors in
      let i = is_actor actor b turn in omega (arith, l, i)))))
      (λ (t : IsAnswered actor b (b + suc m)). let lt = t.5 in inr (t.0, t.1, t.2, t.3, t.4, omega arith))
      (open_still actor b m (omega arith) turn)
    where
      go : (a : Act) (x : Phase) → IsOpen n c h g es ps zs (b + suc m) actor b → ActOk c h g n es ps zs (b + suc m) actor a x
          → Scans n ps zs (own_reads es actor (suc b) m)
          ⊎ ((q : ℕ) × (a : Answered) × (get_elem? zs q ≡ some a) × (a.actor ≡ actor) × (a.begin ≡ b) × (a.end ≤ b + m))
      go a Rest o closed = absurd (closed b o)
      go a Scan o s =
          let same : a.begin ≡ b = open_one n c h g es ps zs (b + suc m) actor a.begin b s.is_open o in
          let few = s.sized.few in let wide = s.wide in
          let z : (b + suc m) - suc b ≡ m = omega arith in
          inl (record {
            scan = a.scan;
            size = s.wide;
            few = omega (arith, few, wide);
            wanted = wanted_by a.scan.next s.goes.0 s.goes.1;
            told_reads = s.reads;
            told = s.told;
            same = s.all_own ∙ (ap (λ (y : ℕ). own_reads es actor (suc y) ((b + suc m) - suc y)) same
                ∙ ap (own_reads es actor (suc b)) z);
            meets = s.meets;
          })
      go a Ready o r =
          let same : a.begin ≡ b = open_one n c h g es ps zs (b + suc m) actor a.begin b r.is_open o in
          let over = r.over in inr (r.place, r.answer, r.is_answer, r.of_actor, r.of_begin ∙ same, omega (arith, over))

  module _ (rise_p : Rising at_publish ps) (rise_z : Rising at_answer zs) (before : (q : ℕ) (p : Published)
      → get_elem? ps q ≡ some p → p.at < length es) where
    last : J c h g n es ps zs (length es) (worlds (length es))
    last = ok (length es) (omega arith)

    of_publish : (q : ℕ) (p : Published) → get_elem? ps q ≡ some p → PublishOk c h g n es ps zs p
    of_publish q p is = last.published q p is (before q p is)

    -- a worker publishes nothing where its turn begins
    no_publish_begin : (i b k : ℕ) → IsOpen n c h g es ps zs k i b → NoPublish ps b i
    no_publish_begin i b k o q p is at of =
        let u = of_publish q p is in
        let step : slice_get es b ≡ Some (Step i) = ap (slice_get es) (sym at)
        ∙ (u.first.step ∙ ap (λ (z : ℕ). Some (Step z)) (u.of_worker ∙ of)) in
        ⊎_elim (λ t. let l = open_after n c h g es ps zs b i b t.0 in omega arith) (λ t. begins (slice_get es b) step t.1)
        (turn_of n c h g es ps zs k i b o)
      where
        begins : (x : Option Event) → x ≡ Some (Step i) → BeginsAt n c h g es ps zs b i x → ⊥
        begins x e t = subst (BeginsAt n c h g es ps zs b i) e t

    -- nor while it is open
    no_publish_in : (i b k e : ℕ) → i < n → IsOpen n c h g es ps zs k i b → b ≤ e → e < k → NoPublish ps e i
    no_publish_in i b k e worker o le lt = dite (ℕ_discrete b e)
        (λ same. subst (λ (x : ℕ). NoPublish ps x i) same (no_publish_begin i b k o))
        (λ other. ⊎_elim (λ t q p is at of. t.1 (inl (worker, (q, p, is, of, at)))) (λ t. absurd (other t.0))
        (open_before n c h g es ps zs k (suc e) i b o (omega arith) lt))

    -- after its answer a worker has no other before its publish
    view_stays : (i top r : ℕ) (a : Answered) → get_elem? zs r ≡ some a → a.actor ≡ i → a.begin < a.end → top ≤ length es
        → IsOpen n c h g es ps zs top i a.begin → (d : ℕ) → suc a.end + d ≤ top → last_view zs (suc a.end + d) i None ≡ a.view
    view_stays i top r a is of order within o zero le = let z : suc a.end + 0 ≡ suc a.end = omega arith in
        ap (λ (y : ℕ). last_view zs y i None) z ∙ view_now zs a.end i r a None rise_z is refl of
    view_stays i top r a is of order within o (suc d) le =
        let z : suc a.end + suc d ≡ suc (suc a.end + d) = omega arith in
        ap (λ (y : ℕ). last_view zs y i None) z
        ∙ (view_quiet zs (suc a.end + d) i None none ∙ view_stays i top r a is of order within o d (omega arith))
      where
        none : NoAnswer zs (suc a.end + d) i
        none q x at end actor =
            let e : ℕ = suc a.end + d in
            let lt : e < top = omega (arith, le) in
            let k = last.answer q x at (omega (arith, end, lt, within)) in
            let here : IsOpen n c h g es ps zs e i a.begin = open_before n c h g es ps zs top e i a.begin o (omega (arith, order))
            (omega (arith, lt)) in
            let same : x.begin ≡ a.begin = open_one n c h g es ps zs e i x.begin a.begin
            (subst (λ (z : ℕ × ℕ). IsOpen n c h g es ps zs z.0 z.1 x.begin) (λ c. (end c, actor c)) k.is_open) here in
            let one = last.once q r x a at is (omega (arith, end, lt, within)) (omega (arith, lt, within))
            (actor ∙ sym of) same in
            omega (arith, one, end)

    lends_now : (i q : ℕ) (p : Published) → i < n → get_elem? ps q ≡ some p → p.worker ≡ i
        → (r : ℕ) × (a : Answered) × (get_elem? zs r ≡ some a) × (a.end < suc p.at)
        × (number_at ps a.begin i + 1 ≡ number_at ps (suc p.at) i) × (lent_at ps zs (suc p.at) i ≡ a.view)
    lends_now i q p worker is of =
        let u = of_publish q p is in let a : Answered = u.answer in let after = u.first.after in let bound = before q p is in
        let k = last.answer u.place a u.is_answer (omega (arith, after, bound)) in
        let order : a.begin < a.end = open_after n c h g es ps zs a.end a.actor a.begin k.is_open in
        let o : IsOpen n c h g es ps zs p.at i a.begin = subst (λ (z : ℕ). IsOpen n c h g es ps zs p.at z a.begin) of u.is_open in
        let number : number_at ps p.at i ≡ number_at ps a.begin i = number_calm ps i a.begin p.at (omega (arith, order, after))
        (λ e lo hi. no_publish_in i a.begin p.at e worker o lo hi) in
        let now = number_now ps p.at i q p rise_p is refl of in
        let x : suc a.end + (p.at - suc a.end) ≡ p.at = omega (arith, after) in
        let view : last_view zs p.at i None ≡ a.view = ap (λ (z : ℕ). last_view zs z i None) (sym x)
        ∙ view_stays i p.at u.place a u.is_answer (u.of_worker ∙ of) order (omega (arith, bound)) o (p.at - suc a.end)
        (omega (arith, x)) in (
          u.place,
          a,
          u.is_answer,
          omega (arith, after),
          omega (arith, number, now),
          lent_now ps zs p.at i q p rise_p is refl of
              ∙ view,
        )

    -- a worker that has published lends the view of an answer that began after the publish before
    pub lends_from : (e i : ℕ) → i < n → 0 < number_at ps e i
        → (r : ℕ) × (a : Answered) × (get_elem? zs r ≡ some a) × (a.end < e) × (number_at ps a.begin i + 1 ≡ number_at ps e i)
        × (lent_at ps zs e i ≡ a.view)
    lends_from zero i worker some_made = absurd (let z = number_first ps i in omega (arith, z))
    lends_from (suc k) i worker some_made = ⊎_elim
        (λ (t : (q : ℕ) × (p : Published) × (get_elem? ps q ≡ some p) × (p.worker ≡ i) × (p.at ≡ k)).
        subst (λ (z : ℕ). (r : ℕ) × (a : Answered) × (get_elem? zs r ≡ some a) × (a.end < suc z)
        × (number_at ps a.begin i + 1 ≡ number_at ps (suc z) i) × (lent_at ps zs (suc z) i ≡ a.view)) t.4
        (lends_now i t.0 t.1 worker t.2 t.3))
        (λ none.
        let quiet : NoPublish ps k i = λ q p is at of. none q p is of at in
        let number = number_quiet ps k i quiet in
        let t = lends_from k i worker (omega (arith, number, some_made)) in let lt = t.3 in let num = t.4 in
        (t.0, t.1, t.2, omega (arith, lt), omega (arith, num, number), lent_quiet ps zs k i quiet ∙ t.5))
        (find (λ (p : Published). p.worker) at_publish ps i k)

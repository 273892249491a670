-- Where the operations of a tally stand.
use Rattle.std.proofs.Common.{◌≡◌, ◌≢◌, ℕ, zero, suc, ◌+◌, ◌<◌, ◌≤◌, ◌⊎◌, inl, inr, ⊎_elim, List, [], ◌∷◌, ◌++◌, Some, length}
use Rattle.std.proofs.Common.{slice_get, get_or, set, refl, sym, ap, ◌∙◌, arith, length-set, Result, Ok, Err, OnOk, OnErr}
use Rattle.std.proofs.lemmas.List.{get_or-set_same, get_or-set_other}
use Rattle.std.proofs.lemmas.Option.{none-some, same_Some}
use Rattle.bucket_math.specs.Words.{greatest_word}
use Rattle.ledger_core.specs.declared.op.Op.{Op}
use Rattle.ledger_core.specs.declared.op.Op.TheVariants.{Inc, Observe, Up, Down}
use Rattle.ledger_core.specs.Ops.{IsWithin}
use Rattle.ledger_core.specs.Joining.{IsSameSlot, IsSumOf}
use Rattle.ledger_core.specs.declared.tally_fault.TallyFault.{TallyFault}
use Rattle.ledger_core.specs.Takes.{Takes, IsPlaced, IsFollowed, IsApartAt}
use Rattle.ledger_core.proofs.Summing.{sums_stay, sums_observe, inc_beside, up_beside, down_beside}
use Rattle.ledger_core.specs.Tally.{AreMerged, IsKnownAt, AreKnown, AreSums, IsTally, JoinsNone}

-- what stands in a list after a write
pub at_set : {A : Type 0} (l : List A) (i : ℕ) (x : A) (j : ℕ) (y : A) → slice_get (set l i x) j ≡ Some y → ((j ≡ i) × (x ≡ y))
    ⊎ ((j ≢ i) × (slice_get l j ≡ Some y))
at_set [] i x j y e = inr (λ same. none-some y e, e)
at_set (z ∷ l) zero x zero y e = inl (refl, same_Some x y e)
at_set (z ∷ l) zero x (suc j) y e = inr ((λ same. absurd (omega arith)), e)
at_set (z ∷ l) (suc i) x zero y e = inr ((λ same. absurd (omega arith)), e)
at_set (z ∷ l) (suc i) x (suc j) y e = ⊎_elim (λ t. let t0 = t.0 in inl (omega arith, t.1))
    (λ t. inr ((λ same. t.0 (omega arith)), t.1)) (at_set l i x j y e)

-- what stands in a list with one more
pub at_push : {A : Type 0} (xs : List A) (y : A) (i : ℕ) (o : A) → slice_get (xs ++ y ∷ []) i ≡ Some o
    → ((i ≡ length xs) × (y ≡ o)) ⊎ ((i ≢ length xs) × (slice_get xs i ≡ Some o))
at_push [] y zero o e = inl (refl, same_Some y o e)
at_push [] y (suc i) o e = absurd (none-some o e)
at_push (x ∷ xs) y zero o e = inr ((λ same. absurd (omega arith)), e)
at_push (x ∷ xs) y (suc i) o e =
    ⊎_elim (λ t. let t0 = t.0 in inl (omega arith, t.1)) (λ t. inr ((λ same. t.0 (omega arith)), t.1)) (at_push xs y i o e)

pub placed_at : (at : ℕ) (ops : List Op) (first second both : Op) → IsSumOf first second both
    → IsPlaced at ops second (set ops at both) at
placed_at at ops first second both joins = record {
  others = λ i o is. ⊎_elim (λ t. inl (t.0, inr (rw (← t.1) joins.same))) (λ t. inr t) (at_set ops at both i o is);
  joins = λ o is same. refl;
}

pub placed_last : (hint : ℕ) (ops : List Op) (op : Op) (place : ℕ) → place ≡ length ops
    → ((o : Op) → slice_get ops hint ≡ Some o → IsSameSlot o op → ⊥) → IsPlaced hint ops op (ops ++ op ∷ []) place
placed_last hint ops op place e none = record {
  others = λ i o is. ⊎_elim (λ t. inl (t.0 ∙ sym e, inl (sym t.1))) (λ t. inr ((λ same. t.0 (same ∙ e)), t.1))
      (at_push ops op i o is);
  joins = λ o is same. absurd (none o is same);
}

same_is_known : (counters ups downs : List ℕ) (i j : ℕ) (a b : Op) → IsSameSlot a b
    → IsKnownAt counters ups downs i a → IsKnownAt counters ups downs j b → i ≡ j
same_is_known counters ups downs i j (Inc a by) (Inc b more) e ka kb = sym ka ∙ ap (λ k. get_or counters k 0) e ∙ kb
same_is_known counters ups downs i j (Up a by) (Up b more) e ka kb = sym ka ∙ ap (λ k. get_or ups k 0) e ∙ kb
same_is_known counters ups downs i j (Down a by) (Down b more) e ka kb = sym ka ∙ ap (λ k. get_or downs k 0) e ∙ kb
same_is_known counters ups downs i j _ _ e ka kb = absurd e

pub known_merged : (ops : List Op) (counters ups downs : List ℕ) → AreKnown ops counters ups downs → AreMerged ops
known_merged ops counters ups downs known = λ i j a b ia jb e.
    same_is_known counters ups downs i j a b e (known i a ia) (known j b jb)

-- an entry that another operation has, or this one
entry : (table : List ℕ) (slot place i k : ℕ) → get_or table k 0 ≡ i → (k ≡ slot → ⊥) → get_or (set table slot place) k 0 ≡ i
entry table slot place i k was other = get_or-set_other table slot k place 0 other ∙ was

-- the operation at the place itself
here_inc : (counters ups downs : List ℕ) (slot by place : ℕ) (o : Op) → slot < length counters
    → (o ≡ Inc slot by) ⊎ IsSameSlot o (Inc slot by) → IsKnownAt (set counters slot place) ups downs place o
here_inc counters ups downs slot by place (Inc k more) lt e =
    let same : k ≡ slot = ⊎_elim (λ (is : Inc k more ≡ Inc slot by). cc) (λ (is : k ≡ slot). is) e in
    rw same (get_or-set_same counters slot place 0 lt)
here_inc counters ups downs slot by place (Observe hist bucket value) lt e = ⊎_elim (λ is. cc) (λ is. absurd is) e
here_inc counters ups downs slot by place (Up k more) lt e = ⊎_elim (λ is. cc) (λ is. absurd is) e
here_inc counters ups downs slot by place (Down k more) lt e = ⊎_elim (λ is. cc) (λ is. absurd is) e

-- another operation
there_inc : (counters ups downs : List ℕ) (slot by place i : ℕ) (o : Op) → IsKnownAt counters ups downs i o
    → (IsSameSlot o (Inc slot by) → ⊥) → IsKnownAt (set counters slot place) ups downs i o
there_inc counters ups downs slot by place i (Inc k more) was other = entry counters slot place i k was other
there_inc counters ups downs slot by place i (Observe hist bucket value) was other = was
there_inc counters ups downs slot by place i (Up k more) was other = was
there_inc counters ups downs slot by place i (Down k more) was other = was

at_inc : (counters ups downs : List ℕ) (slot by place i : ℕ) (o : Op) → IsSameSlot o (Inc slot by)
    → IsKnownAt counters ups downs i o
    → (get_or counters slot 0 ≡ i → place ≡ get_or counters slot 0) → place ≡ i
at_inc counters ups downs slot by place i (Inc k more) same known joins =
    let e : get_or counters slot 0 ≡ i = ap (λ x. get_or counters x 0) (sym same) ∙ known in joins e ∙ e
at_inc counters ups downs slot by place i (Observe hist bucket value) same known joins = absurd same
at_inc counters ups downs slot by place i (Up k more) same known joins = absurd same
at_inc counters ups downs slot by place i (Down k more) same known joins = absurd same

-- where its slot's does not stand at the place that the table has, nothing is listed that the operation would join
pub apart_inc : (ops : List Op) (counters ups downs : List ℕ) (slot by : ℕ) → AreKnown ops counters ups downs
    → IsApartAt (get_or counters slot 0) ops (Inc slot by) → JoinsNone ops (Inc slot by)
apart_inc ops counters ups downs slot by known apart = λ i o is same.
    apart o (rw (at_inc counters ups downs slot by (get_or counters slot 0) i o same (known i o is) (λ e. refl)) is) same

pub known_inc : (ops ops' : List Op) (counters ups downs : List ℕ) (slot by place : ℕ) → slot < length counters
    → AreKnown ops counters ups downs → IsPlaced (get_or counters slot 0) ops (Inc slot by) ops' place
    → AreKnown ops' (set counters slot place) ups downs
known_inc ops ops' counters ups downs slot by place lt known placed = λ i o is.
    ⊎_elim
    (λ t. rw t.0 (here_inc counters ups downs slot by place o lt t.1))
    (λ t. there_inc counters ups downs slot by place i o (known i o t.1) (λ same.
    t.0 (sym (at_inc counters ups downs slot by place i o same (known i o t.1) (λ e. placed.joins o (rw e t.1) same)))))
    (placed.others i o is)

-- the operation at the place itself
here_up : (counters ups downs : List ℕ) (slot by place : ℕ) (o : Op) → slot < length ups
    → (o ≡ Up slot by) ⊎ IsSameSlot o (Up slot by) → IsKnownAt counters (set ups slot place) downs place o
here_up counters ups downs slot by place (Inc k more) lt e = ⊎_elim (λ is. cc) (λ is. absurd is) e
here_up counters ups downs slot by place (Observe hist bucket value) lt e = ⊎_elim (λ is. cc) (λ is. absurd is) e
here_up counters ups downs slot by place (Up k more) lt e =
    let same : k ≡ slot = ⊎_elim (λ (is : Up k more ≡ Up slot by). cc) (λ (is : k ≡ slot). is) e in
    rw same (get_or-set_same ups slot place 0 lt)
here_up counters ups downs slot by place (Down k more) lt e = ⊎_elim (λ is. cc) (λ is. absurd is) e

-- another operation
there_up : (counters ups downs : List ℕ) (slot by place i : ℕ) (o : Op) → IsKnownAt counters ups downs i o
    → (IsSameSlot o (Up slot by) → ⊥) → IsKnownAt counters (set ups slot place) downs i o
there_up counters ups downs slot by place i (Inc k more) was other = was
there_up counters ups downs slot by place i (Observe hist bucket value) was other = was
there_up counters ups downs slot by place i (Up k more) was other = entry ups slot place i k was other
there_up counters ups downs slot by place i (Down k more) was other = was

at_up : (counters ups downs : List ℕ) (slot by place i : ℕ) (o : Op) → IsSameSlot o (Up slot by)
    → IsKnownAt counters ups downs i o
    → (get_or ups slot 0 ≡ i → place ≡ get_or ups slot 0) → place ≡ i
at_up counters ups downs slot by place i (Inc k more) same known joins = absurd same
at_up counters ups downs slot by place i (Observe hist bucket value) same known joins = absurd same
at_up counters ups downs slot by place i (Up k more) same known joins =
    let e : get_or ups slot 0 ≡ i = ap (λ x. get_or ups x 0) (sym same) ∙ known in joins e ∙ e
at_up counters ups downs slot by place i (Down k more) same known joins = absurd same

-- where its slot's does not stand at the place that the table has, nothing is listed that the operation would join
pub apart_up : (ops : List Op) (counters ups downs : List ℕ) (slot by : ℕ) → AreKnown ops counters ups downs
    → IsApartAt (get_or ups slot 0) ops (Up slot by) → JoinsNone ops (Up slot by)
apart_up ops counters ups downs slot by known apart = λ i o is same.
    apart o (rw (at_up counters ups downs slot by (get_or ups slot 0) i o same (known i o is) (λ e. refl)) is) same

pub known_up : (ops ops' : List Op) (counters ups downs : List ℕ) (slot by place : ℕ) → slot < length ups
    → AreKnown ops counters ups downs → IsPlaced (get_or ups slot 0) ops (Up slot by) ops' place
    → AreKnown ops' counters (set ups slot place) downs
known_up ops ops' counters ups downs slot by place lt known placed = λ i o is.
    ⊎_elim
    (λ t. rw t.0 (here_up counters ups downs slot by place o lt t.1))
    (λ t. there_up counters ups downs slot by place i o (known i o t.1) (λ same.
    t.0 (sym (at_up counters ups downs slot by place i o same (known i o t.1) (λ e. placed.joins o (rw e t.1) same)))))
    (placed.others i o is)

-- the operation at the place itself
here_down : (counters ups downs : List ℕ) (slot by place : ℕ) (o : Op) → slot < length downs
    → (o ≡ Down slot by) ⊎ IsSameSlot o (Down slot by) → IsKnownAt counters ups (set downs slot place) place o
here_down counters ups downs slot by place (Inc k more) lt e = ⊎_elim (λ is. cc) (λ is. absurd is) e
here_down counters ups downs slot by place (Observe hist bucket value) lt e = ⊎_elim (λ is. cc) (λ is. absurd is) e
here_down counters ups downs slot by place (Up k more) lt e = ⊎_elim (λ is. cc) (λ is. absurd is) e
here_down counters ups downs slot by place (Down k more) lt e =
    let same : k ≡ slot = ⊎_elim (λ (is : Down k more ≡ Down slot by). cc) (λ (is : k ≡ slot). is) e in
    rw same (get_or-set_same downs slot place 0 lt)

-- another operation
there_down : (counters ups downs : List ℕ) (slot by place i : ℕ) (o : Op) → IsKnownAt counters ups downs i o
    → (IsSameSlot o (Down slot by) → ⊥) → IsKnownAt counters ups (set downs slot place) i o
there_down counters ups downs slot by place i (Inc k more) was other = was
there_down counters ups downs slot by place i (Observe hist bucket value) was other = was
there_down counters ups downs slot by place i (Up k more) was other = was
there_down counters ups downs slot by place i (Down k more) was other = entry downs slot place i k was other

at_down : (counters ups downs : List ℕ) (slot by place i : ℕ) (o : Op) → IsSameSlot o (Down slot by)
    → IsKnownAt counters ups downs i o
    → (get_or downs slot 0 ≡ i → place ≡ get_or downs slot 0) → place ≡ i
at_down counters ups downs slot by place i (Inc k more) same known joins = absurd same
at_down counters ups downs slot by place i (Observe hist bucket value) same known joins = absurd same
at_down counters ups downs slot by place i (Up k more) same known joins = absurd same
at_down counters ups downs slot by place i (Down k more) same known joins =
    let e : get_or downs slot 0 ≡ i = ap (λ x. get_or downs x 0) (sym same) ∙ known in joins e ∙ e

-- where its slot's does not stand at the place that the table has, nothing is listed that the operation would join
pub apart_down : (ops : List Op) (counters ups downs : List ℕ) (slot by : ℕ) → AreKnown ops counters ups downs
    → IsApartAt (get_or downs slot 0) ops (Down slot by) → JoinsNone ops (Down slot by)
apart_down ops counters ups downs slot by known apart = λ i o is same.
    apart o (rw (at_down counters ups downs slot by (get_or downs slot 0) i o same (known i o is) (λ e. refl)) is) same

pub known_down : (ops ops' : List Op) (counters ups downs : List ℕ) (slot by place : ℕ) → slot < length downs
    → AreKnown ops counters ups downs → IsPlaced (get_or downs slot 0) ops (Down slot by) ops' place
    → AreKnown ops' counters ups (set downs slot place)
known_down ops ops' counters ups downs slot by place lt known placed = λ i o is.
    ⊎_elim
    (λ t. rw t.0 (here_down counters ups downs slot by place o lt t.1))
    (λ t. there_down counters ups downs slot by place i o (known i o t.1) (λ same.
    t.0 (sym (at_down counters ups downs slot by place i o same (known i o t.1) (λ e. placed.joins o (rw e t.1) same)))))
    (placed.others i o is)

pub known_more : (ops : List Op) (hist bucket value : ℕ) (counters ups downs : List ℕ)
    → AreKnown ops counters ups downs → AreKnown (ops ++ Observe hist bucket value ∷ []) counters ups downs
known_more ops hist bucket value counters ups downs known = λ i o is.
    ⊎_elim (λ t. rw (← t.1) tt) (λ t. known i o t.1) (at_push ops (Observe hist bucket value) i o is)

pub tally_takes : (c h g : ℕ) (op : Op) (ops ops' : List Op) (counters ups downs sums counters' ups' downs' sums' : List ℕ)
    → IsTally c h g ops counters ups downs sums → Takes ops op ops' → IsWithin c h g op
    → length counters' ≡ length counters → length ups' ≡ length ups → length downs' ≡ length downs → length sums' ≡ length sums
    → AreKnown ops' counters' ups' downs' → AreSums c h ops' sums'
    → IsTally c h g ops' counters' ups' downs' sums'
tally_takes c h g op ops ops' counters ups downs sums counters' ups' downs' sums' was takes inside ec eu ed es known are =
    record {
      all_counters = ec ∙ was.all_counters;
      all_ups = eu ∙ was.all_ups;
      all_downs = ed ∙ was.all_downs;
      all_sums = es ∙ was.all_sums;
      within = takes.within c h g was.within inside;
      known = known;
      summed = are;
    }

-- A tally whose list was offered an operation, whether it took it or not: the table of its kind has the place afterwards.
module _ {T : Type 0} (c h g : ℕ) (ops ops' : List Op) (counters ups downs sums places : List ℕ) (slot by : ℕ)
    (was : IsTally c h g ops counters ups downs sums) where
  pub offered_inc : (r : Result T TallyFault) → slot < c → OnOk r (Takes ops (Inc slot by) ops')
      → OnOk r (IsFollowed slot ops (Inc slot by) ops' counters places) → OnErr r ((ops' ≡ ops) × (places ≡ counters))
      → IsTally c h g ops' places ups downs sums
  offered_inc (Ok v) lt takes f stays =
      let long : slot < length counters = let e = was.all_counters in omega arith in
      rw f.table
      (tally_takes c h g (Inc slot by) ops ops' counters ups downs sums (set counters slot f.place) ups downs sums was takes lt
      (length-set counters slot f.place) refl refl refl
      (known_inc ops ops' counters ups downs slot by f.place long was.known f.placed)
      (sums_stay c h (Inc slot by) ops ops' sums (inc_beside c h slot by lt) takes was.summed))
  offered_inc (Err e) lt takes f stays = rw (stays.0, stays.1) was

  pub offered_up : (r : Result T TallyFault) → slot < g → OnOk r (Takes ops (Up slot by) ops')
      → OnOk r (IsFollowed slot ops (Up slot by) ops' ups places) → OnErr r ((ops' ≡ ops) × (places ≡ ups))
      → IsTally c h g ops' counters places downs sums
  offered_up (Ok v) lt takes f stays =
      let long : slot < length ups = let e = was.all_ups in omega arith in
      rw f.table
      (tally_takes c h g (Up slot by) ops ops' counters ups downs sums counters (set ups slot f.place) downs sums was takes lt
      refl (length-set ups slot f.place) refl refl
      (known_up ops ops' counters ups downs slot by f.place long was.known f.placed)
      (sums_stay c h (Up slot by) ops ops' sums (up_beside c h slot by) takes was.summed))
  offered_up (Err e) lt takes f stays = rw (stays.0, stays.1) was

  pub offered_down : (r : Result T TallyFault) → slot < g → OnOk r (Takes ops (Down slot by) ops')
      → OnOk r (IsFollowed slot ops (Down slot by) ops' downs places) → OnErr r ((ops' ≡ ops) × (places ≡ downs))
      → IsTally c h g ops' counters ups places sums
  offered_down (Ok v) lt takes f stays =
      let long : slot < length downs = let e = was.all_downs in omega arith in
      rw f.table
      (tally_takes c h g (Down slot by) ops ops' counters ups downs sums counters ups (set downs slot f.place) sums was takes lt
      refl refl (length-set downs slot f.place) refl
      (known_down ops ops' counters ups downs slot by f.place long was.known f.placed)
      (sums_stay c h (Down slot by) ops ops' sums (down_beside c h slot by) takes was.summed))
  offered_down (Err e) lt takes f stays = rw (stays.0, stays.1) was

pub offered_observe : (c h g hist place value : ℕ) (ops ops' : List Op) (counters ups downs sums : List ℕ) → hist < h → place < 25
    → get_or sums hist 0 + value ≤ greatest_word → IsTally c h g ops counters ups downs sums
    → Takes ops (Observe hist place value) ops' → ops' ≡ ops ++ Observe hist place value ∷ []
    → IsTally c h g ops' counters ups downs (set sums hist (get_or sums hist 0 + value))
offered_observe c h g hist place value ops ops' counters ups downs sums lt low small was takes e =
    let known : AreKnown ops' counters ups downs = rw e (known_more ops hist place value counters ups downs was.known) in
    tally_takes c h g (Observe hist place value) ops ops' counters ups downs sums
    counters ups downs (set sums hist (get_or sums hist 0 + value)) was takes (lt, low)
    refl refl refl (length-set sums hist (get_or sums hist 0 + value)) known
    (sums_observe c h hist place value ops ops' sums lt low was.all_sums small takes was.summed)

-- What a registry knows of its families holds after each change that it makes.
use Rattle.std.proofs.Common.{◌≡◌, ◌≢◌, ℕ, zero, suc, ◌+◌, ◌<◌, ◌≤◌, List, [], ◌∷◌, ◌++◌, Some, length, get_or, All, refl, ap}
use Rattle.std.proofs.Common.{sym, subst, ◌∙◌, arith, inl, inr}
use Rattle.std.specs.Prelude.{◌⊎◌, slice_get}
use Rattle.std.proofs.lemmas.List.{length_push}
use Rattle.std.proofs.lemmas.List.Elements.{All-nil, All-cons, All-head, All-tail, All-weaker, All-push}
use Rattle.std.proofs.lemmas.List.Quantifiers.{all_pairs_push}
use Rattle.std.proofs.lemmas.Option.{get_or_from_slice_get, slice_get_within}
use Rattle.metric_desc.specs.Desc.{Descriptor, Clash}
use Rattle.metric_desc.specs.declared.kind.Kind.{Kind}
use Rattle.metric_desc.specs.declared.kind.Kind.TheVariants.{Counter, Histogram, Gauge}
use Rattle.registry_state.specs.Journal.{Registered, ChildMade}
use Rattle.registry_state.specs.Replay.{Child, Family, IsFree, IsApart, MayMake, put, with_child, after, slots}
use Rattle.registry_state.specs.Faults.{HasSlot, AreFree}
use Rattle.registry_state.specs.Calls.{IsLeastFree}
use Rattle.registry_state.specs.Held.{AreChildren, AreHeld, IsOneMore, used_of}
use Rattle.registry_state.proofs.Lists.{cases_order}
use Rattle.registry_state.proofs.Ordered.{length-with_child, desc_at}
use Rattle.registry_state.proofs.Slots.{all_put, put_has, put_keeps, pairs_put, ordered_put}

pub kind_cases : (a b : Kind) → (a ≡ b) ⊎ (a ≢ b)
kind_cases Counter Counter = inl refl
kind_cases Counter Histogram = inr (λ e. cc)
kind_cases Counter Gauge = inr (λ e. cc)
kind_cases Histogram Counter = inr (λ e. cc)
kind_cases Histogram Histogram = inl refl
kind_cases Histogram Gauge = inr (λ e. cc)
kind_cases Gauge Counter = inr (λ e. cc)
kind_cases Gauge Histogram = inr (λ e. cc)
kind_cases Gauge Gauge = inl refl

-- a family with one child more
abbrev pub grown : Child → Family → Family
grown child family = record { desc = family.desc; children = put child family.children }

pub all_at : (P : Family → Type 0) (families : List Family) (number : ℕ) (it : Family) → slice_get families number ≡ Some it
    → All P families → P it
all_at P families number it is all =
    subst P (get_or_from_slice_get families number it it is) (all number it (slice_get_within families number it is))

-- what holds of each family, and of the one that grew
pub all_made : (P Q : Family → Type 0) (families : List Family) (number : ℕ) (child : Child) (it : Family)
    → slice_get families number ≡ Some it
    → ((family : Family) → P family → Q family) → Q (grown child it) → All P families → All Q (with_child families number child)
all_made P Q [] number child it is weaker here all = absurd (cc)
all_made P Q (family ∷ families) zero child it is weaker here all =
    let same : it ≡ family = cc in
    All-cons Q (grown child family) families (subst (λ f. Q (grown child f)) same here)
    (All-weaker P Q weaker families (All-tail P family families all))
all_made P Q (family ∷ families) (suc number) child it is weaker here all =
    All-cons Q family (with_child families number child) (weaker family (All-head P family families all))
    (all_made P Q families number child it is weaker here (All-tail P family families all))

pub made_has : (Q : Family → Type 0) (families : List Family) (number : ℕ) (child : Child) (it : Family)
    → slice_get families number ≡ Some it
    → All Q (with_child families number child) → Q (grown child it)
made_has Q [] number child it is all = absurd (cc)
made_has Q (family ∷ families) zero child it is all =
    let same : family ≡ it = cc in subst (λ f. Q (grown child f)) same (All-head Q (grown child family) families all)
made_has Q (family ∷ families) (suc number) child it is all =
    made_has Q families number child it is (All-tail Q family (with_child families number child) all)

pub made_keeps : (P : Family → Type 0) (families : List Family) (number : ℕ) (child : Child)
    → ((family : Family) → P (grown child family) → P family)
    → All P (with_child families number child) → All P families
made_keeps P [] number child weaker all = All-nil P
made_keeps P (family ∷ families) zero child weaker all =
    All-cons P family families (weaker family (All-head P (grown child family) families all))
    (All-tail P (grown child family) families all)
made_keeps P (family ∷ families) (suc number) child weaker all =
    All-cons P family families (All-head P family (with_child families number child) all)
    (made_keeps P families number child weaker (All-tail P family (with_child families number child) all))

-- no child has this slot
abbrev HasNot : ℕ → Child → Type 0
HasNot slot child = child.slot ≢ slot

-- the slots from the used ones on are free
pub free_from : (c h g : ℕ) (families : List Family) (used : Kind → ℕ) (kind : Kind) (slot : ℕ) → AreHeld c h g families used
    → used kind ≤ slot → IsFree families kind slot
free_from c h g families used kind slot held le i d within same j e inner =
    let below : (get_or (get_or families i d).children j e).slot < used (get_or families i d).desc.kind =
    (held.are.each i d within).below j e inner in
    let here : (get_or (get_or families i d).children j e).slot < used kind =
    subst (λ k. (get_or (get_or families i d).children j e).slot < used k) same below in
    λ is. absurd (omega (arith, here, le, is))

-- the first slot that is not used is the least free one
pub least_free : (c h g : ℕ) (families : List Family) (used : Kind → ℕ) (kind : Kind) → AreHeld c h g families used
    → IsLeastFree families kind (used kind)
least_free c h g families used kind held =
    record { free = free_from c h g families used kind (used kind) held (omega arith); least = λ k lt. held.taken kind k lt }

-- the others are the free ones
pub are_free : (c h g : ℕ) (families : List Family) (used : Kind → ℕ) (kind : Kind) (count : ℕ) → AreHeld c h g families used
    → used kind + count ≡ slots c h g kind → AreFree c h g families kind count
are_free c h g families used kind count held is = record {
  within = omega arith;
  free = λ slot within behind. free_from c h g families used kind slot held (omega arith);
  used = λ slot before. held.taken kind slot (omega arith);
}

-- where all slots are used none is free
pub none_free : (c h g : ℕ) (families : List Family) (used : Kind → ℕ) (kind : Kind) → AreHeld c h g families used
    → slots c h g kind ≤ used kind
    → ¬ (HasSlot c h g families kind)
none_free c h g families used kind held full has = held.taken kind has.0 (omega (arith, full, has.1)) has.2

pub held_none : (c h g : ℕ) → AreHeld c h g [] (used_of 0 0 0)
held_none c h g = record {
  are = record {
    few = omega arith;
    apart = λ i j d lt within. absurd (omega (arith, within));
    each = All-nil (AreChildren (used_of 0 0 0));
  };
  taken = λ kind slot lt. absurd (nothing_used kind slot lt);
  room = nothing_more;
}
  where
    nothing_used : (kind : Kind) (slot : ℕ) → slot < used_of 0 0 0 kind → ⊥
    nothing_used Counter slot lt = omega (arith, lt)
    nothing_used Histogram slot lt = omega (arith, lt)
    nothing_used Gauge slot lt = omega (arith, lt)

    nothing_more : (kind : Kind) → used_of 0 0 0 kind ≤ slots c h g kind
    nothing_more Counter = omega arith
    nothing_more Histogram = omega arith
    nothing_more Gauge = omega arith

-- a family that clashes with none is registered, where there is room
pub held_registered : (c h g : ℕ) (families : List Family) (used : Kind → ℕ) (desc : Descriptor) → AreHeld c h g families used
    → (length families < 128) × IsApart families desc → AreHeld c h g (after families (Registered desc)) used
held_registered c h g families used desc held accepted =
    let new : Family = record { desc = desc; children = [] } in
    record {
      are = record {
        few = let more : length (families ++ new ∷ []) ≡ length families + 1 = length_push families new in let lt = accepted.0 in
            omega (arith, more, lt);
        apart = all_pairs_push (λ (a b : Family). ¬ (Clash a.desc b.desc)) families new held.are.apart
            (λ k d within. accepted.1 k d within);
        each = All-push (AreChildren used) families new held.are.each (record {
          fit = λ k d within. absurd (omega (arith, within));
          below = λ k d within. absurd (omega (arith, within));
          ordered = λ i j d lt within. absurd (omega (arith, within));
          distinct = λ i j d lt within. absurd (omega (arith, within));
        });
      };
      taken = λ kind slot lt free. held.taken kind slot lt
          (pushed_keeps (λ (f : Family). f.desc.kind ≡ kind → All (HasNot slot) f.children) families new free);
      room = held.room;
    }
  where
    pushed_keeps : (P : Family → Type 0) (xs : List Family) (x : Family) → All P (xs ++ x ∷ []) → All P xs
    pushed_keeps P [] x all = All-nil P
    pushed_keeps P (y ∷ ys) x all = All-cons P y ys (All-head P y (ys ++ x ∷ []) all)
        (pushed_keeps P ys x (All-tail P y (ys ++ x ∷ []) all))

module _ (c h g : ℕ) (families : List Family) (used used' : Kind → ℕ) (number : ℕ) (values : List (List ℕ)) (it : Family)
    (held : AreHeld c h g families used) (is : slice_get families number ≡ Some it)
    (may : MayMake c h g families values (used it.desc.kind) it) (more : IsOneMore it.desc.kind used used') where
  abbrev made : Child
  made = record { values = values; slot = used it.desc.kind }

  grows : (kind : Kind) → used kind ≤ used' kind
  grows kind = elim (kind_cases kind it.desc.kind) [
    | inl same ↦ (let one = more.one in subst (λ k. used k ≤ used' k) (sym same) (omega (arith, one)))
    | inr other ↦ (let kept : used' kind ≡ used kind = more.others kind other in omega (arith, kept))
  ]

  children_kept : (family : Family) → AreChildren used family → AreChildren used' family
  children_kept family are = record {
    fit = are.fit;
    below = All-weaker (λ (child : Child). child.slot < used family.desc.kind)
        (λ (child : Child). child.slot < used' family.desc.kind)
        (λ child lt. let le : used family.desc.kind ≤ used' family.desc.kind = grows family.desc.kind in
        omega (arith, lt, le)) family.children are.below;
    ordered = are.ordered;
    distinct = are.distinct;
  }

  child_put : AreChildren used' (grown made it)
  child_put =
      let are : AreChildren used it = all_at (AreChildren used) families number it is held.are.each in
      let one = more.one in
      record {
        fit = all_put (λ (child : Child). length child.values ≡ length it.desc.labels) made it.children may.fit are.fit;
        below = all_put (λ (child : Child). child.slot < used' it.desc.kind) made it.children (omega (arith, one))
            (children_kept it are).below;
        ordered = ordered_put made it.children may.apart are.ordered;
        distinct = pairs_put (λ (a b : Child). a.slot ≢ b.slot) made it.children
            (All-weaker (λ (child : Child). child.slot < used it.desc.kind) (λ (child : Child). child.slot ≢ used it.desc.kind)
            (λ child lt e. absurd (omega (arith, lt, e))) it.children are.below)
            (All-weaker (λ (child : Child). child.slot < used it.desc.kind) (λ (child : Child). used it.desc.kind ≢ child.slot)
            (λ child lt e. absurd (omega (arith, lt, e))) it.children are.below)
            are.distinct;
      }

  -- the slots that were used still are, and so is the new child's
  taken_made : (kind : Kind) (slot : ℕ) → slot < used' kind → ¬ (IsFree (with_child families number made) kind slot)
  taken_made kind slot lt free =
      let P : Family → Type 0 = λ (family : Family). family.desc.kind ≡ kind → All (HasNot slot) family.children in
      let old : IsFree families kind slot = made_keeps P families number made
      (λ family all same. put_keeps (HasNot slot) made family.children (all same)) free in
      elim (cases_order slot (used kind)) [
        | inl below ↦ held.taken kind slot below old
        | inr rest ↦ elim (kind_cases kind it.desc.kind) [
          | inl same ↦ (
              let one : used' kind ≡ used kind + 1 = subst (λ k. used' k ≡ used k + 1) (sym same) more.one in
              let new : used it.desc.kind ≢ slot = put_has (HasNot slot) made it.children
              (made_has P families number made it is free (sym same)) in
              let at : used kind ≡ used it.desc.kind = ap used same in
              elim rest [ inl e ↦ new (sym at ∙ sym e) | inr gt ↦ absurd (omega (arith, one, lt, gt)) ])
          | inr other ↦ (let kept : used' kind ≡ used kind = more.others kind other in
              elim rest [ inl e ↦ absurd (omega (arith, kept, lt, e)) | inr gt ↦ absurd (omega (arith, kept, lt, gt)) ])
        ]
      ]

  room_made : (kind : Kind) → used' kind ≤ slots c h g kind
  room_made kind = elim (kind_cases kind it.desc.kind) [
    | inl same ↦ (
        let one = more.one in
        let within = may.within in
        let here : used' it.desc.kind ≤ slots c h g it.desc.kind = omega (arith, one, within) in
        subst (λ k. used' k ≤ slots c h g k) (sym same) here)
    | inr other ↦ (let kept : used' kind ≡ used kind = more.others kind other in
        let room : used kind ≤ slots c h g kind = held.room kind in omega (arith, kept, room))
  ]

  -- a child is made in the first slot that is not used
  pub held_made : AreHeld c h g (after families (ChildMade number values (used it.desc.kind))) used'
  held_made = record {
    are = record {
      few = let same : length (with_child families number made) ≡ length families = length-with_child families number made in
          let few = held.are.few in omega (arith, same, few);
      apart = λ i j d lt within.
          let all : ℕ = length families in
          let same : length (with_child families number made) ≡ all = length-with_child families number made in
          let old : ¬ (Clash (get_or families i d).desc (get_or families j d).desc) =
          held.are.apart i j d lt (omega (arith, same, within)) in
          subst (λ a. ¬ (Clash a (get_or (with_child families number made) j d).desc)) (sym (desc_at families number made i d))
          (subst (λ b. ¬ (Clash (get_or families i d).desc b)) (sym (desc_at families number made j d)) old);
      each = all_made (AreChildren used) (AreChildren used') families number made it is children_kept child_put held.are.each;
    };
    taken = taken_made;
    room = room_made;
  }

-- of three numbers, the one of this kind is one more
pub one_counter : (counters hists gauges : ℕ) → IsOneMore Counter (used_of counters hists gauges)
    (used_of (counters + 1) hists gauges)
one_counter counters hists gauges = record { one = refl; others = others }
  where
    others : (other : Kind) → other ≢ Counter → used_of (counters + 1) hists gauges other ≡ used_of counters hists gauges other
    others Counter not = absurd (not refl)
    others Histogram not = refl
    others Gauge not = refl

pub one_hist : (counters hists gauges : ℕ) → IsOneMore Histogram (used_of counters hists gauges)
    (used_of counters (hists + 1) gauges)
one_hist counters hists gauges = record { one = refl; others = others }
  where
    others : (other : Kind) → other ≢ Histogram → used_of counters (hists + 1) gauges other ≡ used_of counters hists gauges other
    others Counter not = refl
    others Histogram not = absurd (not refl)
    others Gauge not = refl

pub one_gauge : (counters hists gauges : ℕ) → IsOneMore Gauge (used_of counters hists gauges)
    (used_of counters hists (gauges + 1))
one_gauge counters hists gauges = record { one = refl; others = others }
  where
    others : (other : Kind) → other ≢ Gauge → used_of counters hists (gauges + 1) other ≡ used_of counters hists gauges other
    others Counter not = refl
    others Histogram not = refl
    others Gauge not = absurd (not refl)

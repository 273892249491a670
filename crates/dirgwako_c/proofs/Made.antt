-- What a page has done, as C is answered.
use Rattle.std.proofs.Common.{◌≡◌, ℕ, List, All, refl, inr, subst}
use Rattle.std.specs.Prelude.{Result, Ok, Err, IsUtf8}
use Rattle.page_crew.specs.Owned.{first_of}
use Rattle.dirgwako.specs.Refused.{family_refusal_number, child_refusal_number}
use Rattle.dirgwako.specs.declared.fault.ChildRefusal.{ChildRefusal}
use Rattle.dirgwako.specs.declared.fault.FamilyRefusal.{FamilyRefusal}
use Rattle.dirgwako.specs.declared.fault.MetricRefusal.{MetricRefusal}
use Rattle.metric_desc.specs.Desc.{Descriptor}
use Rattle.metric_desc.specs.declared.kind.Kind.{Kind}
use Rattle.registry_state.specs.declared.handle.FamilyId.{FamilyId}
use Rattle.registry_state.specs.declared.handle.Handle.{Handle}
use Rattle.dirgwako_c.specs.Registries.{Grouped, in_group, AsksMetricAt, AsksFamilyAt, AsksChildAt, metric_answer}
use Rattle.dirgwako_c.specs.Registries.{MakesNamed, MakesFamilyBy, GivesChildBy}

module _ {N C H G : ℕ} where
  module _ {A : Type 0} (handle_of : A → Handle) (before after : Grouped N C H G) (had has : A) (name help : List ℕ)
      (desc_of : (name help : List ℕ) → Descriptor) (n h : List ℕ) where
    pub metric_made : (n ≡ name) × IsUtf8 name → (h ≡ help) × IsUtf8 help → AsksMetricAt (in_group 0 before) after (desc_of n h)
        (Ok (handle_of has))
        → MakesNamed handle_of 0 before after had has name help (desc_of name help)
    metric_made is also asks = inr (
      is.1,
      also.1,
      record {
        made = Ok (handle_of has);
        asks = subst (λ (x : List ℕ). AsksMetricAt (in_group 0 before) after (desc_of x help) (Ok (handle_of has))) is.0
            (subst (λ (x : List ℕ). AsksMetricAt (in_group 0 before) after (desc_of n x) (Ok (handle_of has))) also.0 asks);
        answer_is = refl;
        told = refl;
        kept = tt;
      },
    )

    pub metric_refused : (fault : MetricRefusal) (answer : ℕ) → answer ≡ metric_answer fault → (n ≡ name) × IsUtf8 name
        → (h ≡ help) × IsUtf8 help → AsksMetricAt (in_group 0 before) after (desc_of n h) (Err fault)
        → MakesNamed handle_of answer before after had had name help (desc_of name help)
    metric_refused fault answer number is also asks = inr (
      is.1,
      also.1,
      record {
        made = Err fault;
        asks = subst (λ (x : List ℕ). AsksMetricAt (in_group 0 before) after (desc_of x help) (Err fault)) is.0
            (subst (λ (x : List ℕ). AsksMetricAt (in_group 0 before) after (desc_of n x) (Err fault)) also.0 asks);
        answer_is = number;
        told = tt;
        kept = refl;
      },
    )

  module _ {A : Type 0} (before after : Grouped N C H G) (had has : A) (group : ℕ) (id_of : A → FamilyId) (registry_of : A → ℕ)
      (name help : List ℕ)
      (labels : List (List ℕ)) (desc_of : (name help : List ℕ) → (labels : List (List ℕ)) → Descriptor) (n h : List ℕ)
      (l : List (List ℕ)) where
    pub family_made : (n ≡ name) × IsUtf8 name → (h ≡ help) × IsUtf8 help → l ≡ labels → All IsUtf8 labels → registry_of has ≡
        first_of after.crew
        → AsksFamilyAt (in_group group before) after (desc_of n h l) (Ok (id_of has))
        → MakesFamilyBy 0 before after had has group id_of registry_of name help labels (desc_of name help labels)
    family_made is also are all same asks = inr (inr (
      is.1,
      also.1,
      all,
      record {
        made = Ok (id_of has);
        asks = subst (λ (x : List (List ℕ)). AsksFamilyAt (in_group group before) after (desc_of name help x) (Ok (id_of has)))
            are
            (subst (λ (x : List ℕ). AsksFamilyAt (in_group group before) after (desc_of x help l) (Ok (id_of has))) is.0
            (subst (λ (x : List ℕ). AsksFamilyAt (in_group group before) after (desc_of n x l) (Ok (id_of has))) also.0 asks));
        answer_is = refl;
        told = (refl, same);
        kept = tt;
      },
    ))

    pub family_refused : (fault : FamilyRefusal) (answer : ℕ) → answer ≡ family_refusal_number fault → (n ≡ name) × IsUtf8 name
        → (h ≡ help) × IsUtf8 help → l ≡ labels → All IsUtf8 labels → AsksFamilyAt (in_group group before) after (desc_of n h l)
        (Err fault)
        → MakesFamilyBy answer before after had had group id_of registry_of name help labels (desc_of name help labels)
    family_refused fault answer number is also are all asks = inr (inr (
      is.1,
      also.1,
      all,
      record {
        made = Err fault;
        asks = subst (λ (x : List (List ℕ)). AsksFamilyAt (in_group group before) after (desc_of name help x) (Err fault)) are
            (subst (λ (x : List ℕ). AsksFamilyAt (in_group group before) after (desc_of x help l) (Err fault)) is.0
            (subst (λ (x : List ℕ). AsksFamilyAt (in_group group before) after (desc_of n x l) (Err fault)) also.0 asks));
        answer_is = number;
        told = tt;
        kept = refl;
      },
    ))

  module _ {A : Type 0} (handle_of : A → Handle) (before after : Grouped N C H G) (had has : A) (registry : ℕ) (id : FamilyId)
      (values : List (List ℕ)) (kind : Kind) (v : List (List ℕ)) (are : v ≡ values) (all : All IsUtf8 values) (r : ℕ) (i :
      FamilyId)
      (same_registry : r ≡ registry) (same_id : i ≡ id) where
    asked : (result : Result Handle ChildRefusal) → AsksChildAt before after r i v kind result
        → AsksChildAt before after registry id values kind result
    asked result asks = subst (λ (x : List (List ℕ)). AsksChildAt before after registry id x kind result) are
        (subst (λ (j : FamilyId). AsksChildAt before after registry j v kind result) same_id
        (subst (λ (q : ℕ). AsksChildAt before after q i v kind result) same_registry asks))

    pub child_given : AsksChildAt before after r i v kind (Ok (handle_of has))
        → GivesChildBy 0 before after had has handle_of registry id values kind
    child_given asks = inr (
      all,
      record {
        given = Ok (handle_of has);
        asks = asked (Ok (handle_of has)) asks;
        answer_is = refl;
        told = refl;
        kept = tt;
      },
    )

    pub child_refused : (fault : ChildRefusal) (answer : ℕ) → answer ≡ child_refusal_number fault
        → AsksChildAt before after r i v kind (Err fault) → GivesChildBy answer before after had had handle_of registry id values
        kind
    child_refused fault answer number asks = inr (
      all,
      record {
        given = Err fault;
        asks = asked (Err fault) asks;
        answer_is = number;
        told = tt;
        kept = refl;
      },
    )

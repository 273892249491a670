-- What putting a child among the children of its family does to them.
use Rattle.std.proofs.Common.{◌≡◌, ◌≢◌, List, [], ◌∷◌, All, AllPairs, refl, ◌∙◌}
use Rattle.std.specs.Prelude.{true, false}
use Rattle.std.specs.Ordering.{is_lt, ordering_reverse}
use Rattle.std.specs.declared.cmp.Ordering.{Ordering}
use Rattle.std.specs.declared.cmp.Ordering.TheVariants.{Less, Equal, Greater}
use Rattle.std.proofs.lemmas.List.Elements.{All-nil, All-cons, All-head, All-tail, All-weaker}
use Rattle.std.proofs.lemmas.List.Kept.{AllPairs-cons}
use Rattle.registry_state.specs.Replay.{Child, put}
use Rattle.registry_state.specs.Held.{IsChildBefore}
use Rattle.registry_state.proofs.Lists.{either, pairs_head, pairs_tail}
use Rattle.registry_state.proofs.Placing.{stands, values_total, exact_values}

is_less : (o : Ordering) → is_lt o ≡ true → o ≡ Less
is_less Less e = refl
is_less Equal e = absurd (cc)
is_less Greater e = absurd (cc)

turned : (o : Ordering) → is_lt o ≡ false → o ≢ Equal → ordering_reverse o ≡ Less
turned Less e other = absurd (cc)
turned Equal e other = absurd (other refl)
turned Greater e other = refl

-- of two children of other values, the one that is not before the other is behind it
behind : (x child : Child) → x.values ≢ child.values → is_lt (stands x child) ≡ false → IsChildBefore child x
behind x child other not =
    values_total.antisymm child.values x.values ∙ turned (stands x child) not (λ e. other (exact_values x.values child.values e))

pub all_put : (P : Child → Type 0) (child : Child) (xs : List Child) → P child → All P xs → All P (put child xs)
all_put P child [] here all = All-cons P child [] here all
all_put P child (x ∷ xs) here all =
    either (All P) (is_lt (stands x child)) (x ∷ put child xs) (child ∷ x ∷ xs)
    (λ _. All-cons P x (put child xs) (All-head P x xs all) (all_put P child xs here (All-tail P x xs all)))
    (λ _. All-cons P child (x ∷ xs) here all)

pub put_has : (P : Child → Type 0) (child : Child) (xs : List Child) → All P (put child xs) → P child
put_has P child [] all = All-head P child [] all
put_has P child (x ∷ xs) all =
    either (λ l. All P l → P child) (is_lt (stands x child)) (x ∷ put child xs) (child ∷ x ∷ xs)
    (λ _ has. put_has P child xs (All-tail P x (put child xs) has))
    (λ _ has. All-head P child (x ∷ xs) has) all

pub put_keeps : (P : Child → Type 0) (child : Child) (xs : List Child) → All P (put child xs) → All P xs
put_keeps P child [] all = All-nil P
put_keeps P child (x ∷ xs) all =
    either (λ l. All P l → All P (x ∷ xs)) (is_lt (stands x child)) (x ∷ put child xs) (child ∷ x ∷ xs)
    (λ _ has. All-cons P x xs (All-head P x (put child xs) has) (put_keeps P child xs (All-tail P x (put child xs) has)))
    (λ _ has. All-tail P child (x ∷ xs) has) all

-- pairs in a relation to both sides of which the new child stands
pub pairs_put : (R : Child → Child → Type 0) (child : Child) (xs : List Child) → All (λ x. R x child) xs → All (R child) xs
    → AllPairs R xs → AllPairs R (put child xs)
pairs_put R child [] front back pairs = AllPairs-cons R child [] back pairs
pairs_put R child (x ∷ xs) front back pairs =
    either (AllPairs R) (is_lt (stands x child)) (x ∷ put child xs) (child ∷ x ∷ xs)
    (λ _. AllPairs-cons R x (put child xs)
    (all_put (R x) child xs (All-head (λ y. R y child) x xs front) (pairs_head R x xs pairs))
    (pairs_put R child xs (All-tail (λ y. R y child) x xs front) (All-tail (R child) x xs back) (pairs_tail R x xs pairs)))
    (λ _. AllPairs-cons R child (x ∷ xs) back pairs)

-- children in strict order stay so, where a child of new values is put
pub ordered_put : (child : Child) (xs : List Child) → All (λ (x : Child). x.values ≢ child.values) xs
    → AllPairs IsChildBefore xs → AllPairs IsChildBefore (put child xs)
ordered_put child [] new pairs = AllPairs-cons IsChildBefore child [] (All-nil (IsChildBefore child)) pairs
ordered_put child (x ∷ xs) new pairs =
    either (AllPairs IsChildBefore) (is_lt (stands x child)) (x ∷ put child xs) (child ∷ x ∷ xs)
    (λ less. AllPairs-cons IsChildBefore x (put child xs)
    (all_put (IsChildBefore x) child xs (is_less (stands x child) less) (pairs_head IsChildBefore x xs pairs))
    (ordered_put child xs (All-tail (λ (y : Child). y.values ≢ child.values) x xs new) (pairs_tail IsChildBefore x xs pairs)))
    (λ not. let before : IsChildBefore child x = behind x child (All-head (λ (y : Child). y.values ≢ child.values) x xs new)
    not in
    AllPairs-cons IsChildBefore child (x ∷ xs)
    (All-cons (IsChildBefore child) x xs before
    (All-weaker (IsChildBefore x) (IsChildBefore child)
    (λ y after. values_total.trans child.values x.values y.values before after) xs (pairs_head IsChildBefore x xs pairs)))
    pairs)

-- What is given to rings, one after the other.
use Rattle.std.proofs.Common.{◌≡◌, ℕ, zero, suc, ◌+◌, ◌<◌, ◌≤◌, List, [], ◌∷◌, ◌++◌, Some, length, slice_get, get_or, set}
use Rattle.std.proofs.Common.{All, refl, sym, ap, subst, ◌∙◌, arith, inl, inr}
use Rattle.std.specs.Prelude.{drop, Option, None}
use Rattle.std.proofs.Math.ListN.{length-set}
use Rattle.std.proofs.lemmas.Option.{slice_get_read, slice_get_within, slice_get-get_or, slice_get_cases}
use Rattle.ledger_core.proofs.Placing.{at_set, at_push}
use Rattle.registry_state.proofs.Lists.{cases_order}
use Rattle.std.specs.declared.alloc.Global.{Global}
use Rattle.rtrb.specs.Ring.{sent, known_free, IsPair, SameProducer}
use Rattle.rtrb.specs.declared.producer.Producer.{Producer}
use Rattle.rtrb.specs.declared.AnyItems.{AnyItems}
use Rattle.page_crew.specs.Rings.{Ring, IsGiven, AreGiven, ArePaired}
use Rattle.page_crew.specs.Held.{feed_of}
use Rattle.page_crew.specs.declared.page_recorder.PageRecorder.{PageRecorder}
use Rattle.page_crew.specs.declared.shared_recorder.SharedRecorder.{SharedRecorder}

-- the first of what is left, and what is left behind it
pub drop_step : {A : Type 0} (xs : List A) (n : ℕ) (x : A) (rest : List A) → drop n xs ≡ x ∷ rest
    → (slice_get xs n ≡ Some x) × (rest ≡ drop (suc n) xs)
drop_step [] zero x rest is = absurd (let n = ap length is in omega (arith, n))
drop_step [] (suc n) x rest is = absurd (let n = ap length is in omega (arith, n))
drop_step {A} (y ∷ xs) zero x rest is = (ap first is, sym (ap tail_of is))
  where
    first : List A → Option A
    first [] = None
    first (z ∷ zs) = Some z

    tail_of : List A → List A
    tail_of [] = []
    tail_of (z ∷ zs) = zs
drop_step (y ∷ xs) (suc n) x rest is = drop_step xs n x rest is

-- nothing is left
pub drop_end : {A : Type 0} (xs : List A) (n : ℕ) → length (drop n xs) ≡ 0 → length xs ≤ n
drop_end [] n none = omega arith
drop_end (x ∷ xs) zero none = absurd (omega (arith, none))
drop_end (x ∷ xs) (suc n) none = let le = drop_end xs n none in omega (arith, le)

pub record IsGiving {T : Type 0} (place : ℕ) (old new : List (Producer T Global AnyItems)) (rest recorders : List T) : Type 0
  where
    pub many : length new ≡ length old
    pub left : rest ≡ drop place recorders
    pub given : (k : ℕ) (p q : Producer T Global AnyItems) (r : T) → k < place → slice_get old k ≡ Some p → slice_get new k ≡ Some q
        → slice_get recorders k ≡ Some r → IsGiven p q r
    pub kept : (k : ℕ) (q : Producer T Global AnyItems) → place ≤ k → slice_get new k ≡ Some q → slice_get old k ≡ Some q

some_same : {A : Type 0} (o : Option A) (x y : A) → o ≡ Some x → o ≡ Some y → x ≡ y
some_same {A} o x y a b = ap (value x) (sym a ∙ b)
  where
    value : A → Option A → A
    value d None = d
    value d (Some z) = z

module _ {T : Type 0} (place : ℕ) (old new : List (Producer T Global AnyItems)) (rest recorders : List T)
    (giving : IsGiving place old new rest recorders) (many : length recorders ≡ length old) where
  module _ (r : T) (rest' : List T) (next : rest ≡ r ∷ rest') where
    step : (slice_get recorders place ≡ Some r) × (rest' ≡ drop (suc place) recorders)
    step = drop_step recorders place r rest' (sym giving.left ∙ next)

    pub place_within : place < length new
    place_within =
        let within = slice_get_within recorders place r step.0 in let same = giving.many in omega (arith, within, many, same)

    -- the ring at the place is as it was
    pub ring_kept : (p : Producer T Global AnyItems) → p ≡ get_or new place p → slice_get old place ≡ Some p
    ring_kept p read = giving.kept place p (omega arith) (slice_get_read new (length new) place p refl place_within read)

    -- it was given the next recorder
    pub gives : (p q : Producer T Global AnyItems) → p ≡ get_or new place p → IsGiven p q r → IsGiving (place + 1) old (set new
        place q) rest' recorders
    gives p q read given = record {
      many = length-set new place q ∙ giving.many;
      left = let next_place : suc place ≡ place + 1 = omega arith in subst (λ n. rest' ≡ drop n recorders) next_place step.1;
      given = λ k a b s within old_at new_at at. elim (at_set new place q k b new_at) [
        | inl here ↦
            let a_is : p ≡ a = some_same (slice_get old place) p a (ring_kept p read)
            (subst (λ n. slice_get old n ≡ Some a) here.0 old_at) in
            let s_is : r ≡ s = some_same (slice_get recorders place) r s step.0
            (subst (λ n. slice_get recorders n ≡ Some s) here.0 at) in
            subst (λ x. IsGiven x b s) a_is (subst (λ x. IsGiven p x s) here.1 (subst (IsGiven p q) s_is given))
        | inr there ↦ elim (cases_order k place) [
          | inl before ↦ giving.given k a b s before old_at there.1 at
          | inr other ↦ elim other [ inl same ↦ absurd (there.0 same) | inr after ↦ absurd (omega (arith, within, after)) ]
        ]
      ];
      kept = λ k b behind new_at. elim (at_set new place q k b new_at) [
        | inl here ↦ absurd (let at = here.0 in omega (arith, at, behind))
        | inr there ↦ giving.kept k b (omega (arith, behind)) there.1
      ];
    }

  -- all are given
  pub all_given : length rest ≡ 0 → AreGiven old new recorders
  all_given none =
      let end = drop_end recorders place (ap length (sym giving.left) ∙ none) in
      record {
        many = giving.many;
        all = many;
        given = λ k p q r old_at new_at at.
            let within = slice_get_within recorders k r at in giving.given k p q r (omega (arith, end, within)) old_at new_at at;
      }

-- rings to which nothing was given have each been given its recorder alone
pub first_given : {N C H G : ℕ} (old new : List (Ring N C H G)) (recorders : List (SharedRecorder N C H G)) → AreGiven old new
    recorders
    → All (λ (p : Ring N C H G). (sent p ≡ []) × (known_free p ≡ 96)) old
    → (k : ℕ) (p : Ring N C H G) (r : SharedRecorder N C H G) → slice_get new k ≡ Some p → slice_get recorders k ≡ Some r
    → sent p ≡ r ∷ []
first_given {N} {C} {H} {G} old new recorders given empty k p r new_at at =
    let within = slice_get_within new k p new_at in
    let many = given.many in
    let in_old : k < length old = omega (arith, within, many) in
    (given.given k (get_or old k p) p r (slice_get-get_or old k p in_old) new_at at).1
    ∙ ap (λ (l : List (SharedRecorder N C H G)). l ++ r ∷ []) (empty k p in_old).0

module _ {N C H G : ℕ} where
  -- the ends of one ring are so after a push
  pair_then : (p q : Ring N C H G) (r : PageRecorder N C H G) → SameProducer p q → IsPair p (feed_of r) → IsPair q (feed_of r)
  pair_then p q r same pair = (pair.0 ∙ sym same.0.0, pair.1 ∙ sym same.0.1, pair.2 ∙ sym same.0.2, pair.3 ∙ sym same.0.3)

  -- one ring more, and its recorder
  pub paired_more : (rings : List (Ring N C H G)) (recorders : List (PageRecorder N C H G)) (p : Ring N C H G) (r : PageRecorder N
      C H G)
      → length rings ≡ length recorders → ArePaired rings recorders → IsPair p (feed_of r)
      → ArePaired (rings ++ p ∷ []) (recorders ++ r ∷ [])
  paired_more rings recorders p r many paired pair k q s at_q at_s = elim (at_push rings p k q at_q) [
    | inl here ↦ elim (at_push recorders r k s at_s) [
      | inl also ↦ subst (λ (x : Ring N C H G). IsPair x (feed_of s)) here.1
          (subst (λ (x : PageRecorder N C H G). IsPair p (feed_of x)) also.1 pair)
      | inr other ↦ absurd (other.0 (here.0 ∙ many))
    ]
    | inr there ↦ elim (at_push recorders r k s at_s) [
      | inl here ↦ absurd (there.0 (here.0 ∙ sym many))
      | inr other ↦ paired k q s there.1 other.1
    ]
  ]

  -- rings that were given one recorder more are those that they were
  pub paired_given : (old new : List (Ring N C H G)) (theirs : List (SharedRecorder N C H G)) (recorders : List (PageRecorder N C
      H G))
      → AreGiven old new theirs → ArePaired old recorders → ArePaired new recorders
  paired_given old new theirs recorders given paired k q r at_q at_r =
      let within = slice_get_within new k q at_q in
      let many = given.many in
      let all = given.all in
      let in_old : k < length old = omega (arith, within, many) in
      let there_old = slice_get-get_or old k q in_old in
      elim (slice_get_cases theirs k).1 [
        | inl there ↦ pair_then (get_or old k q) q r (given.given k (get_or old k q) q there.0 there_old at_q there.2).0
            (paired k (get_or old k q) r there_old at_r)
        | inr none ↦ absurd (let past = none.0 in omega (arith, past, in_old, all))
      ]

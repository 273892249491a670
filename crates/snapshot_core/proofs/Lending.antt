-- What a worker's number, its row and what it lends are after one more event.
use Rattle.std.proofs.Common.{◌≡◌, ◌≢◌, ◌&&◌, ℕ, zero, suc, ◌+◌, ◌<◌, ◌≤◌, ◌⊎◌, inl, inr, ⊎_elim, Bool, true, false, cond, List}
use Rattle.std.proofs.Common.{[], ◌∷◌, ◌++◌, length, eqb, ltb, lt-ltb, le-ltb, eq-eqb, ne_eqb, sym, refl, ap, ◌∙◌, arith, Option}
use Rattle.std.proofs.Common.{Some, None, append_assoc, map, subst}
use Rattle.std.proofs.lemmas.Bool.{and_right}
use mathlib.Core.Logic.{dite}
use mathlib.Core.Option.{some, some-injective, some-ne-none}
use native.Mathlib.Decide.{ℕ_discrete, dec_le}
use lib.ListN.{get_elem?}
use Rattle.ledger_core.specs.declared.op.Op.{Op}
use Rattle.snapshot_core.specs.Tries.{View}
use Rattle.snapshot_core.specs.History.{Published, number_at, row_at}
use Rattle.snapshot_core.specs.Turns.{Answered}
use Rattle.snapshot_core.specs.Faithful.{last_publish, last_view, lent_since, lent_at}

-- What stands in a list.
module _ {A : Type 0} where
  pub in_both : (xs ys : List A) (q : ℕ) (x : A) → get_elem? (xs ++ ys) q ≡ some x → (get_elem? xs q ≡ some x)
      ⊎ ((r : ℕ) × (q ≡ length xs + r) × (get_elem? ys r ≡ some x))
  in_both [] ys q x e = inr (q, omega arith, e)
  in_both (z ∷ xs) ys zero x e = inl e
  in_both (z ∷ xs) ys (suc q) x e = ⊎_elim inl (λ t. let t1 = t.1 in inr (t.0, omega arith, t.2)) (in_both xs ys q x e)

  pub within : (xs : List A) (q : ℕ) (x : A) → get_elem? xs q ≡ some x → q < length xs
  within [] q x e = absurd (some-ne-none x (sym e))
  within (z ∷ xs) zero x e = omega arith
  within (z ∷ xs) (suc q) x e = let r = within xs q x e in omega arith

  pub in_first : (xs ys : List A) (q : ℕ) (x : A) → get_elem? xs q ≡ some x → get_elem? (xs ++ ys) q ≡ some x
  in_first [] ys q x e = absurd (some-ne-none x (sym e))
  in_first (z ∷ xs) ys zero x e = e
  in_first (z ∷ xs) ys (suc q) x e = in_first xs ys q x e

  pub at_end : (xs ys : List A) (x : A) → get_elem? (xs ++ x ∷ ys) (length xs) ≡ some x
  at_end [] ys x = refl
  at_end (z ∷ xs) ys x = at_end xs ys x

  pub only_one : (x : A) (q : ℕ) (y : A) → get_elem? (x ∷ []) q ≡ some y → x ≡ y
  only_one x zero y e = some-injective x y e
  only_one x (suc q) y e = absurd (some-ne-none y (sym e))

  -- the element that follows those of xs
  pub one_at : (xs ls l : List A) (x : A) → ls ≡ (xs ++ x ∷ []) ++ l → get_elem? ls (length xs) ≡ some x
  one_at xs ls l x is = ap (λ (y : List A). get_elem? y (length xs)) (is ∙ append_assoc xs (x ∷ []) l) ∙ at_end xs l x

  pub get_map : {B : Type 0} (f : A → B) (xs : List A) (q : ℕ) (x : A) → get_elem? xs q ≡ some x
      → get_elem? (map f xs) q ≡ some (f x)
  get_map f [] q x e = absurd (some-ne-none x (sym e))
  get_map f (y ∷ xs) zero x e = ap (λ z. some (f z)) (some-injective y x e)
  get_map f (y ∷ xs) (suc q) x e = get_map f xs q x e

  -- an element whose two numbers are these, or that there is none
  pub find : (f g : A → ℕ) (xs : List A) (a b : ℕ) → ((q : ℕ) × (x : A) × (get_elem? xs q ≡ some x) × (f x ≡ a) × (g x ≡ b))
      ⊎ ((q : ℕ) (x : A) → get_elem? xs q ≡ some x → f x ≡ a → g x ≢ b)
  find f g [] a b = inr (λ q x e. absurd (some-ne-none x (sym e)))
  find f g (y ∷ xs) a b = dite (ℕ_discrete (f y) a)
      (λ same. dite (ℕ_discrete (g y) b) (λ too. inl (0, y, refl, same, too)) (λ ne. on (λ s. ne) (find f g xs a b)))
      (λ ne. on (λ s. absurd (ne s)) (find f g xs a b))
    where
      past : (f y ≡ a → g y ≢ b) → ((q : ℕ) (x : A) → get_elem? xs q ≡ some x → f x ≡ a → g x ≢ b) → (q : ℕ) (x : A)
          → get_elem? (y ∷ xs) q ≡ some x → f x ≡ a → g x ≢ b
      past unlike none zero x e = subst (λ (z : A). f z ≡ a → g z ≢ b) (some-injective y x e) unlike
      past unlike none (suc q) x e = none q x e

      on : (f y ≡ a → g y ≢ b) → ((q : ℕ) × (x : A) × (get_elem? xs q ≡ some x) × (f x ≡ a) × (g x ≡ b))
          ⊎ ((q : ℕ) (x : A) → get_elem? xs q ≡ some x → f x ≡ a → g x ≢ b)
          → ((q : ℕ) × (x : A) × (get_elem? (y ∷ xs) q ≡ some x) × (f x ≡ a) × (g x ≡ b))
          ⊎ ((q : ℕ) (x : A) → get_elem? (y ∷ xs) q ≡ some x → f x ≡ a → g x ≢ b)
      on unlike t = ⊎_elim (λ s. inl (suc s.0, s.1, s.2, s.3, s.4)) (λ none. inr (past unlike none)) t

-- Lists whose elements stand at events.
module _ {A : Type 0} (at : A → ℕ) where
  -- all before k
  abbrev pub Below : ℕ → List A → Type 0
  Below k xs = (q : ℕ) (x : A) → get_elem? xs q ≡ some x → at x < k

  -- none before k
  abbrev pub NotBelow : ℕ → List A → Type 0
  NotBelow k xs = (q : ℕ) (x : A) → get_elem? xs q ≡ some x → k ≤ at x

  -- in the order of their events
  abbrev pub Rising : List A → Type 0
  Rising xs = (q r : ℕ) (x y : A) → get_elem? xs q ≡ some x → get_elem? xs r ≡ some y → q < r → at x < at y

  pub below_next : (k : ℕ) (xs : List A) → Below k xs → Below (suc k) xs
  below_next k xs h q y e = let l = h q y e in omega arith

  -- one more
  pub below_with : (k : ℕ) (xs : List A) (x : A) → Below k xs → at x < k → Below k (xs ++ x ∷ [])
  below_with k xs x h lt q y e = ⊎_elim (λ t. h q y t) (λ t. let s : at x ≡ at y = ap at (only_one x t.0 y t.2) in omega arith)
      (in_both xs (x ∷ []) q y e)

  -- one more, at k
  pub below_more : (k : ℕ) (xs : List A) (x : A) → Below k xs → at x ≡ k → Below (suc k) (xs ++ x ∷ [])
  below_more k xs x h is = below_with (suc k) xs x (below_next k xs h) (omega arith)

  pub rising_more : (k : ℕ) (xs : List A) (x : A) → Below k xs → at x ≡ k → Rising xs → Rising (xs ++ x ∷ [])
  rising_more k xs x h is rise q r y z ey ez lt = ⊎_elim
      (λ t. ⊎_elim (λ u. rise q r y z t u lt) (λ u. let l = h q y t in let s : at x ≡ at z = ap at (only_one x u.0 z u.2) in
      omega arith) (in_both xs (x ∷ []) r z ez))
      (λ t. let a = t.1 in let last = within (x ∷ []) t.0 y t.2 in
      ⊎_elim (λ u. let w = within xs r z u in absurd (omega arith)) (λ u. let b = u.1 in let l = within (x ∷ []) u.0 z u.2 in
      absurd (omega arith)) (in_both xs (x ∷ []) r z ez))
      (in_both xs (x ∷ []) q y ey)

  -- one of each event
  pub same_place : (xs : List A) → Rising xs → (q r : ℕ) (x y : A) → get_elem? xs q ≡ some x → get_elem? xs r ≡ some y
      → at x ≡ at y → q ≡ r
  same_place xs rise q r x y ex ey e = dite (dec_le q r)
      (λ le. dite (ℕ_discrete q r) (λ s. s) (λ ne. let l = rise q r x y ex ey (omega arith) in absurd (omega arith)))
      (λ gt. let l = rise r q y x ey ex (omega arith) in absurd (omega arith))

  pub one_only : (xs : List A) → Rising xs → (q r : ℕ) (x y : A) → get_elem? xs q ≡ some x → get_elem? xs r ≡ some y → at x ≡ at y
      → x ≡ y
  one_only xs rise q r x y ex ey e = some-injective x y (sym ex ∙ ap (get_elem? xs) (same_place xs rise q r x y ex ey e) ∙ ey)

  -- none at k, where those before it stand before k and those after it after k
  pub none_at : (k : ℕ) (xs ls l : List A) → Below k xs → NotBelow (suc k) l → ls ≡ xs ++ l → (q : ℕ) (x : A)
      → get_elem? ls q ≡ some x → at x ≢ k
  none_at k xs ls l below later is q x e same = ⊎_elim (λ t. let b = below q x t in absurd (omega arith))
      (λ t. let b = later t.0 x t.2 in absurd (omega arith)) (in_both xs l q x (ap (λ (y : List A). get_elem? y q) (sym is) ∙ e))

  pub rising_tail : (x : A) (xs : List A) → Rising (x ∷ xs) → Rising xs
  rising_tail x xs rise q r y z ey ez lt = rise (suc q) (suc r) y z ey ez (omega arith)

-- an entry at a that counts for worker i or not, where it is not at k for i
test_quiet : (a b k i : ℕ) → (a ≡ k → b ≢ i) → (ltb a (suc k) && eqb b i) ≡ (ltb a k && eqb b i)
test_quiet a b k i h = dite (ℕ_discrete a k)
    (λ same. let off = ne_eqb b i (h same) in and_right (ltb a (suc k)) (eqb b i) off ∙ sym (and_right (ltb a k) (eqb b i) off))
    (λ other. ap (λ (y : Bool). y && eqb b i)
    (dite (dec_le a k) (λ le. lt-ltb a (suc k) (omega arith) ∙ sym (lt-ltb a k (omega arith)))
    (λ gt. le-ltb a (suc k) (omega arith) ∙ sym (le-ltb a k (omega arith)))))

abbrev pub at_publish : Published → ℕ
at_publish p = p.at

abbrev pub at_answer : Answered → ℕ
at_answer a = a.end

-- a sum over a worker's publishes before j
abbrev pub weigh : (Published → ℕ) → List Published → (j i : ℕ) → ℕ
weigh v [] j i = 0
weigh v (p ∷ ps) j i = cond (ltb p.at j && eqb p.worker i) (v p) 0 + weigh v ps j i

pub number_is : (ps : List Published) (j i : ℕ) → number_at ps j i ≡ weigh (λ p. 1) ps j i
number_is [] j i = refl
number_is (p ∷ ps) j i = ap (λ (y : ℕ). cond (ltb p.at j && eqb p.worker i) 1 0 + y) (number_is ps j i)

pub row_is : (adds : List Op → ℕ → ℕ) (ps : List Published) (j i x : ℕ) → row_at adds ps j i x ≡ weigh (λ p. adds p.ops x) ps j i
row_is adds [] j i x = refl
row_is adds (p ∷ ps) j i x = ap (λ (y : ℕ). cond (ltb p.at j && eqb p.worker i) (adds p.ops x) 0 + y) (row_is adds ps j i x)

-- the worker i publishes nothing at k
abbrev pub NoPublish : List Published → (k i : ℕ) → Type 0
NoPublish ps k i = (q : ℕ) (p : Published) → get_elem? ps q ≡ some p → p.at ≡ k → p.worker ≢ i

-- where all publishes are before k
pub not_yet : (ps : List Published) (k i : ℕ) → Below at_publish k ps → NoPublish ps k i
not_yet ps k i h q p e at = absurd (let l = h q p e in omega arith)

-- the actor i has no answer at k
abbrev pub NoAnswer : List Answered → (k i : ℕ) → Type 0
NoAnswer zs k i = (q : ℕ) (a : Answered) → get_elem? zs q ≡ some a → a.end ≡ k → a.actor ≢ i

weigh_quiet : (v : Published → ℕ) (ps : List Published) (k i : ℕ) → NoPublish ps k i → weigh v ps (suc k) i ≡ weigh v ps k i
weigh_quiet v [] k i h = refl
weigh_quiet v (p ∷ ps) k i h = ap (λ (z : Bool × ℕ). cond z.0 (v p) 0 + z.1)
    (λ c. (test_quiet p.at p.worker k i (h 0 p refl) c, weigh_quiet v ps k i (λ q. h (suc q)) c))

-- after the worker's publish at k
after_it : (p : Published) (ps : List Published) (k i : ℕ) → Rising at_publish (p ∷ ps) → p.at ≡ k → NoPublish ps k i
after_it p ps k i rise is q s e same = let l = rise 0 (suc q) p s refl e (omega arith) in absurd (omega arith)

before_it : (p s : Published) (ps : List Published) (k i q : ℕ) → Rising at_publish (p ∷ ps) → get_elem? ps q ≡ some s → s.at ≡ k
    → p.at ≡ k → p.worker ≢ i
before_it p s ps k i q rise e is same = let l = rise 0 (suc q) p s refl e (omega arith) in absurd (omega arith)

test_now : (a b k i : ℕ) → a ≡ k → b ≡ i → ((ltb a (suc k) && eqb b i) ≡ true) × ((ltb a k && eqb b i) ≡ false)
test_now a b k i e f = (
  ap (λ (z : Bool × Bool). z.0 && z.1) (λ c. (lt-ltb a (suc k) (omega arith) c, eq-eqb b i f c)),
  ap (λ (z : Bool). z && eqb b i) (le-ltb a k (omega arith)),
)

weigh_now : (v : Published → ℕ) (ps : List Published) (k i q : ℕ) (p : Published) → Rising at_publish ps → get_elem? ps q ≡ some p
    → p.at ≡ k → p.worker ≡ i → weigh v ps (suc k) i ≡ weigh v ps k i + v p
weigh_now v [] k i q p rise e is of = absurd (some-ne-none p (sym e))
weigh_now v (s ∷ ps) k i zero p rise e is of =
    let same : s ≡ p = some-injective s p e in
    let t = test_now s.at s.worker k i (ap (λ (y : Published). y.at) same ∙ is) (ap (λ (y : Published). y.worker) same
    ∙ of) in
    let tail = weigh_quiet v ps k i (after_it s ps k i rise (ap (λ (y : Published). y.at) same ∙ is)) in
    let one : cond (ltb s.at (suc k) && eqb s.worker i) (v s) 0 ≡ v p = ap (λ (z : Bool × Published). cond z.0 (v z.1) 0)
    (λ c. (t.0 c, same c)) in
    let none : cond (ltb s.at k && eqb s.worker i) (v s) 0 ≡ 0 = ap (λ (z : Bool). cond z (v s) 0) t.1 in
    let goal : cond (ltb s.at (suc k) && eqb s.worker i) (v s) 0 + weigh v ps (suc k) i ≡ cond (ltb s.at k && eqb s.worker i)
    (v s) 0 + weigh v ps k i + v p = omega arith in goal
weigh_now v (s ∷ ps) k i (suc q) p rise e is of =
    let tail = weigh_now v ps k i q p (rising_tail at_publish s ps rise) e is of in
    let head : cond (ltb s.at (suc k) && eqb s.worker i) (v s) 0 ≡ cond (ltb s.at k && eqb s.worker i) (v s) 0 =
    ap (λ (z : Bool). cond z (v s) 0) (test_quiet s.at s.worker k i (before_it s p ps k i q rise e is)) in
    let goal : cond (ltb s.at (suc k) && eqb s.worker i) (v s) 0 + weigh v ps (suc k) i ≡ cond (ltb s.at k && eqb s.worker i)
    (v s) 0 + weigh v ps k i + v p = omega arith in goal

-- The number and the row of a worker.
pub number_quiet : (ps : List Published) (k i : ℕ) → NoPublish ps k i → number_at ps (suc k) i ≡ number_at ps k i
number_quiet ps k i h = number_is ps (suc k) i ∙ weigh_quiet (λ p. 1) ps k i h ∙ sym (number_is ps k i)

-- while the worker publishes nothing
pub number_calm : (ps : List Published) (i j k : ℕ) → j ≤ k → ((e : ℕ) → j ≤ e → e < k → NoPublish ps e i)
    → number_at ps k i ≡ number_at ps j i
number_calm ps i j zero le none = ap (λ (y : ℕ). number_at ps y i) (let g : 0 ≡ j = omega arith in g)
number_calm ps i j (suc k) le none = dite (ℕ_discrete j (suc k))
    (λ same. ap (λ (y : ℕ). number_at ps y i) (sym same))
    (λ ne. number_quiet ps k i (none k (omega arith) (omega arith))
    ∙ number_calm ps i j k (omega arith) (λ e lo hi. none e lo (omega arith)))

pub row_quiet : (adds : List Op → ℕ → ℕ) (ps : List Published) (k i x : ℕ) → NoPublish ps k i
    → row_at adds ps (suc k) i x ≡ row_at adds ps k i x
row_quiet adds ps k i x h = row_is adds ps (suc k) i x ∙ weigh_quiet (λ p. adds p.ops x) ps k i h ∙ sym (row_is adds ps k i x)

pub number_now : (ps : List Published) (k i q : ℕ) (p : Published) → Rising at_publish ps → get_elem? ps q ≡ some p → p.at ≡ k
    → p.worker ≡ i → number_at ps (suc k) i ≡ number_at ps k i + 1
number_now ps k i q p rise e is of = number_is ps (suc k) i ∙ weigh_now (λ p. 1) ps k i q p rise e is of
    ∙ ap (λ (y : ℕ). y + 1) (sym (number_is ps k i))

pub row_now : (adds : List Op → ℕ → ℕ) (ps : List Published) (k i q x : ℕ) (p : Published) → Rising at_publish ps
    → get_elem? ps q ≡ some p → p.at ≡ k → p.worker ≡ i → row_at adds ps (suc k) i x ≡ row_at adds ps k i x + adds p.ops x
row_now adds ps k i q x p rise e is of = row_is adds ps (suc k) i x ∙ weigh_now (λ p. adds p.ops x) ps k i q p rise e is of
    ∙ ap (λ (y : ℕ). y + adds p.ops x) (sym (row_is adds ps k i x))

-- The last publish of a worker.
publish_quiet : (ps : List Published) (k i : ℕ) (f : Option ℕ) → NoPublish ps k i
    → last_publish ps (suc k) i f ≡ last_publish ps k i f
publish_quiet [] k i f h = refl
publish_quiet (p ∷ ps) k i f h = publish_quiet ps k i (cond (ltb p.at (suc k) && eqb p.worker i) (Some p.at) f) (λ q. h (suc q))
    ∙ ap (λ (b : Bool). last_publish ps k i (cond b (Some p.at) f)) (test_quiet p.at p.worker k i (h 0 p refl))

pub publish_later : (ps : List Published) (j i : ℕ) (f : Option ℕ) → NotBelow at_publish j ps → last_publish ps j i f ≡ f
publish_later [] j i f h = refl
publish_later (p ∷ ps) j i f h = publish_later ps j i (cond (ltb p.at j && eqb p.worker i) (Some p.at) f) (λ q. h (suc q))
    ∙ ap (λ (b : Bool). cond (b && eqb p.worker i) (Some p.at) f) (le-ltb p.at j (h 0 p refl))

publish_now : (ps : List Published) (k i q : ℕ) (p : Published) (f : Option ℕ) → Rising at_publish ps → get_elem? ps q ≡ some p
    → p.at ≡ k → p.worker ≡ i → last_publish ps (suc k) i f ≡ Some k
publish_now [] k i q p f rise e is of = absurd (some-ne-none p (sym e))
publish_now (s ∷ ps) k i zero p f rise e is of =
    let same : s ≡ p = some-injective s p e in let at : s.at ≡ k = ap (λ (y : Published). y.at) same ∙ is in
    let t = test_now s.at s.worker k i at (ap (λ (y : Published). y.worker) same ∙ of) in
    publish_later ps (suc k) i (cond (ltb s.at (suc k) && eqb s.worker i) (Some s.at) f)
    (λ q y ey. let l = rise 0 (suc q) s y refl ey (omega arith) in omega arith)
    ∙ ap (λ (z : Bool × ℕ). cond z.0 (Some z.1) f) (λ c. (t.0 c, at c))
publish_now (s ∷ ps) k i (suc q) p f rise e is of =
    publish_now ps k i q p (cond (ltb s.at (suc k) && eqb s.worker i) (Some s.at) f) (rising_tail at_publish s ps rise) e is of

-- The last view of an actor.
pub view_quiet : (zs : List Answered) (k i : ℕ) (f : Option View) → NoAnswer zs k i
    → last_view zs (suc k) i f ≡ last_view zs k i f
view_quiet [] k i f h = refl
view_quiet (a ∷ zs) k i f h = view_quiet zs k i (cond (ltb a.end (suc k) && eqb a.actor i) a.view f) (λ q. h (suc q))
    ∙ ap (λ (b : Bool). last_view zs k i (cond b a.view f)) (test_quiet a.end a.actor k i (h 0 a refl))

view_later : (zs : List Answered) (j i : ℕ) (f : Option View) → NotBelow at_answer j zs → last_view zs j i f ≡ f
view_later [] j i f h = refl
view_later (a ∷ zs) j i f h = view_later zs j i (cond (ltb a.end j && eqb a.actor i) a.view f) (λ q. h (suc q))
    ∙ ap (λ (b : Bool). cond (b && eqb a.actor i) a.view f) (le-ltb a.end j (h 0 a refl))

pub view_now : (zs : List Answered) (k i q : ℕ) (a : Answered) (f : Option View) → Rising at_answer zs → get_elem? zs q ≡ some a
    → a.end ≡ k → a.actor ≡ i → last_view zs (suc k) i f ≡ a.view
view_now [] k i q a f rise e is of = absurd (some-ne-none a (sym e))
view_now (s ∷ zs) k i zero a f rise e is of =
    let same : s ≡ a = some-injective s a e in let at : s.end ≡ k = ap (λ (y : Answered). y.end) same ∙ is in
    let t = test_now s.end s.actor k i at (ap (λ (y : Answered). y.actor) same ∙ of) in
    view_later zs (suc k) i (cond (ltb s.end (suc k) && eqb s.actor i) s.view f)
    (λ q y ey. let l = rise 0 (suc q) s y refl ey (omega arith) in omega arith)
    ∙ ap (λ (z : Bool × Answered). cond z.0 z.1.view f) (λ c. (t.0 c, same c))
view_now (s ∷ zs) k i (suc q) a f rise e is of = view_now zs k i q a (cond (ltb s.end (suc k) && eqb s.actor i) s.view f)
    (rising_tail at_answer s zs rise) e is of

-- What a worker lends.
pub lent_quiet : (ps : List Published) (zs : List Answered) (k i : ℕ) → NoPublish ps k i
    → lent_at ps zs (suc k) i ≡ lent_at ps zs k i
lent_quiet ps zs k i h = ap (lent_since zs i) (publish_quiet ps k i None h)

pub lent_now : (ps : List Published) (zs : List Answered) (k i q : ℕ) (p : Published) → Rising at_publish ps
    → get_elem? ps q ≡ some p → p.at ≡ k → p.worker ≡ i → lent_at ps zs (suc k) i ≡ last_view zs k i None
lent_now ps zs k i q p rise e is of = ap (lent_since zs i) (publish_now ps k i q p None rise e is of)

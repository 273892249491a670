-- Places of the board's words are apart; reading after a write; lists read by `get_elem?`.
use Rattle.std.proofs.Common.{◌≡◌, ◌≢◌, ℕ, zero, suc, ◌+◌, ◌*◌, ◌%◌, ◌<◌, ◌⊎◌, inl, inr, ⊎_elim, cond, eqb, eq-eqb, ne_eqb, List}
use Rattle.std.proofs.Common.{[], ◌∷◌, ◌++◌, All, length, map, replicate, get_or, set, sym, refl, ap, ◌∙◌, subst, arith}
use Rattle.std.proofs.Common.{get_or-set_same, get_or-set_other}
use mathlib.Core.Option.{some, some-injective, some-ne-none}
use lib.ListN.{get_elem?}
use Rattle.std.proofs.lemmas.Bool.{cond-true, cond-false}
use Rattle.std.proofs.lemmas.List.{get_or_default}
use Rattle.std.proofs.lemmas.List.Elements.{All-replicate}
use Rattle.std.proofs.lemmas.Nat.{mul-add-lt, same_from_place}
use Rattle.atomic_table.proofs.Lists.{at_index, at_snoc}
use Rattle.segment_layout.specs.declared.part.Item.TheVariants.{Row as RowItem, Flag as FlagItem, Vector as VectorItem}
use Rattle.segment_layout.specs.declared.part.Item.TheVariants.{Lent as LentItem}
use Rattle.segment_layout.specs.Layout.{depth, span}
use Rattle.register_rule.specs.Words.{version_item, seg, IsPlaceOf}

-- an item of a version is within the segment
pub item_lt : (b s k : ℕ) → k < b → version_item b s k < span b
item_lt b s k h = omega (arith, mul-add-lt (s % 2) b k 2 (omega arith) h)

-- two words of two versions stand at one item only where they are the same word of the row, in the same buffer
pub same_item : (b s v k j : ℕ) → k < b → j < b → version_item b v j ≡ version_item b s k → (v % 2 ≡ s % 2) × (j ≡ k)
same_item b s v k j hk hj e = same_from_place (v % 2) j (s % 2) k b hj hk (omega (arith, e))

-- no item of the hidden buffer is one of the shown buffer
pub items_apart : (b s k j : ℕ) → k < b → j < b → version_item b (suc s) k ≢ version_item b s j
items_apart b s k j hk hj e = let t = (same_item b s (suc s) j k hj hk e).0 in absurd (omega arith)

-- an item of a version stands where its part does
pub place_is : (n w i s k at : ℕ) → at ≡ i * span (depth n w) + version_item (depth n w) s k → IsPlaceOf n w i s k at
place_is n w i s k at e (RowItem word) is = e ∙ ap (λ (z : ℕ). i * span (depth n w) + version_item (depth n w) s z) is
place_is n w i s k at e FlagItem is = e ∙ ap (λ (z : ℕ). i * span (depth n w) + version_item (depth n w) s z) is
place_is n w i s k at e (VectorItem worker) is = e ∙ ap (λ (z : ℕ). i * span (depth n w) + version_item (depth n w) s z) is
place_is n w i s k at e (LentItem word) is = e ∙ ap (λ (z : ℕ). i * span (depth n w) + version_item (depth n w) s z) is

-- reading after a write
pub seg_here : (b : ℕ) (ws : List ℕ) (i x v at : ℕ) → at ≡ i * span b + x → at < length ws → seg b (set ws at v) i x ≡ v
seg_here b ws i x v at e h = subst (λ (p : ℕ). get_or (set ws at v) p 0 ≡ v) e (get_or-set_same ws at v 0 h)

pub seg_else : (b : ℕ) (ws : List ℕ) (i x v at j y : ℕ) → at ≡ i * span b + x → x < span b → y < span b → (j ≡ i → y ≢ x)
    → seg b (set ws at v) j y ≡ seg b ws j y
seg_else b ws i x v at j y e hx hy ne = get_or-set_other ws at (j * span b + y) v 0
    (λ same. let t = same_from_place j y i x (span b) hy hx (same ∙ e) in ne t.0 t.1)

pub seg_at : (b : ℕ) (ws : List ℕ) (i x at : ℕ) → at ≡ i * span b + x → get_or ws at 0 ≡ seg b ws i x
seg_at b ws i x at e = ap (λ (p : ℕ). get_or ws p 0) e

module _ {A : Type 0} where
  -- an element stands below the end
  pub at_below : (l : List A) (q : ℕ) (x : A) → get_elem? l q ≡ some x → q < length l
  at_below [] q x e = absurd (some-ne-none x (sym e))
  at_below (y ∷ ys) zero x e = omega arith
  at_below (y ∷ ys) (suc q) x e = let h = at_below ys q x e in omega arith

  -- what `get_elem?` and `get_or` find is the same
  pub there : (l : List A) (k : ℕ) (d : A) → k < length l → get_elem? l k ≡ some (get_or l k d)
  there l k d lt = at_index l k (get_or l k d) lt (get_or_default l k d (get_or l k d) lt)

  pub read_at : (l : List A) (k : ℕ) (x d : A) → get_elem? l k ≡ some x → get_or l k d ≡ x
  read_at l k x d e = some-injective (get_or l k d) x (sym (there l k d (at_below l k x e)) ∙ e)

  -- where P holds of all elements, it holds of each that `get_elem?` finds
  pub from_all : (P : A → Type 0) (l : List A) → All P l → (q : ℕ) (y : A) → get_elem? l q ≡ some y → P y
  from_all P l all q y e = subst P (read_at l q y y e) (all q y (at_below l q y e))

  -- what stands in a list that f was mapped over, and in k times one element
  pub from_map : (f : A → A) (l : List A) (q : ℕ) (y : A) → get_elem? (map f l) q ≡ some y → (x : A) × (get_elem? l q ≡ some x)
      × (f x ≡ y)
  from_map f [] q y e = absurd (some-ne-none y (sym e))
  from_map f (x ∷ xs) zero y e = (x, refl, some-injective (f x) y e)
  from_map f (x ∷ xs) (suc q) y e = from_map f xs q y e

  pub from_replicate : (k : ℕ) (a : A) (q : ℕ) (x : A) → get_elem? (replicate k a) q ≡ some x → a ≡ x
  from_replicate k a = from_all (λ (x : A). a ≡ x) (replicate k a) (All-replicate (λ (x : A). a ≡ x) k a refl)

  -- what stands in two lists, one after the other
  pub from_both : (xs ys : List A) (q : ℕ) (y : A) → get_elem? (xs ++ ys) q ≡ some y → (get_elem? xs q ≡ some y)
      ⊎ ((p : ℕ) × (get_elem? ys p ≡ some y) × (q ≡ length xs + p))
  from_both [] ys q y e = inr (q, e, omega arith)
  from_both (x ∷ xs) ys zero y e = inl e
  from_both (x ∷ xs) ys (suc q) y e = ⊎_elim (λ t. inl t) (λ t. let h = t.2 in inr (t.0, t.1, omega arith))
      (from_both xs ys q y e)

  -- and in a list that became longer by one
  pub last_is : (l : List A) (a b : A) (j : ℕ) → get_elem? (l ++ a ∷ []) j ≡ some b → (get_elem? l j ≡ some b)
      ⊎ ((a ≡ b) × (j ≡ length l))
  last_is l a b j e = ⊎_elim (λ t. inl t) (λ t. let lt = at_below (a ∷ []) t.0 b t.1 in let at = t.2 in
      inr (from_replicate 1 a t.0 b t.1, omega arith)) (from_both l (a ∷ []) j b e)

  -- where P holds of the first element and of each of the others, it holds of each
  pub each_of : (P : A → Type 0) (x : A) (l : List A) → P x → ((q : ℕ) (y : A) → get_elem? l q ≡ some y → P y) → (q : ℕ) (y : A)
      → get_elem? (x ∷ l) q ≡ some y → P y
  each_of P x l first others zero y e = subst P (some-injective x y e) first
  each_of P x l first others (suc q) y e = others q y e

  -- where P holds of each element and of one more, it holds of each of the list with this one at its end
  pub each_push : (P : A → Type 0) (l : List A) (x : A) → ((q : ℕ) (y : A) → get_elem? l q ≡ some y → P y) → P x → (q : ℕ) (y : A)
      → get_elem? (l ++ x ∷ []) q ≡ some y → P y
  each_push P l x others last q y e = ⊎_elim (others q y) (λ (t : x ≡ y). subst P t last) (at_snoc l x y q e)

  -- the function f, but c at i
  pub put : (ℕ → A) → ℕ → A → ℕ → A
  put f i c j = cond (eqb j i) c (f j)

  pub put_here : (f : ℕ → A) (i : ℕ) (c : A) → put f i c i ≡ c
  unfolding put
  put_here f i c = cond-true (eqb i i) c (f i) (eq-eqb i i refl)

  pub put_else : (f : ℕ → A) (i : ℕ) (c : A) (j : ℕ) → j ≢ i → put f i c j ≡ f j
  unfolding put
  put_else f i c j other = cond-false (eqb j i) c (f j) (ne_eqb j i other)

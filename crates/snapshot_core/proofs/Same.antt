-- When two lists, read element by element, are the same, and when two operations are.
use Rattle.std.proofs.Common.{◌≡◌, ℕ, ◌+◌, ◌<◌, ◌≤◌, List, [], ◌∷◌, ◌++◌, length, map, take, get_or, sym, ap, ◌∙◌}
use Rattle.std.specs.Bool.{Decides}
use Rattle.std.proofs.lemmas.Bool.Decides.{Decides-and, Decides-eqb, Decides-like}
use Rattle.std.proofs.lemmas.List.{get_or-map, map_more, take_all}
use Rattle.ledger_core.specs.declared.op.Op.{Op}
use Rattle.ledger_core.specs.declared.op.Op.TheVariants.{Inc, Observe, Up, Down}
use Rattle.ledger_core.specs.contracts.op.OpPartialEq.TheImpl.{eq-value}

-- the operations' `==` tells whether they are one
pub op_decides : (a b : Op) → Decides (eq-value.it a b) (a ≡ b)
op_decides (Inc c x) (Inc d y) = Decides-like _ (λ e. cc) (λ e. (cc, cc)) (Decides-and _ _ (Decides-eqb c d) (Decides-eqb x y))
op_decides (Inc c x) b = (λ is. cc, λ same. cc)
op_decides (Observe c p x) (Observe d q y) = Decides-like _ (λ e. cc) (λ e. (cc, (cc, cc)))
    (Decides-and _ _ (Decides-eqb c d) (Decides-and _ _ (Decides-eqb p q) (Decides-eqb x y)))
op_decides (Observe c p x) b = (λ is. cc, λ same. cc)
op_decides (Up c x) (Up d y) = Decides-like _ (λ e. cc) (λ e. (cc, cc)) (Decides-and _ _ (Decides-eqb c d) (Decides-eqb x y))
op_decides (Up c x) b = (λ is. cc, λ same. cc)
op_decides (Down c x) (Down d y) = Decides-like _ (λ e. cc) (λ e. (cc, cc)) (Decides-and _ _ (Decides-eqb c d) (Decides-eqb x y))
op_decides (Down c x) b = (λ is. cc, λ same. cc)

module _ {A B : Type 0} (f : A → B) where
  -- where the first k of both are the same and the next ones are, the first k + 1 are
  pub same_next : (xs ys : List A) (k : ℕ) (x y : A) → k < length xs → k < length ys → x ≡ get_or xs k x → y ≡ get_or ys k y
      → map f (take k xs) ≡ map f (take k ys) → f x ≡ f y → map f (take (k + 1) xs) ≡ map f (take (k + 1) ys)
  same_next xs ys k x y inx iny isx isy before same =
      map_more f xs k x inx ∙ ap (λ (z : B). map f (take k xs) ++ z ∷ []) (sym (ap f isx) ∙ same ∙ ap f isy)
      ∙ ap (λ (zs : List B). zs ++ f (get_or ys k y) ∷ []) before ∙ sym (map_more f ys k y iny)

  -- in two lists that are the same, so is each element
  pub same_there : (xs ys : List A) (k : ℕ) (x y : A) → k < length xs → k < length ys → x ≡ get_or xs k x → y ≡ get_or ys k y
      → map f xs ≡ map f ys → f x ≡ f y
  same_there xs ys k x y inx iny isx isy same =
      ap f isx ∙ sym (get_or-map f xs k x (f x) inx) ∙ ap (λ (zs : List B). get_or zs k (f x)) same
      ∙ get_or-map f ys k y (f x) iny ∙ sym (ap f isy)

  -- two lists of which all elements are the same, are
  pub same_all : (xs ys : List A) (k : ℕ) → length xs ≤ k → length ys ≤ k → map f (take k xs) ≡ map f (take k ys)
      → map f xs ≡ map f ys
  same_all xs ys k lx ly same = ap (map f) (sym (take_all k xs lx)) ∙ same ∙ ap (map f) (take_all k ys ly)

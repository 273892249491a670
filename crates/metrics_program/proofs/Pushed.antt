-- A value behind a list, once more.
use Rattle.std.proofs.Common.{◌≡◌, ℕ, ◌+◌, List, [], ◌∷◌, ◌++◌, Result, Ok, Err, OnErr, OnOk, IfErr, replicate, ap, ◌∙◌}
use Rattle.std.proofs.Common.{append_assoc}
use Rattle.std.specs.Prelude.{if◌then◌else◌, is_ok, IsOk}
use Rattle.std.proofs.lemmas.List.{replicate-append-replicate}

module _ {E : Type 0} where
  pub pushed_more : {X : Type 0} (r : Result Unit E) (xs pushed start : List X) (v : X) (k : ℕ) → IsOk r
      → pushed ≡ (if is_ok r then xs ++ v ∷ [] else xs)
      → xs ≡ start ++ replicate k v → pushed ≡ start ++ replicate (k + 1) v
  pushed_more (Ok e) xs pushed start v k ok is before =
      is ∙ ap (λ l. l ++ v ∷ []) before ∙ append_assoc start (replicate k v) (v ∷ [])
      ∙ ap (λ l. start ++ l) (replicate-append-replicate k 1 v)
  pushed_more (Err e) xs pushed start v k ok is before = absurd (cc (ok))

  pub one_longer : (r : Result Unit E) (m n : ℕ) → IsOk r → n ≡ (if is_ok r then m + 1 else m) → n ≡ m + 1
  one_longer (Ok e) m n ok is = is
  one_longer (Err e) m n ok is = absurd (cc (ok))

  -- what follows, where the answer was Ok, from what holds then
  pub on_ok_from : {X : Type 0} {P Q : Type 0} (r : Result X E) → (Q → P) → OnOk r Q → OnOk r P
  on_ok_from (Ok x) f q = f q
  on_ok_from (Err e) f q = tt

  -- what follows, where it was Err
  pub on_err_from : {X : Type 0} {P Q : Type 0} (r : Result X E) → (Q → P) → OnErr r Q → OnErr r P
  on_err_from (Ok x) f q = tt
  on_err_from (Err e) f q = f q

  pub if_err_from : {X : Type 0} {P Q : E → Type 0} (r : Result X E) → ((e : E) → Q e → P e) → IfErr r Q → IfErr r P
  if_err_from (Ok x) f q = tt
  if_err_from (Err e) f q = f e q

  -- what is so in any case
  pub on_err_end : {X : Type 0} (r : Result X E) (P : Type 0) → P → OnErr r P
  on_err_end (Ok x) P p = tt
  on_err_end (Err e) P p = p

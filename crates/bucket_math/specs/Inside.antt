-- The fields of `Bounds`: what is true of them, and that the list of the bounds gives them back.
use Rattle.std.specs.Prelude.{◌≡◌, ℕ, ◌-◌, ◌≤◌, List, ◌++◌, length, take, replicate}
use Rattle.std.proofs.Common.{sym, ap, ap₂, subst, ◌∙◌}
use Rattle.std.proofs.lemmas.List.{length-take-le}
use Rattle.bucket_math.specs.Bounds.{AreBounds}
use Rattle.bucket_math.specs.declared.bounds.Bounds.TheInside.{Inside}

-- 24 places, of which the first `len` have the bounds, and the others zeros
pub record IsInside (places : List ℕ) (len : ℕ) : Type 0 where
  pub all_places : length places ≡ 24
  pub few : len ≤ 24
  pub bounds : AreBounds (take len places)
  pub zeros : places ≡ take len places ++ replicate (24 - len) 0

-- the fields of these bounds
abbrev pub fields_of : List ℕ → Inside
fields_of bounds = record { bounds = bounds ++ replicate (24 - length bounds) 0; len = length bounds }

-- of the places the first `len` are `len` bounds
length-view : (places : List ℕ) (len : ℕ) → IsInside places len → length (take len places) ≡ len
length-view places len inside = length-take-le len places (subst (λ n. len ≤ n) (sym inside.all_places) inside.few)

-- the list of the bounds gives their fields back
pub fields_of-view : (b : Inside) → IsInside b.bounds b.len → fields_of (take b.len b.bounds) ≡ b
fields_of-view b inside =
    let e = length-view b.bounds b.len inside in
    let make : List ℕ → ℕ → Inside = λ places len. record { bounds = places; len = len } in
    ap₂ make (ap (λ n. take b.len b.bounds ++ replicate (24 - n) 0) e ∙ sym inside.zeros) e

use Rattle.std.proofs.Common.{◌≡◌, ℕ, ◌+◌, List, [], ◌∷◌, ◌++◌, None, map, replicate, refl, ap, ◌∙◌, rules}
use Rattle.std.proofs.lemmas.List.{replicate_more}
use Rattle.ledger_core.specs.Ops.{width}
use Rattle.snapshot_core.specs.Machine.{seg_of, blank_of}
use Rattle.snapshot_core.proofs.machine.new_segments.Goals as goal

map_push : {A B : Type 0} (f : A → B) (l : List A) (x : A) → map f (l ++ x ∷ []) ≡ map f l ++ f x ∷ []
map_push f [] x = refl
map_push f (y ∷ l) x = ap (λ m. f y ∷ m) (map_push f l x)

-- one more of what all are
one_more : {A B : Type 0} (f : A → B) (old new : List A) (x : A) (k : ℕ) (b : B) → new ≡ old ++ x ∷ [] → map f old ≡ replicate k b
    → f x ≡ b → map f new ≡ replicate (k + 1) b
one_more f old new x k b items all is = ap (map f) items ∙ (map_push f old x ∙ ((λ z. all z ++ is z ∷ []) ∙ replicate_more k b))

pub loop-k-preserved : goal.loop-k-preserved
loop-k-preserved g c =
    one_more seg_of c.loop-k.segments.items _ _ c.loop-k._k (blank_of (width g.row.C g.row.H g.row.G)) c.in_ok-push.ensures.items
    c.loop-k.invariant
    (λ z. record { number = 0; row = c.new.ensures.zeros z; view = None })

pub loop-k-init : goal.loop-k-init
loop-k-init g c = ap (map seg_of) c.new-segments.ensures.items

pub returns : goal.returns
returns g c =
    let k : c.loop-k._k ≡ c.args.n = search rules in
    c.loop-k.invariant ∙ ap (λ (n : ℕ). replicate n (blank_of (width g.row.C g.row.H g.row.G))) k

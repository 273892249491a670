use Rattle.std.proofs.Common.{◌≡◌, ◌≤◌, ℕ, zero, suc, List, [], ◌∷◌, length, take, refl, sym, ap, ◌∙◌, subst, arith}
use Rattle.std.proofs.lemmas.List.{length-map}
use mathlib.Core.Option.{some}
use lib.ListN.{get_elem?}
use Rattle.snapshot_scan.specs.Snapshots.{Taken}
use Rattle.std.proofs.lemmas.Result.{IfOk-from_err}
use Rattle.std.specs.Prelude.{Result, Ok, Err, IsErrAnd, IfErr}
use Rattle.chain_law.specs.declared.turns.ChainFault.{ChainFault}
use Rattle.chain_law.specs.declared.turns.ChainFault.TheVariants.{NoMemory}
use Rattle.chain_law.specs.History.{vectors_of, AreRising, IsHistory, IsPiece, IsChainFault}
use Rattle.chain_law.proofs.Histories.{of_none, rises_from, history_next}
use Rattle.chain_law.proofs.Vectors.{vector_at}
use Rattle.chain_law.proofs.history.history_of.Goals as goal

pub loop-k-init : goal.loop-k-init
loop-k-init g c = subst (IsHistory g.row.N []) (sym c.new-turns.ensures.items) (of_none g.row.N)

pub add_turns-requires-clause-all : goal.add_turns-requires-clause-all
add_turns-requires-clause-all g c = c.vector-to.ensures.all ∙ sym c.vector_before-from.ensures.all

pub add_turns-requires-clause-rises : goal.add_turns-requires-clause-rises
add_turns-requires-clause-rises g c =
    let l = c.args.snapshots.now in let k : ℕ = c.loop-k.k in let long = length-map l (λ (s : Taken). s.vector) in
    let at : get_elem? (vectors_of l) k ≡ some c.vector-to.result.now =
    vector_at l k c.index-snapshots-k.result c.loop-k-test.true c.index-snapshots-k.is
    ∙ ap some (sym c.vector-to.ensures.numbers) in
    rises_from g.row.N (vectors_of l) (λ j u v lt. c.in_default.ensures.none j u v (omega (arith, lt, long))) k
    c.vector_before-from.result.now c.vector-to.result.now c.vector_before-from.ensures at

pub loop-k-preserved : goal.loop-k-preserved
loop-k-preserved g c =
    let l = c.args.snapshots.now in let k : ℕ = c.loop-k.k in let u = c.vector_before-from.result.now in
    let v = c.vector-to.result.now in let grown = c.in_ok-add_turns.ensures in
    let at : get_elem? (vectors_of l) k ≡ some v = vector_at l k c.index-snapshots-k.result c.loop-k-test.true
    c.index-snapshots-k.is ∙ ap some (sym c.vector-to.ensures.numbers) in
    subst (IsHistory g.row.N _) (sym grown.1)
    (history_next g.row.N (vectors_of l) c.loop-k.turns.items k u v grown.0 c.loop-k.invariant c.vector_before-from.ensures at
    c.vector-to.ensures.all
    (subst (λ (n : ℕ). IsPiece n u v grown.0) c.vector_before-from.ensures.all grown.2))

all_of : {A : Type 0} (xs : List A) (n : ℕ) → length xs ≤ n → take n xs ≡ xs
all_of [] zero h = refl
all_of [] (suc n) h = refl
all_of (x ∷ xs) zero h = absurd (omega (arith, h))
all_of (x ∷ xs) (suc n) h = ap (λ l. x ∷ l) (all_of xs n (omega (arith, h)))

pub returns-clause-history : goal.returns-clause-history
returns-clause-history g c =
    let l = c.args.snapshots.now in let f = c.loop-k-test.false in let long = length-map l (λ (s : Taken). s.vector) in
    subst (λ v. IsHistory g.row.N v c.loop-k.turns.items) (all_of (vectors_of l) c.loop-k.k (omega (arith, f, long)))
    c.loop-k.invariant

pub returns-in-Some-clause-fault : goal.returns-in-Some-clause-fault
returns-in-Some-clause-fault g c = c.in-Some.ensures.some

pub returns-in-Some-clause-history : goal.returns-in-Some-clause-history
returns-in-Some-clause-history g c = tt

pub returns-clause-fault : goal.returns-clause-fault
returns-clause-fault g c = tt

pub returns-in_err-add_turns-clause-history : goal.returns-in_err-add_turns-clause-history
returns-in_err-add_turns-clause-history g c = IfOk-from_err c.from_residual.result _ c.from_residual.ensures.0

-- what a fault says, where it is for want of memory
no_memory : {T : Type 0} (vs : List (List ℕ)) (r : Result T ChainFault) → IsErrAnd r (λ e. e ≡ NoMemory)
    → AreRising (length vs) vs → IfErr r (IsChainFault vs)
no_memory vs (Ok x) is rising = tt
no_memory vs (Err e) is rising = subst (IsChainFault vs) (sym is) rising

pub returns-in_err-add_turns-clause-fault : goal.returns-in_err-add_turns-clause-fault
returns-in_err-add_turns-clause-fault g c =
    let l = c.args.snapshots.now in let long = length-map l (λ (s : Taken). s.vector) in
    no_memory (vectors_of l) c.from_residual.result c.from_residual.ensures.1
    (subst (λ (n : ℕ). AreRising n (vectors_of l)) (sym long) c.in_default.ensures.none)

use Rattle.std.proofs.Common.{◌≡◌, ℕ, ◌-◌, sym, ap, ◌∙◌, arith}
use mathlib.Core.Option.{some}
use lib.ListN.{get_elem?}
use Rattle.chain_law.specs.History.{vectors_of}
use Rattle.chain_law.proofs.Vectors.{vector_at}
use Rattle.chain_law.proofs.history.vector_before.Goals as goal

pub returns-else-k-eq0 : goal.returns-else-k-eq0
returns-else-k-eq0 g c =
    let l = c.args.snapshots.now in let k : ℕ = c.args.k in let some_k = c.if-k-eq0.false in let lt = c.requires.inside in
    record {
      all = c.vector.ensures.all;
      zeros = λ none. absurd (some_k none);
      before = λ j last. let at : j ≡ k - 1 = omega (arith, last) in
          ap (get_elem? (vectors_of l)) at
          ∙ (vector_at l (k - 1) c.index-snapshots-k.result (omega (arith, lt)) c.index-snapshots-k.is
          ∙ ap some (sym c.vector.ensures.numbers));
    }

use Rattle.std.proofs.Common.{rules, ◌≡◌, ℕ, ◌+◌, ◌^◌, ◌≤◌, take, inl, inr, sym, ap, ◌∙◌, subst, arith}
use Rattle.std.specs.Prelude.{MatchOption, Option}
use Rattle.bucket_math.specs.Bounds.{IsBadBound}
use Rattle.dirgwako.specs.Spaced.{bounds_by, bound_at, bound_after}
use Rattle.dirgwako.proofs.Spacing.{bound_at-more, more_made, bound_there, stopped, front_of, length-bounds_by}
use Rattle.dirgwako.proofs.bounds.grown.Goals as goal
use Rattle.dirgwako.proofs.bounds.grown.Goals.{in_default-via-in-Some+then-at-lt-MAX_BOUNDS+else-bound-le-MAX_BOUND}
use Rattle.dirgwako.proofs.bounds.grown.Goals.{in_default-via-in-Some+else-at-lt-MAX_BOUNDS, in_default-via-in_default}

pub returns-in_default-clause-fault : goal.returns-in_default-clause-fault
returns-in_default-clause-fault c =
    let f = bound_at c.args.growth c.args.start in
    let at = c.loop-at.at in
    let inv = c.loop-at.invariant in
    let lt = c.loop-at-test.true in
    let there = bound_there f c.args.count at lt in
    let P : Option ℕ → Type 0 = λ o. MatchOption o (2 ^ 64 ≤ f at) (λ bound. bound ≡ f at) in
    let bad : IsBadBound (bounds_by f c.args.count) at = elim c.in_default.branch [
      | in_default-via-in-Some+then-at-lt-MAX_BOUNDS+else-bound-le-MAX_BOUND w ↦ (let is = subst P w.in-Some.is inv.next in
          let over = w.if-bound-le-MAX_BOUND.false in inr (inl (omega (arith, there, is, over))))
      | in_default-via-in-Some+else-at-lt-MAX_BOUNDS w ↦ (let over = w.if-at-lt-MAX_BOUNDS.false in let few = inv.few in
          inl (omega (arith, over, few)))
      | in_default-via-in_default w ↦ (let over = subst P w.in_default.is inv.next in inr (inl (omega (arith, there, over))))
    ] in
    let long = length-bounds_by f c.args.count in
    stopped at c.first_bad.result.at (take at c.loop-at.places) (bounds_by f c.args.count)
    (inv.made ∙ front_of f at c.args.count lt) (omega (arith, lt, long)) bad c.first_bad.ensures

pub loop-at-preserved : goal.loop-at-preserved
loop-at-preserved c =
    let f = bound_at c.args.growth c.args.start in
    let at = c.loop-at.at in
    let inv = c.loop-at.invariant in
    let P : Option ℕ → Type 0 = λ o. MatchOption o (2 ^ 64 ≤ f at) (λ bound. bound ≡ f at) in
    let is = subst P c.in-Some.is inv.next in
    let low = c.if-at-lt-MAX_BOUNDS.true in
    let long = inv.long in
    let next : bound_after c.args.growth c.in-Some.bound ≡ f (at + 1) = ap (bound_after c.args.growth) is
    ∙ sym (bound_at-more c.args.growth c.args.start at) in
    record {
      few = omega (arith, low);
      made = more_made f c.loop-at.places at c.in-Some.bound (omega (arith, low, long)) inv.made is;
      long = search rules;
      next = subst (λ n. MatchOption c.grow-next.result (2 ^ 64 ≤ n) (λ bound. bound ≡ n)) next c.grow-next.ensures;
    }

use Rattle.std.proofs.Common.{◌≡◌, ◌≢◌, ℕ, ◌+◌, set, get_or, ◌∙◌, arith, below_more, get_or-set_same}
use Rattle.std.proofs.Common.{get_or-set_other}
use Rattle.snapshot_scan.proofs.changed_items.write_each.Goals as goal

pub loop-k-preserved : goal.loop-k-preserved
loop-k-preserved c =
    let p = c.loop-k.k in let n = c.args.first + p in let ps = c.loop-k.places in
    let x = get_or c.args.items.now p 0 + c.args.shift in
    let a = c.loop-k.auto.places in let t = c.loop-k-test.true in let room = c.requires.room in
    record {
      remembered = λ q lt. let ne : q ≢ n = omega (arith, lt) in get_or-set_other ps n q x 0 ne
          ∙ c.loop-k.invariant.remembered q lt;
      written = below_more (λ (q : ℕ). get_or (set ps n x) (c.args.first + q) 0 ≡ get_or c.args.items.now q 0 + c.args.shift) p
          (λ q lt. let ne : c.args.first + q ≢ n = omega (arith, lt) in get_or-set_other ps n (c.args.first + q) x 0 ne
          ∙ c.loop-k.invariant.written q lt)
          (get_or-set_same ps n x 0 (omega (arith, a, t, room)));
    }

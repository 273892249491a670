use Rattle.std.proofs.Common.{rules, length, sym, ap, ◌∙◌, subst}
use Rattle.std.specs.Prelude.{is_ok}
use Rattle.std.proofs.lemmas.Bool.{true≢false}
use lib.ListN.{get_elem?}
use Rattle.register_rule.specs.declared.view.ScanLog.{ScanLog}
use Rattle.snapshot_scan.specs.Lent.{SeesMore}
use Rattle.snapshot_scan.specs.Order.{HasRecorded}
use Rattle.snapshot_scan.specs.Readers.{members_with, scan_by}
use Rattle.snapshot_scan.proofs.Standing.{sees_right}
use Rattle.chain_law.proofs.Exact.{all_stand, still_lent, are_distinct, are_same, is_settled, moments_of, nobody_behind}
use Rattle.chain_law.specs.Settled.{AreMomentsOf}
use Rattle.chain_law.proofs.settling.settle.Goals as goal

pub unreachable-requires : goal.unreachable-requires
unreachable-requires g c =
    let place = length (members_with c.args.reader.now) in let vs = c.args.workers.now in let ws = c.lend_all.new.workers in
    let r1 = c.lend_all.new.reader in let r2 = c.scan.new.self in
    let all = c.scan.ensures.gathered
    (all_stand place vs ws ws r1 r2 c.lend_all.auto.workers c.lend_all.ensures.lent c.scan.ensures.others c.scan.ensures.ruled
    c.in_default.ensures.none) in
    true≢false (sym all ∙ ap is_ok c.in_default-scan.is)

pub take_all-requires : goal.take_all-requires
take_all-requires g c =
    let place = length (members_with c.args.reader.now) in let vs = c.args.workers.now in let ws = c.lend_all.new.workers in
    let r1 = c.lend_all.new.reader in let r2 = c.scan.new.self in (
      search rules,
      (
        search rules,
        (
          search rules,
          (
            c.scan.ensures.of_board,
            (
              still_lent place vs ws ws r1 r2 c.lend_all.auto.workers c.lend_all.ensures.lent c.scan.ensures.others
                  c.scan.ensures.ruled,
              are_distinct place vs ws ws r1 r2 c.lend_all.auto.workers c.lend_all.ensures.lent c.scan.ensures.others
                  c.scan.ensures.ruled c.args.reader.now.leads,
            ),
          ),
        ),
      ),
    )

pub returns-clause-same : goal.returns-clause-same
returns-clause-same g c =
    let place = length (members_with c.args.reader.now) in let vs = c.args.workers.now in let ws = c.lend_all.new.workers in
    let r1 = c.lend_all.new.reader in let r2 = c.scan.new.self in
    are_same place vs ws c.take_all.new.workers r1 r2 c.lend_all.auto.workers c.lend_all.ensures.lent c.scan.ensures.others
    c.scan.ensures.ruled c.args.reader.now.leads c.take_all.ensures.back c.take_all.auto.workers

pub returns-clause-settled : goal.returns-clause-settled
returns-clause-settled g c =
    let place = length (members_with c.args.reader.now) in let vs = c.args.workers.now in let ws = c.lend_all.new.workers in
    let r1 = c.lend_all.new.reader in let r2 = c.scan.new.self in
    is_settled place vs ws ws r1 r2 c.lend_all.auto.workers c.lend_all.ensures.lent c.scan.ensures.others c.scan.ensures.ruled
    c.args.reader.now.leads c.scan.new.out c.in-Ok.ensures.answered c.in-Ok.ensures.lent c.in_default.ensures.none

pub returns-clause-moments : goal.returns-clause-moments
returns-clause-moments g c =
    let place = length (members_with c.args.reader.now) in let vs = c.args.workers.now in let ws = c.lend_all.new.workers in
    let r1 = c.lend_all.new.reader in let r2 = c.scan.new.self in
    subst (λ (x : ScanLog). AreMomentsOf vs x.recorded) (sym c.take_all.ensures.scan)
    (moments_of place vs ws ws r1 r2 c.lend_all.auto.workers c.lend_all.ensures.lent c.scan.ensures.others c.scan.ensures.ruled
    c.args.reader.now.leads c.scan.new.out c.in-Ok.ensures.answered c.in-Ok.ensures.lent c.in_default.ensures.none)

pub returns-clause-alone : goal.returns-clause-alone
returns-clause-alone g c =
    let place = length (members_with c.args.reader.now) in let vs = c.args.workers.now in let ws = c.lend_all.new.workers in
    let r1 = c.lend_all.new.reader in let r2 = c.scan.new.self in
    nobody_behind place vs ws ws r1 r2 c.lend_all.auto.workers c.lend_all.ensures.lent c.scan.ensures.others c.scan.ensures.ruled
    c.args.reader.now.leads c.take_all.new.reader c.in_default.ensures.none c.take_all.ensures.left

pub returns-clause-still : goal.returns-clause-still
returns-clause-still g c = λ a had.
    let lent : HasRecorded c.lend_all.new.reader a =
    (had.0, ap (λ (s : ScanLog). get_elem? s.recorded had.0) c.lend_all.ensures.scan.only ∙ had.1) in
    let t = c.scan.ensures.still a lent in (t.0, ap (λ (s : ScanLog). get_elem? s.recorded t.0) c.take_all.ensures.scan ∙ t.1)

pub returns-clause-seen : goal.returns-clause-seen
returns-clause-seen g c =
    let v = c.scan.new.out.vector in
    subst (λ (s : ScanLog). SeesMore v s.seen) (sym c.take_all.ensures.scan)
    (subst (SeesMore v) (sym c.in-Ok.ensures.answered.seen) (sees_right (scan_by c.lend_all.new.reader).seen v))

use Rattle.std.proofs.Common.{refl, ◌≡◌, ◌<◌, ℕ, List, length, slice_index, sym, ap, ◌∙◌, subst, arith, rules}
use Rattle.ledger_core.specs.Ops.{width}
use Rattle.ledger_core.specs.Legal.{IsLegal}
use Rattle.register_rule.specs.declared.view.Answer.{Answer}
use Rattle.register_rule.specs.declared.view.Member.{Member}
use Rattle.register_rule.specs.Seats.{HasMember, members_of}
use Rattle.snapshot_scan.specs.Shape.{scan_of, with_scan}
use Rattle.snapshot_scan.specs.declared.scan_end.ScanEnd.{ScanEnd}
use Rattle.snapshot_scan.specs.declared.scan_end.ScanEnd.TheVariants.{Direct, Lent, GaveUp}
use Rattle.snapshot_scan.specs.Core.{AnswersBy}
use Rattle.snapshot_scan.specs.ScanMemories.{HasView}
use Rattle.snapshot_scan.specs.Scanned.{IsAnswered}
use Rattle.snapshot_scan.specs.Snapshots.{Taken, as_answer}
use Rattle.snapshot_scan.proofs.Words.{led_some}
use Rattle.snapshot_scan.proofs.LastAnswer.{ends_low, ends_legal, last_failed}
use Rattle.snapshot_scan.proofs.scan_memory.ScanMemory.scan_to.Goals as goal

-- a seat that scanned has a member
there : (ms ms' : List Member) → HasMember ms → ms' ≡ with_scan (scan_of ms') ms → HasMember ms'
there ms ms' t e = subst HasMember (sym e) (led_some (λ _. scan_of ms') ms t)

-- a scan that was not given up has a view
seen : (e : ScanEnd) → (e ≡ GaveUp → ⊥) → HasView e
seen (Direct quiet) other = tt
seen Lent other = tt
seen GaveUp other = other refl

pub set-requires : goal.set-requires
set-requires g c =
    let n : ℕ = g.row.N in let s = c.scan-ended in
    let ms = members_of (g.S.ScanSeat.bundle c.args.seat.now) in let ms' = members_of (g.S.ScanSeat.bundle s.new.seat) in
    let low = ends_low n g.row.C g.row.H g.row.G s.new.self.geometry.workers.1 ms' s.ensures.ruled
    (there ms ms' c.requires.of_board.1 s.ensures.others) _ _ (s.ensures.answered (seen s.result c.in_default.not-GaveUp)) in (
      search rules,
      (
        c.answer.ensures.lengths.0,
        (
          c.answer.ensures.lengths.1,
          λ k lt. subst (λ (l : List ℕ). slice_index l k < 9007199254740992) (sym c.answer.ensures.totals) (low k lt),
        ),
      ),
    )

pub first_moved-requires-clause-risen : goal.first_moved-requires-clause-risen
first_moved-requires-clause-risen g c = λ q lt.
    let m = c.scan-ended.new.self in let up = c.scan-ended.ensures.gave_up c.in-GaveUp.is in
    let t = last_failed _ _ _ _ _ up in
    let first : up.final.first ≡ c.as_slice.result.now = up.final_first ∙ sym c.as_slice.ensures.value in
    let last : up.final.second ≡ c.as_slice-in-GaveUp.result.now = up.final_last ∙ sym c.as_slice-in-GaveUp.ensures.value in
    let long = t.opened in let f = ap (λ (l : List ℕ). length l) first in
    let a = ap (λ (l : List ℕ). slice_index l q) first in let b = ap (λ (l : List ℕ). slice_index l q) last in
    let r = t.risen q (omega (arith, lt, long, f)) in omega (arith, a, b, r)

pub first_moved-requires-clause-rose : goal.first_moved-requires-clause-rose
first_moved-requires-clause-rose g c =
    let m = c.scan-ended.new.self in let up = c.scan-ended.ensures.gave_up c.in-GaveUp.is in
    let t = last_failed _ _ _ _ _ up in
    let first : up.final.first ≡ c.as_slice.result.now = up.final_first ∙ sym c.as_slice.ensures.value in
    let last : up.final.second ≡ c.as_slice-in-GaveUp.result.now = up.final_last ∙ sym c.as_slice-in-GaveUp.ensures.value in
    let long = t.opened in let f = ap (λ (l : List ℕ). length l) first in
    let q = t.rose.0 in let lt = t.rose.1 in let r = t.rose.2 in
    let a = ap (λ (l : List ℕ). slice_index l q) first in let b = ap (λ (l : List ℕ). slice_index l q) last in
    (q, omega (arith, lt, long, f), omega (arith, a, b, r))

-- what was set is the answer
set_is : (v t : List ℕ) (x : Taken) (a : Answer) → v ≡ a.vector → t ≡ a.totals → x.vector ≡ v → x.totals ≡ t → a ≡ as_answer x
set_is v t x a p q r s = λ z. record { vector = sym (r ∙ p) z; totals = sym (s ∙ q) z }

pub returns-clause-answered : goal.returns-clause-answered
returns-clause-answered g c =
    let s = c.scan-ended in
    let ms = members_of (g.S.ScanSeat.bundle c.args.seat.now) in let ms' = members_of (g.S.ScanSeat.bundle s.new.seat) in
    subst (IsAnswered g.row.N (scan_of ms) (scan_of ms'))
    (set_is _ _ _ _ c.answer.ensures.vector c.answer.ensures.totals c.set.ensures.vector c.set.ensures.totals)
    (s.ensures.answered (seen s.result c.in_default.not-GaveUp))

pub returns-clause-answers : goal.returns-clause-answers
returns-clause-answers g c =
    let s = c.scan-ended in
    let ms = members_of (g.S.ScanSeat.bundle c.args.seat.now) in let ms' = members_of (g.S.ScanSeat.bundle s.new.seat) in
    subst (AnswersBy g.row.N (width g.row.C g.row.H g.row.G) (scan_of ms) (scan_of ms'))
    (set_is _ _ _ _ c.answer.ensures.vector c.answer.ensures.totals c.set.ensures.vector c.set.ensures.totals)
    (s.ensures.answers (seen s.result c.in_default.not-GaveUp))

pub returns-clause-legal : goal.returns-clause-legal
returns-clause-legal g c =
    let n : ℕ = g.row.N in let s = c.scan-ended in
    let ms = members_of (g.S.ScanSeat.bundle c.args.seat.now) in let ms' = members_of (g.S.ScanSeat.bundle s.new.seat) in
    subst (λ (l : List ℕ). IsLegal g.row.C g.row.H (slice_index l)) (sym (c.set.ensures.totals ∙ c.answer.ensures.totals))
    (ends_legal n g.row.C g.row.H g.row.G s.new.self.geometry.workers.1 ms' s.ensures.ruled
    (there ms ms' c.requires.of_board.1 s.ensures.others) _ _ (s.ensures.answered (seen s.result c.in_default.not-GaveUp)))

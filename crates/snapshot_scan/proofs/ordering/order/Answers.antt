use Rattle.std.proofs.Common.{◌≡◌, ℕ, ◌<◌, zero, suc, List, [], ◌∷◌, ◌++◌, length, sym, ap, ◌∙◌, subst, arith}
use mathlib.Core.Option.{some-injective, some-ne-none}
use Rattle.register_rule.specs.History.{Comparable}
use Rattle.register_rule.specs.declared.view.Member.{Member}
use Rattle.register_rule.specs.declared.view.Who.TheVariants.{Worker, Reader}
use Rattle.register_rule.specs.Members.{first_of, raised, greatest, met}
use Rattle.register_rule.specs.Seats.{members_of}
use Rattle.snapshot_scan.specs.declared.remembered_row.RememberedRow.{RememberedRow}
use Rattle.snapshot_scan.specs.Lent.{behind, IsWorkerAmong}
use Rattle.snapshot_scan.specs.Moments.{AreMoments}
use Rattle.snapshot_scan.specs.Order.{IsOrder}
use Rattle.snapshot_scan.specs.Scanned.{IsIdle}
use Rattle.snapshot_scan.specs.Snapshots.{as_answer}
use Rattle.snapshot_scan.proofs.Standing.{IsLed}
use Rattle.snapshot_scan.proofs.ordering.order.Goals as goal

alone_is : (ms : List Member) → 0 < length ms → behind ms ≡ [] → ms ≡ first_of ms ∷ []
alone_is [] lt none = absurd (omega (arith, lt))
alone_is (m ∷ ms) lt none = ap (λ (l : List Member). m ∷ l) none

not_worker : (k i : ℕ) → Reader k ≡ Worker i → ⊥
not_worker k i e = cc

no_worker : (k i : ℕ) (m x : Member) → m.who ≡ Reader k → IsWorkerAmong i x (m ∷ []) → ⊥
no_worker k i m x is (zero, at, who) = not_worker k i (sym is ∙ (ap (λ (y : Member). y.who) (some-injective m x at) ∙ who))
no_worker k i m x is (suc p, at, who) = some-ne-none x (sym at)

-- a reader alone, raised to what others have seen
led_raised : (k : ℕ) (gs : List RememberedRow) (s : List ℕ) (m : Member) (ms : List Member) → ms ≡ raised s m ∷ []
    → m.who ≡ Reader k → IsIdle m.scan gs → IsLed k gs ms
led_raised k gs s m ms e is idle = subst (IsLed k gs) (sym e) (
  omega arith,
  is,
  record { remembered = idle.remembered; rest = idle.rest },
  λ p j x at. absurd (some-ne-none x (sym at)),
  λ i x stands. absurd (no_worker k i (raised s m) x is stands),
)

-- the two that met
heads : (o o' n n' : List Member) → o ≡ first_of o ∷ [] → o' ≡ first_of o' ∷ [] → n ≡ first_of n ∷ [] → n' ≡ first_of n' ∷ []
    → n ++ n' ≡ met (o ++ o')
    → first_of n ∷ first_of n' ∷ [] ≡ met (first_of o ∷ first_of o' ∷ [])
heads o o' n n' eo eo' en en' e = sym (λ z. en z ++ en' z) ∙ (e ∙ (λ z. met (eo z ++ eo' z)))

pub meet-requires : goal.meet-requires
meet-requires g c =
    let one = c.args.of_one.now in let other = c.args.of_other.now in (
      omega arith,
      (
        c.requires.of_board,
        (
          (
            alone_is (members_of one.bundle) one.leads c.requires.alone.0,
            alone_is (members_of other.bundle) other.leads c.requires.alone.1,
          ),
          other.is,
        ),
      ),
    )

pub invariant_of-of_one : goal.invariant_of-of_one
invariant_of-of_one g c =
    let one = c.args.of_one.now in let other = c.args.of_other.now in
    let o = members_of one.bundle in let o' = members_of other.bundle in let n = members_of c.meet.new.one in
    let both = heads o o' n (members_of c.meet.new.other) (alone_is o one.leads c.requires.alone.0)
    (alone_is o' other.leads c.requires.alone.1) c.meet.ensures.alone.0 c.meet.ensures.alone.1 c.meet.ensures.met in
    let t = led_raised one.index one.memory.remembered.items (greatest (first_of o ∷ first_of o' ∷ [])) (first_of o) n
    (c.meet.ensures.alone.0 ∙ ap (λ
    (l : List Member). first_of l ∷ []) both) one.is one.ready in
    record {
      leads = t.0;
      is = t.1;
      ready = t.2;
      lent = t.3;
      seen = t.4;
      moments = subst (AreMoments g.row.N g.row.C g.row.H g.row.G) (sym c.meet.ensures.recorded.0) one.moments;
    }

pub invariant_of-of_other : goal.invariant_of-of_other
invariant_of-of_other g c =
    let one = c.args.of_one.now in let other = c.args.of_other.now in
    let o = members_of one.bundle in let o' = members_of other.bundle in let n' = members_of c.meet.new.other in
    let both = heads o o' (members_of c.meet.new.one) n' (alone_is o one.leads c.requires.alone.0)
    (alone_is o' other.leads c.requires.alone.1) c.meet.ensures.alone.0 c.meet.ensures.alone.1 c.meet.ensures.met in
    let t = led_raised other.index other.memory.remembered.items (greatest (first_of o ∷ first_of o' ∷ [])) (first_of o') n'
    (c.meet.ensures.alone.1 ∙ ap (λ (l : List Member). first_of
    (behind l) ∷ []) both) other.is other.ready in
    record {
      leads = t.0;
      is = t.1;
      ready = t.2;
      lent = t.3;
      seen = t.4;
      moments = subst (AreMoments g.row.N g.row.C g.row.H g.row.G) (sym c.meet.ensures.recorded.1) other.moments;
    }

pub compare-requires-clause-comparable : goal.compare-requires-clause-comparable
compare-requires-clause-comparable g c =
    let one = c.requires.recorded.0 in let other = c.requires.recorded.1 in
    let t = c.meet.ensures.comparable (as_answer c.args.one.now) (as_answer c.args.other.now) one.0 other.0 one.1 other.1 in
    subst (λ (l : List ℕ). Comparable l c.vector-2.result.now) (sym c.vector.ensures.numbers)
    (subst (λ (l : List ℕ). Comparable c.args.one.now.vector l) (sym c.vector-2.ensures.numbers) t)

pub returns-clause-order : goal.returns-clause-order
returns-clause-order g c =
    subst (λ (l : List ℕ). IsOrder l c.args.other.now.vector c.compare.result) c.vector.ensures.numbers
    (subst (λ (l : List ℕ). IsOrder c.vector.result.now l c.compare.result) c.vector-2.ensures.numbers c.compare.ensures)

-- In a trace that is faithful to its events, a worker's Step is the first one after one answer alone.
use Rattle.std.proofs.Common.{◌≡◌, ◌≢◌, ℕ, zero, suc, ◌+◌, ◌-◌, ◌<◌, ◌≤◌, ⊎_elim, List, sym, ap, ◌∙◌, subst, arith, Some}
use Rattle.std.specs.Prelude.{slice_get}
use mathlib.Core.Logic.{dite}
use mathlib.Core.Option.{some, some-injective}
use native.Mathlib.Decide.{ℕ_discrete, dec_le}
use lib.ListN.{get_elem?}
use Rattle.snapshot_core.specs.declared.event.Event.{Event}
use Rattle.snapshot_core.specs.declared.event.Event.TheVariants.{Step}
use Rattle.snapshot_core.specs.History.{Published}
use Rattle.snapshot_core.specs.Turns.{Answered, EndsAt, IsOpen}
use Rattle.snapshot_core.specs.Faithful.{IsFirstStep, IsFaithful}
use Rattle.snapshot_core.proofs.Turns.{open_one, open_on}

module _ (n c h g : ℕ) (es : List Event) (ps : List Published) (zs : List Answered) where
  abbrev Open : (e i b : ℕ) → Type 0
  Open e i b = IsOpen n c h g es ps zs e i b

  -- the worker of this answer publishes nothing at its end
  abbrev NoneAt : Answered → Type 0
  NoneAt a = (q : ℕ) (p : Published) → get_elem? ps q ≡ some p → p.worker ≡ a.actor → p.at ≢ a.end

  module _ (f : IsFaithful n c h g es ps zs) where
    -- nothing of the worker ends between an answer and the first Step after it
    no_end_before : (a : Answered) (d x : ℕ) → a.actor < n → NoneAt a → IsFirstStep es a.actor a.end d → a.end ≤ x → x < d
        → ¬ EndsAt n c h g es ps zs x a.actor
    no_end_before a d x inside none first le lt ends = ⊎_elim
        (λ t. publish t.1.0 t.1.1 t.1.2 t.1.3 t.1.4)
        (λ t. let l = t.0 in omega (arith, l, inside)) ends
      where
        publish : (q : ℕ) (p : Published) → get_elem? ps q ≡ some p → p.worker ≡ a.actor → p.at ≡ x → ⊥
        publish q p is of at = dite (ℕ_discrete x a.end)
            (λ same. none q p is of (at ∙ same))
            (λ ne. let u = (f.published q p is).1 in
            first.first x (omega (arith, ne, le)) lt
            (ap (slice_get es) (sym at) ∙ (u.5.step ∙ ap (λ (y : ℕ). Some (Step y)) (u.3 ∙ of))))

    -- so that its turn stays open
    stays : (a : Answered) (d m : ℕ) → a.actor < n → NoneAt a → IsFirstStep es a.actor a.end d → Open a.end a.actor a.begin
        → a.end + m ≤ d → Open (a.end + m) a.actor a.begin
    stays a d zero inside none first o le = subst (λ (y : ℕ). Open y a.actor a.begin) (let e : a.end ≡ a.end + 0 = omega arith in
        e) o
    stays a d (suc m) inside none first o le = subst (λ (y : ℕ). Open y a.actor a.begin)
        (let e : suc (a.end + m) ≡ a.end + suc m = omega arith in e)
        (open_on n c h g es ps zs (a.end + m) a.actor a.begin (stays a d m inside none first o (omega (arith, le)))
        (no_end_before a d (a.end + m) inside none first (omega arith) (omega (arith, le))))

    stays_to : (a : Answered) (d e : ℕ) → a.actor < n → NoneAt a → IsFirstStep es a.actor a.end d → Open a.end a.actor a.begin
        → a.end ≤ e → e ≤ d → Open e a.actor a.begin
    stays_to a d e inside none first o lo hi = subst (λ (y : ℕ). Open y a.actor a.begin)
        (let g : a.end + (e - a.end) ≡ e = omega (arith, lo) in
        g) (stays a d (e - a.end) inside none first o (omega (arith, lo, hi)))

    -- two answers of one worker whose turns are open at one event are one
    one_open : (r s e : ℕ) (a b : Answered) → get_elem? zs r ≡ some a → get_elem? zs s ≡ some b → a.actor ≡ b.actor
        → Open e a.actor a.begin → Open e b.actor b.begin → a ≡ b
    one_open r s e a b ea eb actor oa ob =
        let begin : a.begin ≡ b.begin = open_one n c h g es ps zs e a.actor a.begin b.begin oa
        (subst (λ (y : ℕ). Open e y b.begin) (sym actor) ob) in
        some-injective a b (sym ea ∙ (ap (get_elem? zs) (f.once r s a b ea eb actor begin) ∙ eb))

    -- a worker publishes nothing at the end of its answer
    clear : (m r : ℕ) (a : Answered) → get_elem? zs r ≡ some a → a.end < m → a.actor < n → NoneAt a
    clear zero r a is lt inside q p ip of at = omega (arith, lt)
    clear (suc m) r a is lt inside q p ip of at =
        let u = (f.published q p ip).1 in
        let after : u.1.end < p.at = u.5.after in
        let actor : u.1.actor ≡ a.actor = u.3 ∙ of in
        let within : u.1.actor < n = subst (λ (y : ℕ). y < n) (sym actor) inside in
        let none : NoneAt u.1 = clear m u.0 u.1 u.2 (omega (arith, after, at, lt)) within in
        let still : Open p.at u.1.actor u.1.begin = stays_to u.1 p.at p.at within none u.5 (f.turns u.0 u.1 u.2).0
        (omega (arith, after)) (omega arith) in
        let same : u.1 ≡ a = one_open u.0 r a.end u.1 a u.2 is actor (subst (λ (y : ℕ). Open y u.1.actor u.1.begin) at still)
        (f.turns r a is).0 in
        let ends : u.1.end ≡ a.end = ap (λ (y : Answered). y.end) same in
        omega (arith, after, at, ends)

    earlier : (r s d : ℕ) (a b : Answered) → get_elem? zs r ≡ some a → get_elem? zs s ≡ some b → a.actor < n → a.actor ≡ b.actor
        → IsFirstStep es a.actor a.end d → b.end < d → a.end < b.end → ⊥
    earlier r s d a b ea eb inside actor first before less =
        let o = stays_to a d b.end inside (clear (suc a.end) r a ea (omega arith) inside) first (f.turns r a ea).0
        (omega (arith, less)) (omega (arith, before)) in
        let same : a.end ≡ b.end = ap (λ (y : Answered). y.end) (one_open r s b.end a b ea eb actor o (f.turns s b eb).0) in
        omega (arith, less, same)

    -- answers of a worker with one first Step after them are one
    pub one_before : (r s d : ℕ) (a b : Answered) → get_elem? zs r ≡ some a → get_elem? zs s ≡ some b → a.actor < n
        → a.actor ≡ b.actor → IsFirstStep es a.actor a.end d → IsFirstStep es b.actor b.end d → a ≡ b
    one_before r s d a b ea eb inside actor fa fb = dite (dec_le (suc a.end) b.end)
        (λ less. absurd (earlier r s d a b ea eb inside actor fa fb.after (omega (arith, less))))
        (λ ge. dite (dec_le (suc b.end) a.end)
        (λ less. absurd (earlier s r d b a eb ea (subst (λ (y : ℕ). y < n) actor inside) (sym actor) fb fa.after
        (omega (arith, less))))
        (λ le. one_open r s b.end a b ea eb actor
        (subst (λ (y : ℕ). Open y a.actor a.begin) (let e : a.end ≡ b.end = omega (arith, ge, le) in e) (f.turns r a ea).0)
        (f.turns s b eb).0))

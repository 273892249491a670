-- What the rule says of the answers of a member, as moments of one history of publishes.
use Rattle.std.proofs.Common.{◌≡◌, ◌≢◌, ◌⊎◌, inl, inr, ⊎_elim, ℕ, zero, suc, ◌+◌, ◌<◌, ◌≤◌, Bool, true, false, cond, eqb, List}
use Rattle.std.proofs.Common.{[], ◌∷◌, ◌++◌, length, map, take, drop, slice_index, replicate, sym, refl, ap, ◌∙◌, subst, arith}
use Rattle.std.proofs.Common.{length-append, append_assoc, append-nil, eq-eqb, ne_eqb}
use Rattle.std.specs.Prelude.{Result, Ok, Err, OnOk, IfErr}
use mathlib.Core.Logic.{dite}
use mathlib.Core.Option.{some, some-injective, some-ne-none}
use native.Mathlib.Decide.{ℕ_discrete}
use lib.ListN.{get_elem?}
use Rattle.std.proofs.lemmas.Bool.{cases_lt}
use Rattle.std.proofs.lemmas.List.{length-map, take-append-drop, take-append-le, take-take, length-take-le}
use Rattle.std.proofs.lemmas.List.Sums.{sum_by-append}
use Rattle.std.proofs.Math.Seq.{take-append_seam, take-length}
use Rattle.std.proofs.Math.Logic.{∥∥₁_map}
use Rattle.ledger_core.specs.declared.op.Op.{Op}
use Rattle.ledger_core.specs.Ops.{width, sum_ops}
use Rattle.ledger_core.specs.Row.{Accepts, Adds}
use Rattle.register_rule.specs.declared.view.Answer.{Answer}
use Rattle.register_rule.specs.declared.view.PublishEntry.{PublishEntry}
use Rattle.register_rule.specs.declared.view.Member.{Member}
use Rattle.register_rule.specs.declared.view.ScanLog.{ScanLog}
use Rattle.register_rule.specs.History.{tab, count, numbers_after, IsCut, Below}
use Rattle.register_rule.specs.SoundScans.{IsOneMoment}
use Rattle.register_rule.specs.Seats.{HasMember}
use Rattle.register_rule.specs.Sums.{word_after, vector_total, AcceptedInTurn}
use Rattle.register_rule.specs.Told.{AreRuled}
use Rattle.register_rule.proofs.Moments.{length_tab, tab_at, count_append, rises}
use Rattle.register_rule.proofs.Words.{at_below, read_at}
use Rattle.snapshot_scan.specs.Moments.{Publish, lists_by, sum_lists, sum_all, AreAccepted, IsAfter, AreAlong, HaveHistory}
use Rattle.snapshot_scan.specs.Moments.{AreMoments, ComeTo}
use Rattle.snapshot_scan.specs.Contention.{IsContended}
use Rattle.snapshot_scan.specs.Scanned.{IsAnswered}
use Rattle.snapshot_scan.specs.declared.contended.Contended.{Contended}
use Rattle.snapshot_scan.specs.Shape.{scan_of}
use Rattle.snapshot_scan.proofs.Sourced.{is_above}

abbrev pub ops_of : PublishEntry → List Op
ops_of m = m.ops

-- the list of this number
abbrev nth : List PublishEntry → ℕ → List Op
nth [] s = []
nth (m ∷ ms) zero = m.ops
nth (m ∷ ms) (suc s) = nth ms s

-- one list more
nth_next : (l : List PublishEntry) (s : ℕ) → s < length l → map ops_of (take (suc s) l) ≡ map ops_of (take s l) ++ nth l s ∷ []
nth_next [] s lt = absurd (omega (arith, lt))
nth_next (m ∷ ms) zero lt = refl
nth_next (m ∷ ms) (suc s) lt = ap (λ (l : List (List Op)). m.ops ∷ l) (nth_next ms s (omega (arith, lt)))

total_next : (adds : List Op → ℕ → ℕ) (l : List PublishEntry) (s k : ℕ) → s < length l
    → word_after adds (take (suc s) l) k ≡ word_after adds
    (take s l) k + adds (nth l s) k
total_next adds [] s k lt = absurd (omega (arith, lt))
total_next adds (m ∷ ms) zero k lt = omega arith
total_next adds (m ∷ ms) (suc s) k lt = let e = total_next adds ms s k (omega (arith, lt)) in omega (arith, e)

-- each list was accepted by the row of those before it
legal_nth : (adds : List Op → ℕ → ℕ) (accepts : (ℕ → ℕ) → List Op → Type 0) (before l : List PublishEntry) (s : ℕ)
    → AcceptedInTurn adds accepts before l → s < length l
    → accepts (word_after adds (before ++ take s l)) (nth l s)
legal_nth adds accepts before [] s legal lt = absurd (omega (arith, lt))
legal_nth adds accepts before (m ∷ ms) zero legal lt = subst (λ (z : List PublishEntry). accepts (word_after adds z) m.ops)
    (sym (append-nil before)) legal.0
legal_nth adds accepts before (m ∷ ms) (suc s) legal lt =
    subst (λ (z : List PublishEntry). accepts (word_after adds z) (nth ms s)) (append_assoc before (m ∷ []) (take s ms))
    (legal_nth adds accepts (before ++ m ∷ []) ms s legal.1 (omega (arith, lt)))

total_lists : (c h : ℕ) (l : List PublishEntry) (k : ℕ) → word_after (sum_ops c h) l k ≡ sum_lists c h (map ops_of l) k
total_lists c h [] k = refl
total_lists c h (m ∷ ms) k =
    let rest = total_lists c h ms k in
    let cut = sum_by-append (λ (ops : List Op). sum_ops c h ops k) (m.ops ∷ []) (map ops_of ms) in
    omega (arith, rest, cut)

accepts_same : (c h g : ℕ) (word word' : ℕ → ℕ) (ops : List Op) → ((k : ℕ) → k < width c h g → word k ≡ word' k)
    → Accepts c h g word ops → Accepts c h g word' ops
accepts_same c h g word word' ops same accepts = record {
  within = accepts.within;
  fits = λ j le k lt. subst (λ (z : ℕ). z + sum_ops c h (take j ops) k ≤ 281474976710655) (same k lt) (accepts.fits j le k lt);
}

lists_append : (i : ℕ) (ps qs : List Publish) → lists_by i (ps ++ qs) ≡ lists_by i ps ++ lists_by i qs
lists_append i [] qs = refl
lists_append i (p ∷ ps) qs = by_case (lists_append i ps qs) (eqb p.worker i)
  where
    by_case : lists_by i (ps ++ qs) ≡ lists_by i ps ++ lists_by i qs → (b : Bool)
        → cond b (p.ops ∷ lists_by i (ps ++ qs)) (lists_by i (ps ++ qs)) ≡ cond b (p.ops ∷ lists_by i ps)
        (lists_by i ps) ++ lists_by i qs
    by_case rest true = ap (λ (l : List (List Op)). p.ops ∷ l) rest
    by_case rest false = rest

-- the sums of rows, where a number rises by one, and where none does
row_same : (adds : List Op → ℕ → ℕ) (made : ℕ → List PublishEntry) (f f' : ℕ → ℕ) (i m k : ℕ) → ((j : ℕ) → i ≤ j → f j ≡ f' j)
    → vector_total adds made i (tab i m f) k ≡ vector_total adds made i (tab i m f') k
row_same adds made f f' i zero k same = refl
row_same adds made f f' i (suc m) k same =
    let here : word_after adds (take (f i) (made i)) k ≡ word_after adds (take (f' i) (made i)) k =
    ap (λ (s : ℕ). word_after adds (take s (made i)) k) (same i (omega arith)) in
    let rest = row_same adds made f f' (suc i) m k (λ j le. same j (omega (arith, le))) in
    omega (arith, here, rest)

row_next : (adds : List Op → ℕ → ℕ) (made : ℕ → List PublishEntry) (f f' : ℕ → ℕ) (x i m k : ℕ) → i ≤ x → x < i + m
    → f' x ≡ suc (f x)
    → f x < length (made x)
    → ((j : ℕ) → j ≢ x → f j ≡ f' j)
    → vector_total adds made i (tab i m f') k ≡ vector_total adds made i (tab i m f) k + adds (nth (made x) (f x)) k
row_next adds made f f' x i zero k low high up room same = absurd (omega (arith, low, high))
row_next adds made f f' x i (suc m) k low high up room same = dite (ℕ_discrete i x)
    (λ e.
    let here : word_after adds (take (f' i) (made i)) k ≡ word_after adds (take (f i) (made i)) k + adds (nth (made x) (f x)) k =
    subst (λ (z : ℕ). word_after adds (take (f' z) (made z)) k ≡ word_after adds (take (f z) (made z)) k + adds
    (nth (made x) (f x)) k)
    (sym e)
    (ap (λ (s : ℕ). word_after adds (take s (made x)) k) up ∙ total_next adds (made x) (f x) k room) in
    let rest = row_same adds made f f' (suc i) m k (λ j le. same j (λ z. let y : j ≡ i = z ∙ sym e in omega (arith, y, le))) in
    omega (arith, here, rest))
    (λ other.
    let here : word_after adds (take (f i) (made i)) k ≡ word_after adds (take (f' i) (made i)) k =
    ap (λ (s : ℕ). word_after adds (take s (made i)) k) (same i other) in
    let rest = row_next adds made f f' x (suc i) m k
    (elim (cases_lt i x) [ inl lt ↦ omega (arith, lt) | inr le ↦ absurd (other (omega (arith, le, low))) ])
    (omega (arith, high)) up room same in
    omega (arith, here, rest))

row_none : (adds : List Op → ℕ → ℕ) (made : ℕ → List PublishEntry) (i m k : ℕ)
    → vector_total adds made i (tab i m (λ j. count j [])) k ≡ 0
row_none adds made i zero k = refl
row_none adds made i (suc m) k = let rest = row_none adds made (suc i) m k in omega (arith, rest)

tab_same : (f f' : ℕ → ℕ) (i m : ℕ) → ((j : ℕ) → j < i + m → f j ≡ f' j) → tab i m f ≡ tab i m f'
tab_same f f' i zero same = refl
tab_same f f' i (suc m) same =
    ap (λ (z : ℕ). z ∷ tab (suc i) m f) (same i (omega arith))
    ∙ ap (λ (l : List ℕ). f' i ∷ l) (tab_same f f' (suc i) m (λ j lt. same j (omega (arith, lt))))

count_one : (i x : ℕ) → i ≢ x → count i (x ∷ []) ≡ 0
count_one i x other = ap (λ (z : Bool). cond z 1 0 + 0) (ne_eqb x i (λ e. other (sym e)))

count_own : (i : ℕ) → count i (i ∷ []) ≡ 1
count_own i = ap (λ (z : Bool). cond z 1 0 + 0) (eq-eqb i i refl)

-- the publishes of the workers below n that published in this order, after these
module _ (n : ℕ) (made : ℕ → List PublishEntry) where
  abbrev publish : (before : List ℕ) (x : ℕ) → (x < n) ⊎ (n ≤ x) → List Publish
  publish before x (inl lt) = record { worker = x; ops = nth (made x) (count x before) } ∷ []
  publish before x (inr le) = []

  abbrev publishes : (before order : List ℕ) → List Publish
  publishes before [] = []
  publishes before (x ∷ xs) = publish before x (cases_lt x n) ++ publishes (before ++ x ∷ []) xs

  publishes_append : (before xs ys : List ℕ) → publishes before (xs ++ ys) ≡ publishes before xs ++ publishes (before ++ xs) ys
  publishes_append before [] ys = ap (λ (z : List ℕ). publishes z ys) (sym (append-nil before))
  publishes_append before (x ∷ xs) ys =
      let here = publish before x (cases_lt x n) in
      ap (λ (l : List Publish). here ++ l) (publishes_append (before ++ x ∷ []) xs ys
      ∙ ap (λ (z : List ℕ). publishes (before ++ x ∷ []) xs ++ publishes z ys) (append_assoc before (x ∷ []) xs))
      ∙ sym (append_assoc here (publishes (before ++ x ∷ []) xs) (publishes (before ++ x ∷ xs) ys))

  -- the lists of worker i, as often as it stands in the order
  abbrev lists_at : (i : ℕ) → List ℕ → List (List Op)
  lists_at i order = map ops_of (take (count i order) (made i))

  lists_one : (before : List ℕ) (x i : ℕ) (d : (x < n) ⊎ (n ≤ x)) → i < n → count i (before ++ x ∷ []) ≤ length (made i)
      → lists_at i before ++ lists_by i (publish before x d) ≡ lists_at i (before ++ x ∷ [])
  lists_one before x i (inl lt) in_n room = dite (ℕ_discrete i x)
      (λ e. subst (λ (z : ℕ). lists_at i before ++ cond (eqb z i) (nth (made z) (count z before) ∷ []) [] ≡ lists_at i
      (before ++ z ∷ [])) e (own e))
      (λ other.
      ap (λ (b : Bool). lists_at i before ++ cond b (nth (made x) (count x before) ∷ []) []) (ne_eqb x i (λ e. other (sym e)))
      ∙ (append-nil (lists_at i before) ∙ ap (λ (s : ℕ). map ops_of (take s (made i))) (count_still other)))
    where
      count_still : i ≢ x → count i before ≡ count i (before ++ x ∷ [])
      count_still other = let a = count_append i before (x ∷ []) in let b = count_one i x other in omega (arith, a, b)

      own : i ≡ x → lists_at i before ++ cond (eqb i i) (nth (made i) (count i before) ∷ []) [] ≡ lists_at i (before ++ i ∷ [])
      own e_own =
          let more : count i (before ++ i ∷ []) ≡ suc (count i before) = (let a = count_append i before (i ∷ []) in
          let b = count_own i in omega (arith, a, b)) in
          let lt : count i before < length (made i) =
          (let r = subst (λ (z : ℕ). count i (before ++ z ∷ []) ≤ length (made i)) (sym e_own) room in
          omega (arith, more, r)) in
          ap (λ (b : Bool). lists_at i before ++ cond b (nth (made i) (count i before) ∷ []) []) (eq-eqb i i refl)
          ∙ (sym (nth_next (made i) (count i before) lt) ∙ ap (λ (s : ℕ). map ops_of (take s (made i))) (sym more))
  lists_one before x i (inr le) in_n room =
      let other : i ≢ x = λ e. omega (arith, e, le, in_n) in
      let same : count i before ≡ count i (before ++ x ∷ []) = (let a = count_append i before (x ∷ []) in
      let b = count_one i x other in omega (arith, a, b)) in
      append-nil (lists_at i before) ∙ ap (λ (s : ℕ). map ops_of (take s (made i))) same

  lists_are : (before order : List ℕ) (i : ℕ) → i < n → count i (before ++ order) ≤ length (made i)
      → lists_at i before ++ lists_by i (publishes before order) ≡ lists_at i (before ++ order)
  lists_are before [] i in_n room = append-nil (lists_at i before) ∙ ap (lists_at i) (sym (append-nil before))
  lists_are before (x ∷ xs) i in_n room =
      let d = cases_lt x n in
      let here = publish before x d in
      let rest = publishes (before ++ x ∷ []) xs in
      let whole : (before ++ x ∷ []) ++ xs ≡ before ++ x ∷ xs = append_assoc before (x ∷ []) xs in
      let fits : count i ((before ++ x ∷ []) ++ xs) ≤ length (made i) = subst (λ (z : List ℕ). count i z ≤ length (made i))
      (sym whole) room in
      let one = lists_one before x i d in_n (let a = count_append i (before ++ x ∷ []) xs in omega (arith, a, fits)) in
      ap (λ (l : List (List Op)). lists_at i before ++ l) (lists_append i here rest)
      ∙ (sym (append_assoc (lists_at i before) (lists_by i here) (lists_by i rest))
      ∙ (ap (λ (l : List (List Op)). l ++ lists_by i rest) one
      ∙ (lists_are (before ++ x ∷ []) xs i in_n fits ∙ ap (lists_at i) whole)))

  -- how many these lists are
  lists_many : (order : List ℕ) (i : ℕ) → i < n → count i order ≤ length (made i)
      → count i order ≡ length (lists_by i (publishes [] order))
  lists_many order i in_n room =
      sym (ap (λ (l : List (List Op)). length l) (lists_are [] order i in_n room)
      ∙ (length-map (take (count i order) (made i)) ops_of ∙ length-take-le (count i order) (made i) room))

  -- what they add up to
  abbrev rows_at : (adds : List Op → ℕ → ℕ) → List ℕ → (k : ℕ) → ℕ
  rows_at adds order k = vector_total adds made 0 (numbers_after n order) k

  sum_one : (c h : ℕ) (before : List ℕ) (x k : ℕ) (d : (x < n) ⊎ (n ≤ x))
      → ((i : ℕ) → i < n → count i (before ++ x ∷ []) ≤ length (made i))
      → rows_at (sum_ops c h) before k + sum_all c h (publish before x d) k ≡ rows_at (sum_ops c h) (before ++ x ∷ []) k
  sum_one c h before x k (inl lt) room =
      let more : count x (before ++ x ∷ []) ≡ suc (count x before) = (let a = count_append x before (x ∷ []) in
      let b = count_own x in omega (arith, a, b)) in
      let fits = room x lt in
      let next = row_next (sum_ops c h) made (λ i. count i before) (λ i. count i (before ++ x ∷ [])) x 0 n k (omega arith)
      (omega (arith, lt)) more (omega (arith, more, fits))
      (λ i other. let a = count_append i before (x ∷ []) in let b = count_one i x other in omega (arith, a, b)) in
      omega (arith, next)
  sum_one c h before x k (inr le) room =
      let same : numbers_after n before ≡ numbers_after n (before ++ x ∷ []) =
      tab_same (λ i. count i before) (λ i. count i (before ++ x ∷ [])) 0 n (λ i lt. let a = count_append i before (x ∷ []) in
      let b = count_one i x (λ e. omega (arith, e, le, lt)) in omega (arith, a, b)) in
      let e : rows_at (sum_ops c h) before k ≡ rows_at (sum_ops c h) (before ++ x ∷ []) k =
      ap (λ (v : List ℕ). vector_total (sum_ops c h) made 0 v k) same in
      omega (arith, e)

  sum_is : (c h : ℕ) (before order : List ℕ) (k : ℕ) → ((i : ℕ) → i < n → count i (before ++ order) ≤ length (made i))
      → rows_at (sum_ops c h) before k + sum_all c h (publishes before order) k ≡ rows_at (sum_ops c h) (before ++ order) k
  sum_is c h before [] k room =
      let e : rows_at (sum_ops c h) before k ≡ rows_at (sum_ops c h) (before ++ []) k =
      ap (λ (z : List ℕ). rows_at (sum_ops c h) z k) (sym (append-nil before)) in
      omega (arith, e)
  sum_is c h before (x ∷ xs) k room =
      let d = cases_lt x n in
      let whole : (before ++ x ∷ []) ++ xs ≡ before ++ x ∷ xs = append_assoc before (x ∷ []) xs in
      let fits : (i : ℕ) → i < n → count i ((before ++ x ∷ []) ++ xs) ≤ length (made i) =
      λ i lt. subst (λ (z : List ℕ). count i z ≤ length (made i)) (sym whole) (room i lt) in
      let one = sum_one c h before x k d (λ i lt. let a = count_append i (before ++ x ∷ []) xs in let f = fits i lt in
      omega (arith, a, f)) in
      let rest = sum_is c h (before ++ x ∷ []) xs k fits in
      let cut = sum_by-append (λ (p : Publish). sum_ops c h p.ops k) (publish before x d) (publishes (before ++ x ∷ []) xs) in
      let e : rows_at (sum_ops c h) ((before ++ x ∷ []) ++ xs) k ≡ rows_at (sum_ops c h) (before ++ x ∷ xs) k =
      ap (λ (z : List ℕ). rows_at (sum_ops c h) z k) whole in
      omega (arith, one, rest, cut, e)

  -- each is accepted
  module _ (c h g : ℕ) (legal : (i : ℕ) → i < n → AcceptedInTurn (sum_ops c h) (Accepts c h g) [] (made i)) where
    accepted_one : (before : List ℕ) (done : List Publish) (x : ℕ) (lt : x < n) → lists_at x before ≡ lists_by x done
        → count x before < length (made x)
        → Accepts c h g (sum_lists c h (lists_by x done)) (nth (made x) (count x before))
    accepted_one before done x lt are room =
        accepts_same c h g (word_after (sum_ops c h) (take (count x before) (made x))) (sum_lists c h (lists_by x done))
        (nth (made x) (count x before))
        (λ k _. total_lists c h (take (count x before) (made x)) k ∙ ap (λ (l : List (List Op)). sum_lists c h l k) are)
        (legal_nth (sum_ops c h) (Accepts c h g) [] (made x) (count x before) (legal x lt) room)

    are_accepted : (before order : List ℕ) (done : List Publish) → ((i : ℕ) → i < n → lists_at i before ≡ lists_by i done)
        → ((i : ℕ) → i < n → count i (before ++ order) ≤ length (made i)) → AreAccepted n c h g done (publishes before order)
    are_accepted before [] done are room = tt
    are_accepted before (x ∷ xs) done are room = step (λ done' are'. are_accepted (before ++ x ∷ []) xs done' are' fits)
        (cases_lt x n)
      where
        whole : (before ++ x ∷ []) ++ xs ≡ before ++ x ∷ xs
        whole = append_assoc before (x ∷ []) xs

        fits : (i : ℕ) → i < n → count i ((before ++ x ∷ []) ++ xs) ≤ length (made i)
        fits i lt = subst (λ (z : List ℕ). count i z ≤ length (made i)) (sym whole) (room i lt)

        next : (i : ℕ) → i < n → count i (before ++ x ∷ []) ≤ length (made i)
        next i lt = let a = count_append i (before ++ x ∷ []) xs in let f = fits i lt in omega (arith, a, f)

        then : (d : (x < n) ⊎ (n ≤ x)) (i : ℕ) → i < n → lists_at i (before ++ x ∷ []) ≡ lists_by i (done ++ publish before x d)
        then d i lt = sym (lists_append i done (publish before x d)
            ∙ (ap (λ (l : List (List Op)). l ++ lists_by i (publish before x d)) (sym (are i lt))
            ∙ lists_one before x i d lt (next i lt)))

        step : ((done' : List Publish) → ((i : ℕ) → i < n → lists_at i (before ++ x ∷ []) ≡ lists_by i done')
            → AreAccepted n c h g done' (publishes (before ++ x ∷ []) xs))
            → (d : (x < n) ⊎ (n ≤ x)) → AreAccepted n c h g done (publish before x d ++ publishes (before ++ x ∷ []) xs)
        step others (inl lt) =
            let room_x : count x before < length (made x) = (let a = count_append x before (x ∷ []) in let b = count_own x in
            let f = next x lt in omega (arith, a, b, f)) in (
              lt,
              accepted_one before done x lt (are x lt) room_x,
              others (done ++ record { worker = x; ops = nth (made x) (count x before) } ∷ []) (then (inl lt)),
            )
        step others (inr le) = others done (λ i lt. then (inr le) i lt ∙ ap (lists_by i) (append-nil done))

-- entries that climb
abbrev pub Climbs : List Answer → Type 0
Climbs [] = Unit {0}
Climbs (a ∷ []) = Unit {0}
Climbs (a ∷ b ∷ rest) = Below a.vector b.vector × Climbs (b ∷ rest)

-- one more, above all of them
climbs_more : (l : List Answer) (b : Answer) → Climbs l
    → ((q : ℕ) (a : Answer) → get_elem? l q ≡ some a → Below a.vector b.vector) → Climbs (l ++ b ∷ [])
climbs_more [] b climbs above = tt
climbs_more (a ∷ []) b climbs above = (above 0 a refl, tt)
climbs_more (a ∷ c ∷ rest) b climbs above = (climbs.0, climbs_more (c ∷ rest) b climbs.1 (λ q x e. above (suc q) x e))

-- of two beginnings of a history, the longer one has as many lists of each worker, or more
lists_longer : (i s t : ℕ) (history : List Publish) → s ≤ t → length (lists_by i (take s history)) ≤ length
    (lists_by i (take t history))
lists_longer i zero t history le = omega arith
lists_longer i (suc s) zero history le = absurd (omega (arith, le))
lists_longer i (suc s) (suc t) [] le = omega arith
lists_longer i (suc s) (suc t) (p ∷ ps) le = by_case (lists_longer i s t ps (omega (arith, le))) (eqb p.worker i)
  where
    by_case : length (lists_by i (take s ps)) ≤ length (lists_by i (take t ps)) → (b : Bool)
        → length (cond b (p.ops ∷ lists_by i (take s ps)) (lists_by i (take s ps))) ≤ length
        (cond b (p.ops ∷ lists_by i (take t ps)) (lists_by i (take t ps)))
    by_case rest true = omega (arith, rest)
    by_case rest false = rest

tab_below : (f f' : ℕ → ℕ) (i m : ℕ) → ((j : ℕ) → f j ≤ f' j) → Below (tab i m f) (tab i m f')
tab_below f f' i zero le q x y ex ey = absurd (some-ne-none x (sym ex))
tab_below f f' i (suc m) le zero x y ex ey = let a = some-injective (f i) x ex in let b = some-injective (f' i) y ey in
    let l = le i in omega (arith, a, b, l)
tab_below f f' i (suc m) le (suc q) x y ex ey = tab_below f f' (suc i) m le q x y ex ey

-- answers along a history climb
climbs_along : (n c h g : ℕ) (history : List Publish) (from : ℕ) (l : List Answer) → AreAlong n c h g history from l → Climbs l
climbs_along n c h g history from [] along = tt
climbs_along n c h g history from (a ∷ []) along = tt
climbs_along n c h g history from (a ∷ b ∷ rest) (t, low, in_it, is, (t', low', in_it', is', along)) = (
  subst (λ (z : List ℕ × List ℕ). Below z.0 z.1) (λ k. (sym is.numbers k, sym is'.numbers k))
      (tab_below (λ i. length (lists_by i (take t history))) (λ i. length (lists_by i (take t' history))) 0 n
      (λ i. lists_longer i t t' history low')),
  climbs_along n c h g history t (b ∷ rest) (t', low', in_it', is', along),
)

-- two lists of one length, neither above the other at any place, are the same
both_below : (u v : List ℕ) → length u ≡ length v → Below u v → Below v u → u ≡ v
both_below [] [] long up down = refl
both_below [] (y ∷ v) long up down = absurd (omega (arith, long))
both_below (x ∷ u) [] long up down = absurd (omega (arith, long))
both_below (x ∷ u) (y ∷ v) long up down =
    let a = up 0 x y refl refl in
    let b = down 0 y x refl refl in
    let e : x ≡ y = omega (arith, a, b) in
    ap (λ (z : ℕ). z ∷ u) e ∙ ap (λ (l : List ℕ). y ∷ l)
    (both_below u v (omega (arith, long)) (λ q. up (suc q)) (λ q. down (suc q)))

-- what the rule says of all workers, as one history
module _ (n c h g : ℕ) (ms : List Member) (ruled : AreRuled n (width c h g) (sum_ops c h) (Accepts c h g) ms) where
  abbrev made : ℕ → List PublishEntry
  made = ruled.made

  abbrev order : List ℕ
  order = ruled.history

  abbrev history : List Publish
  history = publishes n made [] order

  room : (t i : ℕ) → i < n → count i (take t order) ≤ length (made i)
  room t i lt =
      let all = ruled.counted i lt in
      let cut = count_append i (take t order) (drop t order) in
      let whole : count i (take t order ++ drop t order) ≡ count i order = ap (count i) (take-append-drop t order) in
      omega (arith, all, cut, whole)

  -- the publishes up to a moment
  abbrev before : ℕ → List Publish
  before t = publishes n made [] (take t order)

  is_before : (t : ℕ) → take (length (before t)) history ≡ before t
  is_before t =
      ap (λ (l : List ℕ). take (length (before t)) (publishes n made [] l)) (sym (take-append-drop t order))
      ∙ (ap (take (length (before t))) (publishes_append n made [] (take t order) (drop t order))
      ∙ take-append_seam (before t) (publishes n made (take t order) (drop t order)))

  before_longer : (s t : ℕ) → s ≤ t → length (before s) ≤ length (before t)
  before_longer s t le =
      let cut : take t order ≡ take s order ++ drop s (take t order) =
      sym (take-append-drop s (take t order)) ∙ ap (λ (l : List ℕ). l ++ drop s (take t order)) (take-take s t order le) in
      let e : length (before t) ≡ length (before s ++ publishes n made (take s order) (drop s (take t order))) =
      ap (λ (l : List ℕ). length (publishes n made [] l)) cut
      ∙ ap (λ (l : List Publish). length l) (publishes_append n made [] (take s order) (drop s (take t order))) in
      let more = length-append (before s) (publishes n made (take s order) (drop s (take t order))) in
      omega (arith, e, more)

  before_within : (t : ℕ) → length (before t) ≤ length history
  before_within t =
      let e : length history ≡ length (before t ++ publishes n made (take t order) (drop t order)) =
      ap (λ (l : List ℕ). length (publishes n made [] l)) (sym (take-append-drop t order))
      ∙ ap (λ (l : List Publish). length l) (publishes_append n made [] (take t order) (drop t order)) in
      let more = length-append (before t) (publishes n made (take t order) (drop t order)) in
      omega (arith, e, more)

  -- an entry that is right is what the publishes up to its moment come to
  entry_after : (t : ℕ) (a : Answer) → a.vector ≡ numbers_after n (take t order)
      → IsOneMoment n (width c h g) (sum_ops c h) made order a → IsAfter n c h g (before t) a
  entry_after t a moment entry = record {
    numbers = moment ∙ tab_same (λ i. count i (take t order)) (λ i. length (lists_by i (before t))) 0 n
        (λ i lt. let in_n : i < n = omega (arith, lt) in lists_many n made (take t order) i in_n (room t i in_n));
    totals = λ k lt.
        let is : slice_index a.totals k ≡ vector_total (sum_ops c h) made 0 a.vector k = read_at a.totals k _ 0
        (entry.totals k lt) in
        let same : vector_total (sum_ops c h) made 0 a.vector k ≡ vector_total (sum_ops c h) made 0
        (numbers_after n (take t order)) k =
        ap (λ (v : List ℕ). vector_total (sum_ops c h) made 0 v k) moment in
        let none = row_none (sum_ops c h) made 0 n k in
        let all = sum_is n made c h [] (take t order) k (room t) in
        omega (arith, is, same, none, all);
  }

  -- entries that are right and climb, from a moment on that the first of them is not below
  abbrev AreRight : List Answer → Type 0
  AreRight l = (q : ℕ) (a : Answer) → get_elem? l q ≡ some a → IsOneMoment n (width c h g) (sum_ops c h) made order a

  later : (from : ℕ) (a : Answer) → Below (numbers_after n (take from order)) a.vector → IsCut n order a.vector → (t : ℕ)
      × (from ≤ t) × (a.vector ≡ numbers_after n (take t order))
  later from a above cut = ⊎_elim
      (λ (lt : cut.0 < from).
      let down : Below a.vector (numbers_after n (take from order)) =
      subst (λ (v : List ℕ). Below v (numbers_after n (take from order))) (sym cut.2)
      (rises n cut.0 from order (omega (arith, lt))) in
      let long : length a.vector ≡ length (numbers_after n (take from order)) = ap (λ (v : List ℕ). length v) cut.2
      ∙ (length_tab 0 n _ ∙ sym (length_tab 0 n _)) in
      (from, omega arith, both_below a.vector (numbers_after n (take from order)) long down above))
      (λ (le : from ≤ cut.0). (cut.0, le, cut.2))
      (cases_lt cut.0 from)

  along_from : (from : ℕ) (a : Answer) (l : List Answer) → Below (numbers_after n (take from order)) a.vector → Climbs (a ∷ l)
      → AreRight (a ∷ l) → AreAlong n c h g history (length (before from)) (a ∷ l)
  along_from from a [] above climbs right =
      let entry = right 0 a refl in
      let t = later from a above entry.moment in (
        length (before t.0),
        before_longer from t.0 t.1,
        before_within t.0,
        subst (λ (ps : List Publish). IsAfter n c h g ps a) (sym (is_before t.0)) (entry_after t.0 a t.2 entry),
        tt,
      )
  along_from from a (b ∷ l) above climbs right =
      let entry = right 0 a refl in
      let t = later from a above entry.moment in
      let next : Below (numbers_after n (take t.0 order)) b.vector = subst (λ (v : List ℕ). Below v b.vector) t.2 climbs.0 in (
        length (before t.0),
        before_longer from t.0 t.1,
        before_within t.0,
        subst (λ (ps : List Publish). IsAfter n c h g ps a) (sym (is_before t.0)) (entry_after t.0 a t.2 entry),
        along_from t.0 b l next climbs.1 (λ q x e. right (suc q) x e),
      )

  along_all : (l : List Answer) → Climbs l → AreRight l → AreAlong n c h g history 0 l
  along_all [] climbs right = tt
  along_all (a ∷ l) climbs right =
      along_from 0 a l (λ q x y ex ey.
      let lt = at_below (tab 0 n (λ i. count i [])) q x ex in
      let z = tab_at 0 n (λ i. count i []) q (omega (arith, lt, length_tab 0 n (λ i. count i []))) in
      let e = some-injective 0 x (sym z ∙ ex) in
      omega (arith, e)) climbs right

  all_accepted : AreAccepted n c h g [] history
  all_accepted = are_accepted n made c h g ruled.legal [] order [] (λ i lt. refl) (λ i lt. let e = ruled.counted i lt in
      omega (arith, e))

  -- in it each worker has published all that the rule says
  lists_all : (i : ℕ) → i < n → lists_by i history ≡ map ops_of (made i)
  lists_all i lt =
      let all = ruled.counted i lt in
      lists_are n made [] order i lt (omega (arith, all))
      ∙ ap (map ops_of) (ap (λ (s : ℕ). take s (made i)) all ∙ take-length (made i))

-- a scan: what the reader recorded before is moments of one history, and so it is with the answer
module _ (n c h g : ℕ) (few : n ≤ 32) (ms : List Member) (ruled : AreRuled n (width c h g) (sum_ops c h) (Accepts c h g) ms)
    (t : HasMember ms) where
  right_all : AreRight n c h g ms ruled (scan_of ms).recorded
  right_all q a e =
      let sits : get_elem? ms 0 ≡ some t.0 = ap (λ (l : List Member). get_elem? l 0) t.2 in
      ((ruled.scans 0 t.0 sits).recorded q a (ap (λ (l : List Member). get_elem? (scan_of l).recorded q) (sym t.2) ∙ e)).0

  history_more : (before : ScanLog) (a : Answer) → IsAnswered n before (scan_of ms) a → HaveHistory n c h g before.recorded
      → HaveHistory n c h g (scan_of ms).recorded
  history_more before a answered old =
      record {
        history = history n c h g ms ruled;
        accepted = all_accepted n c h g ms ruled;
        along = along_all n c h g ms ruled (scan_of ms).recorded
            (subst Climbs (sym answered.recorded)
            (climbs_more before.recorded a (climbs_along n c h g old.history 0 before.recorded old.along)
            (λ q b there. is_above n c h g few ms ruled t before a answered b q there)))
            right_all;
      }

  -- told by its result
  pub moments_more : {T : Type 0} (before : ScanLog) (a : Answer) (answer : Result T Contended)
      → OnOk answer (IsAnswered n before (scan_of ms) a)
      → IfErr answer (IsContended n before (scan_of ms)) → AreMoments n c h g before.recorded
      → AreMoments n c h g (scan_of ms).recorded
  moments_more before a (Ok x) answered contended old = ∥∥₁_map old (history_more before a answered)
  moments_more before a (Err e) answered contended old = subst (AreMoments n c h g) (sym contended.gave_up.recorded) old

  -- what the reader recorded are moments of a history in which each worker has published all that the rule says
  pub whose_moments : AreMoments n c h g (scan_of ms).recorded
      → ∥ ((history : List Publish) × AreAccepted n c h g [] history × AreAlong n c h g history 0 (scan_of ms).recorded
      × ((i : ℕ) → i < n → lists_by i history ≡ map ops_of (ruled.made i))) ∥₁
  whose_moments moments = ∥∥₁_map moments (λ old. (
    history n c h g ms ruled,
    all_accepted n c h g ms ruled,
    along_all n c h g ms ruled (scan_of ms).recorded (climbs_along n c h g old.history 0 (scan_of ms).recorded old.along)
        right_all,
    lists_all n c h g ms ruled,
  ))

-- nothing was recorded yet
pub no_moments : (n c h g : ℕ) → AreMoments n c h g []
no_moments n c h g = ∣ record { history = []; accepted = tt; along = tt } ∣₁

-- a source of one worker
module _ (n c h g : ℕ) (one : n ≡ 1) where
  -- all its publishes are those of worker 0
  sum_alone : (before history : List Publish) (k : ℕ) → AreAccepted n c h g before history
      → sum_lists c h (lists_by 0 history) k ≡ sum_all c h history k
  sum_alone before [] k accepted = refl
  sum_alone before (p ∷ ps) k accepted =
      let lt = accepted.0 in
      let zero_is : p.worker ≡ 0 = omega (arith, lt, one) in
      let rest = sum_alone (before ++ p ∷ []) ps k accepted.2 in
      let here : sum_lists c h (lists_by 0 (p ∷ ps)) k ≡ sum_lists c h (p.ops ∷ lists_by 0 ps) k =
      ap (λ (b : Bool). sum_lists c h (cond b (p.ops ∷ lists_by 0 ps) (lists_by 0 ps)) k) (eq-eqb p.worker 0 zero_is) in
      let cut = sum_by-append (λ (ops : List Op). sum_ops c h ops k) (p.ops ∷ []) (lists_by 0 ps) in
      let cut' = sum_by-append (λ (q : Publish). sum_ops c h q.ops k) (p ∷ []) ps in
      omega (arith, rest, here, cut, cut')

  accepted_more : (before history : List Publish) (p : Publish) → AreAccepted n c h g before history → p.worker < n
      → Accepts c h g (sum_lists c h (lists_by p.worker (before ++ history))) p.ops
      → AreAccepted n c h g before (history ++ p ∷ [])
  accepted_more before [] p accepted lt fits =
      (lt, subst (λ (l : List Publish). Accepts c h g (sum_lists c h (lists_by p.worker l)) p.ops) (append-nil before) fits, tt)
  accepted_more before (q ∷ qs) p accepted lt fits = (
    accepted.0,
    accepted.1,
    accepted_more (before ++ q ∷ []) qs p accepted.2 lt
        (subst (λ (l : List Publish). Accepts c h g (sum_lists c h (lists_by p.worker l)) p.ops)
        (sym (append_assoc before (q ∷ []) qs)) fits),
  )

  along_more : (history more : List Publish) (from : ℕ) (l : List Answer) → AreAlong n c h g history from l
      → AreAlong n c h g (history ++ more) from l
  along_more history more from [] along = tt
  along_more history more from (a ∷ l) (t, low, in_it, is, along) = (
    t,
    low,
    (let e = length-append history more in omega (arith, e, in_it)),
    subst (λ (ps : List Publish). IsAfter n c h g ps a) (sym (take-append-le t history more in_it)) is,
    along_more history more t l along,
  )

  along_last : (history : List Publish) (from : ℕ) (l : List Answer) (a : Answer) → from ≤ length history
      → AreAlong n c h g history from l → IsAfter n c h g history a
      → AreAlong n c h g history from (l ++ a ∷ [])
  along_last history from [] a low along is =
      (length history, low, omega arith, subst (λ (ps : List Publish). IsAfter n c h g ps a) (sym (take-length history)) is, tt)
  along_last history from (b ∷ l) a low (t, low', in_it, is', along) is =
      (t, low', in_it, is', along_last history t l a in_it along is)

  numbers_alone : (count : ℕ) (f : ℕ → ℕ) → count ≡ f 0 → count ∷ [] ≡ tab 0 n f
  numbers_alone count f e = subst (λ (z : ℕ). count ∷ [] ≡ tab 0 z f) (sym one) (ap (λ (z : ℕ). z ∷ []) e)

  number_alone : (count : ℕ) (f : ℕ → ℕ) → count ∷ [] ≡ tab 0 n f → count ≡ f 0
  number_alone count f e =
      let h : count ∷ [] ≡ f 0 ∷ [] = subst (λ (z : ℕ). count ∷ [] ≡ tab 0 z f) one e in
      ap (λ (l : List ℕ). slice_index l 0) h

  -- nothing was applied
  pub comes_first : (count : ℕ) (row : List ℕ) (answers : List Answer) → count ≡ 0 → row ≡ replicate (width c h g) 0
      → answers ≡ [] → ∥ ComeTo n c h g count row answers ∥₁
  comes_first count row answers none zeros fresh = ∣ record {
    history = [];
    accepted = tt;
    along = subst (AreAlong n c h g [] 0) (sym fresh) tt;
    all = record {
      numbers = numbers_alone count (λ i. 0) none;
      totals = λ k lt. ap (λ (l : List ℕ). slice_index l k) zeros ∙ zero_at (width c h g) k;
    };
  } ∣₁
    where
      zero_at : (w k : ℕ) → slice_index (replicate w 0) k ≡ 0
      zero_at zero k = refl
      zero_at (suc w) zero = refl
      zero_at (suc w) (suc k) = zero_at w k

  -- a list more was applied
  pub comes_more : (count count' : ℕ) (row row' : List ℕ) (ops : List Op) (answers : List Answer)
      → Accepts c h g (slice_index row) ops → Adds c h row ops row' → count' ≡ count + 1
      → ∥ ComeTo n c h g count row answers ∥₁ → ∥ ComeTo n c h g count' row' answers ∥₁
  comes_more count count' row row' ops answers accepts adds more old = ∥∥₁_map old (λ was.
      let p : Publish = record { worker = 0; ops = ops } in
      record {
        history = was.history ++ p ∷ [];
        accepted = accepted_more [] was.history p was.accepted (omega (arith, one))
            (accepts_same c h g (slice_index row) (sum_lists c h (lists_by 0 was.history)) ops
            (λ k lt. was.all.totals k lt ∙ sym (sum_alone [] was.history k was.accepted)) accepts);
        along = along_more was.history (p ∷ []) 0 answers was.along;
        all = record {
          numbers = numbers_alone count' (λ i. length (lists_by i (was.history ++ p ∷ [])))
              (let a : count ≡ length (lists_by 0 was.history) = number_alone count (λ i. length (lists_by i was.history))
              was.all.numbers in
              let b : length (lists_by 0 (was.history ++ p ∷ [])) ≡ length (lists_by 0 was.history ++ ops ∷ []) =
              ap (λ (l : List (List Op)). length l) (lists_append 0 was.history (p ∷ [])) in
              let e = length-append (lists_by 0 was.history) (ops ∷ []) in
              omega (arith, a, b, e, more));
          totals = λ k lt.
              let a = was.all.totals k lt in
              let b = adds.sums k in
              let e = sum_by-append (λ (q : Publish). sum_ops c h q.ops k) was.history (p ∷ []) in
              omega (arith, a, b, e);
        };
      })

  -- an answer more was recorded
  pub comes_taken : (count : ℕ) (row : List ℕ) (answers answers' : List Answer) (a : Answer) → answers' ≡ answers ++ a ∷ []
      → a.vector ≡ count ∷ [] → a.totals ≡ row
      → ∥ ComeTo n c h g count row answers ∥₁ → ∥ ComeTo n c h g count row answers' ∥₁
  comes_taken count row answers answers' a is vector totals old = ∥∥₁_map old (λ was. record {
    history = was.history;
    accepted = was.accepted;
    along = subst (AreAlong n c h g was.history 0) (sym is) (along_last was.history 0 answers a (omega arith) was.along (record {
      numbers = vector ∙ was.all.numbers;
      totals = λ k lt. ap (λ (l : List ℕ). slice_index l k) totals ∙ was.all.totals k lt;
    }));
    all = was.all;
  })

-- what a source of one worker recorded are moments
pub comes_moments : (n c h g count : ℕ) (row : List ℕ) (answers : List Answer) → ∥ ComeTo n c h g count row answers ∥₁
    → AreMoments n c h g answers
comes_moments n c h g count row answers old =
    ∥∥₁_map old (λ was. record { history = was.history; accepted = was.accepted; along = was.along })

-- the last of some moments are moments
pub along_later : (n c h g : ℕ) (history : List Publish) (from : ℕ) (older l : List Answer)
    → AreAlong n c h g history from (older ++ l) → AreAlong n c h g history 0 l
along_later n c h g history from [] [] along = tt
along_later n c h g history from [] (a ∷ l) (t, low, in_it, is, along) = (t, omega arith, in_it, is, along)
along_later n c h g history from (b ∷ older) l (t, low, in_it, is, along) = along_later n c h g history t older l along

pub moments_later : (n c h g : ℕ) (older l : List Answer) → AreMoments n c h g (older ++ l) → AreMoments n c h g l
moments_later n c h g older l moments =
    ∥∥₁_map moments (λ was. record {
      history = was.history;
      accepted = was.accepted;
      along = along_later n c h g was.history 0 older l was.along;
    })

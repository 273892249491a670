-- The scrapes that a history keeps.
use Rattle.std.proofs.Common.{◌≡◌, ℕ, zero, suc, ◌+◌, ◌-◌, ◌<◌, ◌≤◌, List, [], ◌∷◌, ◌++◌, length, get_or, take, drop, refl, ap}
use Rattle.std.proofs.Common.{sym, subst, ◌∙◌, arith, inl, inr}
use Rattle.std.specs.Prelude.{Option, Some, None, slice_get}
use Rattle.std.proofs.lemmas.List.{take-append-le, drop-append-le, take_all, length-append, length-drop, nil_from_length}
use Rattle.std.proofs.lemmas.List.{take_more}
use Rattle.std.proofs.lemmas.Bool.{cases_lt}
use Rattle.std.proofs.Math.Seq.{take-add}
use Rattle.ledger_core.specs.Ops.{width}
use Rattle.snapshot_scan.specs.Snapshots.{Taken, as_answer}
use Rattle.register_rule.specs.Members.{newest}
use Rattle.scrape_history.specs.declared.increase.Increase.{Increase}
use Rattle.scrape_history.specs.declared.later.Later.{Later}
use Rattle.scrape_history.specs.Increases.{raised_by, Lead, Adds}
use Rattle.scrape_history.specs.History.{changed_in, later_of, held_of, answers_of, IsHistory}
use Rattle.scrape_history.proofs.Increasing.{raised_append, raised_rest, lead_on, lead_rest}

-- counts of increases

pub changed_push : (ls : List Later) (l : Later) → changed_in (ls ++ l ∷ []) ≡ changed_in ls + l.changed
changed_push [] l = omega arith
changed_push (x ∷ ls) l = let rest = changed_push ls l in omega (arith, rest)

pub changed_within : (k : ℕ) (ls : List Later) → changed_in (take k ls) ≤ changed_in ls
changed_within zero ls = omega arith
changed_within (suc k) [] = omega arith
changed_within (suc k) (x ∷ ls) = let rest = changed_within k ls in omega (arith, rest)

pub changed_more : (ls : List Later) (k : ℕ) (l : Later) → k < length ls → l ≡ get_or ls k l
    → changed_in (take (k + 1) ls) ≡ changed_in (take k ls) + l.changed
changed_more ls k l lt is =
    ap changed_in (take_more ls k l lt) ∙ changed_push (take k ls) (get_or ls k l)
    ∙ ap (λ (x : Later). changed_in (take k ls) + x.changed) (sym is)

-- counts of scrapes

later_count : (t : Taken) (ls : List Later) (is : List Increase) → length (later_of t ls is) ≡ length ls
later_count t [] is = refl
later_count t (x ∷ ls) is = ap suc (later_count (raised_by t (take x.changed is)) ls (drop x.changed is))

count_of : Option ℕ → List Later → ℕ
count_of None ls = 0
count_of (Some before) ls = suc (length ls)

pub held_some : (first : Option ℕ) (before : ℕ) (t : Taken) (ls : List Later) (is : List Increase) → first ≡ Some before
    → length (held_of first t ls is) ≡ length ls + 1
held_some first before t ls is some = ap (λ f. length (held_of f t ls is)) some
    ∙ (let e = later_count t ls is in omega (arith, e))

pub held_few : (first : Option ℕ) (t : Taken) (ls : List Later) (is : List Increase)
    → length (held_of first t ls is) ≤ length ls + 1
held_few None t ls is = omega arith
held_few (Some before) t ls is = let e = later_count t ls is in omega (arith, e)

pub held_any : (first : Option ℕ) (t : Taken) (ls : List Later) (is is' : List Increase)
    → length (held_of first t ls is) ≡ length (held_of first t ls is')
held_any None t ls is is' = refl
held_any (Some before) t ls is is' = let e = later_count t ls is in let e' = later_count t ls is' in omega (arith, e, e')

-- there is room for one more where the oldest of n scrapes were dropped
pub place_left : (n window places left : ℕ) → 1 ≤ window → (n < window → n < places) → n ≤ places → left ≡ n - (n - (window - 1))
    → left < places
place_left n window places left one few fit is = elim (cases_lt n window) [
  | inl lt ↦ (let lt' = few lt in omega (arith, lt', is))
  | inr ge ↦ omega (arith, ge, one, fit, is)
]

-- the scrape of a number
read_later : (before : ℕ) (t : Taken) (ls : List Later) (is : List Increase) (k : ℕ) → k ≤ length ls
    → slice_get (answers_of ((t, before) ∷ later_of t ls is)) k ≡ Some
    (as_answer (raised_by t (take (changed_in (take k ls)) is)))
read_later before t ls is zero le = refl
read_later before t [] is (suc k) le = absurd (omega (arith, le))
read_later before t (x ∷ ls) is (suc k) le =
    let u : Taken = raised_by t (take x.changed is) in
    let n : ℕ = changed_in (take k ls) in
    read_later x.before u ls (drop x.changed is) k (omega (arith, le))
    ∙ ap (λ (v : Taken). Some (as_answer v))
    (sym (raised_append t (take x.changed is) (take n (drop x.changed is))) ∙ ap (raised_by t) (sym (take-add x.changed n is)))

pub read_held : (first : Option ℕ) (t : Taken) (ls : List Later) (is : List Increase) (k : ℕ) → k < length (held_of first t ls is)
    → slice_get (answers_of (held_of first t ls is)) k ≡ Some (as_answer (raised_by t (take (changed_in (take k ls)) is)))
read_held None t ls is k lt = absurd (omega (arith, lt))
read_held (Some before) t ls is k lt = let e = later_count t ls is in read_later before t ls is k (omega (arith, e, lt))

-- the newest one
newest_later : (before : ℕ) (t : Taken) (ls : List Later) (is : List Increase) → length is ≡ changed_in ls
    → newest (answers_of ((t, before) ∷ later_of t ls is)) ≡ Some (as_answer (raised_by t is))
newest_later before t [] is all = ap (λ (l : List Increase). Some (as_answer (raised_by t l))) (sym (nil_from_length is all))
newest_later before t (x ∷ ls) is all =
    let rest : length (drop x.changed is) ≡ changed_in ls = rw length-drop (omega (arith, all)) in
    newest_later x.before (raised_by t (take x.changed is)) ls (drop x.changed is) rest
    ∙ ap (λ (v : Taken). Some (as_answer v)) (raised_rest t x.changed is)

pub newest_held : (first : Option ℕ) (before : ℕ) (t u : Taken) (ls : List Later) (is : List Increase) → first ≡ Some before
    → length is ≡ changed_in ls → raised_by t is ≡ u
    → newest (answers_of (held_of first t ls is)) ≡ Some (as_answer u)
newest_held first before t u ls is some all to =
    ap (λ f. newest (answers_of (held_of f t ls is))) some ∙ newest_later before t ls is all
    ∙ ap (λ (v : Taken). Some (as_answer v)) to

-- one scrape more
push_later : (t : Taken) (ls : List Later) (is more : List Increase) (before : ℕ) → length is ≡ changed_in ls
    → later_of t (ls ++ record { before = before; changed = length more } ∷ []) (is ++ more) ≡ later_of t ls
    is ++ (raised_by (raised_by t is) more, before) ∷ []
push_later t [] is more before all =
    let none : is ≡ [] = nil_from_length is all in
    ap (λ (l : List Increase). later_of t (record { before = before; changed = length more } ∷ []) (l ++ more)) none
    ∙ ap (λ (l : List Increase). (raised_by t l, before) ∷ []) (take_all (length more) more (omega arith))
    ∙ ap (λ (l : List Increase). (raised_by (raised_by t l) more, before) ∷ []) (sym none)
push_later t (x ∷ ls) is more before all =
    let le : x.changed ≤ length is = omega (arith, all) in
    let rest : length (drop x.changed is) ≡ changed_in ls = rw length-drop (omega (arith, all)) in
    let u : Taken = raised_by t (take x.changed is) in
    let last : Later = record { before = before; changed = length more } in
    ap (λ (l : List Increase). (raised_by t l, x.before) ∷ later_of (raised_by t l) (ls ++ last ∷ [])
    (drop x.changed (is ++ more))) (take-append-le x.changed is more le)
    ∙ ap (λ (l : List Increase). (u, x.before) ∷ later_of u (ls ++ last ∷ []) l) (drop-append-le x.changed is more le)
    ∙ ap (λ (l : List (Taken × ℕ)). (u, x.before) ∷ l) (push_later u ls (drop x.changed is) more before rest)
    ∙ ap (λ (v : Taken). (u, x.before) ∷ later_of u ls (drop x.changed is) ++ (raised_by v more, before) ∷ [])
    (raised_rest t x.changed is)

module _ (n c h g : ℕ) (first : Option ℕ) (oldest now : Taken) (ls : List Later) (is : List Increase)
    (was : IsHistory n c h g first oldest now ls is) where
  module _ (scrape : Taken) (is' : List Increase) (ls' : List Later) (before changed : ℕ)
      (adds : Adds n (width c h g) now scrape is is')
      (changed_is : changed ≡ length is' - length is) (pushed : ls' ≡ ls ++ record { before = before; changed = changed } ∷ [])
    where
      long : length is' ≡ length is + length adds.more
      long = ap length adds.are ∙ length-append is adds.more

      changed_more_is : changed ≡ length adds.more
      changed_more_is = let e = long in omega (arith, changed_is, e)

      pub history_more : (earlier : ℕ) → first ≡ Some earlier → IsHistory n c h g first oldest scrape ls' is'
      history_more earlier some = record {
        geometry = was.geometry;
        none = λ none. absurd (let e : Some earlier ≡ None = sym some ∙ none in cc);
        all =
            let e = long in let count = changed_push ls (record { before = before; changed = changed }) in
            let sum = ap changed_in pushed in let all = was.all in let m = changed_more_is in
            omega (arith, e, count, sum, all, m);
        lead = subst (λ (l : List Increase). Lead n (width c h g) oldest scrape l) (sym adds.are)
            (lead_on n (width c h g) oldest now scrape is adds.more was.lead adds.lead);
      }

      pub held_more : (earlier : ℕ) → first ≡ Some earlier → held_of first oldest ls' is' ≡ held_of first oldest ls is ++ (
        scrape,
        before,
      ) ∷ []
      held_more earlier some =
          let last : Later = record { before = before; changed = length adds.more } in
          let same : ls' ≡ ls ++ last ∷ [] = pushed ∙ ap (λ (m : ℕ). ls ++ record { before = before; changed = m } ∷ [])
          changed_more_is in
          ap (λ f. held_of f oldest ls' is') some
          ∙ ap (λ (l : List Later). (oldest, earlier) ∷ later_of oldest l is') same
          ∙ ap (λ (l : List Increase). (oldest, earlier) ∷ later_of oldest (ls ++ last ∷ []) l) adds.are
          ∙ ap (λ (l : List (Taken × ℕ)). (oldest, earlier) ∷ l) (push_later oldest ls is adds.more before was.all)
          ∙ ap (λ (v : Taken). (oldest, earlier) ∷ later_of oldest ls is ++ (raised_by v adds.more, before) ∷ []) was.lead.to
          ∙ ap (λ (v : Taken). (oldest, earlier) ∷ later_of oldest ls is ++ (v, before) ∷ []) adds.lead.to
          ∙ ap (λ f. held_of f oldest ls is ++ (scrape, before) ∷ []) (sym some)

  -- the first scrape
  module _ (none : first ≡ None) (scrape : Taken) (before : ℕ) where
    no_increases : is ≡ []
    no_increases = nil_from_length is (was.all ∙ ap changed_in (was.none none))

    pub history_first : IsHistory n c h g (Some before) scrape scrape ls is
    history_first = record {
      geometry = was.geometry;
      none = λ e. absurd cc;
      all = was.all;
      lead = subst (λ (l : List Increase). Lead n (width c h g) scrape scrape l) (sym no_increases)
          (record { fit = tt; to = refl });
    }

    pub held_first : held_of (Some before) scrape ls is ≡ held_of first oldest ls is ++ (scrape, before) ∷ []
    held_first =
        ap (λ (l : List Later). (scrape, before) ∷ later_of scrape l is) (was.none none)
        ∙ ap (λ f. held_of f oldest ls is ++ (scrape, before) ∷ []) (sym none)

  -- the oldest scrape dropped
  pub history_less : (x : Later) (ls' : List Later) (u : Taken) (is' : List Increase) → ls ≡ x ∷ ls'
      → u ≡ raised_by oldest (take x.changed is) → is' ≡ drop x.changed is
      → IsHistory n c h g (Some x.before) u now ls' is'
  history_less x ls' u is' front to rest = record {
    geometry = was.geometry;
    none = λ e. absurd cc;
    all = let count = ap changed_in front in let all = was.all in rw (rest, length-drop) (omega (arith, count, all));
    lead = subst (λ (v : Taken). Lead n (width c h g) v now is') (sym to)
        (subst (λ (l : List Increase). Lead n (width c h g) (raised_by oldest (take x.changed is)) now l) (sym rest)
        (lead_rest n (width c h g) oldest now x.changed is was.lead));
  }

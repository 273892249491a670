-- Reads in the order of their events, and sums of the numbers that they meet.
use Rattle.std.proofs.Common.{◌≡◌, ⊎_elim, ℕ, zero, suc, ◌+◌, ◌<◌, ◌≤◌, Bool, true, false, cond, not, ◌&&◌, Option, Some, None}
use Rattle.std.proofs.Common.{List, [], ◌∷◌, ◌++◌, length, map, eqb, sym, refl, ap, ◌∙◌, subst, arith}
use Rattle.std.proofs.lemmas.Bool.{le-leb}
use Rattle.std.proofs.lemmas.Bool.Decides.{eqb_tells, leb_tells}
use mathlib.Core.Logic.{dite}
use native.Mathlib.Decide.{dec_le}
use mathlib.Core.Option.{some, some-injective, some-ne-none}
use lib.ListN.{get_elem?}
use Rattle.std.specs.Prelude.{slice_get, slice_index, nat_le}
use Rattle.snapshot_core.specs.declared.event.Event.{Event}
use Rattle.snapshot_core.specs.declared.event.Event.TheVariants.{Begin, Step, Torn}
use Rattle.ledger_core.specs.Vectors.{is_above}
use Rattle.snapshot_core.specs.Tries.{Read, Try, place_of, number_met, from_on, reads_of, TwoCollects, is_whole, same_numbers}
use Rattle.snapshot_core.specs.Tries.{is_clean, to_ask, Failed, AllFailed}
use Rattle.snapshot_core.specs.History.{Published, number_at}
use Rattle.snapshot_core.specs.Turns.{Answered, own, own_reads}
use Rattle.snapshot_core.specs.Faithful.{Meets, where_and_torn}
use Rattle.snapshot_core.proofs.Past.{number_rises}

abbrev pub sum_list : List ℕ → ℕ
sum_list [] = 0
sum_list (x ∷ xs) = x + sum_list xs

-- as many numbers, at no place greater
abbrev pub Low : List ℕ → List ℕ → Type 0
Low [] [] = Unit {0}
Low (x ∷ xs) (y ∷ ys) = (x ≤ y) × Low xs ys
Low _ _ = ⊥

pub sum_low : (xs ys : List ℕ) → Low xs ys → sum_list xs ≤ sum_list ys
sum_low [] [] h = omega arith
sum_low [] (y ∷ ys) h = absurd h
sum_low (x ∷ xs) [] h = absurd h
sum_low (x ∷ xs) (y ∷ ys) h = let a = h.0 in let b = sum_low xs ys h.1 in omega arith

-- somewhere less
pub sum_differs : (xs ys : List ℕ) → Low xs ys → same_numbers xs ys ≡ false → suc (sum_list xs) ≤ sum_list ys
sum_differs [] [] h e = absurd (cc)
sum_differs [] (y ∷ ys) h e = absurd h
sum_differs (x ∷ xs) [] h e = absurd h
sum_differs (x ∷ xs) (y ∷ ys) h e = ⊎_elim
    (λ t. let same = t.1 in let b = sum_differs xs ys h.1 (sym (ap (λ (z : Bool). z && same_numbers xs ys) t.0) ∙ e) in
    omega arith)
    (λ t. let ne = t.1 in let a = h.0 in let b = sum_low xs ys h.1 in let lt : x < y = omega arith in omega arith) (eqb_tells x y)

-- events that rise from lo on, below hi, none torn
abbrev pub RisingPairs : (lo hi : ℕ) → List (ℕ × Bool) → Type 0
RisingPairs lo hi [] = lo ≤ hi
RisingPairs lo hi (x ∷ xs) = (lo ≤ x.0) × (x.1 ≡ false) × RisingPairs (suc x.0) hi xs

pairs_lower : (lo lo' hi : ℕ) (xs : List (ℕ × Bool)) → lo' ≤ lo → RisingPairs lo hi xs → RisingPairs lo' hi xs
pairs_lower lo lo' hi [] le h = omega arith
pairs_lower lo lo' hi (x ∷ xs) le h = let a = h.0 in (omega arith, h.1, h.2)

-- an actor's own reads rise
pub own_rising : (es : List Event) (actor e m : ℕ) → ((d who : ℕ) → slice_get es d ≡ Some (Torn who) → ⊥)
    → RisingPairs e (e + m) (own_reads es actor e m)
own_rising es actor e zero whole = omega arith
own_rising es actor e (suc m) whole =
    go (slice_get es e) refl (subst (λ (z : ℕ). RisingPairs (suc e) z (own_reads es actor (suc e) m)) (omega arith)
    (own_rising es actor (suc e) m whole))
  where
    with_one : (t : Bool) (xs : List (ℕ × Bool)) → RisingPairs (suc e) (e + suc m) xs
        → RisingPairs e (e + suc m) (cond t ((e, false) ∷ []) [] ++ xs)
    with_one true xs h = (omega arith, refl, h)
    with_one false xs h = pairs_lower (suc e) e (e + suc m) xs (omega arith) h

    go : (x : Option Event) → slice_get es e ≡ x → RisingPairs (suc e) (e + suc m) (own_reads es actor (suc e) m)
        → RisingPairs e (e + suc m) (own actor e x ++ own_reads es actor (suc e) m)
    go None is h = pairs_lower (suc e) e (e + suc m) (own_reads es actor (suc e) m) (omega arith) h
    go (Some (Begin who ops)) is h = pairs_lower (suc e) e (e + suc m) (own_reads es actor (suc e) m) (omega arith) h
    go (Some (Step who)) is h = with_one (eqb who actor) (own_reads es actor (suc e) m) h
    go (Some (Torn who)) is h = absurd (whole e who is)

-- where a worker's number is greater, is later
pub number_newer : (ps : List Published) (j k i : ℕ) → number_at ps j i < number_at ps k i → j < k
number_newer ps j k i less = dite (dec_le k j) (λ le. let up = number_rises ps k j i le in absurd (omega (arith, less, up)))
    (λ gt. omega arith)

module _ (ps : List Published) (answers : List Answered) where
  -- a whole read that meets its moment
  pub record Fine (r : Read) : Type 0 where
    pub intact : r.torn ≡ false
    pub meets : Meets ps answers r

  -- such reads, whose events rise from lo on, below hi
  abbrev pub Within : (lo hi : ℕ) → List Read → Type 0
  Within lo hi [] = lo ≤ hi
  Within lo hi (r ∷ rs) = (lo ≤ r.at) × Fine r × Within (suc r.at) hi rs

  pub within_of : (lo hi : ℕ) (rs : List Read) → RisingPairs lo hi (map where_and_torn rs)
      → ((q : ℕ) (r : Read) → get_elem? rs q ≡ some r → Meets ps answers r) → Within lo hi rs
  within_of lo hi [] h meets = h
  within_of lo hi (r ∷ rs) h meets = (
    h.0,
    record { intact = h.1; meets = meets 0 r refl },
    within_of (suc r.at) hi rs h.2 (λ q. meets (suc q)),
  )

  pub within_span : (lo hi : ℕ) (rs : List Read) → Within lo hi rs → lo ≤ hi
  within_span lo hi [] h = h
  within_span lo hi (r ∷ rs) h = let a = h.0 in let b = within_span (suc r.at) hi rs h.2 in omega arith

  pub within_parts : (lo hi : ℕ) (xs ys : List Read) → Within lo hi (xs ++ ys) → (mid : ℕ) × Within lo mid xs × Within mid hi ys
  within_parts lo hi [] ys h = (lo, omega arith, h)
  within_parts lo hi (x ∷ xs) ys h = let t = within_parts (suc x.at) hi xs ys h.2 in (t.0, (h.0, h.1, t.1), t.2)

  pub within_at : (lo hi : ℕ) (rs : List Read) (q : ℕ) (r : Read) → Within lo hi rs → get_elem? rs q ≡ some r → (lo ≤ r.at)
      × (r.at < hi) × Fine r
  within_at lo hi [] q r h is = absurd (some-ne-none r (sym is))
  within_at lo hi (x ∷ rs) zero r h is = subst (λ (z : Read). (lo ≤ z.at) × (z.at < hi) × Fine z) (some-injective x r is)
      (let b = within_span (suc x.at) hi rs h.2 in (h.0, omega arith, h.1))
  within_at lo hi (x ∷ rs) (suc q) r h is = let a = h.0 in let t = within_at (suc x.at) hi rs q r h.2 is in let b = t.0 in
      (omega arith, t.1, t.2)

  -- a try's parts, in the order of their events
  pub record Spans (lo hi : ℕ) (t : Try) : Type 0 where
    pub one : ℕ
    pub two : ℕ
    pub firsts : Within lo one t.first
    pub seconds : Within one two t.second
    pub asked : Within two hi t.asks

  pub try_parts : (lo hi : ℕ) (t : Try) (rest : List Read) → Within lo hi (t.first ++ t.second ++ t.asks ++ rest) → (mid : ℕ)
      × Spans lo mid t × Within mid hi rest
  try_parts lo hi t rest h =
      let a = within_parts lo hi (t.first ++ t.second ++ t.asks) rest h in
      let b = within_parts lo a.0 (t.first ++ t.second) t.asks a.1 in
      let c = within_parts lo b.0 t.first t.second b.1 in
      (a.0, record { one = c.0; two = b.0; firsts = c.1; seconds = c.2; asked = b.2 }, a.2)

  -- a later collect meets numbers that are not less
  pub collect_low : (rs ss : List Read) (a b c d : ℕ) → map place_of rs ≡ map place_of ss → Within a b rs → Within c d ss → b ≤ c
      → Low (map number_met rs) (map number_met ss)
  collect_low [] [] a b c d e hr hs le = tt
  collect_low [] (s ∷ ss) a b c d e hr hs le = absurd (cc)
  collect_low (r ∷ rs) [] a b c d e hr hs le = absurd (cc)
  collect_low (r ∷ rs) (s ∷ ss) a b c d e hr hs le =
      let same : r.place ≡ s.place = cc in let rest : map place_of rs ≡ map place_of ss = cc in
      let x = within_span (suc r.at) b rs hr.2 in let y = hs.0 in
      let n1 = hr.1.meets.number in let n2 = hs.1.meets.number ∙ ap (number_at ps s.at) (sym same) in
      let up = number_rises ps r.at s.at r.place (omega arith) in
      (omega (arith, n1, n2, up), collect_low rs ss (suc r.at) b (suc s.at) d rest hr.2 hs.2 (omega arith))

  all_whole : (rs : List Read) (a b : ℕ) → Within a b rs → is_whole rs ≡ true
  all_whole [] a b h = refl
  all_whole (r ∷ rs) a b h = ap (λ (z : Bool × Bool). not z.0 && z.1) (λ k. (h.1.intact k, all_whole rs (suc r.at) b h.2 k))

  -- a try that is not clean meets more in its second collect, and never less than a collect before it
  pub try_more : (n : ℕ) (prev : List Read) (t : Try) (a b lo hi : ℕ) → map place_of prev ≡ from_on 0 n → Within a b prev → b ≤ lo
      → Spans lo hi t → TwoCollects n t → is_clean t ≡ false
      → suc (sum_list (map number_met prev)) ≤ sum_list (map number_met t.second)
  try_more n prev t a b lo hi places before le s two unclean =
      let one = collect_low prev t.first a b lo s.one (places ∙ sym two.first) before s.firsts le in
      let low = collect_low t.first t.second lo s.one s.one s.two (two.first ∙ sym two.second) s.firsts s.seconds (omega arith) in
      let x = sum_low (map number_met prev) (map number_met t.first) one in
      let y = sum_differs (map number_met t.first) (map number_met t.second) low
      (sym (ap (λ (z : Bool). z && same_numbers (map number_met t.first) (map number_met t.second))
      (all_whole t.first lo s.one s.firsts)) ∙ unclean) in
      omega (arith, x, y)

  -- each of some tries that failed adds one at least
  pub tries_more : (n : ℕ) (floor base : List ℕ) (ts : List Try) (last : Try) (prev : List Read) (a b lo hi : ℕ)
      → map place_of prev ≡ from_on 0 n → Within a b prev → b ≤ lo
      → Within lo hi (reads_of (ts ++ last ∷ [])) → AllFailed n floor base ts → Failed n floor base last
      → sum_list (map number_met prev) + suc (length ts) ≤ sum_list (map number_met last.second)
  tries_more n floor base [] last prev a b lo hi places before le h failed end =
      let p = try_parts lo hi last [] h in
      let x = try_more n prev last a b lo p.0 places before le p.1 end.collects end.unclean in omega (arith, x)
  tries_more n floor base (t ∷ ts) last prev a b lo hi places before le h failed end =
      let p = try_parts lo hi t (reads_of (ts ++ last ∷ [])) h in
      let s = p.1 in
      let x = try_more n prev t a b lo p.0 places before le s failed.0.collects failed.0.unclean in
      let c = within_span s.two p.0 t.asks s.asked in
      let y = tries_more n floor base ts last t.second s.one s.two p.0 hi failed.0.collects.second s.seconds c p.2 failed.1 end in
      omega (arith, x, y)

  -- a vector of a moment after a collect is nowhere below its numbers
  pub moment_above : (rs : List Read) (vector : List ℕ) (k m a b j : ℕ) → map place_of rs ≡ from_on k m → length vector ≡ m
      → ((i : ℕ) → i < m → slice_index vector i ≡ number_at ps j (k + i)) → Within a b rs → b ≤ j
      → is_above (map number_met rs) vector ≡ true
  moment_above [] vector k m a b j places wide are h le = refl
  moment_above (r ∷ rs) vector k zero a b j places wide are h le = absurd (cc)
  moment_above (r ∷ rs) [] k (suc m) a b j places wide are h le = absurd (omega (arith, wide))
  moment_above (r ∷ rs) (x ∷ vector) k (suc m) a b j places wide are h le =
      let at : r.place ≡ k = cc in let rest : map place_of rs ≡ from_on (suc k) m = cc in
      let s = within_span (suc r.at) b rs h.2 in
      let n1 : r.number ≡ number_at ps r.at k = h.1.meets.number ∙ ap (number_at ps r.at) at in
      let n2 : x ≡ number_at ps j k = are 0 (omega arith) ∙ (let g : k + 0 ≡ k = omega arith in ap (number_at ps j) g) in
      let up = number_rises ps r.at j k (omega arith) in
      ap (λ (z : Bool × Bool). z.0 && z.1) (λ c. (
        le-leb r.number x (omega (arith, n1, n2, up)) c,
        moment_above rs vector (suc k) m (suc r.at) b j rest (omega (arith, wide)) (λ i lt. are (suc i) (omega arith)
            ∙ (let g : k + suc i ≡ suc k + i = omega arith in ap (number_at ps j) g)) h.2 le c,
      ))

-- where nobody is to be asked, each number is at most one above the base
pub none_more : (base xs : List ℕ) (rs : List Read) (k m : ℕ) → map place_of rs ≡ from_on k m → length xs ≡ m
    → ((i : ℕ) → slice_index base (k + i) ≡ slice_index xs i) → to_ask base rs ≡ []
    → sum_list (map number_met rs) ≤ sum_list xs + m
none_more base xs [] k m places wide are none = omega arith
none_more base xs (r ∷ rs) k zero places wide are none = absurd (cc)
none_more base [] (r ∷ rs) k (suc m) places wide are none = absurd (omega (arith, wide))
none_more base (x ∷ xs) (r ∷ rs) k (suc m) places wide are none =
    let at : r.place ≡ k = cc in let rest : map place_of rs ≡ from_on (suc k) m = cc in
    let here : slice_index base r.place ≡ x = (let g : r.place ≡ k + 0 = omega (arith, at) in ap (slice_index base) g) ∙ are 0 in
    go here (nat_le (slice_index base r.place + 2) r.number) refl none
    (none_more base xs rs (suc k) m rest (omega (arith, wide))
    (λ i. (let g : suc k + i ≡ k + suc i = omega arith in ap (slice_index base) g) ∙ are (suc i)))
  where
    go : slice_index base r.place ≡ x → (t : Bool) → nat_le (slice_index base r.place + 2) r.number ≡ t
        → cond t (r.place ∷ to_ask base rs) (to_ask base rs) ≡ []
        → (to_ask base rs ≡ [] → sum_list (map number_met rs) ≤ sum_list xs + m)
        → r.number + sum_list (map number_met rs) ≤ x + sum_list xs + suc m
    go here true e empty rec = absurd (cc)
    go here false e empty rec = ⊎_elim (λ t. absurd (let f : true ≡ false = sym t.0 ∙ e in cc)) (λ t. let less = t.1 in
        let y = rec empty in omega (arith, less, here, y)) (leb_tells (slice_index base r.place + 2) r.number)

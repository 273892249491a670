-- The journal that changes and kept scrapes make together.
use Rattle.std.proofs.Common.{◌≡◌, ℕ, zero, suc, ◌≤◌, ◌-◌, ◌+◌, List, [], ◌∷◌, ◌++◌, length, map, take, drop, refl, ap, sym, ◌∙◌}
use Rattle.std.proofs.Common.{arith}
use Rattle.std.specs.Prelude.{◌<◌, false, true, Some, None, slice_index_or}
use Rattle.std.proofs.lemmas.List.{drop-append-le, take-append-le, append_assoc, map-append, take_rest, drop-drop, length-drop}
use Rattle.std.proofs.lemmas.List.{length-map, length-append, length-take-le, take-append-drop}
use Rattle.std.proofs.Math.Seq.{drop-length, take-add}
use Rattle.snapshot_scan.specs.Snapshots.{Taken, as_answer}
use Rattle.register_rule.specs.Members.{newest}
use Rattle.registry_state.specs.Journal.{RegistryChange, Entry, Changed, Scraped, scrapes, without_oldest, without, within}
use Rattle.scrape_history.specs.History.{answers_of}
use Rattle.registry_state.specs.Merged.{merged, AreInOrder}

pub noted_within : (all from : ℕ) (kept : List (Taken × ℕ)) → AreInOrder all from kept → from ≤ all
noted_within all from [] noted = noted
noted_within all from (scrape ∷ kept) noted = let rest = noted_within all scrape.1 kept noted.1 in omega (arith, noted.0)

-- one change more
pub noted_change : (all from : ℕ) (kept : List (Taken × ℕ)) → AreInOrder all from kept → AreInOrder (all + 1) from kept
noted_change all from [] noted = omega arith
noted_change all from (scrape ∷ kept) noted = (noted.0, noted_change all scrape.1 kept noted.1)

-- one scrape more
pub noted_scrape : (all from : ℕ) (kept : List (Taken × ℕ)) (snapshot : Taken) → AreInOrder all from kept
    → AreInOrder all from (kept ++ (snapshot, all) ∷ [])
noted_scrape all from [] snapshot noted = (noted, omega arith)
noted_scrape all from (scrape ∷ kept) snapshot noted = (noted.0, noted_scrape all scrape.1 kept snapshot noted.1)

noted_less : (all from : ℕ) (scrape : Taken × ℕ) (kept : List (Taken × ℕ)) → AreInOrder all from (scrape ∷ kept)
    → AreInOrder all from kept
noted_less all from scrape [] noted = noted_within all from (scrape ∷ []) noted
noted_less all from scrape (second ∷ kept) noted = (omega (arith, noted.0, noted.1.0), noted.1.1)

-- the oldest scrapes dropped
pub noted_drop : (all from k : ℕ) (kept : List (Taken × ℕ)) → AreInOrder all from kept → AreInOrder all from (drop k kept)
noted_drop all from zero kept noted = noted
noted_drop all from (suc k) [] noted = noted
noted_drop all from (suc k) (scrape ∷ kept) noted = noted_drop all from k kept (noted_less all from scrape kept noted)

-- a stretch of a list and what is behind it are one stretch
joined_rest : {X : Type 0} (xs : List X) (from middle : ℕ) → from ≤ middle
    → take (middle - from) (drop from xs) ++ drop middle xs ≡ drop from xs
joined_rest xs from middle le =
    let e : from + (middle - from) ≡ middle = omega (arith, le) in
    let d : drop (middle - from) (drop from xs) ≡ drop middle xs = drop-drop (middle - from) from xs ∙ ap (λ n. drop n xs) e in
    rw (← d) (take-append-drop (middle - from) (drop from xs))

joined : {X : Type 0} (xs : List X) (from middle to : ℕ) → from ≤ middle → middle ≤ to
    → take (middle - from) (drop from xs) ++ take (to - middle) (drop middle xs) ≡ take (to - from) (drop from xs)
joined xs from middle to le ge =
    let e : from + (middle - from) ≡ middle = omega (arith, le) in
    let n : (middle - from) + (to - middle) ≡ to - from = omega (arith, le, ge) in
    let d : drop (middle - from) (drop from xs) ≡ drop middle xs = drop-drop (middle - from) from xs ∙ ap (λ n. drop n xs) e in
    sym (ap (λ n. take n (drop from xs)) (sym n) ∙ take-add (middle - from) (to - middle) (drop from xs)
    ∙ ap (λ l. take (middle - from) (drop from xs) ++ take (to - middle) l) d)

-- one change more
pub merged_change : (cs : List RegistryChange) (from : ℕ) (kept : List (Taken × ℕ)) (change : RegistryChange)
    → AreInOrder (length cs) from kept
    → merged (cs ++ change ∷ []) from kept ≡ merged cs from kept ++ Changed change ∷ []
merged_change cs from [] change noted =
    ap (map Changed) (drop-append-le from cs (change ∷ []) noted) ∙ map-append Changed (drop from cs) (change ∷ [])
merged_change cs from (scrape ∷ kept) change noted =
    let le : from ≤ length cs = noted_within (length cs) from (scrape ∷ kept) noted in
    let inside : scrape.1 ≤ length cs = noted_within (length cs) scrape.1 kept noted.1 in
    let inner : scrape.1 - from ≤ length (drop from cs) = rw length-drop (omega (arith, inside)) in
    let piece : take (scrape.1 - from) (drop from (cs ++ change ∷ [])) ≡ take (scrape.1 - from) (drop from cs) =
    ap (take (scrape.1 - from)) (drop-append-le from cs (change ∷ []) le) ∙ take-append-le (scrape.1 - from) (drop from cs)
    (change ∷ []) inner in
    rw (piece, merged_change cs scrape.1 kept change noted.1)
    (sym (append_assoc (map Changed (take (scrape.1 - from) (drop from cs)))
    (Scraped (as_answer scrape.0) ∷ merged cs scrape.1 kept) (Changed change ∷ [])))

-- one scrape more
pub merged_scrape : (cs : List RegistryChange) (from : ℕ) (kept : List (Taken × ℕ)) (snapshot : Taken)
    → AreInOrder (length cs) from kept
    → merged cs from (kept ++ (snapshot, length cs) ∷ []) ≡ merged cs from kept ++ Scraped (as_answer snapshot) ∷ []
merged_scrape cs from [] snapshot noted = rw (take_rest, drop-length) refl
merged_scrape cs from (scrape ∷ kept) snapshot noted =
    rw (merged_scrape cs scrape.1 kept snapshot noted.1)
    (sym (append_assoc (map Changed (take (scrape.1 - from) (drop from cs)))
    (Scraped (as_answer scrape.0) ∷ merged cs scrape.1 kept) (Scraped (as_answer snapshot) ∷ [])))

without_front : (cs : List RegistryChange) (entries : List Entry)
    → without_oldest (map Changed cs ++ entries) ≡ map Changed cs ++ without_oldest entries
without_front [] entries = refl
without_front (change ∷ cs) entries = ap (λ rest. Changed change ∷ rest) (without_front cs entries)

without_none : (cs : List RegistryChange) → without_oldest (map Changed cs) ≡ map Changed cs
without_none [] = refl
without_none (change ∷ cs) = ap (λ rest. Changed change ∷ rest) (without_none cs)

without_all : (k : ℕ) (cs : List RegistryChange) → map Changed cs ≡ without k (map Changed cs)
without_all zero cs = refl
without_all (suc k) cs = without_all k cs ∙ ap (without k) (sym (without_none cs))

-- the oldest scrape dropped
merged_less : (cs : List RegistryChange) (from : ℕ) (scrape : Taken × ℕ) (kept : List (Taken × ℕ))
    → AreInOrder (length cs) from (scrape ∷ kept)
    → merged cs from kept ≡ without_oldest (merged cs from (scrape ∷ kept))
merged_less cs from scrape [] noted = sym (
    without_front (take (scrape.1 - from) (drop from cs)) (Scraped (as_answer scrape.0) ∷ merged cs scrape.1 [])
    ∙ sym (map-append Changed (take (scrape.1 - from) (drop from cs)) (drop scrape.1 cs))
    ∙ ap (map Changed) (joined_rest cs from scrape.1 noted.0))
merged_less cs from scrape (second ∷ kept) noted = sym (
    without_front (take (scrape.1 - from) (drop from cs)) (Scraped (as_answer scrape.0) ∷ merged cs scrape.1 (second ∷ kept))
    ∙ sym (append_assoc (map Changed (take (scrape.1 - from) (drop from cs)))
    (map Changed (take (second.1 - scrape.1) (drop scrape.1 cs))) (Scraped (as_answer second.0) ∷ merged cs second.1 kept))
    ∙ ap (λ front. front ++ Scraped (as_answer second.0) ∷ merged cs second.1 kept)
    (sym (map-append Changed (take (scrape.1 - from) (drop from cs)) (take (second.1 - scrape.1) (drop scrape.1 cs)))
    ∙ ap (map Changed) (joined cs from scrape.1 second.1 noted.0 noted.1.0)))

-- the oldest scrapes dropped
merged_drop : (cs : List RegistryChange) (from k : ℕ) (kept : List (Taken × ℕ)) → AreInOrder (length cs) from kept
    → merged cs from (drop k kept) ≡ without k (merged cs from kept)
merged_drop cs from zero kept noted = refl
merged_drop cs from (suc k) [] noted = without_all (suc k) (drop from cs)
merged_drop cs from (suc k) (scrape ∷ kept) noted =
    merged_drop cs from k kept (noted_less (length cs) from scrape kept noted)
    ∙ ap (without k) (merged_less cs from scrape kept noted)

scrapes_front : (cs : List RegistryChange) (entries : List Entry) → scrapes (map Changed cs ++ entries) ≡ scrapes entries
scrapes_front [] entries = refl
scrapes_front (change ∷ cs) entries = scrapes_front cs entries

scrapes_none : (cs : List RegistryChange) → scrapes (map Changed cs) ≡ []
scrapes_none [] = refl
scrapes_none (change ∷ cs) = scrapes_none cs

-- the scrapes of the journal are the answers that are kept
pub merged_scrapes : (cs : List RegistryChange) (from : ℕ) (kept : List (Taken × ℕ))
    → scrapes (merged cs from kept) ≡ answers_of kept
merged_scrapes cs from [] = scrapes_none (drop from cs)
merged_scrapes cs from (scrape ∷ kept) =
    scrapes_front (take (scrape.1 - from) (drop from cs)) (Scraped (as_answer scrape.0) ∷ merged cs scrape.1 kept)
    ∙ ap (λ rest. as_answer scrape.0 ∷ rest) (merged_scrapes cs scrape.1 kept)

-- they are as many as are kept
merged_count : (cs : List RegistryChange) (from : ℕ) (kept : List (Taken × ℕ))
    → length (scrapes (merged cs from kept)) ≡ length kept
merged_count cs from kept = ap length (merged_scrapes cs from kept) ∙ length-map kept (λ (scrape : Taken × ℕ). as_answer scrape.0)

-- the oldest scrapes over the window dropped
pub merged_within : (cs : List RegistryChange) (window : ℕ) (kept : List (Taken × ℕ)) → AreInOrder (length cs) 0 kept
    → merged cs 0 (drop (length kept - window) kept) ≡ within window (merged cs 0 kept)
merged_within cs window kept noted =
    merged_drop cs 0 (length kept - window) kept noted
    ∙ ap (λ n. without (n - window) (merged cs 0 kept)) (sym (merged_count cs 0 kept))

-- the journal has an entry for each change and for each kept scrape
pub merged_length : (cs : List RegistryChange) (from : ℕ) (kept : List (Taken × ℕ)) → AreInOrder (length cs) from kept
    → length (merged cs from kept) + from ≡ length cs + length kept
merged_length cs from [] noted =
    let e : length (map Changed (drop from cs)) ≡ length cs - from = length-map (drop from cs) Changed ∙ length-drop from cs in
    omega (arith, e, noted)
merged_length cs from (scrape ∷ kept) noted =
    let rest : length (merged cs scrape.1 kept) + scrape.1 ≡ length cs + length kept = merged_length cs scrape.1 kept noted.1 in
    let inside : scrape.1 ≤ length cs = noted_within (length cs) scrape.1 kept noted.1 in
    let inner : scrape.1 - from ≤ length (drop from cs) = rw length-drop (omega (arith, inside)) in
    let front : length (map Changed (take (scrape.1 - from) (drop from cs))) ≡ scrape.1 - from =
    length-map (take (scrape.1 - from) (drop from cs)) Changed ∙ length-take-le (scrape.1 - from) (drop from cs) inner in
    let e : length (merged cs from (scrape ∷ kept)) ≡ length (map Changed (take (scrape.1 - from) (drop from cs))) + suc
    (length (merged cs scrape.1 kept)) =
    length-append (map Changed (take (scrape.1 - from) (drop from cs)))
    (Scraped (as_answer scrape.0) ∷ merged cs scrape.1 kept) in
    omega (arith, rest, inside, front, e, noted.0)

-- the answer that is kept last is the newest
pub newest_kept : (kept : List (Taken × ℕ)) (i : ℕ) (scrape : Taken × ℕ) → suc i ≡ length kept
    → scrape ≡ slice_index_or kept i scrape
    → newest (answers_of kept) ≡ Some (as_answer scrape.0)
newest_kept [] i scrape e last = absurd (omega (arith, e))
newest_kept (first ∷ []) zero scrape e last = ap (λ (s : Taken × ℕ). Some (as_answer s.0)) (sym last)
newest_kept (first ∷ []) (suc i) scrape e last = absurd (omega (arith, e))
newest_kept (first ∷ second ∷ kept) zero scrape e last = absurd (omega (arith, e))
newest_kept (first ∷ second ∷ kept) (suc i) scrape e last = newest_kept (second ∷ kept) i scrape (omega (arith, e)) last

pub newest_none : (kept : List (Taken × ℕ)) → length kept ≡ 0 → newest (answers_of kept) ≡ None
newest_none [] e = refl
newest_none (first ∷ kept) e = absurd (omega (arith, e))

-- what is not above zero is zero
pub none_left : (n : ℕ) → (0 < n → false ≡ true) → n ≡ 0
none_left zero h = refl
none_left (suc n) h = let e : false ≡ true = h (omega arith) in absurd cc

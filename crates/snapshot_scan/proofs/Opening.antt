-- The first collect of a try, place by place.
use Rattle.std.proofs.Common.{◌≡◌, ◌≢◌, ℕ, zero, suc, ◌+◌, ◌<◌, ◌≤◌, eqb, Bool, true, false, cond, ◌&&◌, not, ◌==◌, List, [], ◌∷◌}
use Rattle.std.proofs.Common.{◌++◌, length, map, set, sym, refl, ap, ◌∙◌, arith, eq-eqb, ne_eqb, append_assoc}
use Rattle.std.proofs.lemmas.List.{append-nil}
use mathlib.Core.Option.{some, some-injective, some-ne-none}
use lib.ListN.{get_elem?}
use Rattle.register_rule.specs.declared.view.Look.{Look}
use Rattle.register_rule.specs.declared.view.ScanLog.{ScanLog}
use Rattle.register_rule.specs.ScanSteps.{every, unsure, begun, remembered_words, opens_next, after_open, after_read, noted}
use Rattle.snapshot_scan.specs.declared.remembered_row.RememberedRow.{RememberedRow}
use Rattle.register_rule.specs.declared.view.Member.{Member}
use Rattle.register_rule.specs.Told.{IsNumber}
use Rattle.register_rule.specs.Seats.{HasMember}
use Rattle.snapshot_scan.specs.Shape.{scan_of, with_scan, read_all, looked_at}
use Rattle.snapshot_scan.proofs.Words.{scan_with, front_at}
use Rattle.snapshot_scan.specs.RememberedRows.{version_of, words_of, looks_of, pairs, opening, IsLoaded}

pub pairs_snoc : (q : ℕ) (xs : List ℕ) (x : ℕ) → pairs q (xs ++ x ∷ []) ≡ pairs q xs ++ (q + length xs, x) ∷ []
pairs_snoc q [] x = let e : q ≡ q + 0 = omega arith in ap (λ (z : ℕ). (z, x) ∷ []) e
pairs_snoc q (y ∷ ys) x = let e : suc q + length ys ≡ q + suc (length ys) = omega arith in
    ap (λ z. (q, y) ∷ z) (pairs_snoc (suc q) ys x) ∙ ap (λ (z : ℕ). (q, y) ∷ pairs (suc q) ys ++ (z, x) ∷ []) e

pub looks_long : (q : ℕ) (opened found : List ℕ) (gs : List RememberedRow) → length opened ≤ length gs
    → length (looks_of q opened found gs) ≡ length opened
looks_long q [] found gs h = refl
looks_long q (s ∷ opened) found [] h = absurd (omega (arith, h))
looks_long q (s ∷ opened) [] (g ∷ gs) h = ap suc (looks_long (suc q) opened [] gs (omega (arith, h)))
looks_long q (s ∷ opened) (f ∷ found) (g ∷ gs) h = ap suc (looks_long (suc q) opened found gs (omega (arith, h)))

pub opened_unsure : (q : ℕ) (opened : List ℕ) (gs : List RememberedRow) → every unsure (looks_of q opened [] gs) ≡ true
opened_unsure q [] gs = refl
opened_unsure q (s ∷ opened) [] = refl
opened_unsure q (s ∷ opened) (g ∷ gs) = opened_unsure (suc q) opened gs

-- the row of one more place
pub looks_snoc : (q : ℕ) (opened : List ℕ) (gs : List RememberedRow) (s : ℕ) (g : RememberedRow) → length opened < length gs
    → looks_of q (opened ++ s ∷ []) [] (set gs (length opened) g) ≡ looks_of q opened [] gs ++ begun (q + length opened) s
    (words_of s g) ∷ []
looks_snoc q [] [] s g h = absurd (omega (arith, h))
looks_snoc q [] (x ∷ gs) s g h = let e : q ≡ q + 0 = omega arith in ap (λ (z : ℕ). begun z s (words_of s g) ∷ []) e
looks_snoc q (o ∷ opened) [] s g h = absurd (omega (arith, h))
looks_snoc q (o ∷ opened) (x ∷ gs) s g h = let e : suc q + length opened ≡ q + suc (length opened) = omega arith in
    ap (λ z. begun q o (words_of o x) ∷ z) (looks_snoc (suc q) opened gs s g (omega (arith, h)))
    ∙ ap (λ (z : ℕ). begun q o (words_of o x) ∷ looks_of (suc q) opened [] gs ++ begun z s (words_of s g) ∷ []) e

pub kept_words : (i s : ℕ) (gs : List RememberedRow) (g : RememberedRow) → get_elem? gs i ≡ some g
    → remembered_words i s (map version_of gs) ≡ cond (g.number == s) g.row.items []
kept_words i s [] g e = absurd (some-ne-none g (sym e))
kept_words zero s (x ∷ gs) g e = ap (λ (z : RememberedRow). cond (z.number == s) z.row.items []) (some-injective x g e)
kept_words (suc i) s (x ∷ gs) g e = kept_words i s gs g e

-- a load of the next word of a place that was begun last
noted_here : (i s k x : ℕ) (ws : List ℕ) → k ≡ length ws → noted 0 i s k x (begun i s ws) ≡ begun i s (ws ++ x ∷ [])
noted_here i s k x ws e =
    let e' : k ≡ 0 + length ws = omega (arith, e) in
    let t : (eqb i i && eqb s s && not false && eqb k (0 + length ws)) ≡ true = λ c. eq-eqb i i refl c && eq-eqb s s refl c && not
    false && eq-eqb k _ e' c in
    ap (λ (z : Bool). cond z (begun i s (ws ++ x ∷ [])) (begun i s ws)) t

noted_else : (i s k x : ℕ) (l : Look) → l.place ≢ i → noted 0 i s k x l ≡ l
noted_else i s k x l other =
    ap (λ (z : Bool). cond (z && l.number == s && not l.sure && k == 0 + length l.words) (record l { words = l.words ++ x ∷ [] })
    l) (ne_eqb l.place i other)

noted_before : (i s k x q : ℕ) (opened : List ℕ) (gs : List RememberedRow) → q + length opened ≤ i
    → map (noted 0 i s k x) (looks_of q opened [] gs) ≡ looks_of q opened [] gs
noted_before i s k x q [] gs h = refl
noted_before i s k x q (o ∷ opened) [] h = refl
noted_before i s k x q (o ∷ opened) (g ∷ gs) h =
    let a = noted_else i s k x (begun q o (words_of o g)) (λ e. omega (arith, h, e)) in
    let rest = noted_before i s k x (suc q) opened gs (omega (arith, h)) in
    λ z. a z ∷ rest z

pub map_both : {A B : Type 0} (f : A → B) (xs : List A) (x : A) → map f (xs ++ x ∷ []) ≡ map f xs ++ f x ∷ []
map_both f [] x = refl
map_both f (y ∷ ys) x = ap (λ z. f y ∷ z) (map_both f ys x)

-- c, with these looks in its try
abbrev looking : List Look → ScanLog → ScanLog
looking ls c = record c { trying = record c.trying { looks = ls } }

-- the words of the place that was begun last, all in their order
reads_row : (w i s : ℕ) (opened : List ℕ) (gs : List RememberedRow) (ws xs : List ℕ) (c : ScanLog) → length opened ≡ i
    → c.trying.asks ≡ []
    → read_all w i s (length ws) xs (looking (looks_of 0 opened [] gs ++ begun i s ws ∷ []) c) ≡ looking
    (looks_of 0 opened [] gs ++ begun i s (ws ++ xs) ∷ []) c
reads_row w i s opened gs ws [] c here none = ap (λ (z : List ℕ). looking (looks_of 0 opened [] gs ++ begun i s z ∷ []) c)
    (sym (append-nil ws))
reads_row w i s opened gs ws (x ∷ xs) c here none =
    let k = length ws in
    let looks : map (noted 0 i s k x) (looks_of 0 opened [] gs ++ begun i s ws ∷ []) ≡ looks_of 0 opened [] gs ++ begun i s
    (ws ++ x ∷ []) ∷ [] =
    map_both (noted 0 i s k x) (looks_of 0 opened [] gs) (begun i s ws)
    ∙ (λ z. noted_before i s k x 0 opened gs (omega (arith, here)) z ++ noted_here i s k x ws refl z ∷ []) in
    let asks : map (noted w i s k x) c.trying.asks ≡ c.trying.asks = ap (map (noted w i s k x)) none ∙ sym none in
    let one : after_read w i s k x (looking (looks_of 0 opened [] gs ++ begun i s ws ∷ []) c) ≡ looking
    (looks_of 0 opened [] gs ++ begun i s (ws ++ x ∷ []) ∷ []) c =
    λ z. record c { trying = record c.trying { looks = looks z; asks = asks z } } in
    let long : length (ws ++ x ∷ []) ≡ suc k = snoc_long ws x in
    ap (read_all w i s (suc k) xs) one
    ∙ (ap (λ (z : ℕ). read_all w i s z xs (looking (looks_of 0 opened [] gs ++ begun i s (ws ++ x ∷ []) ∷ []) c)) (sym long)
    ∙ (reads_row w i s opened gs (ws ++ x ∷ []) xs c here none
    ∙ ap (λ (z : List ℕ). looking (looks_of 0 opened [] gs ++ begun i s z ∷ []) c) (append_assoc ws (x ∷ []) xs)))
  where
    snoc_long : (l : List ℕ) (x : ℕ) → length (l ++ x ∷ []) ≡ suc (length l)
    snoc_long [] x = refl
    snoc_long (y ∷ l) x = ap suc (snoc_long l x)

-- one more place is opened
pub opens_more : (w s : ℕ) (opened : List ℕ) (gs : List RememberedRow) (g g' : RememberedRow) (c : ScanLog)
    → get_elem? gs (length opened) ≡ some g → length opened < length gs
    → version_of g' ≡ version_of g → c.remembered ≡ map version_of gs → c.trying.due ≡ [] → c.trying.asks ≡ []
    → looked_at w (length opened) s (g.number == s) g'.fresh.items (opening opened gs c) ≡ opening (opened ++ s ∷ [])
    (set gs (length opened) g') c
opens_more w s opened gs g g' c at inside same remembered due asks =
    let i = length opened in
    let old = opening opened gs c in
    let ls = looks_of 0 opened [] gs in
    let c' : ScanLog = record c { opened = c.opened ++ pairs 0 (opened ++ s ∷ []) } in
    let long : i ≡ length ls = sym (looks_long 0 opened [] gs (omega (arith, inside))) in
    let t : opens_next i old.trying ≡ true = λ z. eq-eqb i (length ls) long z &&
    (eqb (length (due z)) 0 && opened_unsure 0 opened gs z) in
    let e : 0 + i ≡ i = omega arith in
    let loads : old.opened ++ (i, s) ∷ [] ≡ c'.opened = append_assoc c.opened (pairs 0 opened) ((i, s) ∷ [])
    ∙ ap (λ z. c.opened ++ z) (sym (pairs_snoc 0 opened s ∙ ap (λ (z : ℕ). pairs 0 opened ++ (z, s) ∷ []) e)) in
    let ws : remembered_words i s c.remembered ≡ cond (g.number == s) g.row.items [] = ap (remembered_words i s) remembered
    ∙ kept_words i s gs g at in
    let opens : after_open i s old ≡ looking (ls ++ begun i s (cond (g.number == s) g.row.items []) ∷ []) c' =
    (λ z. record c {
      opened = loads z;
      trying = cond (t z) (record c.trying { looks = ls ++ begun i s (ws z) ∷ [] }) (record c.trying { looks = ls });
    }) in
    let looks : looks_of 0 (opened ++ s ∷ []) [] (set gs i g') ≡ ls ++ begun i s (cond (g.number == s) g.row.items g'.fresh.items)
    ∷ [] =
    looks_snoc 0 opened gs s g' inside
    ∙ (λ z. ls ++ begun (e z) s (cond ((same z).number == s) (same z).row g'.fresh.items) ∷ []) in
    go (g.number == s) opens ∙ ap (λ (l : List Look). looking l c') (sym looks)
  where
    go : (v : Bool) → after_open (length opened) s (opening opened gs c) ≡ looking
        (looks_of 0 opened [] gs ++ begun (length opened) s (cond v g.row.items []) ∷ [])
        (record c { opened = c.opened ++ pairs 0 (opened ++ s ∷ []) })
        → looked_at w (length opened) s v g'.fresh.items (opening opened gs c) ≡ looking
        (looks_of 0 opened [] gs ++ begun (length opened) s (cond v g.row.items g'.fresh.items) ∷ [])
        (record c { opened = c.opened ++ pairs 0 (opened ++ s ∷ []) })
    go true h = h
    go false h = ap (read_all w (length opened) s 0 g'.fresh.items) h ∙ reads_row w (length opened) s opened gs [] g'.fresh.items
        (record c { opened = c.opened ++ pairs 0 (opened ++ s ∷ []) }) refl asks

pub opening_starts : (gs : List RememberedRow) (c : ScanLog) → c.trying.looks ≡ [] → opening [] gs c ≡ c
opening_starts gs c none = λ z. record c { opened = append-nil c.opened z; trying = record c.trying { looks = sym none z } }

pub loaded : (i x : ℕ) (c : ScanLog) (opened : List ℕ) (gs : List RememberedRow) (ms ms' : List Member) → HasMember ms
    → ms' ≡ with_scan (opening opened gs c) ms → IsNumber i ms' x → IsLoaded i c x
loaded i x c opened gs ms ms' some_ view number =
    let e : scan_of ms' ≡ opening opened gs c = ap scan_of view ∙ scan_with (opening opened gs c) ms some_ in record {
      opened = λ q y at. number.opened q y (ap (λ (d : ScanLog). get_elem? d.opened q) e ∙ front_at c.opened (pairs 0 opened) q (
        i,
        y,
      ) at);
      seen = λ y at. number.seen y (ap (λ (d : ScanLog). get_elem? d.seen i) e ∙ at);
    }

-- The second collect of a try, place by place.
use Rattle.std.proofs.Common.{◌≡◌, ◌≢◌, ℕ, zero, suc, ◌+◌, ◌*◌, ◌<◌, ◌≤◌, Bool, true, false, cond, ◌&&◌, ◌||◌, ◌==◌, List, []}
use Rattle.std.proofs.Common.{◌∷◌, ◌++◌, length, map, set, slice_index, sym, refl, ap, ◌∙◌, arith, eq-eqb, ne_eqb, append_assoc}
use Rattle.std.proofs.lemmas.List.{append-nil, map_push}
use mathlib.Core.Option.{some, some-injective, some-ne-none}
use lib.ListN.{get_elem?}
use Rattle.register_rule.specs.declared.view.Look.{Look}
use Rattle.register_rule.specs.declared.view.Version.{Version}
use Rattle.register_rule.specs.declared.view.ScanLog.{ScanLog}
use Rattle.register_rule.specs.ScanSteps.{begun, confirmed_look, remembered_then, confirmed_at}
use Rattle.snapshot_scan.specs.declared.remembered_row.RememberedRow.{RememberedRow}
use Rattle.snapshot_scan.specs.RememberedRows.{version_of, IsWide, AreWide, words_of, looks_of, pairs, settling, sum_rows}
use Rattle.snapshot_scan.proofs.Words.{map_set, set_same, at_map}
use Rattle.snapshot_scan.proofs.Opening.{pairs_snoc}

settled_else : (i s : ℕ) (l : Look) → l.place ≢ i → confirmed_look i s l ≡ l
settled_else i s l ne = ap (λ (z : Bool). cond z (record l { sure = l.sure || l.number == s; found = s }) l) (ne_eqb l.place i ne)

pub settled_here : (i s o : ℕ) (ws : List ℕ) → confirmed_look i s (begun i o ws) ≡ record {
  place = i;
  number = o;
  words = ws;
  sure = o == s;
  found = s;
}
settled_here i s o ws = ap (λ (z : Bool). cond z (record { place = i; number = o; words = ws; sure = o == s; found = s })
    (begun i o ws)) (eq-eqb i i refl)

settled_place : (i s o : ℕ) (ws : List ℕ) → (confirmed_look i s (begun i o ws)).place ≡ i
settled_place i s o ws = ap (λ (l : Look). l.place) (settled_here i s o ws)

settled_after : (i s q : ℕ) (opened found : List ℕ) (gs : List RememberedRow) → i < q
    → map (confirmed_look i s) (looks_of q opened found gs) ≡ looks_of q opened found gs
settled_after i s q [] found gs h = refl
settled_after i s q (o ∷ opened) found [] h = refl
settled_after i s q (o ∷ opened) [] (g ∷ gs) h = let a = settled_else i s (begun q o (words_of o g)) (λ e. omega (arith, h, e)) in
    let rest = settled_after i s (suc q) opened [] gs (omega (arith, h)) in λ z. a z ∷ rest z
settled_after i s q (o ∷ opened) (f ∷ found) (g ∷ gs) h =
    let p = settled_place q f o (words_of o g) in
    let a = settled_else i s (confirmed_look q f (begun q o (words_of o g))) (λ e. omega (arith, h, e, p)) in
    let rest = settled_after i s (suc q) opened found gs (omega (arith, h)) in λ z. a z ∷ rest z

-- the look of the next place is confirmed_look
settle_looks : (i s q o : ℕ) (opened pre : List ℕ) (gs : List RememberedRow) (g g' : RememberedRow) → i ≡ q + length pre
    → get_elem? opened (length pre) ≡ some o → get_elem? gs (length pre) ≡ some g → words_of o g' ≡ words_of o g
    → map (confirmed_look i s) (looks_of q opened pre gs) ≡ looks_of q opened (pre ++ s ∷ []) (set gs (length pre) g')
settle_looks i s q o [] pre gs g g' e at there same = absurd (some-ne-none o (sym at))
settle_looks i s q o (x ∷ opened) pre [] g g' e at there same = absurd (some-ne-none g (sym there))
settle_looks i s q o (x ∷ opened) [] (y ∷ gs) g g' e at there same =
    let is : i ≡ q = omega (arith, e) in let ox = some-injective x o at in let yg = some-injective y g there in
    let head : confirmed_look i s (begun q x (words_of x y)) ≡ confirmed_look q s (begun q x (words_of x g')) =
    (λ z. confirmed_look (is z) s (begun q (ox z) (words_of (ox z) (yg z))))
    ∙ (ap (λ (ws : List ℕ). confirmed_look q s (begun q o ws)) (sym same) ∙ ap
    (λ (n : ℕ). confirmed_look q s (begun q n (words_of n g')))
    (sym ox)) in
    let rest = settled_after i s (suc q) opened [] gs (omega (arith, is)) in
    λ z. head z ∷ rest z
settle_looks i s q o (x ∷ opened) (f ∷ pre) (y ∷ gs) g g' e at there same =
    let p = settled_place q f x (words_of x y) in
    let a = settled_else i s (confirmed_look q f (begun q x (words_of x y))) (λ h. omega (arith, h, e, p)) in
    let rest = settle_looks i s (suc q) o opened pre gs g g' (omega (arith, e)) at there same in
    λ z. a z ∷ rest z

abbrev finds : (w i : ℕ) → Look → Bool
finds w i l = l.place == i && l.sure && length l.words == w

remembered_skip : (w i : ℕ) (l : Look) (ls : List Look) (remembered : List Version) → l.place ≢ i
    → remembered_then w i (l ∷ ls) remembered ≡ remembered_then w i ls remembered
remembered_skip w i l ls remembered ne =
    ap (λ (z : Bool). cond (z && l.sure && length l.words == w) (set remembered i (record { number = l.number; row = l.words }))
    (remembered_then w i ls remembered)) (ne_eqb l.place i ne)

remembered_after : (w i q : ℕ) (opened found : List ℕ) (gs : List RememberedRow) (remembered : List Version) → i < q
    → remembered_then w i (looks_of q opened found gs) remembered ≡ remembered
remembered_after w i q [] found gs remembered h = refl
remembered_after w i q (o ∷ opened) found [] remembered h = refl
remembered_after w i q (o ∷ opened) [] (g ∷ gs) remembered h =
    remembered_skip w i (begun q o (words_of o g)) (looks_of (suc q) opened [] gs) remembered (λ e. omega (arith, h, e))
    ∙ remembered_after w i (suc q) opened [] gs remembered (omega (arith, h))
remembered_after w i q (o ∷ opened) (f ∷ found) (g ∷ gs) remembered h =
    let p = settled_place q f o (words_of o g) in
    remembered_skip w i (confirmed_look q f (begun q o (words_of o g))) (looks_of (suc q) opened found gs) remembered
    (λ e. omega (arith, h, e, p)) ∙ remembered_after w i (suc q) opened found gs remembered (omega (arith, h))

remembered_at : (w i s q o : ℕ) (opened pre : List ℕ) (gs : List RememberedRow) (g : RememberedRow) (remembered : List Version)
    → i ≡ q + length pre → get_elem? opened (length pre) ≡ some o → get_elem? gs (length pre) ≡ some g → length (words_of o g) ≡ w
    → remembered_then w i (looks_of q opened (pre ++ s ∷ []) gs) remembered ≡ cond (o == s)
    (set remembered i (record { number = o; row = words_of o g })) remembered
remembered_at w i s q o [] pre gs g remembered e at there wide = absurd (some-ne-none o (sym at))
remembered_at w i s q o (x ∷ opened) pre [] g remembered e at there wide = absurd (some-ne-none g (sym there))
remembered_at w i s q o (x ∷ opened) [] (y ∷ gs) g remembered e at there wide =
    let is : q ≡ i = omega (arith, e) in let ox = some-injective x o at in let yg = some-injective y g there in
    let ls = looks_of (suc q) opened [] gs in
    let new : Look = record { place = i; number = o; words = words_of o g; sure = o == s; found = s } in
    let head : confirmed_look q s (begun q x (words_of x y)) ≡ new = settled_here q s x (words_of x y)
    ∙ (λ z. record { place = is z; number = ox z; words = words_of (ox z) (yg z); sure = ox z == s; found = s }) in
    ap (λ (l : Look). remembered_then w i (l ∷ ls) remembered) head
    ∙ (ap (λ (z : Bool). cond (z && (o == s) && length (words_of o g) == w)
    (set remembered i (record { number = o; row = words_of o g })) (remembered_then w i ls remembered)) (eq-eqb i i refl)
    ∙ (ap (λ (z : Bool). cond (true && (o == s) && z) (set remembered i (record { number = o; row = words_of o g }))
    (remembered_then w i ls remembered)) (eq-eqb (length (words_of o g)) w wide)
    ∙ (ap (λ (z : List Version). cond (true && (o == s) && true) (set remembered i (record { number = o; row = words_of o g })) z)
    (remembered_after w i (suc q) opened [] gs remembered (omega (arith, is)))
    ∙ both (o == s) (set remembered i (record { number = o; row = words_of o g })) remembered)))
  where
    both : (b : Bool) (x y : List Version) → cond (true && b && true) x y ≡ cond b x y
    both true x y = refl
    both false x y = refl
remembered_at w i s q o (x ∷ opened) (f ∷ pre) (y ∷ gs) g remembered e at there wide =
    let p = settled_place q f x (words_of x y) in
    remembered_skip w i (confirmed_look q f (begun q x (words_of x y))) (looks_of (suc q) opened (pre ++ s ∷ []) gs) remembered
    (λ h. omega (arith, h, e, p))
    ∙ remembered_at w i s (suc q) o opened pre gs g remembered (omega (arith, e)) at there wide

pub set_at : {A : Type 0} (l : List A) (i : ℕ) (a b : A) → get_elem? l i ≡ some b → get_elem? (set l i a) i ≡ some a
set_at [] i a b e = absurd (some-ne-none b (sym e))
set_at (x ∷ l) zero a b e = refl
set_at (x ∷ l) (suc i) a b e = set_at l i a b e

-- one more place is confirmed, or found moved
pub confirms_more : (w s o : ℕ) (opened pre : List ℕ) (gs : List RememberedRow) (g g' : RememberedRow) (c : ScanLog)
    → get_elem? opened (length pre) ≡ some o → get_elem? gs (length pre) ≡ some g → length (words_of o g) ≡ w
    → words_of o g' ≡ words_of o g → version_of g' ≡ cond (o == s) (record { number = o; row = words_of o g }) (version_of g)
    → confirmed_at w (length pre) s (settling opened pre gs c) ≡ settling opened (pre ++ s ∷ []) (set gs (length pre) g') c
confirms_more w s o opened pre gs g g' c at there wide same version =
    let i = length pre in
    let gs' = set gs i g' in
    let e : i ≡ 0 + i = omega arith in
    let looks : map (confirmed_look i s) (looks_of 0 opened pre gs) ≡ looks_of 0 opened (pre ++ s ∷ []) gs' =
    settle_looks i s 0 o opened pre gs g g' e at there same in
    let loads : (c.confirmed ++ pairs 0 pre) ++ (i, s) ∷ [] ≡ c.confirmed ++ pairs 0 (pre ++ s ∷ []) =
    append_assoc c.confirmed (pairs 0 pre) ((i, s) ∷ [])
    ∙ ap (λ z. c.confirmed ++ z) (ap (λ (z : ℕ). pairs 0 pre ++ (z, s) ∷ []) e ∙ sym (pairs_snoc 0 pre s)) in
    let marks : (c.before ++ map (λ _. length c.opened) pre) ++ length c.opened ∷ [] ≡ c.before ++ map (λ _. length c.opened)
    (pre ++ s ∷ []) =
    append_assoc c.before (map (λ _. length c.opened) pre) (length c.opened ∷ [])
    ∙ ap (λ z. c.before ++ z) (sym (map_push (λ _. length c.opened) pre s)) in
    let remembered : remembered_then w i (map (confirmed_look i s) (looks_of 0 opened pre gs)) (map version_of gs)
    ≡ map version_of gs' =
    ap (λ (z : List Look). remembered_then w i z (map version_of gs)) looks
    ∙ (remembered_at w i s 0 o opened pre gs' g' (map version_of gs) e at (set_at gs i g' g there)
    (ap (λ (z : List ℕ). length z) same ∙ wide)
    ∙ (ap (λ (z : List ℕ). cond (o == s) (set (map version_of gs) i (record { number = o; row = z })) (map version_of gs)) same
    ∙ go (o == s) version)) in
    λ z. record c {
      confirmed = loads z;
      before = marks z;
      remembered = remembered z;
      trying = record c.trying {
        looks =
            looks z;
      };
    }
  where
    go : (b : Bool) → version_of g' ≡ cond b (record { number = o; row = words_of o g }) (version_of g)
        → cond b (set (map version_of gs) (length pre) (record { number = o; row = words_of o g })) (map version_of gs) ≡ map
        version_of (set gs (length pre) g')
    go true v = ap (set (map version_of gs) (length pre)) (sym v) ∙ sym (map_set version_of gs (length pre) g')
    go false v = sym (set_same (map version_of gs) (length pre) (version_of g) (at_map version_of gs (length pre) g there))
        ∙ (ap (set (map version_of gs) (length pre)) (sym v) ∙ sym (map_set version_of gs (length pre) g'))

-- sums of rows
pub row_in : (k : ℕ) (gs : List RememberedRow) (i : ℕ) (g : RememberedRow) → get_elem? gs i ≡ some g
    → slice_index g.row.items k ≤ sum_rows k gs
row_in k [] i g e = absurd (some-ne-none g (sym e))
row_in k (x ∷ gs) zero g e = let h : slice_index g.row.items k ≡ slice_index x.row.items k =
    ap (λ (z : RememberedRow). slice_index z.row.items k) (sym (some-injective x g e)) in omega (arith, h)
row_in k (x ∷ gs) (suc i) g e = let h = row_in k gs i g e in omega (arith, h)

pub sum_low : (w k : ℕ) (gs : List RememberedRow) → k < w → AreWide w gs → sum_rows k gs ≤ length gs * 281474976710655
sum_low w k [] lt wide = omega arith
sum_low w k (g ∷ gs) lt wide = let h = sum_low w k gs lt (λ q x e. wide (suc q) x e) in let a = (wide 0 g refl).row_low k lt in
    omega (arith, h, a)

pub sum_set : (k : ℕ) (gs : List RememberedRow) (i : ℕ) (g g' : RememberedRow) → get_elem? gs i ≡ some g
    → sum_rows k (set gs i g') + slice_index g.row.items k ≡ sum_rows k gs + slice_index g'.row.items k
sum_set k [] i g g' e = absurd (some-ne-none g (sym e))
sum_set k (x ∷ gs) zero g g' e = let h : slice_index g.row.items k ≡ slice_index x.row.items k =
    ap (λ (z : RememberedRow). slice_index z.row.items k) (sym (some-injective x g e)) in omega (arith, h)
sum_set k (x ∷ gs) (suc i) g g' e = let h = sum_set k gs i g g' e in omega (arith, h)

pub words_wide : (w o : ℕ) (g : RememberedRow) → IsWide w g → length (words_of o g) ≡ w
words_wide w o g wide = go (g.number == o)
  where
    go : (b : Bool) → length (cond b g.row.items g.fresh.items) ≡ w
    go true = wide.row
    go false = wide.fresh

pub settling_starts : (opened : List ℕ) (gs : List RememberedRow) (c : ScanLog) → c.remembered ≡ map version_of gs
    → c.trying.looks ≡ looks_of 0 opened [] gs → c ≡ settling opened [] gs c
settling_starts opened gs c remembered looks = λ z. record c {
  confirmed = sym (append-nil c.confirmed) z;
  before = sym (append-nil c.before) z;
  remembered = remembered z;
  trying = record c.trying { looks = looks z };
}

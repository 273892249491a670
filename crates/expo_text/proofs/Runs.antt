-- A text that is escaped in runs: what is written of it, and the bytes after that which stand as they are.
use Rattle.std.proofs.Common.{◌≡◌, ℕ, ◌+◌, ◌-◌, ◌<◌, ◌≤◌, List, [], ◌∷◌, ◌++◌, length, take, drop, get_or, sym, ap, ◌∙◌, arith}
use Rattle.std.proofs.Common.{append_assoc, append-nil, length-drop}
use Rattle.std.specs.List.{flat_map}
use Rattle.std.proofs.lemmas.List.{take_more, flat_map_more, get_or-drop, take_all}

-- the bytes from `start` to `at`
abbrev pub run : List ℕ → (start at : ℕ) → List ℕ
run bytes start at = take (at - start) (drop start bytes)

-- the bytes up to `at` are what is written and then the run
abbrev pub IsRun : (f : ℕ → List ℕ) → List ℕ → (start at : ℕ) → Type 0
IsRun f bytes start at = flat_map f (take at bytes) ≡ flat_map f (take start bytes) ++ run bytes start at

byte-next : (f : ℕ → List ℕ) (bytes : List ℕ) (at : ℕ) → at < length bytes → flat_map f (take (at + 1) bytes) ≡ flat_map f
    (take at bytes) ++ f (get_or bytes at 0)
byte-next f bytes at within = ap (flat_map f) (take_more bytes at 0 within)
    ∙ sym (flat_map_more f [] (take at bytes) (get_or bytes at 0))

run-next : (bytes : List ℕ) (start at : ℕ) → start ≤ at → at < length bytes
    → run bytes start (at + 1) ≡ run bytes start at ++ get_or bytes at 0 ∷ []
run-next bytes start at before within =
    let more : at + 1 - start ≡ at - start + 1 = omega (arith, before) in
    let place : start + (at - start) ≡ at = omega (arith, before) in
    let inside : at - start < length (drop start bytes) = rw length-drop (omega (arith, before, within)) in
    ap (λ n. take n (drop start bytes)) more ∙ take_more (drop start bytes) (at - start) 0 inside
    ∙ ap (λ y. take (at - start) (drop start bytes) ++ y ∷ []) (get_or-drop start bytes (at - start) 0
    ∙ ap (λ n. get_or bytes n 0) place)

-- one more byte of the run
pub run-kept : (f : ℕ → List ℕ) (bytes : List ℕ) (start at : ℕ) → start ≤ at → at < length bytes
    → f (get_or bytes at 0) ≡ get_or bytes at 0 ∷ [] → IsRun f bytes start at → IsRun f bytes start (at + 1)
run-kept f bytes start at before within kept so_far =
    byte-next f bytes at within ∙ ap (λ l. l ++ f (get_or bytes at 0)) so_far
    ∙ ap (λ l. (flat_map f (take start bytes) ++ run bytes start at) ++ l) kept
    ∙ append_assoc (flat_map f (take start bytes)) (run bytes start at) (get_or bytes at 0 ∷ [])
    ∙ ap (λ l. flat_map f (take start bytes) ++ l) (sym (run-next bytes start at before within))

-- the run is written, and after it a byte that is escaped
pub run-written : (f : ℕ → List ℕ) (bytes : List ℕ) (start at : ℕ) (escaped : List ℕ) → at < length bytes
    → f (get_or bytes at 0) ≡ escaped → IsRun f bytes start at
    → (flat_map f (take start bytes) ++ run bytes start at) ++ escaped ≡ flat_map f (take (at + 1) bytes)
run-written f bytes start at escaped within written so_far =
    sym (byte-next f bytes at within ∙ ap (λ l. l ++ f (get_or bytes at 0)) so_far
    ∙ ap (λ l. (flat_map f (take start bytes) ++ run bytes start at) ++ l) written)

-- a run that begins
pub run-begun : (f : ℕ → List ℕ) (bytes : List ℕ) (start at : ℕ) → start ≡ at → IsRun f bytes start at
run-begun f bytes start at same =
    let none : at - start ≡ 0 = omega (arith, same) in
    sym (ap (λ n. flat_map f (take start bytes) ++ take n (drop start bytes)) none ∙ append-nil (flat_map f (take start bytes))
    ∙ ap (λ n. flat_map f (take n bytes)) same)

-- the last run
pub run-last : (f : ℕ → List ℕ) (bytes : List ℕ) (start at : ℕ) → at ≡ length bytes → IsRun f bytes start at
    → flat_map f (take start bytes) ++ run bytes start (length bytes) ≡ flat_map f bytes
run-last f bytes start at all so_far =
    ap (λ n. flat_map f (take start bytes) ++ run bytes start n) (sym all) ∙ sym so_far
    ∙ ap (flat_map f) (take_all at bytes (omega (arith, all)))

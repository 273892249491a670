-- A piece that a writer takes bit by bit.
use Rattle.std.proofs.Common.{◌≡◌, ℕ, ◌+◌, ◌-◌, ◌%◌, ◌^◌, ◌<◌, ◌≤◌, Bool, true, false, Option, Some, None, List, [], ◌++◌, length}
use Rattle.std.proofs.Common.{take, drop, sym, ap, ap₂, subst, ◌∙◌, arith, append-nil, length-append, length-drop}
use Rattle.std.specs.Io.KnownBytes.{Appends, Keeps}
use Rattle.std.proofs.KnownBytes.{Appends-trans}
use Rattle.std.proofs.Math.Seq.{take-add, take-append_seam}
use Rattle.std.proofs.lemmas.List.{take_rest, take_all, drop_all, length-take-le, take-append-drop}
use Rattle.std.proofs.Math.Nat.{mod-eq_of_lt}
use Rattle.expo_text.specs.Sends.{Sender, Sends, sends-chain}
use Rattle.expo_text.proofs.Sent.{sends-failed}

pub kept-appends : (a b : Option (List ℕ)) → Keeps a b → Appends a b []
kept-appends None b kept = tt
kept-appends (Some x) None kept = absurd kept
kept-appends (Some x) (Some y) kept = kept ∙ sym (append-nil x)

-- the writer took `done` bytes of the piece, and then `more` of the rest
pub taken-more : (a b c : Option (List ℕ)) (piece : List ℕ) (done more : ℕ) → Appends a b (take done piece)
    → Appends b c (take more (take (length piece - done) (drop done piece))) → Appends a c (take (done + more) piece)
taken-more a b c piece done more first second =
    let rest : List ℕ → Type 0 = λ l. Appends b c (take more l) in
    let then = subst rest (take_rest piece done) second in
    subst (Appends a c) (sym (take-add done more piece))
    (Appends-trans a b c (take done piece) (take more (drop done piece)) first then)

pub rest-length : (piece : List ℕ) (done : ℕ) → done ≤ length piece
    → done + length (take (length piece - done) (drop done piece)) ≡ length piece
rest-length piece done within = rw (take_rest piece done, length-drop) (omega (arith, within))

pub apart : (b : Bool) → b ≡ true → b ≡ false → ⊥
apart b is_true is_false = cc

-- a piece is sent, whole or until the writer fails
pub sends-piece : (a b : Sender) (piece : List ℕ) (done : ℕ) → piece ≡ a.waiting → done ≤ length piece
    → Appends a.contents b.contents (take done piece) → (b.failed ≡ false → (a.failed ≡ false) × (done ≡ length piece))
    → (b.failed ≡ true → a.failed ≡ false → done < length piece) → (a.failed ≡ true → done ≡ 0) → b.ended ≡ a.ended
    → b.waiting ≡ [] → b.sent ≡ (a.sent + done) % (2 ^ 64) → Sends a b []
sends-piece a b piece done is within appends whole stopped still ended none sent = record {
  gone = take done piece;
  left = drop done piece;
  appends = appends;
  count = λ fits. (let count : length (take done piece) ≡ done = length-take-le done piece within in
      let small : a.sent + done < 2 ^ 64 = omega (arith, count, fits) in
      sent ∙ mod-eq_of_lt small ∙ ap (λ n. a.sent + n) (sym count));
  all = λ _. take-append-drop done piece ∙ is ∙ sym (append-nil a.waiting);
  going = λ end. ((whole end).0, drop_all done piece (let all = (whole end).1 in omega (arith, all)) ∙ sym none);
  stopped = λ end start. (let some = stopped end start in rw length-drop (omega (arith, some)));
  still = λ start. ap (λ n. take n piece) (still start);
  ended = ended;
}

-- what was put of some bytes, where that is all or the writer has failed
pub sends-whole : (a b : Sender) (bytes : List ℕ) (at : ℕ) → Sends a b (take at bytes) → length bytes ≤ at → Sends a b bytes
sends-whole a b bytes at sends all = subst (Sends a b) (take_all at bytes all) sends

pub sends-ended : (a b : Sender) (bytes : List ℕ) (at : ℕ) → Sends a b (take at bytes) → b.failed ≡ true → Sends a b bytes
sends-ended a b bytes at sends failed = subst (Sends a b) (take-append-drop at bytes)
    (sends-chain a b b (take at bytes) (drop at bytes) sends (sends-failed b (drop at bytes) failed))

-- some bytes, and the first of those after them
pub sends-more : (a b c : Sender) (bytes : List ℕ) (at more : ℕ) → Sends a b (take at bytes)
    → Sends b c (take more (take (length bytes - at) (drop at bytes))) → Sends a c (take (at + more) bytes)
sends-more a b c bytes at more first second =
    let rest : List ℕ → Type 0 = λ l. Sends b c (take more l) in
    let then = subst rest (take_rest bytes at) second in
    subst (Sends a c) (sym (take-add at more bytes)) (sends-chain a b c (take at bytes) (take more (drop at bytes)) first then)

-- a text is sent, and then what waited
pub sends-text : (a b c : Sender) (text : List ℕ) → Sends a b text → Sends b c [] → Sends a c text
sends-text a b c text first second = subst (Sends a c) (append-nil text) (sends-chain a b c text [] first second)

-- a text that was sent from nothing on: all of it, or a part before which the writer failed
pub sent-whole : (a b : Sender) (text : List ℕ) → Sends a b text → a.waiting ≡ [] → b.waiting ≡ [] → b.failed ≡ false
    → Appends a.contents b.contents text
sent-whole a b text sends first last ok =
    let end = sends.going ok in
    let all : sends.gone ≡ text = sym (append-nil sends.gone) ∙ ap (λ l. sends.gone ++ l) (sym last ∙ sym end.1) ∙ sends.all end.0
    ∙ ap (λ l. l ++ text) first in
    subst (Appends a.contents b.contents) all sends.appends

pub sent-part : (a b : Sender) (text : List ℕ) → Sends a b text → a.waiting ≡ [] → a.sent ≡ 0 → a.failed ≡ false → b.failed ≡ true
    → length text < 2 ^ 64 → (b.sent < length text) × Appends a.contents b.contents (take b.sent text)
sent-part a b text sends first zero_sent start failed small =
    let some = sends.stopped failed start in
    let all : sends.gone ++ sends.left ≡ text = sends.all start ∙ ap (λ l. l ++ text) first in
    let lengths : length sends.gone + length sends.left ≡ length text = sym (length-append sends.gone sends.left)
    ∙ ap length all in
    let count : b.sent ≡ a.sent + length sends.gone = sends.count (omega (arith, lengths, zero_sent, small)) in
    let sent : b.sent ≡ length sends.gone = omega (arith, count, zero_sent) in
    let part : take b.sent text ≡ sends.gone = ap₂ (λ n l. take n l) sent (sym all) ∙ take-append_seam sends.gone sends.left in
    (omega (arith, sent, lengths, some), subst (Appends a.contents b.contents) (sym part) sends.appends)

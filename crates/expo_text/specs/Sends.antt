-- What a sender has sent of a text.
use Rattle.std.specs.Prelude.{◌≡◌, ℕ, ◌<◌, Bool, true, false, Option, List, [], ◌++◌, length}
use Rattle.std.specs.Io.KnownBytes.{Appends}
use Rattle.std.proofs.Common.{refl, sym, ap, subst, ◌∙◌, append_assoc, append-nil, length-append}
use Rattle.std.proofs.Math.Nat.{le-add_right, lt_of_lt_of_le}
use Rattle.std.proofs.lemmas.Bool.{true≢false}
use Rattle.std.proofs.KnownBytes.{Appends-nil, Appends-trans}
use Rattle.watched.specs.Watched.{Watch}
use Rattle.expo_text.specs.Counts.{Counts, counts-none, counts-more}

-- a sender: what its writer holds, whether the writer has failed or ended, the bytes that wait, and how many it has sent
pub record Sender : Type 0 where
  pub contents : Option (List ℕ)
  pub failed : Bool
  pub ended : Bool
  pub waiting : List ℕ
  pub sent : ℕ

-- the sender over this writer, with these bytes waiting, and so many sent
abbrev pub sender_of : {W : Type 0} → (W → Option (List ℕ)) → Watch W → (waiting : List ℕ) → (sent : ℕ) → Sender
sender_of contents out waiting sent =
    record { contents = contents out.inner; failed = out.failed; ended = out.ended; waiting = waiting; sent = sent }

-- between two moments the sender was given these bytes: of what waited and these bytes the writer took the first, which
-- is all but what waits unless it has failed; where it had failed it took nothing, and where it fails some are left
pub record Sends (a b : Sender) (bytes : List ℕ) : Type 0 where
  pub gone : List ℕ
  pub left : List ℕ
  pub appends : Appends a.contents b.contents gone
  pub count : Counts a.sent b.sent (length gone)
  pub all : a.failed ≡ false → gone ++ left ≡ a.waiting ++ bytes
  pub going : b.failed ≡ false → (a.failed ≡ false) × (left ≡ b.waiting)
  pub stopped : b.failed ≡ true → a.failed ≡ false → 0 < length left
  pub still : a.failed ≡ true → gone ≡ []
  pub ended : b.ended ≡ a.ended

-- nothing is both true and false
pub clash : {X : Type 0} (b : Bool) → b ≡ true → b ≡ false → X
clash b is_true is_false = absurd (true≢false (sym is_true ∙ is_false))

-- some bytes and others are some
some-more : (xs ys : List ℕ) → 0 < length xs → 0 < length (xs ++ ys)
some-more xs ys some =
    subst (λ n. 0 < n) (sym (length-append xs ys)) (lt_of_lt_of_le some (le-add_right (length xs) (length ys)))

-- a sender that was given no bytes is as it was
pub sends-nothing : (a : Sender) → Sends a a []
sends-nothing a = record {
  gone = [];
  left = a.waiting;
  appends = Appends-nil a.contents;
  count = counts-none a.sent;
  all = λ _. sym (append-nil a.waiting);
  going = λ ok. (ok, refl);
  stopped = λ end start. clash a.failed end start;
  still = λ _. refl;
  ended = refl;
}

-- what is left of one text waits before the next: what went of both, and what is left then, are all bytes in order
join : (gone left waiting waiting_then xs ys gone_then left_then : List ℕ) → gone ++ left ≡ waiting ++ xs → left ≡ waiting_then
    → gone_then ++ left_then ≡ waiting_then ++ ys → (gone ++ gone_then) ++ left_then ≡ waiting ++ (xs ++ ys)
join gone left waiting waiting_then xs ys gone_then left_then first same second =
    append_assoc gone gone_then left_then ∙ ap (λ l. gone ++ l) (second ∙ ap (λ l. l ++ ys) (sym same))
    ∙ sym (append_assoc gone left ys)
    ∙ ap (λ l. l ++ ys) first ∙ append_assoc waiting xs ys

-- the same where nothing more goes: all of the next text is left
join-failed : (gone left waiting xs ys gone_then : List ℕ) → gone ++ left ≡ waiting ++ xs → gone_then ≡ []
    → (gone ++ gone_then) ++ (left ++ ys) ≡ waiting ++ (xs ++ ys)
join-failed gone left waiting xs ys gone_then first none =
    ap (λ l. l ++ (left ++ ys)) (ap (λ l. gone ++ l) none ∙ append-nil gone) ∙ sym (append_assoc gone left ys)
    ∙ ap (λ l. l ++ ys) first ∙ append_assoc waiting xs ys

-- where the writer has not failed after the first text, two texts are sent as one
chain-going : (a b c : Sender) (xs ys : List ℕ) → b.failed ≡ false → Sends a b xs → Sends b c ys → Sends a c (xs ++ ys)
chain-going a b c xs ys ok p q = record {
  gone = p.gone ++ q.gone;
  left = q.left;
  appends = Appends-trans a.contents b.contents c.contents p.gone q.gone p.appends q.appends;
  count = counts-more a.sent b.sent c.sent p.gone q.gone p.count q.count;
  all = λ start. join p.gone p.left a.waiting b.waiting xs ys q.gone q.left (p.all start) (p.going ok).1 (q.all ok);
  going = λ end. ((p.going ok).0, (q.going end).1);
  stopped = λ end _. q.stopped end ok;
  still = λ start. clash a.failed start (p.going ok).0;
  ended = q.ended ∙ p.ended;
}

-- where it has, they are, too: nothing goes of the second
chain-failed : (a b c : Sender) (xs ys : List ℕ) → b.failed ≡ true → Sends a b xs → Sends b c ys → Sends a c (xs ++ ys)
chain-failed a b c xs ys failed p q = record {
  gone = p.gone ++ q.gone;
  left = p.left ++ ys;
  appends = Appends-trans a.contents b.contents c.contents p.gone q.gone p.appends q.appends;
  count = counts-more a.sent b.sent c.sent p.gone q.gone p.count q.count;
  all = λ start. join-failed p.gone p.left a.waiting xs ys q.gone (p.all start) (q.still failed);
  going = λ end. clash b.failed failed (q.going end).0;
  stopped = λ end start. some-more p.left ys (p.stopped failed start);
  still = λ start. ap (λ l. l ++ q.gone) (p.still start) ∙ q.still failed;
  ended = q.ended ∙ p.ended;
}

-- so they are in both cases
chain-either : (a b c : Sender) (xs ys : List ℕ) (failed : Bool) → b.failed ≡ failed → Sends a b xs → Sends b c ys
    → Sends a c (xs ++ ys)
chain-either a b c xs ys true is p q = chain-failed a b c xs ys is p q
chain-either a b c xs ys false is p q = chain-going a b c xs ys is p q

-- two texts that are given one after the other are sent as one
pub sends-chain : (a b c : Sender) (xs ys : List ℕ) → Sends a b xs → Sends b c ys → Sends a c (xs ++ ys)
sends-chain a b c xs ys p q = chain-either a b c xs ys b.failed refl p q

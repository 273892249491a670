-- A sender whose writer has failed, and bytes that begin to wait.
use Rattle.std.proofs.Common.{◌≡◌, true, List, ℕ, [], ◌++◌, refl, sym, subst, ◌∙◌}
use Rattle.std.specs.Io.KnownBytes.{Appends}
use Rattle.std.proofs.KnownBytes.{Appends-nil}
use Rattle.expo_text.specs.Counts.{Counts, counts-none}
use Rattle.expo_text.specs.Sends.{Sender, Sends, clash}

-- a sender whose writer has failed takes nothing
pub sends-failed : (a : Sender) (bytes : List ℕ) → a.failed ≡ true → Sends a a bytes
sends-failed a bytes failed = record {
  gone = [];
  left = a.waiting ++ bytes;
  appends = Appends-nil a.contents;
  count = counts-none a.sent;
  all = λ _. refl;
  going = λ ok. clash a.failed failed ok;
  stopped = λ end start. clash a.failed end start;
  still = λ _. refl;
  ended = refl;
}

-- bytes that begin to wait
pub sends-waiting : (a b : Sender) (bytes : List ℕ) → b.contents ≡ a.contents → b.failed ≡ a.failed → b.ended ≡ a.ended
    → b.sent ≡ a.sent → b.waiting ≡ a.waiting ++ bytes → Sends a b bytes
sends-waiting a b bytes contents failed ended sent waiting = record {
  gone = [];
  left = b.waiting;
  appends = subst (λ known. Appends a.contents known []) (sym contents) (Appends-nil a.contents);
  count = subst (λ count. Counts a.sent count 0) (sym sent) (counts-none a.sent);
  all = λ _. waiting;
  going = λ ok. (sym failed ∙ ok, refl);
  stopped = λ end start. clash a.failed (sym failed ∙ end) start;
  still = λ _. refl;
  ended = ended;
}

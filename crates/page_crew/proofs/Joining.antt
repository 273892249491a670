-- Recorders of a page take what came, one after the other.
use Rattle.std.proofs.Common.{◌≡◌, ℕ, zero, suc, List, [], ◌∷◌, ◌++◌, Some, slice_get, set, refl, sym, ap, subst, ◌∙◌}
use Rattle.std.proofs.Common.{append-nil, append_assoc}
use Rattle.std.specs.List.{AllZip}
use Rattle.std.proofs.lemmas.Option.{none-some, same_Some}
use Rattle.page_crew.specs.Held.{recorders_of, feed_of}
use Rattle.page_crew.specs.Settling.{HasJoined}
use Rattle.page_crew.specs.declared.page_recorder.PageRecorder.{PageRecorder}
use Rattle.page_crew.specs.declared.shared_recorder.SharedRecorder.{SharedRecorder}
use Rattle.page_crew.proofs.Rows.{feed_then}

module _ {N C H G : ℕ} where
  joined_none : (r : PageRecorder N C H G) → HasJoined r r
  joined_none r = record {
    came = [];
    recorders = sym (append-nil (recorders_of r));
    first = refl;
    feed = ((refl, refl, refl, refl), refl);
  }

  joined_then : (a b c : PageRecorder N C H G) → HasJoined a b → HasJoined b c → HasJoined a c
  joined_then a b c one two = record {
    came = one.came ++ two.came;
    recorders = two.recorders ∙ (ap (λ (l : List (SharedRecorder N C H G)). l ++ two.came) one.recorders
        ∙ append_assoc (recorders_of a) one.came two.came);
    first = two.first ∙ one.first;
    feed = feed_then (feed_of a) (feed_of b) (feed_of c) one.feed two.feed;
  }

  -- before the first one
  pub joined_nobody : (rs : List (PageRecorder N C H G)) → AllZip HasJoined rs rs
  joined_nobody [] = tt
  joined_nobody (r ∷ rs) = (joined_none r, joined_nobody rs)

  -- one more
  pub joined_more : (old now : List (PageRecorder N C H G)) (i : ℕ) (r s : PageRecorder N C H G) → AllZip HasJoined old now
      → slice_get now i ≡ Some r → HasJoined r s → AllZip HasJoined old (set now i s)
  joined_more [] [] i r s all at one = absurd (none-some r at)
  joined_more [] (b ∷ now) i r s all at one = absurd all
  joined_more (a ∷ old) [] i r s all at one = absurd all
  joined_more (a ∷ old) (b ∷ now) zero r s all at one =
      (joined_then a b s all.0 (subst (λ (x : PageRecorder N C H G). HasJoined x s) (sym (same_Some b r at)) one), all.1)
  joined_more (a ∷ old) (b ∷ now) (suc i) r s all at one = (all.0, joined_more old now i r s all.1 at one)

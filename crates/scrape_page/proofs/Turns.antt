-- A scrape of each of several, in turn.
use Rattle.std.proofs.Common.{◌≡◌, ℕ, ◌+◌, ◌<◌, List, [], ◌∷◌, ◌++◌, length, take, drop, set, get_or, sym, ap, ap₂, subst, ◌∙◌}
use Rattle.std.proofs.Common.{arith}
use Rattle.std.specs.Prelude.{Result, Ok, Err}
use Rattle.std.proofs.lemmas.List.{take_more, take_more_set, drop_more, drop-set-lt, drop-set, take-set, take-append-drop}
use Rattle.expo_text.specs.Scraped.{Scraped}
use Rattle.scrape_http.specs.declared.source.NoScrape.{NoScrape}
use Rattle.scrape_page.specs.Scraping.{AreMade, IsStoppedAt}

module _ {X : Type 0} (made : X → X → Result Scraped NoScrape → Type 0) where
  -- one more
  made_push : (old new : List X) (parts : List Scraped) (a b : X) (part : Scraped) → AreMade made old new parts → made a b (Ok
      part)
      → AreMade made (old ++ a ∷ []) (new ++ b ∷ []) (parts ++ part ∷ [])
  made_push [] [] [] a b part all one = (one, all)
  made_push [] [] (p ∷ parts) a b part all one = absurd all
  made_push [] (y ∷ new) parts a b part all one = absurd all
  made_push (x ∷ old) [] parts a b part all one = absurd all
  made_push (x ∷ old) (y ∷ new) [] a b part all one = absurd all
  made_push (x ∷ old) (y ∷ new) (p ∷ parts) a b part all one = (all.0, made_push old new parts a b part all.1 one)

  module _ (old now : List X) (i : ℕ) (x y : X) (parts : List Scraped) (in_now : i < length now) (in_old : i < length old)
      (rest : drop i now ≡ drop i old) (is : x ≡ get_or now i x) (before : AreMade made (take i old) (take i now) parts) where
    both : x ∷ drop (i + 1) now ≡ get_or old i x ∷ drop (i + 1) old
    both = ap (λ z. z ∷ drop (i + 1) now) is ∙ sym (drop_more now i x in_now) ∙ rest ∙ drop_more old i x in_old

    same : x ≡ get_or old i x
    same = let all = both in cc

    behind : drop (i + 1) now ≡ drop (i + 1) old
    behind = let all = both in cc

    -- those behind it are as they were
    pub still_behind : drop (i + 1) (set now i y) ≡ drop (i + 1) old
    still_behind = drop-set-lt (i + 1) now i y (omega arith) ∙ behind

    -- this one made a scrape
    pub made_more : (part : Scraped) → made x y (Ok part)
        → AreMade made (take (i + 1) old) (take (i + 1) (set now i y)) (parts ++ part ∷ [])
    made_more part one =
        let first : take (i + 1) old ≡ take i old ++ x ∷ [] = take_more old i x in_old ∙ ap (λ z. take i old ++ z ∷ []) (sym same)
        in
        let second : take (i + 1) (set now i y) ≡ take i now ++ y ∷ [] = take_more_set now i y in_now in
        subst (λ l. AreMade made l (take (i + 1) (set now i y)) (parts ++ part ∷ [])) (sym first)
        (subst (λ l. AreMade made (take i old ++ x ∷ []) l (parts ++ part ∷ [])) (sym second)
        (made_push (take i old) (take i now) parts x y part before one))

    -- this one made none
    pub stopped : (why : NoScrape) → made x y (Err why) → IsStoppedAt made old (set now i y) why
    stopped why none = record {
      front = take i old;
      front' = take i now;
      at = x;
      at' = y;
      back = drop (i + 1) old;
      parts = parts;
      old_is = sym (take-append-drop i old) ∙ ap (λ l. take i old ++ l) (drop_more old i x in_old)
          ∙ ap (λ z. take i old ++ z ∷ drop (i + 1) old) (sym same);
      new_is = sym (take-append-drop i (set now i y)) ∙ ap₂ (λ l m. l ++ m) (take-set now i y) (drop-set now i y in_now)
          ∙ ap (λ l. take i now ++ y ∷ l) behind;
      before = before;
      none = none;
    }

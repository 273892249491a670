-- What scrapers are told, and do, one thing after the other.
use Rattle.std.proofs.Common.{◌≡◌, ℕ, zero, suc, ◌<◌, List, [], ◌∷◌, ◌++◌, length, map, get_or, All, Box, refl, sym, ap}
use Rattle.std.proofs.Common.{subst, ◌∙◌, arith, inl, inr, append-nil, append_assoc}
use Rattle.std.specs.Prelude.{Result, Ok, Err, OnOk, OnErr, ◌≢◌}
use Rattle.std.specs.declared.alloc.Global.{Global}
use Rattle.std.proofs.lemmas.List.{map-append, length-map}
use Rattle.std.proofs.lemmas.List.Elements.{All-map}
use Rattle.ledger_core.proofs.Placing.{at_push}
use Rattle.metric_desc.specs.Desc.{Descriptor}
use Rattle.scrape_page.specs.Faults.{IsPageFamilyFault}
use Rattle.scrape_page.specs.declared.fault.PageFamilyFault.{PageFamilyFault}
use Rattle.scrape_page.specs.declared.fault.PageFamilyFault.TheVariants.{TooManyFamilies, NoMemory}
use Rattle.rtrb.specs.Ring.{received, known_items, SameConsumer, ConsumerLooked, IsPair}
use Rattle.page_crew.specs.News.{NewsRing, NewsFeed, ScraperView, unboxed, of_board, IsOver, IsBoardNews, TakesFamily}
use Rattle.page_crew.specs.News.{IsDone, AreDone, IsBegun}
use Rattle.page_crew.specs.Following.{page_in, news_in, held_in, HasFollowed, HasCaughtUp, IsBehind, AreTuned}
use Rattle.page_crew.specs.declared.news.PageNews.{PageNews}
use Rattle.page_crew.specs.declared.page_scraper.PageScraper.{PageScraper}
use Rattle.page_crew.proofs.Rows.{feed_then}
use Rattle.registry_state.specs.Kept.{RegistryView}
use Rattle.register_rule.specs.declared.board.Board.{Board}
use Rattle.page_crew.specs.declared.shared_scanner.SharedScanner.{SharedScanner}

-- nothing is left
pub nothing_left : {X Y : Type 0} (f : X → Y) (done ys : List Y) (rest : List X) → length rest ≡ 0 → done ++ map f rest ≡ ys →
    done ≡ ys
nothing_left f done ys [] none is = sym (append-nil done) ∙ is
nothing_left f done ys (x ∷ rest) none is = absurd (omega (arith, none))

-- a list of no length
none_of : {X : Type 0} (l : List X) → length l ≡ 0 → l ≡ []
none_of [] none = refl
none_of (x ∷ l) none = absurd (omega (arith, none))

-- what is so after Ok, or after Err, is so by what was
pub ok_more : {A E : Type 0} {P Q : Type 0} (r : Result A E) → (P → Q) → OnOk r P → OnOk r Q
ok_more (Ok a) more p = more p
ok_more (Err e) more p = tt

pub err_more : {A E : Type 0} {P Q : Type 0} (r : Result A E) → (P → Q) → OnErr r P → OnErr r Q
err_more (Ok a) more p = tt
err_more (Err e) more p = more p

pub on_err : {A E : Type 0} {P : Type 0} (r : Result A E) → P → OnErr r P
on_err (Ok a) p = tt
on_err (Err e) p = p

-- the page refused a family, for another reason than memory
pub not_registered : {N C H G : ℕ} (a b : ScraperView N C H G) (desc copy : Descriptor) (group : ℕ) (fault : PageFamilyFault) →
    copy ≡ desc
    → fault ≡ TooManyFamilies → IsPageFamilyFault a.families copy fault → b ≡ a → TakesFamily desc group a b
not_registered a b desc copy group fault same is why unchanged =
    inr (
      fault,
      subst (λ (d : Descriptor). IsPageFamilyFault a.families d fault) same why,
      subst (λ (f : PageFamilyFault). f ≢ NoMemory) (sym is) differs,
      unchanged,
    )
  where
    differs : TooManyFamilies ≢ NoMemory
    differs = λ (e : TooManyFamilies ≡ NoMemory). absurd cc

module _ {N C H G : ℕ} where
  -- it looked into its ring
  pub looked_on : (old new : PageScraper N C H G) → ConsumerLooked (news_in old) (news_in new) → page_in new ≡ page_in old
      → held_in new ≡ held_in old → HasFollowed old new (page_in new)
  looked_on old new looked page held = record {
    came = [];
    done = [];
    taken = looked.1 ∙ sym (append-nil (received (news_in old)));
    all = append-nil (held_in old) ∙ sym held;
    did = page;
    ring = looked.0;
  }

  -- nothing is known that was not done
  pub all_known : (old new : PageScraper N C H G) → HasFollowed old new (page_in new) → held_in new ≡ []
      → length (known_items (news_in new)) ≡ 0 → HasCaughtUp old new (page_in new)
  all_known old new followed none known = record {
    followed = followed;
    none_held = none;
    none_known = none_of (known_items (news_in new)) known;
  }

  -- all of one list was done, and then all of another
  pub done_then : (one two : List (PageNews N C H G)) (a b c : ScraperView N C H G) → AreDone one a b → AreDone two b c
      → AreDone (one ++ two) a c
  done_then [] two a b c is did = subst (λ (p : ScraperView N C H G). AreDone two p c) is did
  done_then (x ∷ one) two a b c first did = (first.0, first.1, done_then one two first.0 b c first.2 did)

  -- nothing came, and nothing was held
  pub followed_none : (s : PageScraper N C H G) → HasFollowed s s (page_in s)
  followed_none s = record {
    came = [];
    done = [];
    taken = sym (append-nil (received (news_in s)));
    all = append-nil (held_in s);
    did = refl;
    ring = ((refl, refl, refl, refl), refl);
  }

  -- what came first, and what came then
  pub followed_then : (a b c : PageScraper N C H G) (reached : ScraperView N C H G) → HasFollowed a b (page_in b) → HasFollowed b
      c reached
      → HasFollowed a c reached
  followed_then a b c reached one two = record {
    came = one.came ++ two.came;
    done = one.done ++ two.done;
    taken = two.taken ∙ (ap (λ (l : List (Box (PageNews N C H G) Global)). l ++ two.came) one.taken
        ∙ append_assoc (received (news_in a)) one.came two.came);
    all = ap (λ l. held_in a ++ l) (map-append unboxed one.came two.came)
        ∙ (sym (append_assoc (held_in a) (map unboxed one.came) (map unboxed two.came))
        ∙ (ap (λ l. l ++ map unboxed two.came) one.all
        ∙ (append_assoc one.done (held_in b) (map unboxed two.came)
        ∙ (ap (λ l. one.done ++ l) two.all ∙ sym (append_assoc one.done two.done (held_in c))))));
    did = done_then one.done two.done (page_in a) (page_in b) reached one.did two.did;
    ring = feed_then (news_in a) (news_in b) (news_in c) one.ring two.ring;
  }

  pub behind_then : (a b c : PageScraper N C H G) → HasFollowed a b (page_in b) → IsBehind b c → IsBehind a c
  behind_then a b c one two = record {
    reached = two.reached;
    followed = followed_then a b c two.reached one two.followed;
    next = two.next;
    held = two.held;
    begun = two.begun;
  }

  pub caught_then : (a b c : PageScraper N C H G) → HasFollowed a b (page_in b) → HasCaughtUp b c (page_in c) → HasCaughtUp a c
      (page_in c)
  caught_then a b c one two = record {
    followed = followed_then a b c (page_in c) one two.followed;
    none_held = two.none_held;
    none_known = two.none_known;
  }

  -- its page changed then
  pub caught_still : (a b c : PageScraper N C H G) (reached : ScraperView N C H G) → HasCaughtUp a b reached → news_in c ≡ news_in
      b
      → held_in c ≡ held_in b → HasCaughtUp a c reached
  caught_still a b c reached caught news held = record {
    followed = record {
      came = caught.followed.came;
      done = caught.followed.done;
      taken = ap (λ (f : NewsFeed N C H G). received f) news ∙ caught.followed.taken;
      all = caught.followed.all ∙ ap (λ l. caught.followed.done ++ l) (sym held);
      did = caught.followed.did;
      ring = subst (λ (f : NewsFeed N C H G). SameConsumer (news_in a) f) (sym news) caught.followed.ring;
    };
    none_held = held ∙ caught.none_held;
    none_known = ap (λ (f : NewsFeed N C H G). known_items f) news ∙ caught.none_known;
  }

  -- it held one thing
  module _ (old new : PageScraper N C H G) (it : PageNews N C H G) (held : held_in old ≡ it ∷ []) (news : news_in new ≡ news_in
      old) where
    -- and did it
    pub held_done : held_in new ≡ [] → IsDone it (page_in old) (page_in new) → HasFollowed old new (page_in new)
    held_done none did = record {
      came = [];
      done = it ∷ [];
      taken = ap (λ (f : NewsFeed N C H G). received f) news ∙ sym (append-nil (received (news_in old)));
      all = ap (λ l. l ++ []) held ∙ ap (λ l. it ∷ l) (sym none);
      did = (page_in new, did, refl);
      ring = subst (λ (f : NewsFeed N C H G). SameConsumer (news_in old) f) (sym news) ((refl, refl, refl, refl), refl);
    }

    -- or holds it still
    pub held_still : held_in new ≡ it ∷ [] → IsBegun it (page_in old) (page_in new) → IsBehind old new
    held_still still begun = record {
      reached = page_in old;
      followed = record {
        came = [];
        done = [];
        taken = ap (λ (f : NewsFeed N C H G). received f) news ∙ sym (append-nil (received (news_in old)));
        all = append-nil (held_in old) ∙ (held ∙ sym still);
        did = refl;
        ring = subst (λ (f : NewsFeed N C H G). SameConsumer (news_in old) f) (sym news) ((refl, refl, refl, refl), refl);
      };
      next = it;
      held = still;
      begun = begun;
    }

    pub held_ok : {A E : Type 0} (r : Result A E) → OnOk r (held_in new ≡ []) → OnOk r (IsDone it (page_in old) (page_in new))
        → OnOk r (HasFollowed old new (page_in new))
    held_ok (Ok a) none did = held_done none did
    held_ok (Err e) none did = tt

    pub held_err : {A E : Type 0} (r : Result A E) → OnErr r (held_in new ≡ it ∷ []) → OnErr r (IsBegun it (page_in old) (page_in
        new))
        → OnErr r (IsBehind old new)
    held_err (Ok a) still begun = tt
    held_err (Err e) still begun = held_still still begun

  -- one thing came out of its ring
  module _ (old new : PageScraper N C H G) (it : Box (PageNews N C H G) Global) (feed : NewsFeed N C H G) (none : held_in old ≡
      [])
      (out : received feed ≡ received (news_in old) ++ it ∷ []) (same : SameConsumer (news_in old) feed) (news : news_in new ≡
      feed) where
    taken : received (news_in new) ≡ received (news_in old) ++ it ∷ []
    taken = ap (λ (f : NewsFeed N C H G). received f) news ∙ out

    ring : SameConsumer (news_in old) (news_in new)
    ring = subst (λ (f : NewsFeed N C H G). SameConsumer (news_in old) f) (sym news) same

    -- and was done
    pub one_done : held_in new ≡ [] → IsDone (unboxed it) (page_in old) (page_in new) → HasFollowed old new (page_in new)
    one_done still did = record {
      came = it ∷ [];
      done = unboxed it ∷ [];
      taken = taken;
      all = ap (λ l. l ++ unboxed it ∷ []) none ∙ ap (λ l. unboxed it ∷ l) (sym still);
      did = (page_in new, did, refl);
      ring = ring;
    }

    -- or is held
    pub one_held : held_in new ≡ unboxed it ∷ [] → IsBegun (unboxed it) (page_in old) (page_in new) → IsBehind old new
    one_held still begun = record {
      reached = page_in old;
      followed = record {
        came = it ∷ [];
        done = [];
        taken = taken;
        all = ap (λ l. l ++ unboxed it ∷ []) none ∙ sym still;
        did = refl;
        ring = ring;
      };
      next = unboxed it;
      held = still;
      begun = begun;
    }

  -- one ring more, and its scraper
  pub tuned_more : (rings : List (NewsRing N C H G)) (scrapers : List (PageScraper N C H G)) (p : NewsRing N C H G) (s :
      PageScraper N C H G)
      → length rings ≡ length scrapers → AreTuned rings scrapers → IsPair p (news_in s) → AreTuned (rings ++ p ∷ []) (scrapers ++
      s ∷ [])
  tuned_more rings scrapers p s many tuned pair k q t at_q at_t = elim (at_push rings p k q at_q) [
    | inl here ↦ elim (at_push scrapers s k t at_t) [
      | inl also ↦ subst (λ (x : NewsRing N C H G). IsPair x (news_in t)) here.1
          (subst (λ (x : PageScraper N C H G). IsPair p (news_in x)) also.1 pair)
      | inr other ↦ absurd (other.0 (here.0 ∙ many))
    ]
    | inr there ↦ elim (at_push scrapers s k t at_t) [
      | inl here ↦ absurd (there.0 (here.0 ∙ sym many))
      | inr other ↦ tuned k q t there.1 other.1
    ]
  ]

  -- each of the news says that its board came
  pub board_said : (board : Board N C H G) (id : ℕ) (registries : List (RegistryView (SharedScanner N C H G)))
      (news : List (Box (PageNews N C H G) Global)) → map unboxed news ≡ map of_board registries → All (IsOver board id)
      registries
      → All (λ (it : Box (PageNews N C H G) Global). IsBoardNews board id (unboxed it)) news
  board_said board id registries news is over =
      from_map news (subst (λ (l : List (PageNews N C H G)). All (IsBoardNews board id) l) (sym is)
      (All-map (IsBoardNews board id) of_board registries over))
    where
      at : (l : List (Box (PageNews N C H G) Global)) (k : ℕ) (d : Box (PageNews N C H G) Global) → k < length l
          → IsBoardNews board id (get_or (map unboxed l) k (unboxed d)) → IsBoardNews board id (unboxed (get_or l k d))
      at [] k d within is = absurd (omega (arith, within))
      at (x ∷ l) zero d within is = is
      at (x ∷ l) (suc k) d within is = at l k d (omega (arith, within)) is

      from_map : (l : List (Box (PageNews N C H G) Global)) → All (IsBoardNews board id) (map unboxed l)
          → All (λ (it : Box (PageNews N C H G) Global). IsBoardNews board id (unboxed it)) l
      from_map l all = λ k d within. at l k d within (all k (unboxed d) (subst (λ n. k < n) (sym (length-map l unboxed)) within))

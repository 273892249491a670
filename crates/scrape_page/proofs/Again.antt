-- What the scrapes of boards leave of them, and show.
use Rattle.std.proofs.Common.{◌≡◌, ℕ, zero, suc, List, [], ◌∷◌, ◌++◌, length, refl, sym, ap, subst, ◌∙◌, inl, inr, Some}
use Rattle.std.specs.Prelude.{Result, Ok, Err}
use Rattle.std.specs.List.{AllZip}
use Rattle.expo_text.specs.Scraped.{Scraped}
use Rattle.register_rule.specs.declared.view.Answer.{Answer}
use Rattle.snapshot_scan.specs.declared.contended.Contended.{Contended as ScanContended}
use Rattle.registry_state.specs.Replay.{Family, State}
use Rattle.registry_state.specs.Kept.{RegistryView}
use Rattle.registry_state.specs.Shown.{IsShown}
use Rattle.scrape_http.specs.declared.source.NoScrape.{NoScrape}
use Rattle.scrape_http.specs.declared.source.NoScrape.TheVariants.{Contended}
use Rattle.scrape_server.specs.Again.{AsksAgain}
use Rattle.scrape_server.specs.Scrapes.{Scrapes}
use Rattle.scrape_page.specs.Scraping.{AreMade, IsStopped, IsStoppedAt, BoardScrapes}

-- What is asked through a value that is lent, of this name, is asked. It ends as what was lent ends.
module _ {X Y : Type 0} (now : Y → X) (name : Y → ℕ) (made : X → X → Result Scraped NoScrape → Type 0) where
  abbrev pub Lent : Y → Y → Result Scraped NoScrape → Type 0
  Lent before after result = (name after ≡ name before) × made (now before) (now after) result

  pub asked : (more : ℕ) (last : X) (a b : Y) (result : Result Scraped NoScrape) → (name a ≡ name b → last ≡ now b)
      → AsksAgain Lent more a b result → AsksAgain made more (now a) last result
  asked zero last a b result ends once = subst (λ x. made (now a) x result) (sym (ends (sym once.0))) once.1
  asked (suc more) last a b result ends (inl done) =
      inl (done.0, subst (λ x. made (now a) x result) (sym (ends (sym done.1.0))) done.1.1)
  asked (suc more) last a b result ends (inr again) =
      inr (now again.0, again.1.1, asked more last again.0 b result (λ same. ends (sym again.1.0 ∙ same)) again.2)

module _ {X : Type 0} (made : X → X → Result Scraped NoScrape → Type 0) where
  -- what each that made a scrape stands in to what it was
  pub made_still : (R : X → X → Type 0) → ((a b : X) (part : Scraped) → made a b (Ok part) → R a b)
      → (old new : List X) (parts : List Scraped) → AreMade made old new parts → AllZip R old new
  made_still R by [] [] [] all = tt
  made_still R by [] [] (part ∷ parts) all = absurd all
  made_still R by [] (b ∷ new) parts all = absurd all
  made_still R by (a ∷ old) [] parts all = absurd all
  made_still R by (a ∷ old) (b ∷ new) [] all = absurd all
  made_still R by (a ∷ old) (b ∷ new) (part ∷ parts) all = (by a b part all.0, made_still R by old new parts all.1)

  -- and in to its scrape
  pub made_parts : (R : X → Scraped → Type 0) → ((a b : X) (part : Scraped) → made a b (Ok part) → R b part)
      → (old new : List X) (parts : List Scraped) → AreMade made old new parts → AllZip R new parts
  made_parts R by [] [] [] all = tt
  made_parts R by [] [] (part ∷ parts) all = absurd all
  made_parts R by [] (b ∷ new) parts all = absurd all
  made_parts R by (a ∷ old) [] parts all = absurd all
  made_parts R by (a ∷ old) (b ∷ new) [] all = absurd all
  made_parts R by (a ∷ old) (b ∷ new) (part ∷ parts) all = (by a b part all.0, made_parts R by old new parts all.1)

-- a board with the id and the families of another
pub record SameFace {S : Type 0} (old new : RegistryView S) : Type 0 where
  pub id : new.id ≡ old.id
  pub families : new.state.families ≡ old.state.families

pub same_itself : {S : Type 0} (a : RegistryView S) → SameFace a a
same_itself a = record { id = refl; families = refl }

same_then : {S : Type 0} (a b c : RegistryView S) → SameFace a b → SameFace b c → SameFace a c
same_then a b c first second = record { id = second.id ∙ first.id; families = second.families ∙ first.families }

-- The newest scrape that a board of n workers keeps has this answer, and this shows the board's families at it.
pub record IsPartOf {S : Type 0} (n c h : ℕ) (board : RegistryView S) (part : Scraped) : Type 0 where
  pub answer : Answer
  pub last : board.state.last ≡ Some answer
  pub numbers : length answer.vector ≡ n
  pub shown : IsShown c h board.state.families answer part

beside : {X : Type 0} (R : X → X → Type 0) → ((x : X) → R x x) → (xs : List X) → AllZip R xs xs
beside R each [] = tt
beside R each (x ∷ xs) = (each x, beside R each xs)

beside_append : {X : Type 0} (R : X → X → Type 0) (xs ys us vs : List X) → AllZip R xs ys → AllZip R us vs
    → AllZip R (xs ++ us) (ys ++ vs)
beside_append R [] [] us vs front back = back
beside_append R [] (y ∷ ys) us vs front back = absurd front
beside_append R (x ∷ xs) [] us vs front back = absurd front
beside_append R (x ∷ xs) (y ∷ ys) us vs front back = (front.0, beside_append R xs ys us vs front.1 back)

module _ {S : Type 0} (n c h g : ℕ) (recorded : S → List Answer) (quit : S → ℕ) (gave : S → S → Answer → Type 0)
    (gave_up : S → S → ScanContended → Type 0) where
  abbrev Once : RegistryView S → RegistryView S → Result Scraped NoScrape → Type 0
  Once = Scrapes n c h g recorded quit gave gave_up

  same_once : (a b : RegistryView S) (result : Result Scraped NoScrape) → Once a b result → SameFace a b
  same_once a b (Ok part) once =
      record { id = once.kept.id; families = ap (λ (state : State). state.families) once.kept.state }
  same_once a b (Err why) once =
      record { id = once.same.2; families = ap (λ (state : State). state.families) once.same.1 }

  same_again : (more : ℕ) (a b : RegistryView S) (result : Result Scraped NoScrape) → AsksAgain Once more a b result
      → SameFace a b
  same_again zero a b result once = same_once a b result once
  same_again (suc more) a b result (inl done) = same_once a b result done.1
  same_again (suc more) a b result (inr again) =
      same_then a again.0 b (same_once a again.0 (Err Contended) again.1) (same_again more again.0 b result again.2)

  part_once : (a b : RegistryView S) (part : Scraped) → Once a b (Ok part) → IsPartOf n c h b part
  part_once a b part once = record {
    answer = once.kept.answer;
    last = ap (λ (state : State). state.last) once.kept.state;
    numbers = once.kept.once.whole.numbers;
    shown = subst (λ (families : List Family). IsShown c h families once.kept.answer part)
        (sym (ap (λ (state : State). state.families) once.kept.state)) once.shown;
  }

  part_again : (more : ℕ) (a b : RegistryView S) (part : Scraped) → AsksAgain Once more a b (Ok part) → IsPartOf n c h b part
  part_again zero a b part once = part_once a b part once
  part_again (suc more) a b part (inl done) = part_once a b part done.1
  part_again (suc more) a b part (inr again) = part_again more again.0 b part again.2

  -- a board that was asked for a scrape has its id and its families
  pub same_asked : (a b : RegistryView S) (result : Result Scraped NoScrape)
      → BoardScrapes n c h g recorded quit gave gave_up a b result → SameFace a b
  same_asked a b result asked = same_again 3 a b result asked

  module _ (old new : List (RegistryView S)) where
    -- boards that made a scrape each have their ids and their families
    pub same_made : (parts : List Scraped) → AreMade (BoardScrapes n c h g recorded quit gave gave_up) old new parts
        → AllZip SameFace old new
    same_made parts all = made_still (BoardScrapes n c h g recorded quit gave gave_up) SameFace
        (λ a b part made. same_again 3 a b (Ok part) made) old new parts all

    -- and show them
    pub parts_made : (parts : List Scraped) → AreMade (BoardScrapes n c h g recorded quit gave gave_up) old new parts
        → AllZip (IsPartOf n c h) new parts
    parts_made parts all = made_parts (BoardScrapes n c h g recorded quit gave gave_up) (IsPartOf n c h)
        (λ a b part made. part_again 3 a b part made) old new parts all

    -- and so have boards of which one made none
    pub same_stopped : (why : NoScrape) → IsStopped (BoardScrapes n c h g recorded quit gave gave_up) old new why
        → AllZip SameFace old new
    same_stopped why (inl none) = subst (AllZip SameFace old) (sym none.1) (beside SameFace same_itself old)
    same_stopped why (inr at) = stopped at
      where
        stopped : IsStoppedAt (BoardScrapes n c h g recorded quit gave gave_up) old new why → AllZip SameFace old new
        stopped at =
            subst (λ (l : List (RegistryView S)). AllZip SameFace l new) (sym at.old_is)
            (subst (AllZip SameFace (at.front ++ at.at ∷ at.back)) (sym at.new_is)
            (beside_append SameFace at.front at.front' (at.at ∷ at.back) (at.at' ∷ at.back)
            (made_still (BoardScrapes n c h g recorded quit gave gave_up) SameFace (λ a b part made. same_again 3 a b (Ok part)
            made)
            at.front at.front' at.parts at.before)
            (same_again 3 at.at at.at' (Err why) at.none, beside SameFace same_itself at.back)))

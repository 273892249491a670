use Rattle.std.proofs.Common.{rules, arith, refl, inr, List, ℕ, [], ◌∷◌, ◌++◌, ◌≡◌, All, take, ap, sym, ◌∙◌, subst}
use Rattle.std.specs.Prelude.{IsUtf8}
use Rattle.std.proofs.lemmas.List.{map-append}
use Rattle.dirgwako.specs.Texts.{text_at, texts_of}
use Rattle.dirgwako.proofs.Reading.{more_texts, all_texts, more_good}
use Rattle.dirgwako_c.proofs.Reading.{good_there}
use Rattle.dirgwako_c.proofs.texts.texts.Goals as goal

pub returns-in_default-text-clause-fault : goal.returns-in_default-text-clause-fault
returns-in_default-text-clause-fault c =
    inr (
      refl,
      λ all. c.in_default-text.ensures (good_there IsUtf8 c.args.bytes.now c.loop-place.place _ c.loop-place-test.true
          all),
    )

pub loop-place-preserved : goal.loop-place-preserved
loop-place-preserved c =
    let kept = c.loop-place.invariant in
    let items = c.args.bytes.now in
    let pushed : c.push.new.self.items ≡ c.loop-place.texts.items ++ c.in-Some.text ∷ [] = search rules in
    record {
      read = ap texts_of pushed ∙ (map-append text_at c.loop-place.texts.items (c.in-Some.text ∷ [])
          ∙ (ap (λ (l : List (List ℕ)). l ++ text_at c.in-Some.text ∷ []) kept.read
          ∙ (ap (λ (n : List ℕ). take c.loop-place.place (texts_of items) ++ n ∷ []) c.in-Some.ensures.0
          ∙ sym (more_texts items c.loop-place.place _ c.loop-place-test.true))));
      good = more_good IsUtf8 items c.loop-place.place _ c.loop-place-test.true kept.good c.in-Some.ensures.1;
    }

pub returns-clause-all : goal.returns-clause-all
returns-clause-all c =
    subst (All IsUtf8) (all_texts c.args.bytes.now c.loop-place.place
    (omega (arith, c.loop-place-test.false, c.loop-place.auto.place-end)))
    c.loop-place.invariant.good

-- The newest scrape that is kept.
use Rattle.std.proofs.Common.{◌≡◌, ℕ, zero, suc, ◌≤◌, List, [], ◌∷◌, length, refl, sym, ap, ◌∙◌, arith}
use Rattle.std.specs.Prelude.{Option, Some, None, IsSome, slice_get}
use Rattle.std.proofs.lemmas.Bool.{true≢false}
use Rattle.std.proofs.lemmas.Option.{none-some}
use Rattle.register_rule.specs.declared.view.Answer.{Answer}
use Rattle.register_rule.specs.Members.{newest}
use Rattle.registry_state.specs.Journal.{Entry, Changed, Scraped, scrapes}
use Rattle.registry_state.specs.Replay.{State, Leads, Replays, after}

-- the newest of these, or what was there before
abbrev newest_or : Option Answer → List Answer → Option Answer
newest_or before [] = before
newest_or before (a ∷ answers) = newest (a ∷ answers)

newest_from : (a : Answer) (answers : List Answer) → newest_or (Some a) answers ≡ newest (a ∷ answers)
newest_from a [] = refl
newest_from a (b ∷ answers) = refl

newest_all : (answers : List Answer) → newest_or None answers ≡ newest answers
newest_all [] = refl
newest_all (a ∷ answers) = refl

module _ (n c h g : ℕ) where
  leads_last : (entries : List Entry) (from to : State) → Leads n c h g from entries to → to.last ≡ newest_or from.last (scrapes
      entries)
  leads_last [] from to is = ap (λ (s : State). s.last) (sym is)
  leads_last (Changed change ∷ entries) from to leads =
      leads_last entries (record { families = after from.families change; last = from.last }) to leads.1
  leads_last (Scraped answer ∷ entries) from to leads =
      leads_last entries (record { families = from.families; last = Some answer }) to leads.1 ∙ newest_from answer (scrapes
      entries)

  -- the last scrape of a state is the newest of its journal
  pub replays_last : (journal : List Entry) (state : State) → Replays n c h g journal state → state.last ≡ newest (scrapes
      journal)
  replays_last journal state replays = leads_last journal (record { families = []; last = None }) state replays ∙ newest_all
      (scrapes journal)

-- where there is a newest, there is one
pub newest_some : (answers : List Answer) (a : Answer) → newest answers ≡ Some a → 1 ≤ length answers
newest_some [] a is = absurd (none-some a is)
newest_some (b ∷ answers) a is = omega arith

pub none_left : (answers : List Answer) (last : Option Answer) → last ≡ newest answers → IsSome last → 1 ≤ length answers
none_left answers None is some = absurd (true≢false (sym some))
none_left answers (Some a) is some = newest_some answers a (sym is)

-- what stands at the last place is the newest
pub newest_at : (answers : List Answer) (k : ℕ) (a : Answer) → suc k ≡ length answers → slice_get answers k ≡ Some a → newest
    answers ≡ Some a
newest_at [] k a last is = absurd (omega (arith, last))
newest_at (b ∷ []) zero a last is = is
newest_at (b ∷ []) (suc k) a last is = absurd (none-some a is)
newest_at (b ∷ d ∷ answers) zero a last is = absurd (omega (arith, last))
newest_at (b ∷ d ∷ answers) (suc k) a last is = newest_at (d ∷ answers) k a (omega (arith, last)) is

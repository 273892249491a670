-- A registry that is named where it gets its lock.
use Rattle.std.proofs.Common.{◌≡◌, List, [], append-nil, ap, ◌∙◌}
use Rattle.std.specs.Prelude.{Some}
use Rattle.std.proofs.lemmas.Option.{same_Some}
use Rattle.register_rule.specs.declared.board.Board.{Board}
use Rattle.registry_state.specs.Journal.{Entry, changes}
use Rattle.metric_registry.specs.Naming.{BeginsWith, IsNamed, name_of}

-- a journal begins with its own changes
pub begins_all : (journal : List Entry) → BeginsWith (changes journal) journal
begins_all journal = ∣ ([], append-nil (changes journal)) ∣₁

-- a board that is another's is named as that
pub named_of : (a b : Board 4 64 8 16) → a ≡ b → IsNamed (Some (name_of b)) a
named_of a b same = λ x e. ap name_of same ∙ same_Some _ x e

-- A registry that names no board is of any.
use Rattle.std.specs.Prelude.{ℕ, None}
use Rattle.std.proofs.lemmas.Option.{none-some}
use Rattle.register_rule.specs.declared.board.Board.{Board}
use Rattle.metric_registry.specs.Naming.{IsNamed}

pub any_board : {N C H G : ℕ} (b : Board N C H G) → IsNamed None b
any_board b = λ id none. absurd (none-some id none)

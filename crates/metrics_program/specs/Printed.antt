-- What the server prints.
use Rattle.std.specs.Prelude.{◌≡◌, ◌⊎◌, ℕ, ◌<◌, List, ◌++◌, codes, decimal, Option}
use Rattle.std.specs.Io.KnownBytes.{Appends}
use Rattle.register_rule.specs.Seats.{board_id}
use Rattle.register_rule.specs.declared.board.Board.{Board}
use Rattle.registry_state.specs.Journal.{Entry}
use Rattle.registry_state.specs.Kept.{RegistryView}
use Rattle.snapshot_scan.specs.declared.scanner.Scanner.{Scanner}
use Rattle.metrics_program.specs.Counted.{AreNewWorkers, AreReplies}
use Rattle.metrics_program.specs.Services.{IsService}
use Rattle.metrics_program.specs.declared.metrics.Metrics.{Metrics}
use Rattle.metrics_program.specs.declared.serve.ServeEnd.{ServeEnd}
use Rattle.metrics_program.specs.declared.serve.ServeEnd.TheVariants.{Done, Broken, NoMemory}
use Rattle.metrics_program.specs.declared.threads.Four.{Four}

-- the line that tells the port
abbrev pub listening_line : (port : ℕ) → List ℕ
listening_line port = codes "listening " ++ decimal port ++ codes "\n"

-- the line that tells how many replies were counted
abbrev pub served_line : (replies : ℕ) → List ℕ
served_line replies = codes "served " ++ decimal replies ++ codes "\n"

-- known bytes grow by a beginning of these, and by nothing else
pub record Begins (before after : Option (List ℕ)) (bytes : List ℕ) : Type 0 where
  pub front : List ℕ
  pub back : List ℕ
  pub parts : bytes ≡ front ++ back
  pub grown : Appends before after front

-- So many replies were counted by a server: there are a board of the id 1, its four workers, which were new, a registry
-- of that board as it was before it was served, with the server's metrics, and the journal that it left, by which so
-- many were counted.
pub record WereCounted (replies : ℕ) : Type 0 where
  pub board : Board 4 64 8 16
  pub id : board_id board ≡ 1
  pub workers : Four
  pub new : AreNewWorkers board workers
  pub first : RegistryView (Scanner 4 64 8 16)
  pub metrics : Metrics
  pub service : IsService board first metrics
  pub journal : List Entry
  pub are_replies : AreReplies board metrics first workers journal replies

-- What a server prints that ends so: its port, and at the end the number of replies that were counted; or that there
-- was no memory, before it listens to anybody. Where it breaks off, it has printed a beginning of that: of both lines
-- where there was such a number, and else of the first.
abbrev pub Prints : (before after : Option (List ℕ)) → ServeEnd → Type 0
Prints before after Done =
    (port replies : ℕ) × (port < 65536) × WereCounted replies × Appends before after (listening_line port ++ served_line replies)
Prints before after NoMemory = Appends before after (codes "refused 0 6\n")
Prints before after Broken =
    ((port replies : ℕ) × (port < 65536) × WereCounted replies
    × Begins before after (listening_line port ++ served_line replies))
    ⊎ ((port : ℕ) × (port < 65536) × Begins before after (listening_line port))
    ⊎ Begins before after (codes "refused 0 6\n")

-- the exit status of the program
abbrev pub status_of : ServeEnd → ℕ
status_of Done = 0
status_of NoMemory = 1
status_of Broken = 3

-- What a script has made, before and after a line.
use Rattle.std.specs.Prelude.{◌≡◌, ◌⊎◌, ℕ, List, [], ◌∷◌, ◌++◌, map, length, replicate, slice_get, option_and_then, Option, Some}
use Rattle.std.specs.Prelude.{All, IsSomeAnd}
use Rattle.expo_text.specs.Scraped.{Scraped}
use Rattle.expo_text.specs.Shown.{shown_text}
use Rattle.metric_desc.specs.Desc.{Descriptor}
use Rattle.register_rule.specs.Seats.{board_id}
use Rattle.register_rule.specs.declared.board.Board.{Board}
use Rattle.snapshot_scan.specs.Readers.{IsReaderOf}
use Rattle.snapshot_scan.specs.Scanners.{board_in, reader_in, recorded_in}
use Rattle.scrape_server.specs.Scans.{gave_in}
use Rattle.snapshot_update.specs.declared.worker.Worker.{Worker}
use Rattle.snapshot_update.specs.Workers.{index_of, lists_of, IsWorkerOf}
use Rattle.registry_state.specs.Calls.{changed, IsGiven, KeepsScrape}
use Rattle.registry_state.specs.Faults.{IsWindow}
use Rattle.registry_state.specs.Journal.{Registered, scrapes, within}
use Rattle.registry_state.specs.Replay.{nothing}
use Rattle.registry_state.specs.Shown.{IsShown}
use Rattle.registry_state.specs.declared.handle.Handle.{Handle}
use Rattle.snapshot_update.specs.declared.job_op.JobOp.{JobOp}
use Rattle.worker_pool.specs.Ends.{DidAll}
use Rattle.metrics_program.specs.Parts.{AreRead}
use Rattle.metrics_program.specs.Children.{HasOne}
use Rattle.metrics_program.specs.Jobs.{job_for, with_jobs}
use Rattle.metrics_program.specs.Waiting.{lists_in}
use Rattle.metrics_program.specs.declared.state.State.{State}
use Rattle.metrics_program.specs.declared.state.Count.{Count}

-- the workers are the four of the board, in order and at home; the registry scans the board and has its id; the
-- reader that settles is of the board; and each worker has a list of jobs
pub record IsReady (state : State) : Type 0 where
  pub workers : All (IsWorkerOf state.board.now) state.workers.items
  pub all : map index_of state.workers.items ≡ 0 ∷ 1 ∷ 2 ∷ 3 ∷ []
  pub scans : board_in state.registry.source ≡ state.board.now
  pub scraper : IsReaderOf state.board.now (reader_in state.registry.source)
  pub id : state.registry.id ≡ board_id state.board.now
  pub settler : IsReaderOf state.board.now state.settler
  pub lists : length (lists_in state.queue) ≡ 4

-- nothing yet: these workers of this board, no families, no children, and no jobs
pub record IsFresh (board : Board 4 64 8 16) (workers : List (Worker 4 64 8 16)) (state : State) : Type 0 where
  pub board_is : state.board.now ≡ board
  pub workers_are : state.workers.items ≡ workers
  pub journal : state.registry.journal ≡ []
  pub families : state.registry.state ≡ nothing
  pub window : state.registry.window ≡ 64
  pub children : state.queue.children.items ≡ []
  pub queue : lists_in state.queue ≡ replicate 4 []

-- nothing has changed but the registry
pub record IsBeside (old new : State) : Type 0 where
  pub board : new.board.now ≡ old.board.now
  pub workers : new.workers.items ≡ old.workers.items
  pub settler : new.settler ≡ old.settler
  pub children : new.queue.children.items ≡ old.queue.children.items
  pub queue : lists_in new.queue ≡ lists_in old.queue

-- nothing has changed
pub record IsSame (old new : State) : Type 0 where
  pub beside : IsBeside old new
  pub registry : new.registry ≡ old.registry

-- the registry has taken a family of this descriptor
pub record IsRegistered (desc : Descriptor) (old new : State) : Type 0 where
  pub beside : IsBeside old new
  pub registry : new.registry ≡ changed (Registered desc) old.registry

-- the registry has a family of this name, and it gave the child of these values, as they are written, whose handle is this
pub record IsFound (name values : List ℕ) (old new : State) (handle : Handle) : Type 0 where
  pub family : ℕ
  pub named : IsSomeAnd (slice_get old.registry.state.families family) (λ it. it.desc.name ≡ name)
  pub read : List (List ℕ)
  pub are_read : AreRead values read
  pub given : IsGiven 64 8 16 old.registry new.registry family read handle

-- the child that the registry gave has a number, or had none and gets the next
pub record IsNumbered (name values : List ℕ) (old new : State) : Type 0 where
  pub handle : Handle
  pub found : IsFound name values old new handle
  pub numbered : (HasOne old.queue.children.items handle × (new.queue.children.items ≡ old.queue.children.items))
      ⊎ ((¬ (HasOne old.queue.children.items handle)) × (new.queue.children.items ≡ old.queue.children.items ++ handle ∷ []))
  pub board : new.board.now ≡ old.board.now
  pub workers : new.workers.items ≡ old.workers.items
  pub settler : new.settler ≡ old.settler
  pub queue : lists_in new.queue ≡ lists_in old.queue

-- what a line counts, if there is such a child
abbrev pub job_in : List Handle → Count → Option JobOp
job_in children count = option_and_then (job_for count.what count.by) (slice_get children count.child)

-- a job waits, from this line, as often as it says
pub record IsQueued (old : State) (line : ℕ) (count : Count) (new : State) : Type 0 where
  pub what : JobOp
  pub counts : job_in old.queue.children.items count ≡ Some what
  pub queue : lists_in new.queue ≡ with_jobs count.worker (record { line = line; what = what }) count.times (lists_in old.queue)
  pub board : new.board.now ≡ old.board.now
  pub registry : new.registry ≡ old.registry
  pub workers : new.workers.items ≡ old.workers.items
  pub settler : new.settler ≡ old.settler
  pub children : new.queue.children.items ≡ old.queue.children.items

-- each worker did all jobs of its list, and no job waits
pub record IsGone (old new : State) : Type 0 where
  pub did : DidAll old.board.now (lists_in old.queue) old.workers.items new.workers.items
  pub emptied : lists_in new.queue ≡ replicate 4 []
  pub board : new.board.now ≡ old.board.now
  pub registry : new.registry ≡ old.registry
  pub settler : new.settler ≡ old.settler
  pub children : new.queue.children.items ≡ old.queue.children.items

-- the registry made a scrape of all its families, which it keeps, and this is its text
pub record IsScraped (old : State) (bytes : List ℕ) (new : State) : Type 0 where
  pub kept : KeepsScrape 4 64 8 16 recorded_in gave_in old.registry new.registry
  pub scrape : Scraped
  pub shown : IsShown 64 8 old.registry.state.families kept.answer scrape
  pub text_is : bytes ≡ shown_text scrape
  pub beside : IsBeside old new

-- how often each worker has published was found, worker by worker
pub record IsSettled (old new : State) : Type 0 where
  pub found : new.settled.vector ≡ map (λ w. length (lists_of w)) old.workers.items
  pub index : map index_of new.workers.items ≡ map index_of old.workers.items
  pub lists : map lists_of new.workers.items ≡ map lists_of old.workers.items
  pub board : new.board.now ≡ old.board.now
  pub registry : new.registry ≡ old.registry
  pub children : new.queue.children.items ≡ old.queue.children.items
  pub queue : lists_in new.queue ≡ lists_in old.queue

-- the registry keeps so many scrapes from now on, the newest, and so many are kept now
pub record IsWindowed (size kept : ℕ) (old new : State) : Type 0 where
  pub good : IsWindow size
  pub registry : new.registry ≡ record old.registry { window = size; journal = within size old.registry.journal }
  pub kept_is : kept ≡ length (scrapes new.registry.journal)
  pub beside : IsBeside old new

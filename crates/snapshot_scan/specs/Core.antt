-- A scan of running threads as the reads of the snapshot algorithm's core, snapshot_core: the numbers and the views that its
-- loads found.
use Rattle.std.specs.Prelude.{◌≡◌, ℕ, suc, ◌==◌, not, cond, false, Option, Some, None, List, [], ◌∷◌, ◌++◌, map, take, drop}
use Rattle.register_rule.specs.declared.view.Asked.{Asked}
use Rattle.register_rule.specs.declared.view.Answer.{Answer}
use Rattle.register_rule.specs.declared.view.ScanLog.{ScanLog}
use Rattle.snapshot_core.specs.declared.next.Next.{Next}
use Rattle.snapshot_core.specs.declared.next.Next.TheVariants.{Direct, Lent}
use Rattle.register_rule.specs.ScanSteps.{lent_in}
use Rattle.snapshot_core.specs.Tries.{View, Read, Try, reads_of}
use Rattle.snapshot_core.specs.Next.{Comes}
use Rattle.snapshot_scan.specs.Scanned.{Tried, all_opened, all_confirmed, all_before, all_asked}

-- a load of a number of the place i is a read that is not torn: a row that was overwritten while it was read is found by the
-- number alone. Loads of running threads have no event, and 0 stands for it
abbrev pub number_read : (i number : ℕ) → Read
number_read i number = record { place = i; at = 0; torn = false; number = number; view = None }

-- a collect of these numbers, from the place i on
abbrev pub collect_reads : (i : ℕ) → List ℕ → List Read
collect_reads i [] = []
collect_reads i (x ∷ xs) = number_read i x ∷ collect_reads (suc i) xs

-- the view that these words of a buffer lend, from the flag on: none where the flag is not 1
abbrev pub view_in : (n w : ℕ) → List ℕ → Option View
view_in n w [] = None
view_in n w (flag ∷ words) = cond (flag == 1) (Some (record { vector = take n words; totals = take w (drop n words) })) None

-- a worker that was asked: torn where its number was not found again
abbrev pub asked_read : (n w : ℕ) → Asked → Read
asked_read n w e = record {
  place = e.worker;
  at = 0;
  torn = not (e.number == e.again);
  number = e.number;
  view = view_in n w e.words;
}

-- a try as one of the core
abbrev pub core_try : (n w : ℕ) → Tried → Try
core_try n w t = record { first = collect_reads 0 t.first; second = collect_reads 0 t.second; asks = map (asked_read n w) t.asks }

-- all reads of these tries, in the order of the core
abbrev pub core_reads : (n w : ℕ) → List Tried → List Read
core_reads n w tries = reads_of (map (core_try n w) tries)

-- from c to c' a scan made these tries: their loads are all that it made
pub record AreLoadsOf (c c' : ScanLog) (tries : List Tried) : Type 0 where
  pub opened : c'.opened ≡ c.opened ++ all_opened tries
  pub confirmed : c'.confirmed ≡ c.confirmed ++ all_confirmed tries
  pub before : c'.before ≡ c.before ++ all_before c.opened tries
  pub asked : c'.asked ≡ c.asked ++ all_asked tries

-- and what the core says of such reads is that this comes next; `last` is the try in which the scan ended
pub record CameTo (n w : ℕ) (c c' : ScanLog) (next : Next) : Type 0 where
  pub before : List Tried
  pub last : Tried
  pub loads : AreLoadsOf c c' (before ++ last ∷ [])
  pub comes : Comes n (core_reads n w (before ++ last ∷ [])) next

-- the answer of a scan that ended so: the numbers that its last try opened, or the view that was lent to it last
abbrev pub EndsWith : (n w : ℕ) → Tried → Next → Answer → Type 0
EndsWith n w last Direct a = a.vector ≡ last.first
EndsWith n w last (Lent from) a = (asks : List Asked) × (e : Asked) × (last.asks ≡ asks ++ e ∷ []) × (e.worker ≡ from)
    × (a ≡ lent_in n w e.words)
EndsWith n w last _ a = ⊥

-- from c to c' a scan came to an end, direct or lent, with this answer
pub record AnswersBy (n w : ℕ) (c c' : ScanLog) (a : Answer) : Type 0 where
  pub next : Next
  pub came : CameTo n w c c' next
  pub ends : EndsWith n w came.last next a

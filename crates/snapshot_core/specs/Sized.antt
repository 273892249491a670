-- The bounds of a scan's fields.
use Rattle.std.specs.Prelude.{◌≡◌, ℕ, ◌+◌, ◌<◌, ◌≤◌, length}
use Rattle.snapshot_core.specs.declared.next.Next.{Next}
use Rattle.snapshot_core.specs.declared.next.Next.TheVariants.{First, Second, Ask, Direct, Lent, GaveUp}
use Rattle.snapshot_core.specs.declared.scan.Scan.{Scan}

-- the worker that comes next, where one does
abbrev pub place_next : Next → ℕ
place_next (First place) = place
place_next (Second place) = place
place_next (Ask place) = place
place_next Direct = 0
place_next (Lent from) = 0
place_next (GaveUp worker first last) = 0

-- 1 to 32 workers, 1 to n + 2 tries, a next worker that there is, and 32 places in each array that is written
pub record IsSized (s : Scan) : Type 0 where
  pub some : 1 ≤ s.n
  pub most : s.n ≤ 32
  pub begun : 1 ≤ s.tries
  pub few : s.tries ≤ s.n + 2
  pub inside : place_next s.next < s.n
  pub opened : length s.opened ≡ 32
  pub whole : length s.whole ≡ 32
  pub found : length s.found ≡ 32

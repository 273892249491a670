-- What each private step of a scan does to its fields.
use Rattle.std.specs.Prelude.{ℕ, zero, suc, ◌+◌, ◌-◌, ◌==◌, ◌||◌, not, nat_lt, nat_le, cond, Bool, true, false, Option, Some}
use Rattle.std.specs.Prelude.{None, List, map, slice_index, slice_index_or, slice_set, replicate}
use Rattle.snapshot_core.specs.declared.next.Next.{Next}
use Rattle.snapshot_core.specs.declared.next.Next.TheVariants.{First, Second, Ask, Direct, Lent, GaveUp}
use Rattle.snapshot_core.specs.declared.scan.Scan.{Scan}
use Rattle.ledger_core.specs.Vectors.{is_above}
use Rattle.snapshot_core.specs.Tries.{from_on}

-- a scan of n workers that has made no read
abbrev pub new_scan : ℕ → Scan
new_scan n = record {
  n = n;
  tries = 1;
  next = First 0;
  opened = replicate 32 0;
  whole = replicate 32 false;
  found = replicate 32 0;
  floor = replicate 32 0;
  base = replicate 32 0;
}

-- the place k failed: its first read was torn, or its two numbers differ
abbrev pub failed_at : (opened : List ℕ) (whole : List Bool) (found : List ℕ) → ℕ → Bool
failed_at opened whole found k = not (slice_index_or whole k false) || not (slice_index opened k == slice_index found k)

-- the least place that failed, of the m + 1 from k on; the last of them, where none of the others failed
abbrev pub least_failed_of : (opened : List ℕ) (whole : List Bool) (found : List ℕ) (k m : ℕ) → ℕ
least_failed_of opened whole found k zero = k
least_failed_of opened whole found k (suc m) = cond (failed_at opened whole found k) k
    (least_failed_of opened whole found (suc k) m)

-- the least place that failed, where one did
abbrev pub least_of : Scan → ℕ
least_of s = least_failed_of s.opened s.whole s.found 0 (s.n - 1)

-- worker k is to be asked: its number is 2 or more above the base
abbrev pub is_to_ask : (base found : List ℕ) → ℕ → Bool
is_to_ask base found k = nat_le (slice_index base k + 2) (slice_index found k)

-- the least place that is to be asked, of m from k on
abbrev pub next_asked_of : (base found : List ℕ) (k m : ℕ) → Option ℕ
next_asked_of base found k zero = None
next_asked_of base found k (suc m) = cond (is_to_ask base found k) (Some k) (next_asked_of base found (suc k) m)

-- a vector that a scan may be lent: it is not below the floor
abbrev pub lends_to : Scan → List ℕ → Bool
lends_to s vector = is_above (map (slice_index s.floor) (from_on 0 s.n)) vector

-- the scan is given up, and this worker is named with its two numbers
abbrev pub given_up : Scan → ℕ → Scan
given_up s worker = record s { next = GaveUp worker (slice_index s.opened worker) (slice_index s.found worker) }

-- the scan after a try that failed: the next try, if there is one more
abbrev pub failed_of : Scan → Scan
failed_of s = cond (nat_lt s.tries (s.n + 2))
    (record s { tries = s.tries + 1; next = First 0 })
    (given_up s (least_of s))

-- the scan with the next worker to be asked, and without one the try has failed
abbrev pub asks_or_fails : Scan → Option ℕ → Scan
asks_or_fails s (Some place) = record s { next = Ask place }
asks_or_fails s None = failed_of s

-- the scan after all workers before k were asked, of those to be asked
abbrev pub asked_from : ℕ → Scan → Scan
asked_from k s = asks_or_fails s (next_asked_of s.base s.found k (s.n - k))

-- the first try's numbers are kept
abbrev pub based : Scan → Scan
based s = cond (s.tries == 1) (record s { floor = s.opened; base = s.found }) s

-- the scan after its second collect: workers are asked where a place failed, and else it ends directly
abbrev pub asks_or_ends : Bool → Scan → Scan
asks_or_ends true s = asked_from 0 s
asks_or_ends false s = record s { next = Direct }

-- the scan after its second collect
abbrev pub collected : Scan → Scan
collected s = asks_or_ends (failed_at s.opened s.whole s.found (least_of s)) (based s)

-- the scan after a read of the first collect at this place
abbrev pub first_at : ℕ → Bool → Scan → ℕ → Scan
first_at number whole s place = record s {
  opened = slice_set s.opened place number;
  whole = slice_set s.whole place whole;
  next = cond (nat_lt (place + 1) s.n) (First (place + 1)) (Second 0);
}

-- the scan after a read of the second collect at this place
abbrev pub second_at : ℕ → Scan → ℕ → Scan
second_at number s place = cond (nat_lt (place + 1) s.n)
    (record s { found = slice_set s.found place number; next = Second (place + 1) })
    (collected (record s { found = slice_set s.found place number }))

-- the scan after a read of the worker that is asked, which lends this vector, if it lends one
abbrev pub asked_at : Option (List ℕ) → Scan → ℕ → Scan
asked_at None s place = asked_from (place + 1) s
asked_at (Some vector) s place = cond (lends_to s vector) (record s { next = Lent place }) (asked_from (place + 1) s)

-- the same, where a read of the first collect comes next; else nothing changes
abbrev pub first_by : ℕ → Bool → Scan → Next → Scan
first_by number whole s (First place) = first_at number whole s place
first_by number whole s _ = s

-- the same, where a read of the second collect comes next; else nothing changes
abbrev pub second_by : ℕ → Scan → Next → Scan
second_by number s (Second place) = second_at number s place
second_by number s _ = s

-- the same, where a read of an asked worker comes next; else nothing changes
abbrev pub asked_by : Option (List ℕ) → Scan → Next → Scan
asked_by vector s (Ask place) = asked_at vector s place
asked_by vector s _ = s

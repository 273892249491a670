-- What comes next in a scan that has made some reads.
use Rattle.std.specs.Prelude.{◌≡◌, ℕ, ◌+◌, ◌<◌, ◌==◌, ◌&&◌, not, true, false, Option, List, [], ◌∷◌, ◌++◌, map, length}
use mathlib.Core.Option.{some}
use lib.ListN.{get_elem?}
use Rattle.snapshot_core.specs.declared.next.Next.{Next}
use Rattle.snapshot_core.specs.declared.next.Next.TheVariants.{First, Second, Ask, Direct, Lent, GaveUp}
use Rattle.snapshot_core.specs.Tries.{View, Read, Try, place_of, from_on, reads_of, TwoCollects, is_clean, to_ask, none_lends}
use Rattle.snapshot_core.specs.Tries.{Failed, AllFailed, EndsDirectly, EndsLent, floor_of, base_of}

-- the place k of a try failed: its first read was torn, or its two reads met different numbers
pub record FailedAt (t : Try) (k first last : ℕ) : Type 0 where
  pub one : Read
  pub two : Read
  pub is_one : get_elem? t.first k ≡ some one
  pub is_two : get_elem? t.second k ≡ some two
  pub numbers : (one.number ≡ first) × (two.number ≡ last)
  pub fails : (not one.torn && one.number == two.number) ≡ false

-- the place k of a try did not fail
pub record HeldAt (t : Try) (k : ℕ) : Type 0 where
  pub one : Read
  pub two : Read
  pub is_one : get_elem? t.first k ≡ some one
  pub is_two : get_elem? t.second k ≡ some two
  pub holds : (not one.torn && one.number == two.number) ≡ true

-- with these tries before, all failed, and this one in progress or last, this comes next
abbrev pub Follows : (n : ℕ) → List Try → Try → Next → Type 0
Follows n before t (First place) = (place < n) × (map place_of t.first ≡ from_on 0 place) × (t.second ≡ []) × (t.asks ≡ [])
Follows n before t (Second place) = (place < n) × (map place_of t.first ≡ from_on 0 n) × (map place_of t.second ≡ from_on 0 place)
    × (t.asks ≡ [])
Follows n before t (Ask place) = (place < n) × TwoCollects n t × (is_clean t ≡ false)
    × (none_lends (floor_of before t) t.asks ≡ true)
    × ((later : List ℕ) × (map place_of t.asks ++ place ∷ later ≡ to_ask (base_of before t) t.second))
Follows n before t Direct = EndsDirectly n t
Follows n before t (Lent from) = (from < n)
    × ((view : Option View) × EndsLent n (floor_of before t) (base_of before t) from view t)
Follows n before t (GaveUp worker first last) = Failed n (floor_of before t) (base_of before t) t × (length before ≡ n + 1)
    × FailedAt t worker first last
    × ((k : ℕ) → k < worker → HeldAt t k)

-- the reads of a scan of n workers so far: this comes next
pub record Comes (n : ℕ) (reads : List Read) (next : Next) : Type 0 where
  pub before : List Try
  pub now : Try
  pub all : reads ≡ reads_of (before ++ now ∷ [])
  -- at most n + 2 tries
  pub few : length before < n + 2
  pub failed : AllFailed n (floor_of before now) (base_of before now) before
  pub follows : Follows n before now next

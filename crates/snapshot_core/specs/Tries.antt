-- A scan as its reads: tries of two collects and of workers asked. Afek, Attiya, Dolev, Gafni, Merritt and Shavit, "Atomic
-- Snapshots of Shared Memory", J. ACM 40(4), 1993, section 3; who is asked, who lends and how many tries there are, are
-- this project's own.
use Rattle.std.specs.Prelude.{◌≡◌, ℕ, zero, suc, ◌+◌, ◌==◌, ◌&&◌, not, nat_le, cond, Bool, true, false, Option, Some, None, List}
use Rattle.std.specs.Prelude.{[], ◌∷◌, ◌++◌, map, slice_index}
use Rattle.ledger_core.specs.Vectors.{is_above}

-- a vector, one number for each worker, and the totals of all rows at this vector
pub record View : Type 0 where
  pub vector : List ℕ
  pub totals : List ℕ

-- one read of a segment, at an event, with what it meets there: the worker's number, and the view that its version lends.
-- A torn read meets the number alone
pub record Read : Type 0 where
  pub place : ℕ
  pub at : ℕ
  pub torn : Bool
  pub number : ℕ
  pub view : Option View

-- a try: a first and a second collect, and a read of each worker that is asked
pub record Try : Type 0 where
  pub first : List Read
  pub second : List Read
  pub asks : List Read

-- the worker whose segment was read
abbrev pub place_of : Read → ℕ
place_of r = r.place

-- the number that was met
abbrev pub number_met : Read → ℕ
number_met r = r.number

-- k, k + 1, .. , m of them
abbrev pub from_on : (k m : ℕ) → List ℕ
from_on k zero = []
from_on k (suc m) = k ∷ from_on (suc k) m

-- the reads of some tries, in order
abbrev pub reads_of : List Try → List Read
reads_of [] = []
reads_of (t ∷ ts) = t.first ++ t.second ++ t.asks ++ reads_of ts

-- both collects go over all n workers in rising order
pub record TwoCollects (n : ℕ) (t : Try) : Type 0 where
  pub first : map place_of t.first ≡ from_on 0 n
  pub second : map place_of t.second ≡ from_on 0 n

-- no read is torn
abbrev pub is_whole : List Read → Bool
is_whole [] = true
is_whole (r ∷ rs) = not r.torn && is_whole rs

-- both lists are the same numbers
abbrev pub same_numbers : List ℕ → List ℕ → Bool
same_numbers [] [] = true
same_numbers (x ∷ xs) (y ∷ ys) = (x == y) && same_numbers xs ys
same_numbers _ _ = false

-- a try is clean: its first collect is read whole, and each worker's two reads meet one number
abbrev pub is_clean : Try → Bool
is_clean t = is_whole t.first && same_numbers (map number_met t.first) (map number_met t.second)

-- the workers to be asked: those whose number in the second collect is 2 or more above the base
abbrev pub to_ask : (base : List ℕ) → List Read → List ℕ
to_ask base [] = []
to_ask base (r ∷ rs) = cond (nat_le (slice_index base r.place + 2) r.number) (r.place ∷ to_ask base rs) (to_ask base rs)

-- there is a view, and it is not below the floor
abbrev pub lends_view : (floor : List ℕ) → Option View → Bool
lends_view floor None = false
lends_view floor (Some v) = is_above floor v.vector

-- an asked worker lends: it is read whole, and its version has a view that is not below the floor
abbrev pub lends : (floor : List ℕ) → Read → Bool
lends floor r = not r.torn && lends_view floor r.view

-- none of these asked workers lends
abbrev pub none_lends : (floor : List ℕ) → List Read → Bool
none_lends floor [] = true
none_lends floor (r ∷ rs) = not (lends floor r) && none_lends floor rs

-- a try that failed: it is not clean, all were asked who are to be asked, and nobody lent
pub record Failed (n : ℕ) (floor base : List ℕ) (t : Try) : Type 0 where
  pub collects : TwoCollects n t
  pub unclean : is_clean t ≡ false
  pub asked : map place_of t.asks ≡ to_ask base t.second
  pub none : none_lends floor t.asks ≡ true

-- each of these tries failed
abbrev pub AllFailed : (n : ℕ) (floor base : List ℕ) → List Try → Type 0
AllFailed n floor base [] = Unit {0}
AllFailed n floor base (t ∷ ts) = Failed n floor base t × AllFailed n floor base ts

-- a try that ends a scan directly
pub record EndsDirectly (n : ℕ) (t : Try) : Type 0 where
  pub collects : TwoCollects n t
  pub is_clean : is_clean t ≡ true
  pub none_asked : t.asks ≡ []

-- a try that ends a scan with the view of the worker `from`: it is the first that is asked and lends
pub record EndsLent (n : ℕ) (floor base : List ℕ) (from : ℕ) (view : Option View) (t : Try) : Type 0 where
  pub collects : TwoCollects n t
  pub unclean : is_clean t ≡ false
  pub before : List Read
  pub last : Read
  pub later : List ℕ
  pub asks : t.asks ≡ before ++ last ∷ []
  pub asked : map place_of t.asks ++ later ≡ to_ask base t.second
  pub none : none_lends floor before ≡ true
  pub lends : lends floor last ≡ true
  pub from_is : last.place ≡ from
  pub view_is : last.view ≡ view

-- the first try of a scan that made these tries and then this one
abbrev pub first_try : List Try → Try → Try
first_try [] last = last
first_try (t ∷ ts) last = t

-- the floor of a scan: the numbers that its first try met in the first collect
abbrev pub floor_of : List Try → Try → List ℕ
floor_of before last = map number_met (first_try before last).first

-- the base of a scan: the numbers that its first try met in the second collect
abbrev pub base_of : List Try → Try → List ℕ
base_of before last = map number_met (first_try before last).second

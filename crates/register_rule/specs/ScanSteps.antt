-- What each load of a scan does to what its member knows. n workers, rows of w words. Each is a function of every
-- scan, with its tests inside, so that a load out of its turn does no harm to the rule.
use Rattle.std.specs.Prelude.{ℕ, zero, suc, ◌+◌, ◌==◌, ◌&&◌, ◌||◌, not, max, nat_le, Bool, true, false, cond, List, [], ◌∷◌, ◌++◌}
use Rattle.std.specs.Prelude.{map, length, take, drop, slice_index, slice_set}
use Rattle.ledger_core.specs.Vectors.{is_above}
use Rattle.register_rule.specs.declared.view.Look.{Look}
use Rattle.register_rule.specs.declared.view.Version.{Version}
use Rattle.register_rule.specs.declared.view.Answer.{Answer}
use Rattle.register_rule.specs.declared.view.Asked.{Asked}
use Rattle.register_rule.specs.declared.view.ScanInProgress.{ScanInProgress}
use Rattle.register_rule.specs.declared.view.ScanLog.{ScanLog}
use Rattle.register_rule.specs.declared.load.Load.{Load}
use Rattle.register_rule.specs.declared.load.Load.TheVariants.{Open, Read, Confirm, Ask, EndAsk}
use Rattle.register_rule.specs.History.{tab}
use Rattle.register_rule.specs.SoundScans.{opened_at}

-- each of them passes the test
abbrev pub every : {A : Type 0} → (A → Bool) → List A → Bool
every p [] = true
every p (x ∷ xs) = p x && every p xs

-- the greater number at each place
abbrev pub upper : (u v : List ℕ) → List ℕ
upper [] v = v
upper (x ∷ u) [] = x ∷ u
upper (x ∷ u) (y ∷ v) = max x y ∷ upper u v

-- no scan is in progress
abbrev pub at_rest : ScanInProgress
at_rest = record { failed = 0; floor = []; base = []; looks = []; due = []; asks = [] }

-- a scan ends with an answer, which is recorded
abbrev pub answered : Answer → ScanLog → ScanLog
answered a c = record c { recorded = c.recorded ++ a ∷ []; seen = upper c.seen a.vector; trying = at_rest }

-- a scan whose try n + 2 has failed, and that has nobody to ask, is given up; any other one goes on as it is
abbrev pub given_up_if_spent : (n : ℕ) → ScanLog → ScanLog
given_up_if_spent n c = cond (length c.trying.due == 0 && c.trying.failed == n + 2)
    (record c { quit = c.quit + 1; trying = at_rest }) c

-- **The opening load** of the place i found the number s. It opens the next place of a try in which nothing is
-- confirmed yet, where nobody is still to be asked. The words of a row that is remembered need not be read again.

-- the words that are remembered of the place i, if they are those of the version s
abbrev pub remembered_words : (i s : ℕ) → List Version → List ℕ
remembered_words i s [] = []
remembered_words zero s (v ∷ vs) = cond (v.number == s) v.row []
remembered_words (suc i) s (v ∷ vs) = remembered_words i s vs

-- the look at the place i: it is opened at the number s, and these words of that version are known
abbrev pub begun : (i s : ℕ) → List ℕ → Look
begun i s words = record { place = i; number = s; words = words; sure = false; found = 0 }

-- the number of the look was not found again
abbrev pub unsure : Look → Bool
unsure l = not l.sure

-- the place i is the next one that the try opens
abbrev pub opens_next : ℕ → ScanInProgress → Bool
opens_next i t = i == length t.looks && (length t.due == 0 && every unsure t.looks)

-- a scan after the opening load of the place i
abbrev pub after_open : (i s : ℕ) → ScanLog → ScanLog
after_open i s c = record c {
  opened = c.opened ++ (i, s) ∷ [];
  trying = cond (opens_next i c.trying) (record c.trying {
    looks = c.trying.looks ++ begun i s
        (remembered_words i s c.remembered) ∷ [];
  }) c.trying;
}

-- **The load of a word** of the version s of the place i found x at the item k. A look takes its words one by one;
-- those of a worker that is asked begin at the flag.

-- the look with this word, if it is the next one of its version
abbrev pub noted : (from i s k x : ℕ) → Look → Look
noted from i s k x l = cond (l.place == i && l.number == s && not l.sure && k == from + length l.words)
    (record l { words = l.words ++ x ∷ [] }) l

-- a scan after the load of a word, which a try or an asked worker may take
abbrev pub after_read : (w i s k x : ℕ) → ScanLog → ScanLog
after_read w i s k x c =
    record c {
      trying = record c.trying {
        looks = map (noted 0 i s k x) c.trying.looks;
        asks = map
            (noted w i s k x) c.trying.asks;
      };
    }

-- **The confirming load** of the place i found the number s. A place whose number is found again is sure, and its row
-- is remembered. That of the last place ends the try.

-- the look with what its confirming load found
abbrev pub confirmed_look : (i s : ℕ) → Look → Look
confirmed_look i s l = cond (l.place == i) (record l { sure = l.sure || l.number == s; found = s }) l

-- the remembered rows, in which a sure row of the place i, if it was read whole, takes the old one's place
abbrev pub remembered_then : (w i : ℕ) → List Look → List Version → List Version
remembered_then w i [] remembered = remembered
remembered_then w i (l ∷ ls) remembered = cond (l.place == i && l.sure && length l.words == w)
    (slice_set remembered i (record { number = l.number; row = l.words })) (remembered_then w i ls remembered)

-- a scan after the confirming load of the place i, before that ends a try
abbrev pub confirmed_at : (w i s : ℕ) → ScanLog → ScanLog
confirmed_at w i s c = record c {
  confirmed = c.confirmed ++ (i, s) ∷ [];
  before = c.before ++ length c.opened ∷ [];
  remembered = remembered_then w i (map (confirmed_look i s) c.trying.looks) c.remembered;
  trying = record c.trying { looks = map (confirmed_look i s) c.trying.looks };
}

-- a place is clean where its row of w words is read and its number was found again
abbrev pub clean : (w : ℕ) → Look → Bool
clean w l = l.sure && length l.words == w

-- a try is clean where all n places are
abbrev pub are_clean : (n w : ℕ) → List Look → Bool
are_clean n w looks = length looks == n && every (clean w) looks

-- the word k of the rows of a try, added up
abbrev pub sum_words : ℕ → List Look → ℕ
sum_words k [] = 0
sum_words k (l ∷ ls) = slice_index l.words k + sum_words k ls

-- the answer of a clean try: the numbers, and the sums of the rows
abbrev pub answer_of_try : (w : ℕ) → List Look → Answer
answer_of_try w looks = record { vector = map opened_at looks; totals = tab 0 w (λ k. sum_words k looks) }

-- the number that the confirming load of the look found
abbrev pub found_of : Look → ℕ
found_of l = l.found

-- the places whose number is 2 or more above the base
abbrev pub due_of : (base : List ℕ) → List Look → List ℕ
due_of [] looks = []
due_of (x ∷ base) [] = []
due_of (x ∷ base) (l ∷ looks) = cond (nat_le (x + 2) l.found) (l.place ∷ due_of base looks) (due_of base looks)

-- the first try that fails gives the floor and the base of the scan
abbrev pub with_base : ScanInProgress → ScanInProgress
with_base t = cond (t.failed == 0) (record t { floor = map opened_at t.looks; base = map found_of t.looks }) t

-- one try more has failed, and who is to be asked is known
abbrev pub failed_once_more : ScanInProgress → ScanInProgress
failed_once_more t = record t { failed = t.failed + 1; looks = []; due = due_of t.base t.looks }

-- the end of a try: a clean one gives the answer, and any other one has failed
abbrev pub ended : (n w : ℕ) → ScanLog → ScanLog
ended n w c = cond (are_clean n w c.trying.looks) (answered (answer_of_try w c.trying.looks) c)
    (given_up_if_spent n (record c { trying = failed_once_more (with_base c.trying) }))

-- a scan after the confirming load of the place i, of n
abbrev pub after_confirm : (n w i s : ℕ) → ScanLog → ScanLog
after_confirm n w i s c = cond (i + 1 == n) (ended n w (confirmed_at w i s c)) (confirmed_at w i s c)

-- **The opening load of a worker that is asked**, the first of those to be asked, found the number s

-- worker i is the first of these
abbrev pub is_next : ℕ → List ℕ → Bool
is_next i [] = false
is_next i (x ∷ xs) = i == x

-- a scan after the opening load of worker i, which is asked
abbrev pub after_ask : (i s : ℕ) → ScanLog → ScanLog
after_ask i s c = record c { trying = cond (is_next i c.trying.due) (record c.trying { asks = begun i s [] ∷ [] }) c.trying }

-- the view in the words that were read, which begin with the flag
abbrev pub lent_in : (n w : ℕ) → List ℕ → Answer
lent_in n w words = record { vector = take n (drop 1 words); totals = take w (drop (1 + n) words) }

-- **The confirming load of the worker that is asked** found the number s. It lends where its number is found again,
-- its flag is 1, all its words are read, and its vector is below the floor nowhere. If it does not, the next one is
-- asked, and after the last one the next try begins.

-- the worker that was asked lends
abbrev pub is_lender : (n w s : ℕ) → (floor : List ℕ) → Look → Bool
is_lender n w s floor l = l.number == s && length l.words == 1 + n + w && slice_index l.words 0 == 1 && is_above floor
    (take n (drop 1 l.words))

-- the worker that was asked, as it is recorded
abbrev pub asked_of : (s : ℕ) → Look → Asked
asked_of s l = record { worker = l.place; number = l.number; words = l.words; again = s }

-- all but the first of these
abbrev pub rest : List ℕ → List ℕ
rest [] = []
rest (x ∷ xs) = xs

-- the end of asking a worker: it lends, and the scan has its view as the answer; or it is passed over, and the next one is asked
abbrev pub lent_or_passed : (n w s : ℕ) → Look → ScanLog → ScanLog
lent_or_passed n w s l c = cond (is_lender n w s c.trying.floor l)
    (answered (lent_in n w l.words) (record c { asked = c.asked ++ asked_of s l ∷ [] }))
    (given_up_if_spent n (record c {
      asked = c.asked ++ asked_of s l ∷ [];
      trying = record c.trying {
        due = rest c.trying.due;
        asks = [];
      };
    }))

-- the end of asking worker i, if it is the one that is being asked; else nothing
abbrev pub lent_or_passed_at : (n w i s : ℕ) → List Look → ScanLog → ScanLog
lent_or_passed_at n w i s [] c = c
lent_or_passed_at n w i s (l ∷ ls) c = cond (l.place == i) (lent_or_passed n w s l c) c

-- a scan after the confirming load of worker i, which is asked
abbrev pub after_end_ask : (n w i s : ℕ) → ScanLog → ScanLog
after_end_ask n w i s c = lent_or_passed_at n w i s c.trying.asks c

-- a load of a scan found the word x
abbrev pub after : (n w : ℕ) → Load → (x : ℕ) → ScanLog → ScanLog
after n w (Open place) x = after_open place x
after n w (Read place number item) x = after_read w place number item x
after n w (Confirm place) x = after_confirm n w place x
after n w (Ask place) x = after_ask place x
after n w (EndAsk place) x = after_end_ask n w place x

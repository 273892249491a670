-- The words that operations add to are listed.
use Rattle.std.proofs.Common.{◌≡◌, ◌≢◌, ⊎_elim, ℕ, ◌+◌, ◌*◌, ◌<◌, ◌≤◌, false, cond, List, [], length, get_or, take, inl, inr, sym}
use Rattle.std.proofs.Common.{ap, ◌∙◌, subst, arith}
use Rattle.std.specs.List.{Contains}
use Rattle.std.proofs.lemmas.List.Sums.{sum_by_more}
use Rattle.std.proofs.lemmas.Bool.{ne_eqb, cases_eq}
use Rattle.std.proofs.lemmas.Nat.Bits.{bit_at-zero}
use Rattle.std.specs.Int.{bit_at}
use Rattle.ledger_core.specs.declared.op.Op.{Op}
use Rattle.ledger_core.specs.Ops.{only, part, sum_ops}
use Rattle.snapshot_scan.specs.ChangedItems.{ChangedView, Notes}
use Rattle.snapshot_update.specs.Noting.{Touches}
use Rattle.snapshot_update.specs.declared.run.Run.{Run}
use Rattle.snapshot_update.specs.Noting.{AreListed, IsRun}

only_other : (word by k : ℕ) → k ≢ word → only word by k ≡ 0
only_other word by k ne = ap (λ t. cond t by 0) (ne_eqb k word ne)

-- one word that rises
pub touches_one : (w word by : ℕ) (old new : ChangedView) → word < w → Notes word old new → Touches 1 w (only word by) old new
touches_one w word by old new lt is = record {
  listed = is.listed;
  keeps = is.keeps;
  rises = λ h k other. only_other word by k (λ e. other (subst (Contains new.items) (sym e) (is.notes h)));
  inside = λ j h. ⊎_elim (λ was. inl was) (λ e. inr (omega (arith, e, lt))) (is.others j h);
  longer = is.longer;
  fits = λ h few. is.fits h (omega arith);
}

-- first these words, then those
pub touches_then : (m n w : ℕ) (f g : ℕ → ℕ) (a b c : ChangedView) → Touches m w f a b → Touches n w g b c
    → Touches (m + n) w (λ k. f k + g k) a c
touches_then m n w f g a b c first second = record {
  listed = λ h. first.listed (second.listed h);
  keeps = λ h j was. second.keeps h j (first.keeps (second.listed h) j was);
  rises = λ h k other.
      let x = first.rises (second.listed h) k (λ was. other (second.keeps h k was)) in
      let y = second.rises h k other in
      omega arith;
  inside = λ j h. ⊎_elim (λ was. first.inside j was) (λ lt. inr lt) (second.inside j h);
  longer = let x = first.longer in let y = second.longer in omega arith;
  fits = λ h few. let x = first.longer in second.fits (first.fits h (omega arith)) (omega arith);
}

-- fewer than may be listed
pub touches_few : (m n w : ℕ) (f : ℕ → ℕ) (a b : ChangedView) → m ≤ n → Touches m w f a b → Touches n w f a b
touches_few m n w f a b le is = record {
  listed = is.listed;
  keeps = is.keeps;
  rises = is.rises;
  inside = is.inside;
  longer = let x = is.longer in omega arith;
  fits = λ h few. is.fits h (omega arith);
}

-- what rises at the same words
pub touches_same : (n w : ℕ) (f g : ℕ → ℕ) (a b : ChangedView) → ((k : ℕ) → f k ≡ 0 → g k ≡ 0) → Touches n w f a b
    → Touches n w g a b
touches_same n w f g a b same is = record {
  listed = is.listed;
  keeps = is.keeps;
  rises = λ h k other. same k (is.rises h k other);
  inside = is.inside;
  longer = is.longer;
  fits = is.fits;
}

-- nothing is noted: where not all count as changed, the words that rise are listed already
pub touches_none : (n w : ℕ) (by : ℕ → ℕ) (c : ChangedView) → (c.all ≡ false → (k : ℕ) → ¬ (Contains c.items k) → by k ≡ 0)
    → Touches n w by c c
touches_none n w by c rises = record {
  listed = λ h. h;
  keeps = λ _ j h. h;
  rises = rises;
  inside = λ j h. inl h;
  longer = omega arith;
  fits = λ h _. h;
}

-- one word that rises and is listed already
pub touches_again : (w word by : ℕ) (c : ChangedView) → (c.all ≡ false → Contains c.items word) → Touches 1 w (only word by) c c
touches_again w word by c there = touches_none 1 w (only word by) c
    (λ h k other. only_other word by k (λ e. other (subst (Contains c.items) (sym e) (there h))))

-- two words that rise, listed one after the other
pub touches_two : (w a b x y : ℕ) (old one new : ChangedView) → a < w → b < w → Notes a old one → Notes b one new
    → Touches 2 w (λ k. only a x k + only b y k) old new
touches_two w a b x y old one new la lb na nb =
    touches_then 1 1 w (only a x) (only b y) old one new (touches_one w a x old one la na) (touches_one w b y one new lb nb)

-- an observation raises the sum and the count, and then the bucket
pub touches_three : (w a b c x y z : ℕ) (old mid new : ChangedView) → Touches 2 w (λ k. only b y k + only c z k) old mid
    → Touches 1 w (only a x) mid new
    → Touches 3 w (λ k. only a x k + only b y k + only c z k) old new
touches_three w a b c x y z old mid new first second =
    touches_same 3 w (λ k. (only b y k + only c z k) + only a x k) (λ k. only a x k + only b y k + only c z k) old new
    (λ k e. omega (arith, e))
    (touches_then 2 1 w (λ k. only b y k + only c z k) (only a x) old mid new first second)

-- the words of a run stay listed
pub listed_still : (first seen : ℕ) (old new : List ℕ) → ((j : ℕ) → Contains old j → Contains new j) → AreListed first seen old
    → AreListed first seen new
listed_still first seen old new keeps are = record {
  sum = keeps (first + 25) are.sum;
  count = keeps (first + 26) are.count;
  buckets = λ p set. keeps (first + p) (are.buckets p set);
}

pub run_still : (c h : ℕ) (run : Run) (old new : ChangedView) → (new.all ≡ false → old.all ≡ false)
    → (new.all ≡ false → (j : ℕ) → Contains old.items j → Contains new.items j) → IsRun c h run old → IsRun c h run new
run_still c h run old new listed keeps is = λ lt few. listed_still (c + 27 * run.hist) run.seen old.items new.items (keeps few)
    (is lt (listed few))

-- a run begins with no bucket
pub run_begins : (c h hist : ℕ) (run : Run) (old one new : ChangedView) → run.hist ≡ hist → run.seen ≡ 0
    → Notes (c + 27 * hist + 25) old one → Notes (c + 27 * hist + 26) one new → IsRun c h run new
run_begins c h hist run old one new here none na nb = λ lt few.
    let at : c + 27 * run.hist ≡ c + 27 * hist = ap (λ (k : ℕ). c + 27 * k) here in record {
      sum = subst (λ (f : ℕ). Contains new.items (f + 25)) (sym at)
          (nb.keeps few (c + 27 * hist + 25) (na.notes (nb.listed few)));
      count = subst (λ (f : ℕ). Contains new.items (f + 26)) (sym at) (nb.notes few);
      buckets = λ p set. let z = sym (ap (λ (s : ℕ). bit_at s p) none) ∙ set in let zero = bit_at-zero p in
          absurd (omega (arith, z, zero));
    }

-- one bucket more
pub run_more : (c h place : ℕ) (run run' : Run) (old new : ChangedView) → run'.hist ≡ run.hist
    → ((k : ℕ) → k ≢ place → bit_at run'.seen k ≡ bit_at run.seen k) → Notes (c + 27 * run.hist + place) old new
    → IsRun c h run old → IsRun c h run' new
run_more c h place run run' old new same others notes is = λ lt few.
    let at : c + 27 * run'.hist ≡ c + 27 * run.hist = ap (λ (k : ℕ). c + 27 * k) same in
    let are = is (omega (arith, lt, same)) (notes.listed few) in record {
      sum = subst (λ (f : ℕ). Contains new.items (f + 25)) (sym at) (notes.keeps few (c + 27 * run.hist + 25) are.sum);
      count = subst (λ (f : ℕ). Contains new.items (f + 26)) (sym at) (notes.keeps few (c + 27 * run.hist + 26) are.count);
      buckets = λ p set. subst (λ (f : ℕ). Contains new.items (f + p)) (sym at) (elim (cases_eq p place) [
        | inl here ↦ subst (λ (q : ℕ). Contains new.items (c + 27 * run.hist + q)) (sym here) (notes.notes few)
        | inr apart ↦ notes.keeps few (c + 27 * run.hist + p) (are.buckets p (sym (others p apart) ∙ set))
      ]);
    }

-- nothing is listed
abbrev pub none : ChangedView
none = record { all = false; items = [] }

-- one operation more
pub touches_more : (c h w : ℕ) (now new : ChangedView) (ops : List Op) (i : ℕ) (d : Op) → i < length ops
    → Touches (3 * i) w (sum_ops c h (take i ops)) none now → Touches 3 w (part c h (get_or ops i d)) now new
    → Touches (3 * (i + 1)) w (sum_ops c h (take (i + 1) ops)) none new
touches_more c h w now new ops i d lt so_far step =
    let all = touches_then (3 * i) 3 w (sum_ops c h (take i ops)) (part c h (get_or ops i d)) none now new so_far step in record {
      listed = all.listed;
      keeps = all.keeps;
      rises = λ h' k other. let s = sum_by_more (λ op. part c h op k) ops i d lt in let e = all.rises h' k other in omega arith;
      inside = all.inside;
      longer = let x = all.longer in omega arith;
      fits = λ h' few. all.fits h' (omega arith);
    }

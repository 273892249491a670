-- The jobs that the entries of a queue make.
use Rattle.std.proofs.Common.{◌≡◌, ℕ, zero, suc, ◌<◌, List, [], ◌∷◌, ◌++◌, All, length, map, replicate, refl, sym, ap, ◌∙◌, subst}
use Rattle.std.proofs.Common.{get_or}
use Rattle.std.specs.Prelude.{Option, Some, None, is_some, option_map, slice_get, true}
use Rattle.std.specs.List.{cons_option, filter_map}
use Rattle.std.proofs.lemmas.List.{get_or-map}
use Rattle.std.proofs.lemmas.List.Elements.{All-get_or, All-head, All-tail, filter_map-append}
use Rattle.std.proofs.lemmas.Option.{none-some, same_Some, slice_get_read}
use Rattle.std.specs.declared.vec.Vec.{Vec}
use Rattle.std.specs.declared.alloc.Global.{Global}
use Rattle.registry_state.specs.declared.handle.Handle.{Handle}
use Rattle.worker_pool.specs.declared.job.Job.{Job}
use Rattle.snapshot_update.specs.declared.job_op.JobOp.{JobOp}
use Rattle.metrics_program.specs.QueuedJobs.{on_line, job_with, job_of, Fits, ListFits, jobs_of}
use Rattle.metrics_program.specs.declared.queued_job.QueuedJob.{QueuedJob}

-- what is there
pub value_of : {X : Type 0} (o : Option X) → is_some o ≡ true → (x : X) × (o ≡ Some x)
value_of None is = absurd (cc)
value_of (Some x) is = (x, refl)

module _ {X Y : Type 0} (f : X → Option Y) where
  -- each of the list makes one
  abbrev pub EachMakes : List X → Type 0
  EachMakes xs = All (λ (x : X). is_some (f x) ≡ true) xs

  makes_first : (x : X) (xs : List X) (y : Y) → f x ≡ Some y → filter_map f (x ∷ xs) ≡ y ∷ filter_map f xs
  makes_first x xs y is = ap (λ (o : Option Y). cons_option o (filter_map f xs)) is

  -- so there are as many
  pub as_many : (xs : List X) → EachMakes xs → length (filter_map f xs) ≡ length xs
  as_many [] all = refl
  as_many (x ∷ xs) all =
      let P : X → Type 0 = λ it. is_some (f it) ≡ true in
      let first = value_of (f x) (All-head P x xs all) in
      ap length (makes_first x xs first.0 first.1) ∙ ap suc (as_many xs (All-tail P x xs all))

  -- and each stands at its place
  pub made_at : (xs : List X) → EachMakes xs → (k : ℕ) (x : X) (y : Y) → slice_get xs k ≡ Some x → f x ≡ Some y
      → slice_get (filter_map f xs) k ≡ Some y
  made_at [] all k x y at is = absurd (none-some x at)
  made_at (z ∷ zs) all zero x y at is =
      ap (λ (l : List Y). slice_get l 0) (makes_first z zs y (ap f (same_Some z x at) ∙ is))
  made_at (z ∷ zs) all (suc k) x y at is =
      let P : X → Type 0 = λ it. is_some (f it) ≡ true in
      let first = value_of (f z) (All-head P z zs all) in
      ap (λ (l : List Y). slice_get l (suc k)) (makes_first z zs first.0 first.1) ∙ made_at zs (All-tail P z zs all) k x y at is

  made_times : (n : ℕ) (x : X) (y : Y) → f x ≡ Some y → filter_map f (replicate n x) ≡ replicate n y
  made_times zero x y is = refl
  made_times (suc n) x y is = makes_first x (replicate n x) y is ∙ ap (λ (l : List Y). y ∷ l) (made_times n x y is)

  -- one more, so many times
  pub made_more : (xs : List X) (n : ℕ) (x : X) (y : Y) → f x ≡ Some y
      → filter_map f (xs ++ replicate n x) ≡ filter_map f xs ++ replicate n y
  made_more xs n x y is = filter_map-append f xs (replicate n x) ∙ ap (λ (l : List Y). filter_map f xs ++ l) (made_times n x y is)

  -- what makes the same at each of the list
  pub made_same : (g : X → Option Y) (xs : List X) → All (λ (x : X). g x ≡ f x) xs → filter_map g xs ≡ filter_map f xs
  made_same g [] all = refl
  made_same g (x ∷ xs) all =
      let P : X → Type 0 = λ it. g it ≡ f it in
      ap (λ (o : Option Y). cons_option o (filter_map g xs)) (All-head P x xs all)
      ∙ ap (cons_option (f x)) (made_same g xs (All-tail P x xs all))

-- what is mapped alike at each of a list
pub mapped_same : {X Y : Type 0} (f g : X → Y) (xs : List X) → All (λ (x : X). g x ≡ f x) xs → map g xs ≡ map f xs
mapped_same f g [] all = refl
mapped_same {X = X} {Y = Y} f g (x ∷ xs) all =
    let P : X → Type 0 = λ it. g it ≡ f it in
    ap (λ (y : Y). y ∷ map g xs) (All-head P x xs all) ∙ ap (λ (l : List Y). f x ∷ l) (mapped_same f g xs (All-tail P x xs all))

-- what stands in a list stands there still when the list grows
stays : {X : Type 0} (xs ys : List X) (k : ℕ) (x : X) → slice_get xs k ≡ Some x → slice_get (xs ++ ys) k ≡ Some x
stays [] ys k x at = absurd (none-some x at)
stays (z ∷ zs) ys zero x at = at
stays (z ∷ zs) ys (suc k) x at = stays zs ys k x at

module _ (children : List Handle) (handle : Handle) where
  same_job : (entry : QueuedJob) (old new : Option Handle) → ((child : Handle) → old ≡ Some child → new ≡ Some child)
      → is_some (job_with entry old) ≡ true
      → job_with entry new ≡ job_with entry old
  same_job entry None new there fits = absurd (cc)
  same_job entry (Some child) new there fits = ap (job_with entry) (there child refl)

  -- an entry makes the same job when there is one more child
  pub job_kept : (entry : QueuedJob) → Fits children entry → job_of (children ++ handle ∷ []) entry ≡ job_of children entry
  job_kept entry fits = same_job entry (slice_get children entry.child) (slice_get (children ++ handle ∷ []) entry.child)
      (stays children (handle ∷ []) entry.child) fits

  -- so a list makes the same jobs
  pub jobs_kept : (list : Vec QueuedJob Global) → ListFits children list
      → jobs_of (children ++ handle ∷ []) list ≡ jobs_of children list
  jobs_kept list fits = made_same (job_of children) (job_of (children ++ handle ∷ [])) list.items
      (λ k d lt. job_kept _ (fits k d lt))

  -- of all lists
  pub lists_kept : (lists : List (Vec QueuedJob Global)) → All (ListFits children) lists
      → map (jobs_of (children ++ handle ∷ [])) lists ≡ map (jobs_of children) lists
  lists_kept lists fit = mapped_same (jobs_of children) (jobs_of (children ++ handle ∷ [])) lists
      (λ k d lt. jobs_kept (get_or lists k d) (fit k d lt))

-- a worker's list among all
module _ (children : List Handle) (lists : List (Vec QueuedJob Global)) (fit : All (ListFits children) lists) (worker : ℕ)
    (list : Vec QueuedJob Global)
    (lt : worker < length lists) (here : list ≡ get_or lists worker list) where
  pub fits_there : ListFits children list
  fits_there = subst (ListFits children) (sym here) (All-get_or (ListFits children) lists worker list lt fit)

  made_there : get_or (map (jobs_of children) lists) worker [] ≡ jobs_of children list
  made_there = get_or-map (jobs_of children) lists worker list [] lt ∙ ap (jobs_of children) (sym here)

  -- has as many entries as jobs
  pub as_many_there : length (get_or (map (jobs_of children) lists) worker []) ≡ length list.items
  as_many_there = ap length made_there ∙ as_many (job_of children) list.items fits_there

  -- and what the entry at a place makes is the job at that place
  pub job_there : (place : ℕ) (entry : QueuedJob) (job : Job) → place < length list.items → entry ≡ get_or list.items place entry
      → job_of children entry ≡ Some job
      → slice_get (get_or (map (jobs_of children) lists) worker []) place ≡ Some job
  job_there place entry job below at is =
      ap (λ (l : List Job). slice_get l place) made_there
      ∙ made_at (job_of children) list.items fits_there place entry job
      (slice_get_read list.items (length list.items) place entry refl below at) is

-- lists of no entries
pub none_left : (children : List Handle) (lists : List (Vec QueuedJob Global))
    → All (λ (list : Vec QueuedJob Global). list.items ≡ []) lists → map (jobs_of children) lists ≡ replicate (length lists) []
none_left children [] all = refl
none_left children (list ∷ lists) all =
    let Empty : Vec QueuedJob Global → Type 0 = λ it. it.items ≡ [] in
    ap (λ (l : List QueuedJob). filter_map (job_of children) l ∷ map (jobs_of children) lists) (All-head Empty list lists all)
    ∙ ap (λ (xs : List (List Job)). [] ∷ xs) (none_left children lists (All-tail Empty list lists all))

-- what a job counts
pub job_parts : (entry : QueuedJob) (o : Option JobOp) (job : Job) → option_map (on_line entry) o ≡ Some job → (what : JobOp)
    × (o ≡ Some what) × (job ≡ on_line entry what)
job_parts entry None job is = absurd (none-some job is)
job_parts entry (Some what) job is = (what, refl, sym (same_Some (on_line entry what) job is))

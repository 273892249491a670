-- Bytes that are printed, or a beginning of them.
use Rattle.std.proofs.Common.{ℕ, Option, List, [], ◌++◌, take, drop, Result, Ok, Err, OnErr, inl, inr, ◌<◌, refl, sym, ap, ◌∙◌}
use Rattle.std.proofs.Common.{append-nil, append_assoc, take-append-drop}
use Rattle.std.proofs.KnownBytes.{Appends-kept, Appends-nil, Appends-trans}
use Rattle.std.specs.Io.KnownBytes.{Appends, Keeps}
use Rattle.metrics_program.specs.declared.sending.Broken.{Broken}
use Rattle.metrics_program.specs.Printed.{Begins, Prints, WereCounted, listening_line, served_line}
use Rattle.metrics_program.specs.declared.serve.ServeEnd.TheVariants.{Done, Broken as BrokenOff}

-- nothing yet
pub begun_nothing : (a : Option (List ℕ)) (xs : List ℕ) → Begins a a xs
begun_nothing a xs = record { front = []; back = xs; parts = refl; grown = Appends-nil a }

-- the first so many bytes
pub begun : (a b : Option (List ℕ)) (n : ℕ) (xs : List ℕ) → Appends a b (take n xs) → Begins a b xs
begun a b n xs first = record { front = take n xs; back = drop n xs; parts = sym (take-append-drop n xs); grown = first }

-- all of them
pub begun_whole : (a b : Option (List ℕ)) (xs : List ℕ) → Appends a b xs → Begins a b xs
begun_whole a b xs all = record { front = xs; back = []; parts = sym (append-nil xs); grown = all }

-- others are to follow
pub begun_before : (a b : Option (List ℕ)) (xs ys : List ℕ) → Begins a b xs → Begins a b (xs ++ ys)
begun_before a b xs ys begins = record {
  front = begins.front;
  back = begins.back ++ ys;
  parts = ap (λ (l : List ℕ). l ++ ys) begins.parts ∙ append_assoc begins.front begins.back ys;
  grown = begins.grown;
}

-- others are written already
pub begun_after : (a b c : Option (List ℕ)) (xs ys : List ℕ) → Appends a b xs → Begins b c ys → Begins a c (xs ++ ys)
begun_after a b c xs ys first begins = record {
  front = xs ++ begins.front;
  back = begins.back;
  parts = ap (λ (l : List ℕ). xs ++ l) begins.parts ∙ sym (append_assoc xs begins.front begins.back);
  grown = Appends-trans a b c xs begins.front first begins.grown;
}

-- and let go
pub begun_kept : (a b c : Option (List ℕ)) (xs : List ℕ) → Begins a b xs → Keeps b c → Begins a c xs
begun_kept a b c xs begins kept = record {
  front = begins.front;
  back = begins.back;
  parts = begins.parts;
  grown = Appends-kept a b c begins.front begins.grown kept;
}

-- what is so in any case
pub on_err : (r : Result Unit Broken) (P : Type 0) → P → OnErr r P
on_err (Ok done) P p = tt
on_err (Err broken) P p = p

pub on_err_of : {X : Type 0} (r : Result X Broken) (P : Type 0) → P → OnErr r P
on_err_of (Ok done) P p = tt
on_err_of (Err broken) P p = p

-- the port, and then the replies or a beginning of their line
module _ (a b c : Option (List ℕ)) (port replies : ℕ) (small : port < 65536) (before : Appends a b (listening_line port))
    (counted : WereCounted replies) where
  pub printed : Appends b c (served_line replies) → Prints a c Done
  printed after = (port, replies, small, counted, Appends-trans a b c (listening_line port) (served_line replies) before after)

  pub printed_begun : Begins b c (served_line replies) → Prints a c BrokenOff
  printed_begun after =
      inl (port, replies, small, counted, begun_after a b c (listening_line port) (served_line replies) before after)

-- no more than a beginning of the port's line
pub broken_off : (a b : Option (List ℕ)) (port : ℕ) → port < 65536 → Begins a b (listening_line port) → Prints a b BrokenOff
broken_off a b port small begins = inr (inl (port, small, begins))

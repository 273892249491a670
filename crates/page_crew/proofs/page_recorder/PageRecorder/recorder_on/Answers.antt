use Rattle.std.proofs.Common.{◌≡◌, ℕ, zero, suc, ◌<◌, List, [], ◌∷◌, length, sym, arith}
use Rattle.std.specs.Prelude.{slice_get, IsSomeAnd}
use Rattle.page_crew.specs.Shared.{id_in}
use Rattle.page_crew.proofs.Rows.{one_read}
use Rattle.page_crew.proofs.page_recorder.PageRecorder.recorder_on.Goals as goal

-- a place where one stands is one of the list
within : {X : Type 0} (P : X → Type 0) (xs : List X) (i : ℕ) → IsSomeAnd (slice_get xs i) P → i < length xs
within P [] i some = absurd some
within P (x ∷ xs) zero some = omega arith
within P (x ∷ xs) (suc i) some = let there = within P xs i some in omega (arith, there)

pub index-requires : goal.index-requires
index-requires g c =
    let inside = within (λ r. id_in r ≡ c.args.board) c.args.self.now.recorders.items c.in-Some.place c.in-Some.ensures in
    let long = c.args.self.now.recorders.ok.0 in
    omega (arith, inside, long)

pub returns-in-Some : goal.returns-in-Some
returns-in-Some g c =
    let recorders = c.args.self.now.recorders.items in
    let read = one_read (λ r. id_in r ≡ c.args.board) recorders c.in-Some.place c.index.result.now c.in-Some.ensures
    c.index.ensures in
    let there = within (λ r. id_in r ≡ c.args.board) recorders c.in-Some.place c.in-Some.ensures in
    ((c.in-Some.place, there, sym c.index.ensures), read.1)

pub returns-in-None : goal.returns-in-None
returns-in-None g c = c.in-None.ensures

-- Bytes that a writer takes piece by piece.
use Rattle.std.proofs.Common.{◌≡◌, ℕ, ◌+◌, ◌-◌, ◌<◌, ◌≤◌, List, length, take, drop, Option, sym, subst, arith, length-drop}
use Rattle.std.proofs.KnownBytes.{Appends-trans}
use Rattle.std.proofs.Math.Seq.{take-add}
use Rattle.std.proofs.lemmas.List.{take_all}
use Rattle.std.specs.Io.KnownBytes.{Appends}

-- what one more write took of the rest follows what the writes before took
pub sent_more : (a b c : Option (List ℕ)) (bytes : List ℕ) (sent taken : ℕ) → sent < length bytes
    → taken ≤ length (take (length bytes - sent) (drop sent bytes)) → Appends a b (take sent bytes)
    → Appends b c (take taken (take (length bytes - sent) (drop sent bytes))) → (sent + taken ≤ length bytes)
    × Appends a c (take (sent + taken) bytes)
sent_more a b c bytes sent taken within bound before now =
    let rest : take (length bytes - sent) (drop sent bytes) ≡ drop sent bytes = take_all (length bytes - sent) (drop sent bytes)
    (omega (arith, length-drop sent bytes)) in
    let few : taken ≤ length (drop sent bytes) = subst (λ xs. taken ≤ length xs) rest bound in
    let more : Appends b c (take taken (drop sent bytes)) = subst (λ xs. Appends b c (take taken xs)) rest now in (
      omega (arith, length-drop sent bytes),
      subst (λ xs. Appends a c xs) (sym (take-add sent taken bytes))
          (Appends-trans a b c (take sent bytes) (take taken (drop sent bytes)) before more),
    )

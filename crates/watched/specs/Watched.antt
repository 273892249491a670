-- What contracts see of a watched reader or writer.
use Rattle.std.specs.Prelude.{ℕ, Bool, true, false, not, ◌==◌, ◌&&◌, List, length, Result, Ok, Err, refl}
use Rattle.std.specs.Coded.{Coded, code_by, coded×, coded_bool, coded_ℕ}

-- a reader or a writer: whether it has failed or ended so far, whether all that it took has been flushed, and how many
-- bytes its last read gave
pub record Watch (A : Type 0) : Type 0 where
  pub inner : A
  pub failed : Bool
  pub ended : Bool
  pub flushed : Bool
  pub latest : ℕ

-- it is stored as the tuple of its fields
abbrev pub watch_code : {A : Type 0} → Coded A → Coded (Watch A)
watch_code {A} a =
    code_by (A × (Bool × (Bool × (Bool × ℕ)))) (coded× a (coded× coded_bool (coded× coded_bool (coded× coded_bool coded_ℕ))))
    (λ w. (w.inner, (w.failed, (w.ended, (w.flushed, w.latest)))))
    (λ p. record { inner = p.0; failed = p.1.0; ended = p.1.1.0; flushed = p.1.1.1.0; latest = p.1.1.1.1 }) (λ _. refl)

-- a read into `room` found the end: there was room, and no byte came
abbrev pub read_ends : {E : Type 0} → Result ℕ E → List ℕ → Bool
read_ends (Ok n) room = n == 0 && not (length room == 0)
read_ends (Err _) room = false

-- a write of `bytes` failed: an error, or none of some bytes was taken
abbrev pub write_fails : {E : Type 0} → Result ℕ E → List ℕ → Bool
write_fails (Ok n) bytes = n == 0 && not (length bytes == 0)
write_fails (Err _) bytes = true

-- how many bytes a read gave
abbrev pub read_count : {E : Type 0} → Result ℕ E → ℕ
read_count (Ok n) = n
read_count (Err _) = 0

-- a write took a byte
abbrev pub write_takes : {E : Type 0} → Result ℕ E → Bool
write_takes (Ok n) = not (n == 0)
write_takes (Err _) = false

-- A handle may go to another thread, as what it holds may.
use base.Shift.{Keyless}
use denote.RattleType.{RattleType}
use denote.Memory.{lone}
use denote.RawPtr.{Ptr, RawPtr}
use denote.Builtin.{u64}
use denote.Param.Send.{IsSend, AllSend, sendable}
use Rattle.std.proofs.Common.{[], ◌∷◌}
use mir.Raw.{raw}
use Rattle.libc.specs.Heap.{chunk-Keyless}
use Rattle.std.specs.Prelude.{Some, None}
use Rattle.std.specs.declared.option.Option.{Option}
use Rattle.std_alloc.proofs.SendSync.{lies}
use Rattle.dirgwako_c.specs.Held.{holds}

pub two_words : AllSend (RawPtr ∷ u64 ∷ [])
two_words = (search sendable, (search sendable, tt))

-- what it owns is of no thread
pub holds_keyless : (R : RattleType) → IsSend R → (p : Ptr) (v : Option R.Denot) → Keyless (holds R p v)
holds_keyless R sends p None = tt
holds_keyless R sends p (Some x) = (lies R sends p x, chunk-Keyless (raw (lone R.mir)) p)

use denote.Param.{number}
use denote.Struct.Struct.{exits_of}
use denote.Struct.Owning.{shape, fields, to}
use denote.Param.Send.{IsSend, owning_send, struct_send}
use Rattle.std_alloc.proofs.SendSync.{quiet}
use Rattle.dirgwako_c.specs.declared.geometry.TheConstants.{WORKERS, COUNTERS, HISTOGRAMS, GAUGES}
use Rattle.dirgwako_c.proofs.held.HeldRecorder.TheSendSync.{the_send as held_send}
use Rattle.dirgwako_c.proofs.Rows.{held_recorder}
use Rattle.dirgwako_c.proofs.Sending.{two_words, holds_keyless}
use Rattle.dirgwako_c.specs.contracts.handles.RecorderHandle.{the_row, the_type}

pub send : IsSend the_row
send =
    let sends = held_send (number WORKERS) (number COUNTERS) (number HISTOGRAMS) (number GAUGES) in
    owning_send the_type two_words (λ d. holds_keyless held_recorder sends d.at d.value)
    (λ k. quiet (to the_type) (exits_of k (fields the_type)) ((struct_send (shape the_type) two_words).leaving k))

-- The families of the server's metrics, and whose children its handles are.
use Rattle.std.specs.Prelude.{◌≡◌, ℕ, List, [], ◌∷◌, codes, decimal, slice_get, Contains, IsSomeAnd}
use Rattle.ledger_core.specs.declared.handles.Counter.{Counter}
use Rattle.metric_desc.specs.Desc.{Descriptor}
use Rattle.metric_desc.specs.declared.kind.Kind.TheVariants as kind
use Rattle.registry_state.specs.Calls.{IsHandle}
use Rattle.registry_state.specs.Replay.{Family}
use Rattle.registry_state.specs.declared.handle.Handle.{Handle}
use Rattle.registry_state.specs.declared.handle.Handle.TheVariants as handle
use Rattle.scrape_http.specs.Status.{code_of}
use Rattle.scrape_http.specs.declared.status.Status.{Status}
use Rattle.scrape_http.specs.declared.status.Status.TheVariants.{Success, BadRequest, NotFound, MethodNotAllowed, TooLarge}
use Rattle.scrape_http.specs.declared.status.Status.TheVariants.{Unavailable}
use Rattle.metrics_program.specs.declared.metrics.Metrics.{Metrics}

-- the counter of the replies of a status
abbrev pub counter_for : Metrics → Status → Counter
counter_for m Success = m.success
counter_for m BadRequest = m.bad_request
counter_for m NotFound = m.not_found
counter_for m MethodNotAllowed = m.method_not_allowed
counter_for m TooLarge = m.too_large
counter_for m Unavailable = m.unavailable

-- the family of the replies, by their code
abbrev pub replies_family : Descriptor
replies_family = record {
  name = codes "scrape_requests_total";
  help = codes "Replies by status.";
  labels = codes "code" ∷ [];
  kind = kind.Counter;
  bounds = [];
  digits = 0;
}

-- the family of their bytes
abbrev pub bytes_family : Descriptor
bytes_family = record {
  name = codes "scrape_reply_bytes";
  help = codes "Bytes of each reply.";
  labels = [];
  kind = kind.Histogram;
  bounds = 100 ∷ 1000 ∷ 10000 ∷ [];
  digits = 0;
}

-- in a registry of this id and of these families, the handle is that of the child of these values, of the family that is so
-- described
pub record IsChildOf (id : ℕ) (families : List Family) (desc : Descriptor) (values : List (List ℕ)) (it : Handle) : Type 0 where
  pub number : ℕ
  pub slot : ℕ
  pub there : IsSomeAnd (slice_get families number) (λ (family : Family). (family.desc ≡ desc)
      × Contains family.children (record { values = values; slot = slot }))
  pub handle_is : IsHandle id desc slot it

-- these are the server's metrics there: the counter of each status is that of the child of its code, and the histogram that of
-- the child without values
pub record AreRegistered (id : ℕ) (families : List Family) (m : Metrics) : Type 0 where
  pub replies : (status : Status) → IsChildOf id families replies_family (decimal (code_of status) ∷ [])
      (handle.Counter (counter_for m status))
  pub bytes : IsChildOf id families bytes_family [] (handle.Histogram m.bytes)

-- A reply, by what the server says of its reader and its writer.
use Rattle.std.proofs.Common.{◌≡◌, ℕ, List, [], Bor, true, false, subst}
use Rattle.std.specs.Prelude.{Option, Some, Result}
use Rattle.scrape_http.specs.Reply.{Outcome}
use Rattle.scrape_http.specs.Serves.{IsServed, IsUnserved, is_read_failed}
use Rattle.scrape_http.specs.declared.fault.WireFault.{WireFault}
use Rattle.scrape_http.specs.declared.serve.Served.{Served}
use Rattle.watched.specs.Watched.{Watch}
use Rattle.dirgwako_c.specs.Registries.{IsReplied, Replies}

module _ {S : Type 0} (gave : S → S → Outcome → Type 0) (request : List ℕ) (answer : ℕ) (before after : S) (had has : List ℕ)
    (had_len has_len : ℕ) where
  pub replies_by : (read written : Option (List ℕ)) (reader : Watch (Bor (List ℕ))) (bytes : List ℕ) (served : Result Served
      WireFault)
      → read ≡ Some request → written ≡ Some []
      → (reader.failed ≡ false → IsServed gave before after read (Some reader.inner.now) written (Some bytes) reader.ended
      reader.latest served)
      → (reader.failed ≡ true → IsUnserved before after written (Some bytes)) → reader.failed ≡ is_read_failed served
      → IsReplied bytes answer had has had_len has_len served
      → Replies gave request answer before after had has had_len has_len
  replies_by read written reader bytes served asked empty is_served is_unserved failed_is replied = record {
    rest = reader.inner.now;
    bytes = bytes;
    failed = reader.failed;
    ended = reader.ended;
    latest = reader.latest;
    served = served;
    is_served = λ going.
        subst (λ (i : Option (List ℕ)).
        IsServed gave before after i (Some reader.inner.now) (Some []) (Some bytes) reader.ended reader.latest served) asked
        (subst (λ (o : Option (List ℕ)).
        IsServed gave before after read (Some reader.inner.now) o (Some bytes) reader.ended reader.latest served) empty (is_served
        going));
    is_unserved = λ none. subst (λ (o : Option (List ℕ)). IsUnserved before after o (Some bytes)) empty (is_unserved none);
    failed_is = failed_is;
    replied = replied;
  }

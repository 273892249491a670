use Rattle.std.proofs.Common.{rules, ◌≡◌, ℕ, List, Bor, ap, ◌∙◌, refl, subst}
use Rattle.std.specs.Prelude.{Some, Ok, Err, Vec}
use Rattle.std.specs.declared.alloc.Global.{Global}
use Rattle.scrape_http.specs.Serves.{number_of}
use Rattle.dirgwako_c.specs.Registries.{IsHandedOver}
use Rattle.dirgwako_c.proofs.Replied.{replies_by}
use Rattle.dirgwako_c.proofs.replying.reply_to.Goals as goal

pub returns-in-Ok : goal.returns-in-Ok
returns-in-Ok g c =
    let empty = ap (λ (l : List ℕ). Some l) (ap (λ (v : Vec ℕ Global). v.items) c.new-writer.ensures.inner ∙ c.new.ensures.items)
    in
    let same = c.deref.ensures.value ∙ ap (λ (v : Vec ℕ Global). v.items) c.into_inner-reply.ensures in
    replies_by g.S.ScrapeFrom.gave c.args.request.now c.hand_over.result c.args.source.now c.serve_one-served.new.source
    c.args.buffer.now
    c.hand_over.new.buffer c.args.len.now c.hand_over.new.len _ _ c.serve_one-served.new.reader
    c.serve_one-served.new.writer.inner.items
    (Ok c.in-Ok.field-0) (ap (λ (r : Bor (List ℕ)). Some r.now) c.new-reader.ensures.inner) empty
    c.in-Ok.ensures.served c.in-Ok.ensures.unserved c.in-Ok.ensures.read_failed
    (subst (λ (l : List ℕ). IsHandedOver l c.hand_over.result c.args.buffer.now c.hand_over.new.buffer c.hand_over.new.len) same
    c.hand_over.ensures)

pub returns : goal.returns
returns g c =
    let number : c.from.result ≡ number_of c.in-Err.fault = search rules in
    let empty = ap (λ (l : List ℕ). Some l) (ap (λ (v : Vec ℕ Global). v.items) c.new-writer.ensures.inner ∙ c.new.ensures.items)
    in
    replies_by g.S.ScrapeFrom.gave c.args.request.now c.from.result c.args.source.now c.serve_one-served.new.source
    c.args.buffer.now
    c.args.buffer.now c.args.len.now c.args.len.now _ _ c.serve_one-served.new.reader c.serve_one-served.new.writer.inner.items
    (Err c.in-Err.fault) (ap (λ (r : Bor (List ℕ)). Some r.now) c.new-reader.ensures.inner) empty c.in-Err.ensures.served
    c.in-Err.ensures.unserved c.in-Err.ensures.read_failed (number, refl, refl)

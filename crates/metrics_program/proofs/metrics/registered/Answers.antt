use Rattle.std.proofs.Common.{◌≡◌, length, ap, ◌∙◌}
use Rattle.registry_state.specs.Replay.{State}
use Rattle.metrics_program.proofs.Codes.{begun, new_405, new_431, new_503, registered, six}
use Rattle.metrics_program.proofs.metrics.registered.Goals as goal

pub counter_of-requires-4 : goal.counter_of-requires-4
counter_of-requires-4 c =
    let first : c.in-Ok.family.number ≡ 0 = c.in-Ok.ensures.number ∙ ap (λ (s : State). length s.families) c.requires.nothing in
    let none = begun c.args.registry.now c.register.new.self c.in_ok-replies_desc.field-0 c.requires.nothing
    c.in-Ok.ensures.registered
    c.in_ok-replies_desc.ensures in
    record {
      new = new_405 c.in-Ok.family.number first c.register.new.self c.counter_of.new.registry c.counter_of-2.new.registry
          c.counter_of-3.new.registry none c.in_ok-counter_of.field-0 c.in_ok-counter_of-2.field-0 c.in_ok-counter_of-3.field-0
          c.in_ok-counter_of.ensures.made c.in_ok-counter_of-2.ensures.made c.in_ok-counter_of-3.ensures.made;
    }

pub counter_of-requires-5 : goal.counter_of-requires-5
counter_of-requires-5 c =
    let first : c.in-Ok.family.number ≡ 0 = c.in-Ok.ensures.number ∙ ap (λ (s : State). length s.families) c.requires.nothing in
    let none = begun c.args.registry.now c.register.new.self c.in_ok-replies_desc.field-0 c.requires.nothing
    c.in-Ok.ensures.registered
    c.in_ok-replies_desc.ensures in
    record {
      new = new_431 c.in-Ok.family.number first c.register.new.self c.counter_of.new.registry c.counter_of-2.new.registry
          c.counter_of-3.new.registry none c.in_ok-counter_of.field-0 c.in_ok-counter_of-2.field-0 c.in_ok-counter_of-3.field-0
          c.in_ok-counter_of.ensures.made c.in_ok-counter_of-2.ensures.made c.in_ok-counter_of-3.ensures.made
          c.counter_of-4.new.registry c.in_ok-counter_of-4.field-0 c.in_ok-counter_of-4.ensures.made;
    }

pub counter_of-requires-6 : goal.counter_of-requires-6
counter_of-requires-6 c =
    let first : c.in-Ok.family.number ≡ 0 = c.in-Ok.ensures.number ∙ ap (λ (s : State). length s.families) c.requires.nothing in
    let none = begun c.args.registry.now c.register.new.self c.in_ok-replies_desc.field-0 c.requires.nothing
    c.in-Ok.ensures.registered
    c.in_ok-replies_desc.ensures in
    record {
      new = new_503 c.in-Ok.family.number first c.register.new.self c.counter_of.new.registry c.counter_of-2.new.registry
          c.counter_of-3.new.registry none c.in_ok-counter_of.field-0 c.in_ok-counter_of-2.field-0 c.in_ok-counter_of-3.field-0
          c.in_ok-counter_of.ensures.made c.in_ok-counter_of-2.ensures.made c.in_ok-counter_of-3.ensures.made
          c.counter_of-4.new.registry c.in_ok-counter_of-4.field-0 c.in_ok-counter_of-4.ensures.made
          c.counter_of-5.new.registry c.in_ok-counter_of-5.field-0 c.in_ok-counter_of-5.ensures.made;
    }

pub returns-clause-six : goal.returns-clause-six
returns-clause-six c =
    let first : c.in-Ok.family.number ≡ 0 = c.in-Ok.ensures.number ∙ ap (λ (s : State). length s.families) c.requires.nothing in
    let none = begun c.args.registry.now c.register.new.self c.in_ok-replies_desc.field-0 c.requires.nothing
    c.in-Ok.ensures.registered
    c.in_ok-replies_desc.ensures in
    six c.in-Ok.family.number first c.register.new.self c.counter_of.new.registry c.counter_of-2.new.registry
    c.counter_of-3.new.registry none c.in_ok-counter_of.field-0 c.in_ok-counter_of-2.field-0 c.in_ok-counter_of-3.field-0
    c.in_ok-counter_of.ensures.made c.in_ok-counter_of-2.ensures.made c.in_ok-counter_of-3.ensures.made
    c.counter_of-4.new.registry c.in_ok-counter_of-4.field-0 c.in_ok-counter_of-4.ensures.made
    c.counter_of-5.new.registry c.in_ok-counter_of-5.field-0 c.in_ok-counter_of-5.ensures.made
    c.counter_of-6.new.registry c.in_ok-counter_of-6.field-0 c.in_ok-counter_of-6.ensures.made c.in_ok-histogram_of.field-0

pub returns-clause-registered : goal.returns-clause-registered
returns-clause-registered c =
    let first : c.in-Ok.family.number ≡ 0 = c.in-Ok.ensures.number ∙ ap (λ (s : State). length s.families) c.requires.nothing in
    let none = begun c.args.registry.now c.register.new.self c.in_ok-replies_desc.field-0 c.requires.nothing
    c.in-Ok.ensures.registered
    c.in_ok-replies_desc.ensures in
    registered c.in-Ok.family.number first c.register.new.self c.counter_of.new.registry c.counter_of-2.new.registry
    c.counter_of-3.new.registry none c.in_ok-counter_of.field-0 c.in_ok-counter_of-2.field-0 c.in_ok-counter_of-3.field-0
    c.in_ok-counter_of.ensures.made c.in_ok-counter_of-2.ensures.made c.in_ok-counter_of-3.ensures.made
    c.counter_of-4.new.registry c.in_ok-counter_of-4.field-0 c.in_ok-counter_of-4.ensures.made
    c.counter_of-5.new.registry c.in_ok-counter_of-5.field-0 c.in_ok-counter_of-5.ensures.made
    c.counter_of-6.new.registry c.in_ok-counter_of-6.field-0 c.in_ok-counter_of-6.ensures.made c.in_ok-histogram_of.field-0
    c.histogram_of.new.registry c.in_ok-histogram_of.ensures.given

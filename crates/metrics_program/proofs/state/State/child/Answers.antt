use Rattle.std.proofs.Common.{List, ℕ, refl, ◌∙◌, inr, subst, rules}
use Rattle.registry_state.specs.Calls.{IsGiven}
use Rattle.registry_state.specs.Faults.{IsChildFault}
use Rattle.metrics_program.proofs.state.State.child.Goals as goal

pub returns-in-Err-child-clause-fault : goal.returns-in-Err-child-clause-fault
returns-in-Err-child-clause-fault c =
    let families = c.args.self.now.registry.state.families in
    let family = c.in-Some.family in
    let wrong = c.in-Err-child.fault in
    inr (inr (
      wrong,
      refl,
      record {
        family = family.number;
        named = c.in-Some.ensures.found;
        read = c.in-Ok.values.items;
        are_read = c.in-Ok.ensures.read;
        refused = subst (λ (read : List (List ℕ)). IsChildFault 64 8 16 families family.number read wrong) c.deref.ensures.value
            c.in-Err-child.ensures.fault;
      },
    ))

pub returns-clause-numbered : goal.returns-clause-numbered
returns-clause-numbered c =
    let registry = c.args.self.now.registry in
    let family = c.in-Some.family in
    let handle = c.in-Ok-child.handle in
    record {
      handle = handle;
      found = record {
        family = family.number;
        named = c.in-Some.ensures.found;
        read = c.in-Ok.values.items;
        are_read = c.in-Ok.ensures.read;
        given = subst (λ (read : List (List ℕ)). IsGiven 64 8 16 registry c.child.new.self family.number read handle)
            c.deref.ensures.value c.in-Ok-child.ensures.given;
      };
      numbered = search rules;
      board = refl;
      workers = refl;
      settler = refl;
      queue = c.add_child.ensures.lists ∙ c.reserve_child.ensures.lists;
    }

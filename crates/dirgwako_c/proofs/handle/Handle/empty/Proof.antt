-- `empty` makes a handle that owns nothing. Assumes `Logic`.
use Rattle.std.proofs.Common.{[], ◌∷◌, refl, lit<}
use mir.Syntax.{Fn, a_type, dcons, dnil}
use mir.MapTy.{inst_fn}
use mir.Val.{Val}
use base.Logic.{SProp, emp}
use prog.Wp.{Env}
use contract.Monad.{fact, fact_i}
use contract.Running.{tables}
use types.Kit.{‵, raw, ◌⊛◌, ◌$◌, ◌∵◌, !, qed, by, move, keep, drop, use0, split, fjoin}
use types.Part.{agg}
use types.Run.{lit, no_more, and_then, returns, enter}
use types.ByLocal.{alloc_all, pass_all, free_all, look_at, sets, env}
use denote.Param.{param, bounded}
use denote.RattleType.{RattleType, owns}
use denote.RawPtr.{null_ptr}
use denote.Signature.{types_at}
use denote.Steps.{nothing}
use denote.Triple.Entry.{alive}
use denote.Triple.Walked.{Stays, walk_of}
use Rattle.std.specs.Prelude.{None, IsNone}
use Rattle.std.proofs.raw_atomic.Walks.{proved_at, leaves}
use Rattle.dirgwako_c.proofs.HandleValues.{handle_val, handle_own, handle_made, handle_typed}
use Rattle.std.specs.declared.option.Option.{Option}
use Rattle.dirgwako_c.specs.contracts.handle.Handle as handle
use Rattle.dirgwako_c.specs.contracts.handle.Handle.empty.{ended, clauses}
use Rattle.dirgwako_c.specs.contracts.handle.Handle.empty.Key.{name as #self}
use Rattle.dirgwako_c.proofs.handle.Handle.empty.Statement.{statement}
use Rattle.dirgwako_c.proofs.handle.Handle.empty.Code as compiled

pub empty_spec : {M : Type 1} → statement M
empty_spec 𝓤 𝓛 𝓜 𝓡 wired T L d glued =
    let H = 𝓛.H in let R : RattleType = param 0 T in
    let θ = bounded (a_type ∷ []) (T, tt) (dcons d dnil) in let En = ended T d in let c = clauses T d 𝓛 𝓜.mem 𝓡.returns in let fn
    : Fn = inst_fn θ compiled.function in
    let stays : Stays En.signature.params En.kept = tt in
    let C = (tables 𝓤 H 𝓜 𝓡 𝓡.env).C in let Λ = (tables 𝓤 H 𝓜 𝓡 𝓡.env).Λ in
    let Nothing : Option R.Denot = None in
    let x : (handle.the_row R).Denot = record {
      at = null_ptr;
      live = 0;
      value = Nothing;
      empty = λ _. refl;
      full = λ is. absurd
          (is refl);
    } in
    proved_at 𝓛 En stays c 𝓜 𝓡 tt (#self θ) fn (compiled.unfolded 𝓤 H 𝓜 𝓡 wired (T, tt) d) (λ z are.
    let Post : Val → SProp 𝓤 = (walk_of 𝓛 En stays c).post z in
    qed 𝓛 ((raw (alive 𝓛 En.signature z.0.0 z.0.1) ⊛ ‵ (owns (types_at En.signature.params z.0.0) z.0.3 z.0.4)) ∷ raw ((c z.0.0
    z.0.3).requires z.1) ∷ []) ∵ move ! (1 ∷ []) $ drop ! $ split ! $ keep ! (0 ∷ []) $
    enter ! C Λ fn [] Post $
    alloc_all ! (λ l. pass_all ! refl tt $ let E : Env 𝓤 𝓛.H = env fn.locals l in
    sets ! (agg ! (and_then ! (lit ! tt) (and_then ! (lit ! tt) (no_more !)))) refl (handle_typed null_ptr 0 (lit< tt)) $
    returns ! (look_at ! 0 refl) $ free_all ! refl $
    nothing ! $ use0 𝓛 (‵ (handle_own null_ptr 0 (handle_val null_ptr 0 ∷ []))) (handle_made 𝓛 null_ptr 0 (lit< tt)) $ fjoin ! $
    use0 𝓛 (raw (fact 𝓤 (IsNone Nothing))) (fact_i 𝓤 (IsNone Nothing) (emp 𝓤) refl) $ nothing ! $ move ! (3 ∷ 0 ∷ 2 ∷ 1 ∷ []) $
    by ! (leaves 𝓛 En stays c z (handle_val null_ptr 0) x tt tt)))

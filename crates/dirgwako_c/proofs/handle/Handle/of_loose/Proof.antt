-- `of_loose` takes over what a box owns. Assumes `Logic`.
use Rattle.std.proofs.Common.{◌≡◌, List, [], ◌∷◌, ◌++◌, refl, lit<}
use mir.Syntax.{Fn, a_type, dcons, dnil}
use mir.MapTy.{inst_fn}
use mir.Val.{Val, vptr}
use base.Logic.{SProp, emp}
use prog.Wp.{Env, WpFn}
use contract.Monad.{fact, fact_i}
use contract.Running.{tables}
use types.Kit.{‵, raw, ◌⊛◌, prop, ◌$◌, ◌∵◌, !, qed, by, move, drop, use0, split, regoal, fsplit, fjoin}
use types.Part.{whole, sub, agg}
use types.Run.{stop, fld, of_opd, lit, no_more, and_then, returns, enter}
use types.ByLocal.{alloc_all, pass_all, free_all, look_at, get, get_in, sets, env}
use denote.Param.{param, bounded}
use denote.RattleType.{RattleType, owns}
use denote.RawPtr.{block_ptr}
use denote.Exit.{no}
use denote.Signature.{types_at, plain}
use denote.Steps.{nothing}
use denote.Triple.Entry.{alive}
use denote.Triple.Walked.{Stays, stay_dropped, walk_of}
use Rattle.core.proofs.alloc.Calls.{Goes-blank}
use Rattle.std.specs.Prelude.{Some}
use Rattle.std.specs.declared.option.Option.{Option}
use Rattle.std.proofs.raw_atomic.Walks.{proved_at, leaves}
use Rattle.std_heap.specs.contracts.Global as heap
use Rattle.std_heap.specs.contracts.GlobalAllocator.TheImpl.{ghosts}
use Rattle.std_heap.proofs.Global.TheLaws as heap_laws
use Rattle.dirgwako_c.proofs.Values.{both, Loose, loose_good, loose_out}
use Rattle.dirgwako_c.proofs.HandleValues.{handle_val, handle_own, handle_made, handle_typed, one_is_not_zero}
use Rattle.dirgwako_c.specs.contracts.handle.Handle as handle
use Rattle.dirgwako_c.specs.contracts.handle.Handle.of_loose.{ended, clauses}
use Rattle.dirgwako_c.specs.contracts.handle.Handle.of_loose.Key.{name as #self}
use Rattle.dirgwako_c.proofs.handle.Handle.of_loose.Statement.{statement}
use Rattle.dirgwako_c.proofs.handle.Handle.of_loose.Code as compiled

pub of_loose_spec : {M : Type 1} → statement M
of_loose_spec 𝓤 𝓛 𝓜 𝓡 wired T L d glued =
    let H = 𝓛.H in let R : RattleType = param 0 T in let Z : RattleType = heap.the_row in let LZ = heap_laws.the_row_laws in
    let θ = bounded (a_type ∷ []) (T, tt) (dcons d dnil) in let En = ended T d in let c = clauses T d 𝓛 𝓜.mem 𝓡.returns in let fn
    : Fn = inst_fn θ compiled.function in
    let stays : Stays En.signature.params En.kept = (stay_dropped (plain (λ _. Loose R Z LZ ghosts)) no, tt) in
    let C = (tables 𝓤 H 𝓜 𝓡 𝓡.env).C in let Λ = (tables 𝓤 H 𝓜 𝓡 𝓡.env).Λ in
    proved_at 𝓛 En stays c 𝓜 𝓡 (Goes-blank 𝓛 1 (plain (λ _. Loose R Z LZ ghosts)) no (λ κs x f. tt), tt) (#self θ) fn
    (compiled.unfolded 𝓤 H 𝓜 𝓡 wired (T, tt) d) (λ z are.
    let Post : Val → SProp 𝓤 = (walk_of 𝓛 En stays c).post z in
    let was = z.0.3.0 in
    let Held : Option R.Denot = Some was.value in
    qed 𝓛 ((raw (alive 𝓛 En.signature z.0.0 z.0.1) ⊛ ‵ (owns (types_at En.signature.params z.0.0) z.0.3 z.0.4)) ∷ raw ((c z.0.0
    z.0.3).requires z.1) ∷ []) ∵ move ! (1 ∷ []) $ drop ! $ split ! $ move ! (1 ∷ []) $
    fsplit ! $ loose_out R Z LZ ghosts ! was z.0.4.0 (λ b o h e ws fits. move ! (1 ∷ []) $ drop ! $ move ! (1 ∷ []) $ drop ! $
    let x : (handle.the_row R).Denot = record {
      at = block_ptr b o;
      live = 1;
      value = Held;
      empty = λ is. absurd (one_is_not_zero
          is);
      full = λ _. refl;
    } in
    regoal ! (λ (us : List Val). prop (WpFn 𝓤 H C Λ fn us Post)) (λ i. ws i ++ []) refl $
    enter ! C Λ fn (both (vptr b o) h ∷ []) Post $
    alloc_all ! (λ l. pass_all ! refl (loose_good R Z LZ ghosts b o h fits, tt) $ let E : Env 𝓤 𝓛.H = env fn.locals l in
    sets ! (of_opd ! (get_in ! (fld ! refl (stop !)) (sub ! 0 refl (whole !)))) refl (tt, tt) $
    sets ! (agg ! (and_then ! (get ! refl) (and_then ! (lit ! tt) (no_more !)))) refl (handle_typed (block_ptr b o) 1 (lit< tt)) $
    returns ! (look_at ! 0 refl) $ free_all ! refl $
    use0 𝓛 (‵ (handle_own (block_ptr b o) 1 (handle_val (block_ptr b o) 1 ∷ []))) (handle_made 𝓛 (block_ptr b o) 1 (lit< tt)) $
    fjoin ! $
    use0 𝓛 (raw (fact 𝓤 (Held ≡ Held))) (fact_i 𝓤 (Held ≡ Held) (emp 𝓤) refl) $ nothing ! $ nothing ! $ fjoin ! $ move ! (3 ∷ 0 ∷
    2 ∷ 1 ∷ []) $
    by ! (leaves 𝓛 En stays c z (handle_val (block_ptr b o) 1) x (tt, tt) (tt, tt)))))

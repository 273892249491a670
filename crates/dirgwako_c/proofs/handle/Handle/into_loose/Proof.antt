-- `into_loose` gives up what a handle owns. Assumes `Logic`.
use Rattle.std.proofs.Common.{◌≡◌, List, [], ◌∷◌, ◌++◌, refl, ap, ◌∙◌}
use mir.Syntax.{Fn, a_type, dcons, dnil}
use mir.MapTy.{inst_fn}
use mir.Raw.{raw as bare}
use mir.Val.{Val, vptr}
use base.Logic.{SProp, emp, never, fst∗}
use prog.Wp.{Env, WpFn}
use contract.Monad.{fact, fact_i}
use contract.BorrowLft.{◌⊑◌}
use contract.Running.{tables}
use types.Logic.{sem}
use types.Kit.{‵, raw, ◌⊛◌, prop, ◌$◌, ◌∵◌, !, qed, by, move, drop, use0, split, regoal, rewrite, fsplit, fjoin}
use types.Part.{whole, sub, agg}
use types.Run.{stop, fld, of_opd, no_more, and_then, returns, enter}
use types.ByLocal.{alloc_all, pass_all, free_all, look_at, get, get_in, sets, env}
use denote.Param.{param, bounded}
use denote.RattleType.{RattleType, owns}
use denote.Memory.{lone}
use denote.RawPtr.{Ptr, block_ptr, null_ptr, in_a_block}
use denote.Exit.{yes, no}
use denote.Signature.{types_at, plain}
use denote.Steps.{nothing, heard}
use denote.Triple.Entry.{alive}
use denote.Triple.Walked.{Stays, stay_dropped, walk_of}
use Rattle.core.proofs.alloc.Calls.{Goes-blank, handle_tells}
use Rattle.libc.specs.Heap.{chunk}
use Rattle.std_alloc.specs.Box.Ownership.{box_owns}
use Rattle.std.specs.Prelude.{Some, IsSome}
use Rattle.std.specs.declared.option.Option.{Option}
use Rattle.std.proofs.raw_atomic.Walks.{proved_at, leaves}
use Rattle.std_heap.specs.contracts.Global as heap
use Rattle.std_heap.specs.contracts.GlobalAllocator.TheImpl.{ghosts}
use Rattle.std_heap.proofs.Global.TheLaws as heap_laws
use Rattle.dirgwako_c.specs.Held.{holds}
use Rattle.dirgwako_c.proofs.Values.{both, loose_good, loose_in, al}
use Rattle.dirgwako_c.proofs.HandleValues.{handle_val, handle_told, handle_typed, the_one}
use Rattle.dirgwako_c.specs.contracts.handle.Handle as handle
use Rattle.dirgwako_c.specs.contracts.handle.Handle.into_loose.{ended, clauses}
use Rattle.dirgwako_c.specs.contracts.handle.Handle.into_loose.Key.{name as #self}
use Rattle.dirgwako_c.proofs.handle.Handle.into_loose.Statement.{statement}
use Rattle.dirgwako_c.proofs.handle.Handle.into_loose.Code as compiled

pub into_loose_spec : {M : Type 1} → statement M
into_loose_spec 𝓤 𝓛 𝓜 𝓡 wired T L d glued =
    let H = 𝓛.H in let R : RattleType = param 0 T in let Z : RattleType = heap.the_row in let LZ = heap_laws.the_row_laws in
    let θ = bounded (a_type ∷ []) (T, tt) (dcons d dnil) in let En = ended T d in let c = clauses T d 𝓛 𝓜.mem 𝓡.returns in let fn
    : Fn = inst_fn θ compiled.function in
    let stays : Stays En.signature.params En.kept = (
      stay_dropped (plain (λ _. handle.the_row R)) no,
      (
        stay_dropped (plain (λ _.
            heap.the_row)) yes,
        tt,
      ),
    ) in
    let C = (tables 𝓤 H 𝓜 𝓡 𝓡.env).C in let Λ = (tables 𝓤 H 𝓜 𝓡 𝓡.env).Λ in
    proved_at 𝓛 En stays c 𝓜 𝓡 (
      Goes-blank 𝓛 1 (plain (λ _. handle.the_row R)) no (λ κs x f. tt),
      (
        Goes-blank 𝓛 1 (plain (λ _.
            heap.the_row)) yes (λ κs x f. tt),
        tt,
      ),
    ) (#self θ) fn (compiled.unfolded 𝓤 H 𝓜 𝓡 wired (T, tt) d) (λ z are.
    let Post : Val → SProp 𝓤 = (walk_of 𝓛 En stays c).post z in
    let x = z.0.3.0 in let a = z.0.3.1.0 in
    let n = x.live in let told = handle_told x.at n z.0.4.0 are.0.0 in
    let Full : Type 0 = IsSome x.value in
    qed 𝓛 ((raw (alive 𝓛 En.signature z.0.0 z.0.1) ⊛ ‵ (owns (types_at En.signature.params z.0.0) z.0.3 z.0.4)) ∷ (raw (fact 𝓤
    (z.0.0.0 ⊑ T.lives)) ⊛ raw (fact 𝓤 Full)) ∷ []) ∵ move ! (1 ∷ []) $ split ! $ drop ! $ heard ! Full (λ is.
    let y = the_one R.Denot x.value is in
    split ! $ move ! (1 ∷ []) $
    fsplit ! $ fsplit ! $ drop ! $ rewrite ! 0 (λ (v : Option R.Denot). ‵ (holds R x.at v)) y.1 refl $
    -- [the box; the allocator and nothing; the tokens]
    move ! (1 ∷ []) $ fsplit ! $ handle_tells (al R Z LZ ghosts) ! a z.0.4.1.0 (λ h ea fits. move ! (1 ∷ []) $ drop ! $ move ! (1
    ∷ []) $
    in_a_block ! x.at (λ p. box_owns chunk R p y.0) (fst∗ 𝓤 (never 𝓤) (sem 𝓛 (chunk (bare (lone R.mir)) null_ptr))) (λ b o e.
    -- [the box; the allocator; the tokens]
    regoal ! (λ (us : List Val). prop (WpFn 𝓤 H C Λ fn us Post)) (λ i. (told.0 ∙ ap (λ (p : Ptr). handle_val p n ∷ []) e) i ++ (ea
    i ++ [])) refl $
    enter ! C Λ fn (handle_val (block_ptr b o) n ∷ h ∷ []) Post $
    alloc_all ! (λ l. pass_all ! refl (handle_typed (block_ptr b o) n told.1, (fits, tt)) $ let E : Env 𝓤 𝓛.H = env fn.locals l in
    sets ! (of_opd ! (get_in ! (fld ! refl (stop !)) (sub ! 0 refl (whole !)))) refl (tt, tt) $
    sets ! (agg ! (and_then ! (get ! refl) (and_then ! (get ! refl) (no_more !)))) refl (loose_good R Z LZ ghosts b o h fits) $
    returns ! (look_at ! 0 refl) $ free_all ! refl $
    loose_in R Z LZ ghosts ! b o h a y.0 $
    use0 𝓛 (raw (fact 𝓤 (x.value ≡ Some y.0))) (fact_i 𝓤 (x.value ≡ Some y.0) (emp 𝓤) y.1) $ nothing ! $ nothing ! $ fjoin ! $
    nothing ! $ fjoin ! $ move ! (3 ∷ 0 ∷ 2 ∷ 1 ∷ []) $
    by ! (leaves 𝓛 En stays c z (both (vptr b o) h) (record { at = block_ptr b o; alloc = a; value = y.0 }) (tt, (tt, tt)) (
      tt,
      (tt, tt),
    )))))))

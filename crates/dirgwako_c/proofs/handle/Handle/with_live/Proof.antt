-- `with_live` reads the word. Assumes `Logic`.
use Rattle.std.proofs.Common.{◌≡◌, ◌^◌, List, [], ◌∷◌, ◌++◌, refl, w64}
use mir.Syntax.{Fn, a_type, dcons, dnil}
use mir.MapTy.{inst_fn}
use mir.Val.{Val, vint}
use base.Logic.{SProp, emp}
use prog.Wp.{Env, WpFn}
use contract.Monad.{fact, fact_i}
use contract.Running.{tables}
use types.Kit.{‵, raw, ◌⊛◌, prop, ◌$◌, ◌∵◌, !, qed, by, move, drop, use0, use2, split, regoal, fsplit, fjoin, feq_i, flt_i}
use types.Part.{whole, sub, agg}
use types.Run.{stop, fld, of_opd, no_more, and_then, returns, enter}
use types.ByLocal.{alloc_all, pass_all, free_all, look_at, get, get_in, sets, env}
use denote.Param.{param, bounded}
use denote.RattleType.{RattleType, owns}
use denote.Builtin.{u64}
use denote.Exit.{no}
use denote.Signature.{types_at, plain}
use denote.Steps.{nothing}
use denote.Struct.Tuple.{Tuple}
use denote.Triple.Entry.{alive}
use denote.Triple.Walked.{Stays, stay_dropped, walk_of}
use Rattle.core.proofs.alloc.Calls.{Goes-blank}
use Rattle.std_alloc.proofs.ResultValues.{and_tt}
use Rattle.std_alloc.proofs.Pairs.{pair_of, pair_val}
use Rattle.std.proofs.raw_atomic.Walks.{proved_at, leaves}
use Rattle.dirgwako_c.proofs.HandleValues.{ptr_typed, handle_val, handle_own, handle_told, handle_made, handle_typed}
use Rattle.dirgwako_c.specs.contracts.handle.Handle as handle
use Rattle.dirgwako_c.specs.contracts.handle.Handle.with_live.{ended, clauses}
use Rattle.dirgwako_c.specs.contracts.handle.Handle.with_live.Key.{name as #self}
use Rattle.dirgwako_c.proofs.handle.Handle.with_live.Statement.{statement}
use Rattle.dirgwako_c.proofs.handle.Handle.with_live.Code as compiled

pub with_live_spec : {M : Type 1} → statement M
with_live_spec 𝓤 𝓛 𝓜 𝓡 wired T L d glued =
    let H = 𝓛.H in let R : RattleType = param 0 T in
    let θ = bounded (a_type ∷ []) (T, tt) (dcons d dnil) in let En = ended T d in let c = clauses T d 𝓛 𝓜.mem 𝓡.returns in let fn
    : Fn = inst_fn θ compiled.function in
    let stays : Stays En.signature.params En.kept = (stay_dropped (plain (λ _. handle.the_row R)) no, tt) in
    let C = (tables 𝓤 H 𝓜 𝓡 𝓡.env).C in let Λ = (tables 𝓤 H 𝓜 𝓡 𝓡.env).Λ in
    proved_at 𝓛 En stays c 𝓜 𝓡 (Goes-blank 𝓛 1 (plain (λ _. handle.the_row R)) no (λ κs x f. tt), tt) (#self θ) fn
    (compiled.unfolded 𝓤 H 𝓜 𝓡 wired (T, tt) d) (λ z are.
    let Post : Val → SProp 𝓤 = (walk_of 𝓛 En stays c).post z in
    let x = z.0.3.0 in
    let n = x.live in let told = handle_told x.at n z.0.4.0 are.0.0 in let fits = told.1 in
    qed 𝓛 ((raw (alive 𝓛 En.signature z.0.0 z.0.1) ⊛ ‵ (owns (types_at En.signature.params z.0.0) z.0.3 z.0.4)) ∷ raw ((c z.0.0
    z.0.3).requires z.1) ∷ []) ∵ move ! (1 ∷ []) $ drop ! $ split ! $ move ! (1 ∷ []) $
    fsplit ! $ fsplit ! $ drop ! $ move ! (1 ∷ []) $ drop ! $
    regoal ! (λ (us : List Val). prop (WpFn 𝓤 H C Λ fn us Post)) (λ i. told.0 i ++ []) refl $
    enter ! C Λ fn (handle_val x.at n ∷ []) Post $
    alloc_all ! (λ l. pass_all ! refl (handle_typed x.at n fits, tt) $ let E : Env 𝓤 𝓛.H = env fn.locals l in
    sets ! (of_opd ! (get_in ! (fld ! refl (stop !)) (sub ! 0 refl (whole !)))) refl (ptr_typed x.at) $
    sets ! (of_opd ! (get_in ! (fld ! refl (stop !)) (sub ! 1 refl (whole !)))) refl (tt, record { fits = fits }) $
    sets ! (agg ! (and_then ! (get ! refl) (and_then ! (get ! refl) (no_more !)))) refl (
      and_tt _ ((ptr_typed x.at).0),
      ((ptr_typed x.at).1, (record { fits = fits }, tt)),
    ) $
    sets ! (agg ! (and_then ! (get ! refl) (and_then ! (get ! refl) (no_more !)))) refl (
      and_tt _ (and_tt _ ((ptr_typed x.at).0)),
      (record { fits = fits }, (((ptr_typed x.at).1, (record { fits = fits }, tt)), tt)),
    ) $
    returns ! (look_at ! 0 refl) $ free_all ! refl $
    use0 𝓛 (‵ (handle_own x.at n (handle_val x.at n ∷ []))) (handle_made 𝓛 x.at n fits) $ fjoin ! $ flt_i ! n (2 ^ 64) fits $
    feq_i ! (List Val) (vint w64 n ∷ []) (vint w64 n ∷ []) refl $ fjoin ! $
    use2 𝓛 (‵ ((Tuple (u64 ∷ handle.the_row R ∷ [])).own_val (n, x) (pair_val (vint w64 n) (handle_val x.at n) ∷ []))) (pair_of 𝓛
    u64 (handle.the_row R) n x (vint w64 n) (handle_val x.at n)) $
    use0 𝓛 (raw (fact 𝓤 ((n ≡ n) × (x ≡ x)))) (fact_i 𝓤 ((n ≡ n) × (x ≡ x)) (emp 𝓤) (refl, refl)) $ nothing ! $ nothing ! $ fjoin
    ! $ move ! (3 ∷ 0 ∷ 2 ∷ 1 ∷ []) $
    by ! (leaves 𝓛 En stays c z (pair_val (vint w64 n) (handle_val x.at n)) (n, x) (tt, tt) (tt, tt))))

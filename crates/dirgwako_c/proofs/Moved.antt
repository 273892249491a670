-- A function that hands a handle's two words on, as a handle of another name, which owns the same. Assumes `Logic`.
use Rattle.std.proofs.Common.{◌≡◌, ℕ, List, [], ◌∷◌, ◌++◌, refl, sym, subst, w64}
use seplogic.Ra.Ura.{Ura}
use mir.Syntax.{Callee, Fn, Sym, Ty, ty_int, ty_ptr, ty_struct, tcons, tnil, local, value_local, seq, assign, place, rv_opd}
use mir.Syntax.{copy, field, aggregate, return}
use mir.Val.{Val}
use base.Logic.{SProp, ent, emp}
use base.Fml.{Fml, ftrue, fsep}
use prog.Wp.{Closed, Env, WpFn}
use prog.Model.{Model}
use contract.Running.{Running, tables}
use contract.Lifetimes.{Lfts}
use types.Logic.{Logic}
use types.Kit.{‵, raw, ◌⊛◌, prop, ◌$◌, ◌∵◌, !, qed, by, move, drop, use0, split, regoal, rewrite, fsplit, fjoin}
use types.Part.{whole, sub, agg}
use types.Run.{stop, fld, of_opd, no_more, and_then, returns, enter}
use types.ByLocal.{alloc_all, pass_all, free_all, look_at, get, get_in, sets, env}
use denote.RattleType.{RattleType, owns}
use denote.RawPtr.{Ptr}
use denote.Exit.{yes, left, Last}
use denote.Shadow.{shadow}
use denote.Signature.{Signature, types_at, plain}
use denote.Steps.{nothing}
use denote.Triple.Clauses.{Clauses, Ended, at_exit, closing}
use denote.Triple.Entry.{alive}
use denote.Triple.Spec.{Meets}
use denote.Triple.Walked.{Stays, AllGo, Goes-Silent, stay_dropped, walk_of}
use Rattle.std.proofs.raw_atomic.Walks.{proved_at, leaves}
use Rattle.core.proofs.alloc.Calls.{Goes-blank}
use Rattle.dirgwako_c.specs.contracts.handle.Handle as handle
use Rattle.dirgwako_c.proofs.HandleValues.{ptr_typed, handle_val, handle_own, handle_told, handle_made, handle_typed}

abbrev two_words : Sym → Ty
two_words name = ty_struct name (tcons ty_ptr (tcons (ty_int w64) tnil))

-- the code of such a function, by the names of both
abbrev pub moved : (from to : Sym) → Fn
moved from to = record {
  lifetimes = 0;
  outlives = [];
  ty_params = [];
  givens = 0;
  params = 1;
  locals = local (two_words to) value_local ∷ local (two_words from) value_local ∷ local ty_ptr value_local ∷ local (ty_int w64)
      value_local ∷ local ty_ptr value_local ∷ [];
  body = seq (assign (place 2 []) (rv_opd (copy (place 1 (field 0 ∷ []))))) (seq (assign (place 3 []) (rv_opd (copy (place 1
      (field 1 ∷ [])))))
      (seq (assign (place 4 []) (rv_opd (copy (place 2 [])))) (seq (assign (place 0 []) (aggregate (copy (place 4 []) ∷ copy
      (place 3 []) ∷ []))) return)));
}

module _ (X Y : RattleType) where
  abbrev pub signature : Signature
  signature = record { lifetimes = 0; outlives = []; params = plain (λ κs. X) ∷ []; result = plain (λ κs. Y) }

  abbrev pub ended : Ended
  ended = record { signature = signature; kept = (yes, tt) }

  abbrev pub stays : Stays signature.params ended.kept
  stays = (stay_dropped (plain (λ _. X)) yes, tt)

module _ (X Y : RattleType) (at : X.Denot → Ptr) (live : X.Denot → ℕ) (heap : X.Denot → Fml) (to : X.Denot → Y.Denot)
    (opens : (x : X.Denot) (vs : List Val) → X.own_val x vs ≡ fsep (handle_own (at x) (live x) vs) (heap x))
    (closes : (x : X.Denot) (vs : List Val) → Y.own_val (to x) vs ≡ fsep (handle_own (at x) (live x) vs) (heap x))
    (last : (x : X.Denot) → Last (X.exit yes) x) where
  pub moves : {M : Type 1} (𝓤 : Ura M) (𝓛 : Logic 𝓤) (𝓜 : Model 𝓤 𝓛.H) (𝓡 : Running 𝓤 𝓛.H 𝓜) (c : Clauses 𝓤 (ended X Y)) (from
      onto : Sym) (k : Callee)
      → AllGo 𝓛 0 (signature X Y).params (ended X Y).kept (stays X Y) → Closed 𝓤 𝓛.H (tables 𝓤 𝓛.H 𝓜 𝓡 𝓡.env).C (tables 𝓤 𝓛.H 𝓜 𝓡
      𝓡.env).Λ k (moved from onto)
      → ((κs : Lfts 0) (x : X.Denot) (g : (c κs (x, tt)).ghost) → ent 𝓤 (emp 𝓤) ((c κs (x, tt)).ensures g (to x) (at_exit (ended X
      Y) κs (x, tt) (last x, tt))))
      → Meets 𝓛 (signature X Y) ((tables 𝓤 𝓛.H 𝓜 𝓡 𝓡.env).C k) (closing 𝓛 (ended X Y) c)
  moves 𝓤 𝓛 𝓜 𝓡 c from onto k go closed says =
      let H = 𝓛.H in
      let En = ended X Y in
      let stays = stays X Y in
      let fn : Fn = moved from onto in
      let C = (tables 𝓤 H 𝓜 𝓡 𝓡.env).C in
      let Λ = (tables 𝓤 H 𝓜 𝓡 𝓡.env).Λ in
      proved_at 𝓛 En stays c 𝓜 𝓡 go k fn closed (λ z are.
      let Post : Val → SProp 𝓤 = (walk_of 𝓛 En stays c).post z in
      let x = z.0.3.0 in
      let p = at x in
      let n = live x in
      let told = handle_told p n z.0.4.0 (subst shadow (opens x z.0.4.0) are.0).0 in
      let fits = told.1 in
      qed 𝓛 ((raw (alive 𝓛 En.signature z.0.0 z.0.1) ⊛ ‵ (owns (types_at En.signature.params z.0.0) z.0.3 z.0.4)) ∷ raw ((c z.0.0
      z.0.3).requires z.1) ∷ []) ∵ move ! (1 ∷ []) $ drop ! $ split ! $ move ! (1 ∷ []) $
      fsplit ! $ rewrite ! 0 (λ (f : Fml). ‵ f) (opens x z.0.4.0) refl $ fsplit ! $ drop ! $ move ! (1 ∷ []) $ drop ! $
      regoal ! (λ (us : List Val). prop (WpFn 𝓤 H C Λ fn us Post)) (λ i. told.0 i ++ []) refl $
      enter ! C Λ fn (handle_val p n ∷ []) Post $
      alloc_all ! (λ l. pass_all ! refl (handle_typed p n fits, tt) $ let E : Env 𝓤 𝓛.H = env fn.locals l in
      sets ! (of_opd ! (get_in ! (fld ! refl (stop !)) (sub ! 0 refl (whole !)))) refl (ptr_typed p) $
      sets ! (of_opd ! (get_in ! (fld ! refl (stop !)) (sub ! 1 refl (whole !)))) refl (tt, record { fits = fits }) $
      sets ! (of_opd ! (get ! refl)) refl (ptr_typed p) $
      sets ! (agg ! (and_then ! (get ! refl) (and_then ! (get ! refl) (no_more !)))) refl (handle_typed p n fits) $
      returns ! (look_at ! 0 refl) $ free_all ! refl $
      use0 𝓛 (‵ (handle_own p n (handle_val p n ∷ []))) (handle_made 𝓛 p n fits) $ fjoin ! $
      rewrite ! 0 (λ (f : Fml). ‵ f) (sym (closes x (handle_val p n ∷ []))) refl $
      use0 𝓛 (raw ((c z.0.0 z.0.3).ensures z.1 (to x) (at_exit En z.0.0 z.0.3 (last x, tt)))) (says z.0.0 x z.1) $ nothing ! $
      nothing ! $ fjoin ! $ move ! (3 ∷ 0 ∷ 2 ∷ 1 ∷ []) $
      by ! (leaves 𝓛 En stays c z (handle_val p n) (to x) (last x, tt) (tt, tt))))

module _ (R Z : RattleType) where
  abbrev general : RattleType
  general = handle.the_row R

  -- a handle of this name that is made of a general one
  module _ (to : general.Denot → Z.Denot) (same : (h : general.Denot) (vs : List Val) → Z.own_val (to h) vs ≡ general.own_val h
      vs) where
    pub comes : {M : Type 1} (𝓤 : Ura M) (𝓛 : Logic 𝓤) (𝓜 : Model 𝓤 𝓛.H) (𝓡 : Running 𝓤 𝓛.H 𝓜) (c : Clauses 𝓤 (ended general Z))
        (onto : Sym)
        (k : Callee) → Closed 𝓤 𝓛.H (tables 𝓤 𝓛.H 𝓜 𝓡 𝓡.env).C (tables 𝓤 𝓛.H 𝓜 𝓡 𝓡.env).Λ k (moved (handle.struct R).name onto)
        → ((κs : Lfts 0) (h : general.Denot) (g : (c κs (h, tt)).ghost)
        → ent 𝓤 (emp 𝓤) ((c κs (h, tt)).ensures g (to h) (at_exit (ended general Z) κs (h, tt) (tt, tt))))
        → Meets 𝓛 (signature general Z) ((tables 𝓤 𝓛.H 𝓜 𝓡 𝓡.env).C k) (closing 𝓛 (ended general Z) c)
    comes 𝓤 𝓛 𝓜 𝓡 c onto k =
        moves general Z (λ h. h.at) (λ h. h.live) (handle.the_heap R) to (λ h vs. refl) same (λ h. tt) 𝓤 𝓛 𝓜 𝓡 c (handle.struct
        R).name onto k
        (Goes-blank 𝓛 0 (plain (λ _. general)) yes (λ κs x f. tt), tt)

  -- and a general one that is made of it
  module _ (to : Z.Denot → general.Denot) (same : (h : Z.Denot) (vs : List Val) → Z.own_val h vs ≡ general.own_val (to h) vs)
      (last : (h : Z.Denot) → Last (Z.exit yes) h) (silent : (h : Z.Denot) (f : Last (Z.exit yes) h) → left (Z.exit yes) h f ≡
      ftrue) where
    pub parts : {M : Type 1} (𝓤 : Ura M) (𝓛 : Logic 𝓤) (𝓜 : Model 𝓤 𝓛.H) (𝓡 : Running 𝓤 𝓛.H 𝓜) (c : Clauses 𝓤 (ended Z general))
        (from : Sym)
        (k : Callee) → Closed 𝓤 𝓛.H (tables 𝓤 𝓛.H 𝓜 𝓡 𝓡.env).C (tables 𝓤 𝓛.H 𝓜 𝓡 𝓡.env).Λ k (moved from (handle.struct R).name)
        → ((κs : Lfts 0) (h : Z.Denot) (g : (c κs (h, tt)).ghost)
        → ent 𝓤 (emp 𝓤) ((c κs (h, tt)).ensures g (to h) (at_exit (ended Z general) κs (h, tt) (last h, tt))))
        → Meets 𝓛 (signature Z general) ((tables 𝓤 𝓛.H 𝓜 𝓡 𝓡.env).C k) (closing 𝓛 (ended Z general) c)
    parts 𝓤 𝓛 𝓜 𝓡 c from k =
        moves Z general (λ h. (to h).at) (λ h. (to h).live) (λ h. handle.the_heap R (to h)) to same (λ h vs. refl) last 𝓤 𝓛 𝓜 𝓡 c
        from (handle.struct R).name k
        (Goes-Silent 𝓛 0 (plain (λ _. Z)) yes (stay_dropped (plain (λ _. Z)) yes) (λ κs h f. silent h f), tt)

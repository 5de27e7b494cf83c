-- `tested` compares the pointer with null: it is null where there is nothing, and the start of a block where there is something.
use mathlib.Core.Path.{◌≡◌, refl, sym, subst}
use mathlib.Core.Bool.{Bool, true, false}
use mathlib.Core.List.{List, [], ◌∷◌, ◌++◌}
use lib.Dec.{lit<}
use seplogic.Ra.Ura.{Ura}
use mir.Val.{Val, has_ty, vbool, vstruct, of_list}
use base.Logic.{SProp, ent, emp, id⊢, guard_i}
use base.Fml.{Fml, ftrue, fsep}
use prog.Memory.{Memory}
use prog.Routine.{Routine}
use prog.Wp.{WpFn, Tables}
use types.Logic.{Logic, sem}
use contract.Monad.{Fun, fact, fact_i, fact_use}
use contract.Running.{tables, tables_of}
use sound.WpLaws.{WpFn-mono}
use types.Kit.{Item, keep, rewrite, given, learn, ⋆, ‵, raw, ◌⊛◌, ◌$◌, ◌∵◌, !, qed, by, move, drop, use0, use1, join, split, fsplit, fjoin, fpick, fpack, feq_i, feq_l, suffices, done}
use types.Part.{whole, sub, agg}
use types.Run.{stop, fld, bin, lit, no_more, and_then, of_opd, returns, enter}
use types.ByLocal.{alloc_all, pass_all, free_all, look_at, get, get_in, is, sets}
use denote.Builtin.{bool}
use denote.Exit.{yes}
use denote.RattleType.{Valss}
use denote.RawPtr.{Ptr, RawPtr, block_ptr, null_ptr, ptr_val, Testable, tests_null}
use denote.Steps.{nothing}
use denote.Struct.Owning.{shape, to}
use denote.Struct.Struct.{within}
use denote.Triple.Spec.{triple_of}
use denote.Triple.Table.{entered}
use denote.Triple.Walked.{Stays, stay_dropped, walk_of, ends_at, Goes-dropped, walk_Meets}
use Rattle.std.specs.Prelude.{Option, Some, None, is_none}
use Rattle.core.proofs.alloc.Calls.{α, token, handle_tells}
use Rattle.std_alloc.proofs.ResultValues.{and_tt}
use Rattle.std_alloc.proofs.BoxSteps.Form.{D, B, P, word, box_typed}
use Rattle.std_alloc.proofs.BoxSteps.Steps.{box_out, box_in}
use Rattle.std_heap.proofs.GlobalToken.{dealloc_token-Testable}
use Rattle.std_heap.specs.contracts.GlobalAllocator.TheImpl.{ghosts}
use mir.Syntax.{Ty}
use Rattle.wg_c.specs.Owned.{owned}
use Rattle.wg_c.specs.contracts.sealed.Device as Dev
use Rattle.wg_c.proofs.AsBox.{E, FromDev as From}
use Rattle.wg_c.proofs.Pairs.{both, pair_in}
use Rattle.wg_c.specs.contracts.inner.Inner as Inner
use Rattle.wg_c.specs.contracts.sealed.Device.tested as F
use Rattle.wg_c.specs.contracts.sealed.Device.tested.Key.{name as #self}
use Rattle.wg_c.proofs.sealed.Device.tested.Statement as stated
use Rattle.wg_c.proofs.sealed.Device.tested.Code as code

abbrev stayed : Stays (F.ended).signature.params (F.ended).kept
stayed = (stay_dropped From yes, tt)

module _ {M : Type 1} {𝓤 : Ura M} (𝓛 : Logic 𝓤) where
  tells : (a : (P E).Denot) (τ : Ty) (p : Ptr) → ent 𝓤 (sem 𝓛 (ghosts.dealloc_token a τ p)) (types.Kit.mean 𝓛 (given (Testable p) (‵ (ghosts.dealloc_token a τ p))))
  tells a τ p = fact_use 𝓤 (Testable p) (dealloc_token-Testable 𝓛 a τ p) (guard_i 𝓤 (Testable p) (sem 𝓛 (ghosts.dealloc_token a τ p)))

module _ {M : Type 1} {𝓤 : Ura M} (𝓛 : Logic 𝓤) (at_mem : Memory → SProp 𝓤) (run : Routine → Fun 𝓤) (𝓣 : Tables 𝓤 𝓛.H) where
  open 𝓛 use {H}

  module _ (z : (walk_of 𝓛 F.ended stayed (F.clauses 𝓛 at_mem run)).Ghost) where
    abbrev Post : Val → SProp 𝓤
    Post = (walk_of 𝓛 F.ended stayed (F.clauses 𝓛 at_mem run)).post z

    abbrev Shut : Bool → Type 0
    Shut y = y ≡ is_none z.0.3.0.inside

    abbrev Same : Option Inner.the_row.Denot → Type 0
    Same i = i ≡ z.0.3.0.inside

    held : (x : Inner.the_row.Denot) → z.0.3.0.inside ≡ Some x
        → ent 𝓤 (⋆ 𝓛 (‵ ((B E).own_val (record { ptr = z.0.3.0.at; alloc = z.0.3.0.alloc; value = x }) z.0.4.0) ∷ [])) (WpFn 𝓤 H 𝓣.C 𝓣.Λ code.function (z.0.4.0 ++ []) Post)
    held x is_held =
        let v : D E = record { ptr = z.0.3.0.at; alloc = z.0.3.0.alloc; value = x } in
        let made : Dev.the_row.Denot = record { at = v.ptr; alloc = v.alloc; inside = Some v.value } in
        let shut : Shut false = subst (λ (i : Option Inner.the_row.Denot). false ≡ is_none i) (sym is_held) refl in
        let same : Same (Some x) = sym is_held in
        qed 𝓛 (‵ ((B E).own_val v z.0.4.0) ∷ []) ∵
        box_out E ! v z.0.4.0 (λ b o hv e ws fa. move ! (1 ∷ []) $ use1 𝓛 (given (Testable (block_ptr b o)) (‵ (token E.al v.alloc _ (block_ptr b o)))) (tells 𝓛 v.alloc _ (block_ptr b o)) $ learn ! (λ may.
        move ! (1 ∷ 0 ∷ []) $ box_in E ! v b o v.value e refl $ use1 𝓛 (‵ (Dev.the_row.own_val made (word E hv b o ∷ []))) (id⊢ 𝓤 _) $
        let w = word E hv b o in let typed = box_typed E hv b o fa in
        let Γ : List (Item 𝓤) = ‵ (Dev.the_row.own_val made (w ∷ [])) ∷ [] in
        by ! (subst (λ (us : List Val). ent 𝓤 (⋆ 𝓛 Γ) (WpFn 𝓤 H 𝓣.C 𝓣.Λ code.function (us ++ []) Post)) (sym ws)
        (qed 𝓛 Γ ∵ enter ! 𝓣.C 𝓣.Λ code.function (w ∷ []) _ $ alloc_all ! (λ ls. pass_all ! refl (typed, tt) $
        sets ! (of_opd ! (get_in ! (fld ! refl (stop !)) (sub ! 0 refl (whole !)))) refl (tt, tt) $ sets ! (of_opd ! (get_in ! (fld ! refl (stop !)) (sub ! 1 refl (whole !)))) refl fa $
        sets ! (is ! (bin ! (get ! refl) (lit ! tt) (tests_null (block_ptr b o) may)) refl) refl (tt, tt) $
        sets ! (agg ! (and_then ! (get ! refl) (and_then ! (get ! refl) (no_more !)))) refl typed $
        sets ! (agg ! (and_then ! (get ! refl) (and_then ! (get ! refl) (no_more !)))) refl (and_tt _ typed.0, (tt, (typed.1, tt))) $
        returns ! (look_at ! 0 refl) $ free_all ! refl $ feq_i ! (List Val) (vbool false ∷ []) (vbool false ∷ []) refl $ pair_in bool Dev.the_row ! false made (vbool false) w $
        suffices ! _ (ends_at 𝓛 F.ended stayed (F.clauses 𝓛 at_mem run) z (both (vbool false) w) (false, made) (tt, tt) (tt, tt)) $
        nothing ! $ nothing ! $ fjoin ! $ join ! $ nothing ! $ join ! $
        use0 𝓛 (raw (fact 𝓤 (Same (Some x)))) (fact_i 𝓤 (Same (Some x)) (emp 𝓤) same) $ use0 𝓛 (raw (fact 𝓤 (Shut false))) (fact_i 𝓤 (Shut false) (emp 𝓤) shut) $
        join ! $ move ! (1 ∷ 0 ∷ []) $ join ! $ done !)))))

    abbrev own : Fml
    own = Dev.the_row.own_val z.0.3.0 z.0.4.0

    cases : (i : Option Inner.the_row.Denot) → z.0.3.0.inside ≡ i → ent 𝓤 (⋆ 𝓛 (‵ own ∷ [])) (WpFn 𝓤 H 𝓣.C 𝓣.Λ code.function (z.0.4.0 ++ []) Post)
    cases None is_none' =
        let a = z.0.3.0.alloc in
        let made : Dev.the_row.Denot = record { at = null_ptr; alloc = a; inside = None } in
        let shut : Shut true = subst (λ (i : Option Inner.the_row.Denot). true ≡ is_none i) (sym is_none') refl in
        let same : Same None = sym is_none' in
        qed 𝓛 (‵ own ∷ []) ∵ fsplit ! $ move ! (1 ∷ []) $ rewrite ! 0 (λ (i : Option Inner.the_row.Denot). ‵ (owned a z.0.3.0.at i)) is_none' refl $ feq_l ! (λ at_null.
        fpick ! (λ vss. fsplit ! $ feq_l ! (λ ev. fsplit ! $ feq_l ! (λ ep. fsplit ! $ handle_tells E.al ! a vss.1.0 (λ hv ea fa. move ! (1 ∷ []) $ drop ! $
        let w : Val = vstruct (of_list (ptr_val null_ptr ∷ hv ∷ [])) in
        let ws : z.0.4.0 ≡ w ∷ [] =
        subst (λ (p : Ptr). z.0.4.0 ≡ vstruct (of_list (ptr_val p ∷ hv ∷ [])) ∷ []) at_null
        (subst (λ (us : List Val). z.0.4.0 ≡ vstruct (of_list (ptr_val z.0.3.0.at ∷ (us ++ []))) ∷ []) ea (subst (λ (ps : List Val). z.0.4.0 ≡ vstruct (of_list (ps ++ (vss.1.0 ++ []))) ∷ []) ep ev)) in
        let Γ : List (Item 𝓤) = ‵ ((P E).own_val a (hv ∷ [])) ∷ [] in
        by ! (subst (λ (us : List Val). ent 𝓤 (⋆ 𝓛 Γ) (WpFn 𝓤 H 𝓣.C 𝓣.Λ code.function (us ++ []) Post)) (sym ws)
        (qed 𝓛 Γ ∵ enter ! 𝓣.C 𝓣.Λ code.function (w ∷ []) _ $ alloc_all ! (λ ls. pass_all ! refl ((and_tt (has_ty (α E.al) hv) fa.0, (record { fits = lit< tt }, (fa.1, tt))), tt) $
        sets ! (of_opd ! (get_in ! (fld ! refl (stop !)) (sub ! 0 refl (whole !)))) refl (tt, record { fits = lit< tt }) $ sets ! (of_opd ! (get_in ! (fld ! refl (stop !)) (sub ! 1 refl (whole !)))) refl fa $
        sets ! (is ! (bin ! (get ! refl) (lit ! tt) (tests_null null_ptr (lit< tt))) refl) refl (tt, tt) $
        sets ! (agg ! (and_then ! (get ! refl) (and_then ! (get ! refl) (no_more !)))) refl (and_tt (has_ty (α E.al) hv) fa.0, (record { fits = lit< tt }, (fa.1, tt))) $
        sets ! (agg ! (and_then ! (get ! refl) (and_then ! (get ! refl) (no_more !)))) refl (and_tt _ (and_tt (has_ty (α E.al) hv) fa.0), (tt, ((record { fits = lit< tt }, (fa.1, tt)), tt))) $
        returns ! (look_at ! 0 refl) $ free_all ! refl $
        nothing ! $ feq_i ! Ptr null_ptr null_ptr refl $ move ! (2 ∷ 1 ∷ []) $ fjoin ! $ feq_i ! (List Val) (ptr_val null_ptr ∷ []) (ptr_val null_ptr ∷ []) refl $ fjoin ! $
        feq_i ! (List Val) (w ∷ []) (w ∷ []) refl $ fjoin ! $
        fpack ! (Valss (RawPtr ∷ P E ∷ [])) (within (shape Dev.the_type) (to Dev.the_type made) (w ∷ [])) (ptr_val null_ptr ∷ [], (hv ∷ [], tt)) $ fjoin ! $
        use1 𝓛 (‵ (Dev.the_row.own_val made (w ∷ []))) (id⊢ 𝓤 _) $
        feq_i ! (List Val) (vbool true ∷ []) (vbool true ∷ []) refl $ pair_in bool Dev.the_row ! true made (vbool true) w $
        suffices ! _ (ends_at 𝓛 F.ended stayed (F.clauses 𝓛 at_mem run) z (both (vbool true) w) (true, made) (tt, tt) (tt, tt)) $
        nothing ! $ nothing ! $ fjoin ! $ join ! $ nothing ! $ join ! $
        use0 𝓛 (raw (fact 𝓤 (Same None))) (fact_i 𝓤 (Same None) (emp 𝓤) same) $ use0 𝓛 (raw (fact 𝓤 (Shut true))) (fact_i 𝓤 (Shut true) (emp 𝓤) shut) $
        join ! $ move ! (1 ∷ 0 ∷ []) $ join ! $ done !))))))))
    cases (Some x) is_held =
        qed 𝓛 (‵ own ∷ []) ∵ fsplit ! $ move ! (1 ∷ []) $ rewrite ! 0 (λ (i : Option Inner.the_row.Denot). ‵ (owned z.0.3.0.alloc z.0.3.0.at i)) is_held refl $ move ! (1 ∷ 0 ∷ []) $ fjoin ! $
        use1 𝓛 (‵ ((B E).own_val (record { ptr = z.0.3.0.at; alloc = z.0.3.0.alloc; value = x }) z.0.4.0)) (id⊢ 𝓤 _) $ by ! (held x is_held)

    walk : ent 𝓤 ((walk_of 𝓛 F.ended stayed (F.clauses 𝓛 at_mem run)).pre z) (WpFn 𝓤 H 𝓣.C 𝓣.Λ code.function (z.0.4.0 ++ []) Post)
    walk =
        qed 𝓛 ((‵ ftrue ⊛ ‵ (fsep own ftrue)) ∷ raw (emp 𝓤) ∷ []) ∵ split ! $ drop ! $ fsplit ! $ keep ! (0 ∷ []) $ by ! (cases z.0.3.0.inside refl)

pub tested_spec : {M : Type 1} → stated.statement M
unfolding tables_of
tested_spec 𝓤 𝓛 𝓜 𝓡 wired =
    let 𝓣 : Tables 𝓤 𝓛.H = tables_of 𝓤 𝓛.H 𝓜 (tables 𝓤 𝓛.H 𝓜 𝓡 𝓡.env) in
    entered 𝓤 𝓛.H (triple_of 𝓛 F.signature (F.spec 𝓛 𝓜.mem 𝓡.returns)) 𝓣.C 𝓣.Λ #self code.function (code.unfolded 𝓤 𝓛.H 𝓜 𝓡 wired)
    (walk_Meets 𝓛 F.ended stayed (Goes-dropped 𝓛 0 From yes (λ κs x f. refl), tt) (F.clauses 𝓛 𝓜.mem 𝓡.returns) (WpFn 𝓤 𝓛.H 𝓣.C 𝓣.Λ code.function) (WpFn-mono 𝓤 𝓛.H 𝓛.laws 𝓣 code.function)
    (walk 𝓛 𝓜.mem 𝓡.returns 𝓣))

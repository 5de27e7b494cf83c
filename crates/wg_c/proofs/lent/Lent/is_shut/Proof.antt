-- `is_shut` reads the pointer through the `&`, and compares it with null.
use mathlib.Core.Path.{◌≡◌, refl, sym, ap, subst, ◌∙◌}
use lib.Dec.{lit<}
use denote.Shadow.{shadow}
use Rattle.wg_c.specs.Lends.{lent}
use Prim.Native.Nat.{ℕ}
use mathlib.Core.Bool.{Bool, true, false}
use mathlib.Core.List.{List, [], ◌∷◌}
use seplogic.Ra.Ura.{Ura}
use mir.Syntax.{named}
use mir.Val.{Val, vptr, vbool}
use base.Logic.{SProp, ent, sep, emp, via, fst∗}
use base.Fml.{Lft, Share, ftrue, flft}
use prog.Wp.{Calls, Loops, WpFn, Tables}
use types.Logic.{Logic, sem}
use sound.WpLaws.{WpFn-mono}
use types.Kit.{‵, ◌⊛◌, ◌$◌, ◌∵◌, !, qed, by, move, keep, drop, split, join, rewrite, fsplit, fjoin, feq_i, suffices, frame, done}
use types.Part.{whole, sub, look_in}
use types.Run.{bin, lit, stop, fld, load, of_opd, returns, enter}
use types.ByLocal.{alloc_all, pass_all, free_all, look_at, through, get as got, is, sets}
use prog.Memory.{Memory}
use prog.Routine.{Routine}
use contract.Monad.{Fun}
use denote.Exit.{yes}
use denote.RattleType.{owns}
use denote.Memory.{hidden_shr, cell_at}
use denote.RawPtr.{Ptr, block_ptr, null_ptr, in_block, tests_null, at_block, block_of, count_of, InBlock}
use denote.Laws.{Is, shows}
use denote.Ref.{Bor, ShrRef, shr_vals, shr_Tells}
use denote.Signature.{plain}
use denote.Steps.{nothing, looks, shuts, peeks}
use denote.Triple.Entry.{on_entry}
use denote.Triple.Spec.{Meets, triple_of}
use denote.Triple.Walked.{says, Stays, stay_none_ref, walk_of, ends_at, walked, Goes-none_ref, walk_Meets}
use contract.Running.{tables, tables_of}
use denote.Triple.Table.{entered}
use Rattle.std.specs.Prelude.{Option, Some, None, is_none}
use Rattle.wg_c.specs.contracts.lent.Lent.is_shut as F
use Rattle.wg_c.specs.contracts.lent.Lent.is_shut.Key.{name as #self}
use Rattle.wg_c.proofs.lent.Lent.is_shut.Statement as stated
use Rattle.wg_c.proofs.lent.Lent.is_shut.Code as code
use Rattle.wg_c.proofs.Lending.{T, R, value_of, tells, opens}

in_block_so : (p : Ptr) → shadow (in_block p ftrue) → InBlock p
in_block_so (block_ptr b o) t = tt
in_block_so null_ptr t = absurd t

abbrev stayed : Stays (F.ended).signature.params (F.ended).kept
stayed = (stay_none_ref (0 ∷ []) tt (plain (λ _. R)) yes, tt)

module _ {M : Type 1} {𝓤 : Ura M} (𝓛 : Logic 𝓤) (at_mem : Memory → SProp 𝓤) (run : Routine → Fun 𝓤) where
  open 𝓛 use {H, A}

  module _ (κ : Lft) (q : Share) (b o : ℕ) (d : R.Denot) where
    abbrev self : Bor R.Denot
    self = record { ref_ptr = (b, o); now = d }

    abbrev bound : (walk_of 𝓛 F.ended stayed (F.clauses 𝓛 at_mem run)).Ghost
    bound = (((κ, tt), (q, tt), tt, (self, tt), (vptr b o ∷ [], tt)), tt)

    abbrev Post : Val → SProp 𝓤
    Post = (walk_of 𝓛 F.ended stayed (F.clauses 𝓛 at_mem run)).post bound

    exits : (y : Bool) → y ≡ is_none d.inside → ent 𝓤 (sep 𝓤 (A.lft κ q) (sem 𝓛 (hidden_shr R κ d b o))) (Post (vbool y))
    exits y same =
        qed 𝓛 (‵ (flft κ q) ∷ ‵ (hidden_shr R κ d b o) ∷ []) ∵
        suffices ! _ (ends_at 𝓛 F.ended stayed (F.clauses 𝓛 at_mem run) bound (vbool y) y (tt, tt) (tt, tt)) $ says ! same $
        nothing ! $ move ! (1 ∷ 0 ∷ []) $ join ! $ frame ! $ feq_i ! (List Val) (vptr b o ∷ []) (vptr b o ∷ []) refl $ fjoin ! $ nothing ! $ move ! (1 ∷ 0 ∷ []) $ fjoin ! $ frame ! $
        feq_i ! (List Val) (vbool y ∷ []) (vbool y ∷ []) refl $ done !

    module _ (C : Calls 𝓤 H) (Λ : Loops 𝓤 H) where
      abbrev Walk : Type 1
      Walk = ent 𝓤 (on_entry 𝓛 F.signature (κ, tt) (q, tt) (self, tt) (vptr b o ∷ [], tt)) (WpFn 𝓤 H C Λ code.function (vptr b o ∷ []) Post)

      at_null : d.inside ≡ None → Walk
      at_null held =
          qed 𝓛 ((‵ (flft κ q) ⊛ ‵ ftrue) ∷ ‵ (owns (ShrRef (named 0) κ R ∷ []) (self, tt) (vptr b o ∷ [], tt)) ∷ []) ∵ enter ! C Λ code.function (vptr b o ∷ []) _ $
          alloc_all ! (λ ls. pass_all ! refl ((tt, tt), tt) $ split ! $ move ! (2 ∷ []) $ fsplit ! $ fsplit ! $ drop ! $ move ! (0 ∷ 2 ∷ []) $
          looks ! tt R (opens 𝓛) d b o (λ q' vs. move ! (1 ∷ []) $ peeks ! R (Is R) (shows 𝓛 R) d vs (λ is-so. let nowhere : d.at ≡ null_ptr = subst (λ (i : Option T.Denot). shadow (lent d.at i)) held is-so.1 in
          let ev : vs ≡ value_of null_ptr ∷ [] = tells d vs is-so ∙ ap (λ (p : Ptr). value_of p ∷ []) nowhere in
          rewrite ! 1 (λ (ws : List Val). ‵ (cell_at q' R.mir ws b o)) ev refl $
          sets ! (of_opd ! (load ! (through ! refl (fld ! refl (stop !))) (look_in ! 1 (sub ! 0 refl (whole !))))) refl (tt, record { fits = lit< tt }) $
          sets ! (is ! (bin ! (got ! refl) (lit ! tt) (tests_null null_ptr (lit< tt))) refl) refl (tt, tt) $
          rewrite ! 1 (λ (ws : List Val). ‵ (cell_at q' R.mir ws b o)) (sym ev) refl $ move ! (1 ∷ 0 ∷ 2 ∷ []) $ shuts ! tt R q' d vs b o $
          returns ! (look_at ! 0 refl) $ free_all ! refl $ keep ! (0 ∷ 1 ∷ []) $ by ! (exits true (subst (λ (i : Option T.Denot). true ≡ is_none i) (sym held) refl)))))

      at_there : (x : T.Denot) → d.inside ≡ Some x → Walk
      at_there x held =
          qed 𝓛 ((‵ (flft κ q) ⊛ ‵ ftrue) ∷ ‵ (owns (ShrRef (named 0) κ R ∷ []) (self, tt) (vptr b o ∷ [], tt)) ∷ []) ∵ enter ! C Λ code.function (vptr b o ∷ []) _ $
          alloc_all ! (λ ls. pass_all ! refl ((tt, tt), tt) $ split ! $ move ! (2 ∷ []) $ fsplit ! $ fsplit ! $ drop ! $ move ! (0 ∷ 2 ∷ []) $
          looks ! tt R (opens 𝓛) d b o (λ q' vs. move ! (1 ∷ []) $ peeks ! R (Is R) (shows 𝓛 R) d vs (λ is-so. let said : shadow (lent d.at (Some x)) = subst (λ (i : Option T.Denot). shadow (lent d.at i)) held is-so.1 in
          let inb : InBlock d.at = in_block_so d.at said.1.1.0.0 in let ep : d.at ≡ block_ptr (block_of d.at) (count_of d.at) = at_block d.at inb in
          let ev : vs ≡ value_of (block_ptr (block_of d.at) (count_of d.at)) ∷ [] = tells d vs is-so ∙ ap (λ (p : Ptr). value_of p ∷ []) ep in
          rewrite ! 1 (λ (ws : List Val). ‵ (cell_at q' R.mir ws b o)) ev refl $
          sets ! (of_opd ! (load ! (through ! refl (fld ! refl (stop !))) (look_in ! 1 (sub ! 0 refl (whole !))))) refl (tt, tt) $
          sets ! (is ! (bin ! (got ! refl) (lit ! tt) (tests_null (block_ptr (block_of d.at) (count_of d.at)) said.0.0)) refl) refl (tt, tt) $
          rewrite ! 1 (λ (ws : List Val). ‵ (cell_at q' R.mir ws b o)) (sym ev) refl $ move ! (1 ∷ 0 ∷ 2 ∷ []) $ shuts ! tt R q' d vs b o $
          returns ! (look_at ! 0 refl) $ free_all ! refl $ keep ! (0 ∷ 1 ∷ []) $ by ! (exits false (subst (λ (i : Option T.Denot). false ≡ is_none i) (sym held) refl)))))

      walk : (i : Option T.Denot) → d.inside ≡ i → Walk
      walk None held = at_null held
      walk (Some x) held = at_there x held

  meets : (𝓣 : Tables 𝓤 𝓛.H) → Meets 𝓛 F.signature (WpFn 𝓤 𝓛.H 𝓣.C 𝓣.Λ code.function) (F.spec 𝓛 at_mem run)
  meets 𝓣 =
      walk_Meets 𝓛 F.ended stayed (Goes-none_ref 𝓛 1 (0 ∷ []) tt (plain (λ _. R)) yes, tt) (F.clauses 𝓛 at_mem run) (WpFn 𝓤 𝓛.H 𝓣.C 𝓣.Λ code.function) (WpFn-mono 𝓤 𝓛.H 𝓛.laws 𝓣 code.function)
      (walked 𝓛 F.ended stayed (F.clauses 𝓛 at_mem run) (WpFn 𝓤 𝓛.H 𝓣.C 𝓣.Λ code.function) (λ κs. (shr_vals, tt)) (λ κs. (shr_Tells (named 0) κs.0 R, tt))
      (λ κs qs bounds a g are. via 𝓤 _ (fst∗ 𝓤 _ (emp 𝓤)) (walk κs.0 qs.0 a.0.ref_ptr.0 a.0.ref_ptr.1 a.0.now 𝓣.C 𝓣.Λ a.0.now.inside refl)))

pub is_shut_spec : {M : Type 1} → stated.statement M
unfolding tables_of
is_shut_spec 𝓤 𝓛 𝓜 𝓡 wired =
    let 𝓣 : Tables 𝓤 𝓛.H = tables_of 𝓤 𝓛.H 𝓜 (tables 𝓤 𝓛.H 𝓜 𝓡 𝓡.env) in
    entered 𝓤 𝓛.H (triple_of 𝓛 F.signature (F.spec 𝓛 𝓜.mem 𝓡.returns)) 𝓣.C 𝓣.Λ #self code.function (code.unfolded 𝓤 𝓛.H 𝓜 𝓡 wired) (meets 𝓛 𝓜.mem 𝓡.returns 𝓣)

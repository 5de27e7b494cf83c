-- `get` reads the pointer through the `&`, and gives what lies behind it for as long as the `&` lasts.
use mathlib.Core.Path.{◌≡◌, refl, sym, ap}
use Prim.Native.Nat.{ℕ}
use mathlib.Core.Bool.{true}
use mathlib.Core.List.{List, [], ◌∷◌}
use seplogic.Ra.Ura.{Ura}
use mir.Syntax.{named}
use mir.Val.{Val, vptr}
use base.Logic.{SProp, ent, sep}
use base.Fml.{Lft, Share, ftrue, flft}
use prog.Wp.{Calls, Loops, WpFn, Tables}
use types.Logic.{Logic, sem}
use sound.WpLaws.{WpFn-mono}
use types.Kit.{at_ret, ‵, ◌⊛◌, later, await, ◌$◌, ◌∵◌, !, qed, by, move, keep, use1, use2, drop, split, join, rewrite, fsplit, fjoin, feq_i, raw, suffices, frame, done}
use types.Part.{whole, sub, look_in}
use Rattle.core.proofs.atomic.Steps.{tail}
use types.Run.{stop, fld, load, of_opd, addr, returns, enter, first, blocks, exec}
use types.ByLocal.{env, sets_last, alloc_all, pass_all, free_all, look_at, through, get as got, is, sets}
use prog.Memory.{Memory}
use prog.Routine.{Routine}
use contract.Monad.{Fun, fact}
use denote.Exit.{yes}
use denote.RattleType.{owns}
use denote.Memory.{hidden_shr, cell_at}
use denote.Opens.{shr_dup, unhide, hide}
use denote.RawPtr.{ptr_val, at_block, block_of, count_of, InBlock}
use denote.Laws.{Is, shows}
use denote.Ref.{Bor, ShrRef, shr_vals, shr_Tells}
use denote.Signature.{plain}
use denote.Steps.{heard, nothing, looks, shuts, peeks}
use denote.Struct.Lending.{in_block_says, lent_at}
use denote.Triple.Entry.{on_entry}
use denote.Triple.Spec.{Meets, triple_of}
use denote.Triple.Walked.{says, Stays, stay_none_ref, walk_of, ends_at, walked, Goes-none_ref, walk_Meets}
use contract.Running.{tables, tables_of}
use denote.Triple.Table.{entered}
use Rattle.std.specs.Prelude.{Option, Some, None}
use Rattle.std.specs.Option.{is_some}
use Rattle.wg_c.proofs.lent.Lent.TheLaws as lent
use Rattle.wg_c.specs.contracts.lent.Lent.get as F
use Rattle.wg_c.specs.contracts.lent.Lent.get.Key.{name as #self}
use Rattle.wg_c.proofs.lent.Lent.get.Statement as stated
use Rattle.wg_c.proofs.lent.Lent.get.Code as code
use Rattle.wg_c.proofs.Lending.{T, R, value_of, tells, opens, sees}

abbrev stayed : Stays (F.ended).signature.params (F.ended).kept
stayed = (stay_none_ref (0 ∷ []) tt (plain (λ _. R)) yes, tt)

open_of : (i : Option T.Denot) → is_some i ≡ true → (x : T.Denot) × (i ≡ Some x)
open_of None e = absurd (cc (e))
open_of (Some x) e = (x, refl)

module _ {M : Type 1} {𝓤 : Ura M} (𝓛 : Logic 𝓤) (at_mem : Memory → SProp 𝓤) (run : Routine → Fun 𝓤) where
  open 𝓛 use {H, A}

  module _ (κ : Lft) (q : Share) (b o : ℕ) (d : R.Denot) where
    abbrev self : Bor R.Denot
    self = record { ref_ptr = (b, o); now = d }

    abbrev bound : (walk_of 𝓛 F.ended stayed (F.clauses 𝓛 at_mem run)).Ghost
    bound = (((κ, tt), (q, tt), tt, (self, tt), (vptr b o ∷ [], tt)), tt)

    abbrev Post : Val → SProp 𝓤
    Post = (walk_of 𝓛 F.ended stayed (F.clauses 𝓛 at_mem run)).post bound

    module _ (x : T.Denot) (is-there : d.inside ≡ Some x) where
      at : ℕ × ℕ
      at = (block_of d.at, count_of d.at)

      exits : ent 𝓤 (sep 𝓤 (A.lft κ q) (sep 𝓤 (sem 𝓛 (hidden_shr R κ d b o)) (sem 𝓛 (hidden_shr T κ x (block_of d.at) (count_of d.at))))) (Post (vptr (block_of d.at) (count_of d.at)))
      exits =
          qed 𝓛 (‵ (flft κ q) ∷ ‵ (hidden_shr R κ d b o) ∷ ‵ (hidden_shr T κ x (block_of d.at) (count_of d.at)) ∷ []) ∵
          suffices ! _ (ends_at 𝓛 F.ended stayed (F.clauses 𝓛 at_mem run) bound (vptr (block_of d.at) (count_of d.at)) (record { ref_ptr = (block_of d.at, count_of d.at); now = x }) (tt, tt) (tt, tt)) $ says ! (sym is-there) $
          nothing ! $ move ! (1 ∷ 0 ∷ []) $ join ! $ frame ! $ feq_i ! (List Val) (vptr b o ∷ []) (vptr b o ∷ []) refl $ fjoin ! $ nothing ! $ move ! (1 ∷ 0 ∷ []) $ fjoin ! $ frame ! $
          feq_i ! (List Val) (vptr (block_of d.at) (count_of d.at) ∷ []) (vptr (block_of d.at) (count_of d.at) ∷ []) refl $ fjoin ! $ done !

      module _ (C : Calls 𝓤 H) (Λ : Loops 𝓤 H) where
        walk : ent 𝓤 (on_entry 𝓛 F.signature (κ, tt) (q, tt) (self, tt) (vptr b o ∷ [], tt)) (WpFn 𝓤 H C Λ code.function (vptr b o ∷ []) Post)
        walk =
            qed 𝓛 ((‵ (flft κ q) ⊛ ‵ ftrue) ∷ ‵ (owns (ShrRef (named 0) κ R ∷ []) (self, tt) (vptr b o ∷ [], tt)) ∷ []) ∵ enter ! C Λ code.function (vptr b o ∷ []) _ $
            alloc_all ! (λ ls. pass_all ! refl ((tt, tt), tt) $ let En = env code.function.locals ls in
            split ! $ move ! (2 ∷ []) $ fsplit ! $ fsplit ! $ drop ! $ shr_dup ! R lent.the_row_laws.shr_laws d b o κ $ move ! (0 ∷ 3 ∷ []) $ unhide ! $
            use2 𝓛 (later (‵ (lent_at T d.at x κ) ⊛ ‵ (flft κ q))) (sees 𝓛 κ q b o d x is-there) $ await ! tt $ split ! $ fsplit ! $
            use1 𝓛 (raw (fact 𝓤 (InBlock d.at))) (in_block_says 𝓛 d.at) $ heard ! (InBlock d.at) (λ inb. hide ! $ move ! (2 ∷ 1 ∷ []) $
            -- [a `&` to the seal; the token; a `&` to what lies behind; ..]
            looks ! tt R (opens 𝓛) d b o (λ q' vs. move ! (1 ∷ []) $ peeks ! R (Is R) (shows 𝓛 R) d vs (λ is-so. let ev : vs ≡ value_of d.at ∷ [] = tells d vs is-so in
            rewrite ! 1 (λ (ws : List Val). ‵ (cell_at q' R.mir ws b o)) ev refl $ first ! $ blocks ! $
            sets ! (is ! (of_opd ! (load ! (through ! refl (fld ! refl (stop !))) (look_in ! 1 (sub ! 0 refl (whole !))))) (ap ptr_val (at_block d.at inb))) refl (tt, tt) $
            sets ! (of_opd ! (got ! refl)) refl (tt, tt) $ sets_last ! (addr ! (through ! refl (stop !))) refl (tt, tt) $
            exec ! C Λ En (tail code.function.body) (at_ret En Post) $ sets ! (of_opd ! (got ! refl)) refl (tt, tt) $
            rewrite ! 1 (λ (ws : List Val). ‵ (cell_at q' R.mir ws b o)) (sym ev) refl $ move ! (1 ∷ 0 ∷ 2 ∷ []) $ shuts ! tt R q' d vs b o $
            returns ! (look_at ! 0 refl) $ free_all ! refl $ keep ! (0 ∷ 1 ∷ 2 ∷ []) $ by ! exits))))

module _ {M : Type 1} {𝓤 : Ura M} (𝓛 : Logic 𝓤) (at_mem : Memory → SProp 𝓤) (run : Routine → Fun 𝓤) where
  meets : (𝓣 : Tables 𝓤 𝓛.H) → Meets 𝓛 F.signature (WpFn 𝓤 𝓛.H 𝓣.C 𝓣.Λ code.function) (F.spec 𝓛 at_mem run)
  meets 𝓣 =
      walk_Meets 𝓛 F.ended stayed (Goes-none_ref 𝓛 1 (0 ∷ []) tt (plain (λ _. R)) yes, tt) (F.clauses 𝓛 at_mem run) (WpFn 𝓤 𝓛.H 𝓣.C 𝓣.Λ code.function) (WpFn-mono 𝓤 𝓛.H 𝓛.laws 𝓣 code.function)
      (walked 𝓛 F.ended stayed (F.clauses 𝓛 at_mem run) (WpFn 𝓤 𝓛.H 𝓣.C 𝓣.Λ code.function) (λ κs. (shr_vals, tt)) (λ κs. (shr_Tells (named 0) κs.0 R, tt))
      (λ κs qs bounds a g are.
      qed 𝓛 (raw (on_entry 𝓛 F.signature (κs.0, tt) (qs.0, tt) (a.0, tt) (vptr a.0.ref_ptr.0 a.0.ref_ptr.1 ∷ [], tt)) ∷ raw (fact 𝓤 (is_some a.0.now.inside ≡ true)) ∷ []) ∵
      move ! (1 ∷ []) $ heard ! (is_some a.0.now.inside ≡ true) (λ some. let held : (x : T.Denot) × (a.0.now.inside ≡ Some x) = open_of a.0.now.inside some in
      by ! (walk 𝓛 at_mem run κs.0 qs.0 a.0.ref_ptr.0 a.0.ref_ptr.1 a.0.now held.0 held.1 𝓣.C 𝓣.Λ))))

pub get_spec : {M : Type 1} → stated.statement M
unfolding tables_of
get_spec 𝓤 𝓛 𝓜 𝓡 wired =
    let 𝓣 : Tables 𝓤 𝓛.H = tables_of 𝓤 𝓛.H 𝓜 (tables 𝓤 𝓛.H 𝓜 𝓡 𝓡.env) in
    entered 𝓤 𝓛.H (triple_of 𝓛 F.signature (F.spec 𝓛 𝓜.mem 𝓡.returns)) 𝓣.C 𝓣.Λ #self code.function (code.unfolded 𝓤 𝓛.H 𝓜 𝓡 wired) (meets 𝓛 𝓜.mem 𝓡.returns 𝓣)

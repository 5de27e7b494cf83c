-- What a `&` to a `Lent` gives: its pointer, and what lies behind it, for as long as the `&` lasts.
use mathlib.Core.Path.{◌≡◌, refl, ap, ◌∙◌}
use mathlib.Core.List.{List, [], ◌∷◌, ◌++◌}
use Prim.Native.Nat.{ℕ}
use seplogic.Ra.Ura.{Ura}
use mir.Val.{Val, vstruct, vcons, vnil, of_list}
use base.Logic.{ent, sep, id⊢, upd_i}
use base.Share
use base.Fml.{Lft, Share, Fml, ftrue, fsep, fseps, fex, fwand, fupd, fdead, flft, fbor, fshr_bor}
use contract.BorrowLft.{meet_⊑_left}
use ghost.Rules.{Halves}
use types.Logic.{Logic, sem}
use types.Kit.{‵, ◌⊛◌, ◌$◌, ◌∵◌, !, qed, move, keep, assume, suffices, use1, use2, split, rewrite, fsplit, fsplit3, fjoin, fpick, fpack, updating, now, done}
use types.Tokens.{obor_alter, bor_fracture, shr_bor-open}
use denote.Copied.{whole-copied, told_Cuts}
use denote.Laws.{Is, Copy}
use denote.Memory.{cell_at, part_at, part_of, shared_of}
use denote.Moves.{moves_from}
use denote.Opens.{Opens, Cuts-Halves}
use denote.RattleType.{RattleType}
use denote.RawPtr.{Ptr, ptr_val, Testable}
use denote.Shadow.{Pure, pure_l, pure_i}
use denote.SharingLaws.{contraction}
use denote.Steps.{nothing}
use denote.Struct.Lending.{lent_at, lent_at_shr_laws}
use denote.Struct.Owning.{shape, to}
use denote.Struct.Struct.{Struct}
use Rattle.std.specs.Prelude.{Option, Some, None}
use Rattle.wg_c.specs.Lends.{lent, lent_for}
use Rattle.wg_c.specs.contracts.inner.Inner as Inner
use Rattle.wg_c.proofs.inner.Inner.TheLaws as inner
use Rattle.wg_c.specs.contracts.lent.Lent as Lent

abbrev pub T : RattleType
T = Inner.the_row

abbrev pub R : RattleType
R = Lent.the_row

abbrev Words : RattleType
Words = Struct (shape Lent.the_type)

-- the machine value of one
abbrev pub value_of : Ptr → Val
value_of p = vstruct (vcons (ptr_val p) vnil)

pub tells : (d : R.Denot) (vs : List Val) → Is R d vs → vs ≡ value_of d.at ∷ []
tells d vs is = is.0.1.0 ∙ ap (λ (ws : List Val). vstruct (of_list (ws ++ [])) ∷ []) is.0.1.1.0

module _ {M : Type 1} {𝓤 : Ura M} (𝓛 : Logic 𝓤) where
  open 𝓛 use {H, A}

  twice_pure : (P : Fml) → Pure P → ent 𝓤 (sem 𝓛 P) (sep 𝓤 (sem 𝓛 P) (sem 𝓛 P))
  twice_pure P p = qed 𝓛 (‵ P ∷ []) {P = sep 𝓤 (sem 𝓛 P) (sem 𝓛 P)} (pure_l ! P (λ f. pure_i ! P p f $ pure_i ! P p f $ done !))

  abbrev tokens : Lft → Fml
  tokens ν = fex Share (λ q. flft ν q)

  twice_tokens : (ν : Lft) → ent 𝓤 (sem 𝓛 (tokens ν)) (sep 𝓤 (sem 𝓛 (tokens ν)) (sem 𝓛 (tokens ν)))
  twice_tokens ν = qed 𝓛 (‵ (tokens ν) ∷ []) {P = sep 𝓤 (sem 𝓛 (tokens ν)) (sem 𝓛 (tokens ν))} (fpick ! (λ q.
      use1 𝓛 (‵ (flft ν (Share.left q)) ⊛ ‵ (flft ν (Share.right q))) (𝓛.lfts.lft_split ν q) $ split ! $
      fpack ! Share (λ s. flft ν s) (Share.left q) $ move ! (1 ∷ []) $ fpack ! Share (λ s. flft ν s) (Share.right q) $ done !))

  twice_at : (p : Ptr) (x : T.Denot) (ν : Lft) → ent 𝓤 (sem 𝓛 (lent_at T p x ν)) (sep 𝓤 (sem 𝓛 (lent_at T p x ν)) (sem 𝓛 (lent_at T p x ν)))
  twice_at p x ν = contraction 𝓛 (lent_at T p x) (lent_at_shr_laws T inner.the_row_laws.shr_laws p x) ν

  twice_behind : (p : Ptr) (i : Option T.Denot) → ent 𝓤 (sem 𝓛 (lent p i)) (sep 𝓤 (sem 𝓛 (lent p i)) (sem 𝓛 (lent p i)))
  twice_behind p None = twice_pure (lent p None) tt
  twice_behind p (Some x) =
      qed 𝓛 (‵ (lent p (Some x)) ∷ []) {P = sep 𝓤 (sem 𝓛 (lent p (Some x))) (sem 𝓛 (lent p (Some x)))} (fsplit ! $
      use1 𝓛 (‵ (fex (Testable p) (λ _. ftrue)) ⊛ ‵ (fex (Testable p) (λ _. ftrue))) (twice_pure (fex (Testable p) (λ _. ftrue)) (λ _. tt)) $ split ! $ move ! (2 ∷ []) $
      fpick ! (λ ν. fsplit ! $ use1 𝓛 (‵ (lent_at T p x ν) ⊛ ‵ (lent_at T p x ν)) (twice_at p x ν) $ split ! $ move ! (2 ∷ []) $
      use1 𝓛 (‵ (tokens ν) ⊛ ‵ (tokens ν)) (twice_tokens ν) $ split ! $
      -- [tokens; tokens; lent; lent; testable; testable]
      move ! (2 ∷ 0 ∷ []) $ fjoin ! $ fpack ! Lft (λ ν'. lent_for p x ν') ν $ move ! (3 ∷ 0 ∷ []) $ fjoin ! $
      move ! (2 ∷ 1 ∷ []) $ fjoin ! $ fpack ! Lft (λ ν'. lent_for p x ν') ν $ move ! (2 ∷ 0 ∷ []) $ fjoin ! $ done !))

  twice : (d : R.Denot) (vs : List Val) → ent 𝓤 (sem 𝓛 (R.own_val d vs)) (sep 𝓤 (sem 𝓛 (R.own_val d vs)) (sem 𝓛 (R.own_val d vs)))
  twice d vs =
      qed 𝓛 (‵ (R.own_val d vs) ∷ []) {P = sep 𝓤 (sem 𝓛 (R.own_val d vs)) (sem 𝓛 (R.own_val d vs))} (fsplit ! $
      use1 𝓛 (‵ (Words.own_val (to Lent.the_type d) vs) ⊛ ‵ (Words.own_val (to Lent.the_type d) vs)) (twice_pure (Words.own_val (to Lent.the_type d) vs) (λ vss. (tt, (tt, tt)))) $ split ! $ move ! (2 ∷ []) $
      use1 𝓛 (‵ (lent d.at d.inside) ⊛ ‵ (lent d.at d.inside)) (twice_behind d.at d.inside) $ split ! $
      move ! (2 ∷ 0 ∷ []) $ fjoin ! $ move ! (2 ∷ 1 ∷ []) $ fjoin ! $ done !)

  copies : Copy 𝓛 R
  copies = record { twice = twice }

  pub opens : Opens 𝓛 R
  opens = (whole-copied 𝓛 R (λ x b o. refl) (λ d. value_of d.at) tells copies).opens

  halves : (d : R.Denot) (b o : ℕ) → Halves 𝓤 H A (λ s. part_at R s d b o)
  halves d b o = Cuts-Halves 𝓛 (λ s. part_at R s d b o) (told_Cuts 𝓛 R (λ x. value_of x.at ∷ []) tells copies d b o)

  module _ (κ : Lft) (q : Share) (b o : ℕ) (d : R.Denot) (x : T.Denot) (is : d.inside ≡ Some x) where
    abbrev rest : Share → List Val → Lft → Fml
    rest s vs ν = fsep (cell_at s R.mir vs b o) (fsep (Words.own_val (to Lent.the_type d) vs) (fsep (fex (Testable d.at) (λ _. ftrue)) (lent_at T d.at x ν)))

    back : (s : Share) (vs : List Val) (ν : Lft) (e : Share) → ent 𝓤 (sem 𝓛 (rest s vs ν)) (sem 𝓛 (fwand (fsep (fdead κ) (fseps (flft ν e ∷ []))) (fupd (part_at R s d b o))))
    unfolding fseps part_of
    back s vs ν e = qed 𝓛 (‵ (rest s vs ν) ∷ []) ∵ assume ! (‵ (fsep (fdead κ) (fsep (flft ν e) ftrue))) $ suffices ! (sem 𝓛 (part_at R s d b o)) (upd_i 𝓤 (sem 𝓛 (part_at R s d b o))) $
        fsplit3 ! $ move ! (3 ∷ []) $ fsplit3 ! $ move ! (2 ∷ []) $ fsplit ! $
        -- [testable; lent; cell; words; dead; token; nothing]
        move ! (5 ∷ []) $ fpack ! Share (λ s'. flft ν s') e $ move ! (2 ∷ 0 ∷ []) $ fjoin ! $ fpack ! Lft (λ ν'. lent_for d.at x ν') ν $ move ! (1 ∷ 0 ∷ []) $ fjoin ! $
        rewrite ! 0 (λ (i : Option T.Denot). ‵ (lent d.at i)) (mathlib.Core.Path.sym is) refl $ move ! (2 ∷ 0 ∷ []) $ fjoin ! $ move ! (1 ∷ 0 ∷ []) $ fjoin ! $
        fpack ! (List Val) (λ us. fsep (cell_at s R.mir us b o) (R.own_val d us)) vs $ keep ! (0 ∷ []) $ done !

    pub sees : ent 𝓤 (sep 𝓤 (sem 𝓛 (shared_of R d b o κ)) (A.lft κ q)) (H.⇛ (sep 𝓤 (sem 𝓛 (lent_at T d.at x κ)) (A.lft κ q)))
    unfolding fseps part_of
    sees = qed 𝓛 (‵ (fshr_bor κ (λ s. part_at R s d b o)) ∷ ‵ (flft κ q) ∷ []) ∵ updating ! $ shr_bor-open ! tt (halves d b o) (λ s. move ! (1 ∷ []) $ fpick ! (λ vs. fsplit ! $
        move ! (1 ∷ []) $ fsplit ! $ move ! (1 ∷ []) $ rewrite ! 0 (λ (i : Option T.Denot). ‵ (lent d.at i)) is refl $ fsplit ! $ move ! (1 ∷ []) $ fpick ! (λ ν. fsplit ! $
        use1 𝓛 (‵ (lent_at T d.at x ν) ⊛ ‵ (lent_at T d.at x ν)) (twice_at d.at x ν) $ split ! $
        -- [lent; lent; tokens; testable; words; cell; the open borrow]
        move ! (2 ∷ []) $ fpick ! (λ e. move ! (3 ∷ 1 ∷ []) $ fjoin ! $ move ! (3 ∷ 0 ∷ []) $ fjoin ! $ move ! (3 ∷ 0 ∷ []) $ fjoin ! $
        -- [the rest; token; lent; the open borrow]
        use1 𝓛 (‵ (fwand (fsep (fdead κ) (fseps (flft ν e ∷ []))) (fupd (part_at R s d b o)))) (back s vs ν e) $ nothing ! $ move ! (2 ∷ 0 ∷ []) $ fjoin ! $ move ! (3 ∷ 0 ∷ 1 ∷ []) $
        obor_alter ! tt (flft ν e ∷ []) $ use1 𝓛 (‵ (fbor κ (flft ν e)) ⊛ ‵ ftrue) (id⊢ 𝓤 _) $ split ! $ bor_fracture ! tt (λ r. flft ν r) e $
        -- [the tokens, shared; nothing; the token; lent]
        move ! (0 ∷ 3 ∷ []) $ use2 𝓛 (‵ (lent_at T d.at x κ)) (moves_from 𝓛 (lent_at T d.at x) (lent_at_shr_laws T inner.the_row_laws.shr_laws d.at x) κ ν ν (meet_⊑_left ν κ)) $
        now ! $ keep ! (0 ∷ 2 ∷ []) $ done !))))

-- What C owns of a device it may lend for reading, to as many calls at once as it likes, and it has all back once they have returned.
use mathlib.Core.List.{[], ◌∷◌, not-mem-nil}
use Prim.Native.Nat.{ℕ}
use seplogic.Ra.Ura.{Ura}
use mir.Raw.{raw as bare}
use base.Fraction.{full_share}
use base.Share
use base.Logic.{ent, sep, ex, ex_i, guard_i}
use base.Fml.{Lft, Share, Fml, ftrue, fsep, flft, flent}
use types.Logic.{Logic, sem}
use types.Kit.{‵, ◌⊛◌, given, later, await, ◌$◌, ◌∵◌, !, qed, move, learn, suffices, use1, use2, split, fsplit, fsplit3, fjoin, fjoin3, fpack, updating, now, done}
use types.Tokens.{bor_new, lent_back, lft_new, lft_end}
use contract.Monad.{fact_use}
use denote.Memory.{lone}
use denote.RattleType.{RattleType}
use denote.RawPtr.{Ptr, Testable, lies_at}
use denote.Steps.{nothing}
use denote.Struct.Lending.{lent_at, Lends-lies}
use Rattle.std.specs.Prelude.{Some}
use Rattle.std.specs.Global.{Global}
use Rattle.std_heap.proofs.GlobalToken.{dealloc_token-Testable}
use Rattle.std_heap.specs.contracts.GlobalAllocator.TheImpl.{ghosts}
use Rattle.wg_c.specs.Owned.{owned}
use Rattle.wg_c.specs.Lends.{lent, lent_for}
use Rattle.wg_c.specs.contracts.inner.Inner as Inner
use Rattle.wg_c.proofs.inner.Inner.TheLaws as inner

abbrev T : RattleType
T = Inner.the_row

abbrev token : Global → Ptr → Fml
token alloc at = ghosts.dealloc_token alloc (bare (lone T.mir)) at

-- what the lender keeps: half of the token of the lifetime, what comes back once that has ended, and the right to free the block
abbrev pub kept : Global → Ptr → T.Denot → ℕ → Fml
kept alloc at x α = fsep (flft (α ∷ []) (Share.right full_share)) (fsep (flent (α ∷ []) (lies_at T full_share at x)) (token alloc at))

module _ {M : Type 1} {𝓤 : Ura M} (𝓛 : Logic 𝓤) (alloc : Global) (at : Ptr) (x : T.Denot) where
  open 𝓛 use {H, A}

  pub lends : ent 𝓤 (sem 𝓛 (owned alloc at (Some x))) (H.⇛ (ex 𝓤 (λ (α : ℕ). sep 𝓤 (sem 𝓛 (lent at (Some x))) (sem 𝓛 (kept alloc at x α)))))
  lends = qed 𝓛 (‵ (owned alloc at (Some x)) ∷ []) ∵ updating ! $ fsplit ! $ move ! (1 ∷ []) $
      use1 𝓛 (given (Testable at) (‵ (token alloc at))) (fact_use 𝓤 (Testable at) (dealloc_token-Testable 𝓛 alloc (bare (lone T.mir)) at) (guard_i 𝓤 (Testable at) (sem 𝓛 (token alloc at)))) $ learn ! (λ may.
      lft_new ! tt (λ α. move ! (2 ∷ []) $ bor_new ! tt (α ∷ []) $ move ! (2 ∷ []) $
      -- [the token of the lifetime; the borrow; what comes back; the right to free]
      use1 𝓛 (‵ (flft (α ∷ []) (Share.left full_share)) ⊛ ‵ (flft (α ∷ []) (Share.right full_share))) (𝓛.lfts.lft_split (α ∷ []) full_share) $ split ! $ move ! (2 ∷ 0 ∷ []) $
      use2 𝓛 (later (‵ (lent_at T at x (α ∷ [])) ⊛ ‵ (flft (α ∷ []) (Share.left full_share))))
      (Lends-lies 𝓛 T T.lives at x (inner.the_row_laws.shares 𝓛 x) (α ∷ []) ((α ∷ [], Share.left full_share) ∷ []) (λ y m. absurd (not-mem-nil m)) (λ y m. m)) $ await ! tt $ split ! $ move ! (1 ∷ []) $
      fpack ! Share (λ q. flft (α ∷ []) q) (Share.left full_share) $ move ! (1 ∷ 0 ∷ []) $ fjoin ! $ fpack ! Lft (λ ν. lent_for at x ν) (α ∷ []) $
      nothing ! $ fpack ! (Testable at) (λ _. ftrue) may $ fjoin ! $
      -- [lent; half a token; what comes back; the right to free]
      move ! (1 ∷ 2 ∷ 3 ∷ []) $ fjoin3 ! $ move ! (1 ∷ 0 ∷ []) $ now ! $ suffices ! (sep 𝓤 (sem 𝓛 (lent at (Some x))) (sem 𝓛 (kept alloc at x α)))
      (ex_i 𝓤 (λ (β : ℕ). sep 𝓤 (sem 𝓛 (lent at (Some x))) (sem 𝓛 (kept alloc at x β))) α) $ done !))

  -- the token that was lent comes back whole
  pub has_back : (α : ℕ) → ent 𝓤 (sep 𝓤 (A.lft (α ∷ []) (Share.left full_share)) (sem 𝓛 (kept alloc at x α))) (H.⇛ (sem 𝓛 (owned alloc at (Some x))))
  has_back α = qed 𝓛 (‵ (flft (α ∷ []) (Share.left full_share)) ∷ ‵ (kept alloc at x α) ∷ []) ∵ updating ! $ move ! (1 ∷ []) $ fsplit3 ! $ move ! (3 ∷ 0 ∷ []) $
      use2 𝓛 (‵ (flft (α ∷ []) full_share)) (𝓛.lfts.lft_join (α ∷ []) full_share) $ lft_end ! tt $ lent_back ! tt $ now ! $ fjoin ! $ done !

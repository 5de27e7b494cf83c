-- The textures of canvases that were presented: what is refused of them from then on, and when they are released.
use Rattle.std.specs.Prelude.{◌≡◌, ℕ, List, [], ◌∷◌, ◌++◌, length, reverse, true, false, Option, Some, None, count_by, if◌then◌else◌}
use Rattle.std.specs.List.{flat_map}
use Rattle.wg_rules.specs.declared.TheConstants.{SUBMITTED_OBJECTS_ARE_NOT_DESTROYED, WRITTEN_TEXTURE_IS_NOT_DESTROYED}
use Rattle.wg_types.specs.declared.canvases.CanvasOf.{CanvasOf}
use Rattle.wg_types.specs.declared.handles.ObjRef.{ObjRef}
use Rattle.wg_types.specs.declared.textures.DataLayout.{DataLayout}
use Rattle.wg_types.specs.declared.textures.TextureSpot.{TextureSpot}
use Rattle.wg_model.specs.Rules.{Rule, first_unmet}
use Rattle.wg_history.specs.declared.events.Event.TheVariants.{Destroy, Submit, WriteTexture}
use Rattle.wg_history.specs.declared.events.Setup.{Setup}
use Rattle.wg_history.specs.Entries.{Entry, Past}
use Rattle.wg_history.specs.Answers.{Plain, fault_of, Run}
use Rattle.wg_history.specs.Loss.{is_lost}
use Rattle.wg_history.specs.Operations.{submit_uses}
use Rattle.wg_history.specs.ReleaseLaws.{releases_object}
use Rattle.wg_history.specs.Traces.{Trace}
use Rattle.wg_expiry.specs.Expiry.{submit_before, write_before, is_over}
use Rattle.wg_script.specs.CallOf.{BoundCall}
use Rattle.wg_script.specs.declared.calls.CallOf.TheVariants.{Canvas}
use Rattle.wg_play.specs.Turns.{entries_of_caller}
use Rattle.wg_play.specs.Played.{PlayedCall, PlayedPhase, entries_in, IsPlayedThrough}

-- The entry after a past is answered Plain; and its fault is of this rule where the device is not lost and no rule before it is unmet.
pub record IsRefusedBy (past : Past) (entry : Entry) (rule : ℕ) (before : List Rule) : Type 0 where
  pub plain : entry.reply.answer ≡ Plain
  pub fault : is_lost past ≡ false → first_unmet before ≡ None → entry.reply.fault ≡ Some (fault_of past rule)

-- After the first part of a history a texture has expired: every later submit whose command buffers use it is refused, and so is every
-- later writeTexture of it. It is never dropped: so the trace of each beginning of the history has one release of it where it is a valid
-- texture, is destroyed by then, and every operation so far that uses it is complete, and else none. Its release thus stands at the
-- first entry, from its first destroy on, after which all is complete that uses it.
pub record HasExpired (setup : Setup) (front back : List Entry) (texture : ObjRef) : Type 0 where
  pub submits : (between rest : List Entry) (entry : Entry) (buffers : List ObjRef) → back ≡ between ++ entry ∷ rest → entry.event ≡ Submit buffers
      → submit_uses (reverse (front ++ between)) buffers texture.number ≡ true
      → IsRefusedBy (reverse (front ++ between)) entry SUBMITTED_OBJECTS_ARE_NOT_DESTROYED (submit_before setup (reverse (front ++ between)) buffers)
  pub writes : (between rest : List Entry) (entry : Entry) (target : ObjRef) (spot : TextureSpot) (layout : DataLayout) (size : List ℕ) (data_size : ℕ)
      → back ≡ between ++ entry ∷ rest → entry.event ≡ WriteTexture target spot layout size data_size → target.number ≡ texture.number
      → IsRefusedBy (reverse (front ++ between)) entry WRITTEN_TEXTURE_IS_NOT_DESTROYED
      (write_before setup (reverse (front ++ between)) target spot layout size data_size)
  pub released : (before rest : List Entry) → front ++ back ≡ before ++ rest
      → count_by (releases_object texture.number) (Trace setup before) ≡ (if is_over setup (reverse before) texture.number then 1 else 0)

-- A call, at its place among calls that were played, gave this entry, and what had happened before it.
pub record GivenAt (plays : List PlayedPhase) (front : List Entry) (entry : Entry) (call : BoundCall) : Type 0 where
  pub earlier : List PlayedPhase
  pub later : List PlayedPhase
  pub phase : PlayedPhase
  pub lanes_before : List (List PlayedCall)
  pub lanes_after : List (List PlayedCall)
  pub before : List PlayedCall
  pub after : List PlayedCall
  pub plays_are : plays ≡ earlier ++ phase ∷ later
  pub lanes_are : phase.lanes ≡ lanes_before ++ (before ++ (call, Some entry) ∷ after) ∷ lanes_after
  pub first : List Entry
  pub last : List Entry
  pub entries_are : phase.entries ≡ first ++ entry ∷ last
  pub own : entries_of_caller (length lanes_before) first ≡ entries_in before
  pub front_is : front ≡ flat_map (λ (p : PlayedPhase). p.entries) earlier ++ first

-- In a history that calls gave which were played so: where a call of a canvas became the destroy of its texture, as a present does
-- exactly where its canvas has one, and so does a configureCanvas, that texture has expired after it.
abbrev pub EachExpires : Setup → List Entry → List PlayedPhase → Type 0
EachExpires setup history plays = (front back : List Entry) (entry : Entry) (call : CanvasOf ℕ) (made : Option ℕ) (texture : ObjRef)
    → history ≡ front ++ entry ∷ back → GivenAt plays front entry (Canvas call made) → entry.event ≡ Destroy texture
    → HasExpired setup (front ++ entry ∷ []) back texture

-- Each texture of a canvas that a call destroyed has expired from then on, where a script was played through, as each is whose
-- names are bound, however its calls were played.
abbrev pub PresentsExpire : Type 0
PresentsExpire = (setup : Setup) (phases : List (List (List BoundCall))) (history : List Entry) → Run setup history
    → (through : IsPlayedThrough setup phases history) → EachExpires setup history through.plays

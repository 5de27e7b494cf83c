-- Of what a view is made: its texture is one.
use Rattle.std.proofs.Common.{◌≡◌, ℕ, [], ◌∷◌, Bool, true, false, not, ◌&&◌, ◌==◌, Option, Some, is_none, ap, sym, ◌∙◌, subst, if◌then◌else◌, true≢false}
use Rattle.std.specs.Option.{option_map_or}
use Rattle.std.proofs.lemmas.Bool.{and_parts}
use Rattle.wg_types.specs.declared.handles.Info.{Info}
use Rattle.wg_types.specs.declared.handles.Info.TheVariants.{View}
use Rattle.wg_types.specs.declared.textures.ViewInfo.{ViewInfo}
use Rattle.wg_model.specs.Making.{view_made}
use Rattle.wg_model.proofs.Unmet.{all_met}
use Rattle.wg_history.specs.Entries.{Setup, Event, CreateView, effects_of, Entry, Past}
use Rattle.wg_history.specs.Objects.{ObjRef, is_making, count, maker, info_made, known_in, info_at, is_own, is_valid, is_made_valid, is_texture_info}
use Rattle.wg_history.specs.Rules.{create_view_list, create_view_rule}
use Rattle.wg_history.specs.Loss.{is_lost}
use Rattle.wg_history.specs.FirstRules.{first_rule}
use Rattle.wg_history.specs.Answers.{answer_by, IsRun}
use Rattle.wg_history.proofs.Runs.{newest, others}
use Rattle.wg_history.proofs.Makers.{info_stays, known_below, made_met}

-- whether object n was made and is of a kind that passes the test
abbrev pub is_kind_at : (Info → Bool) → Past → ℕ → Bool
is_kind_at kind past n = option_map_or kind (info_at past n) false

pub kind_later : (kind : Info → Bool) (entry : Entry) (older : Past) (n : ℕ) → is_kind_at kind older n ≡ true → is_kind_at kind (entry ∷ older) n ≡ true
kind_later kind entry older n e = ap (λ (o : Option Info). option_map_or kind o false) (info_stays older entry n (known_below older kind n e)) ∙ e

-- whether it is a texture
abbrev pub is_texture_at : Past → ℕ → Bool
is_texture_at past n = is_kind_at is_texture_info past n

pub texture_later : (entry : Entry) (older : Past) (n : ℕ) → is_texture_at older n ≡ true → is_texture_at (entry ∷ older) n ≡ true
texture_later entry older n e = kind_later is_texture_info entry older n e

pub own_known : (setup : Setup) (past : Past) (kind : Info → Bool) (object : ObjRef) → is_own setup past kind object ≡ true → option_map_or kind (info_at past object.number) false ≡ true
own_known setup past kind object own = (and_parts (object.device == setup.serial) (option_map_or kind (info_at past object.number) false) own).1

made_of_texture : (setup : Setup) (older : Past) (event : Event) (known : ViewInfo) → info_made (known_in older) event ≡ Some (View known)
    → is_made_valid (answer_by older (effects_of event).form (not (is_lost older) && is_none (first_rule setup older event))) ≡ true → is_texture_at older known.texture.number ≡ true
unfolding create_view_rule
made_of_texture setup older (CreateView texture desc) known e made =
    let met = all_met (create_view_list setup older texture desc) (and_parts (not (is_lost older)) (is_none (create_view_rule setup older texture desc)) made).1 in
    let same : view_made (λ r. r) (known_in older) texture desc ≡ known = cc in
    subst (λ (view : ViewInfo). is_texture_at older view.texture.number ≡ true) same (own_known setup older is_texture_info texture met.0)
made_of_texture setup older _ known e made = absurd (cc)

-- A valid view is of a texture.
pub view_texture : (setup : Setup) (past : Past) (v : ℕ) (known : ViewInfo) → IsRun setup past → is_valid past v ≡ true → info_at past v ≡ Some (View known) → is_texture_at past known.texture.number ≡ true
view_texture setup [] v known run valid e = absurd (true≢false (sym valid))
view_texture setup (entry ∷ older) v known run valid e = texture_later entry older known.texture.number (by_maker (is_making entry.event && count older == v) valid e (view_texture setup older v known (others setup entry older run)))
  where
    by_maker : (b : Bool) → option_map_or (λ entry. is_made_valid entry.reply.answer) (if b then Some entry else maker older v) false ≡ true → (if b then info_made (λ object. info_at older object.number) entry.event else info_at older v) ≡ Some (View known)
        → (is_valid older v ≡ true → info_at older v ≡ Some (View known) → is_texture_at older known.texture.number ≡ true)
        → is_texture_at older known.texture.number ≡ true
    by_maker true valid e rest = made_of_texture setup older entry.event known e (made_met setup entry older (newest setup entry older run) valid)
    by_maker false valid e rest = rest valid e

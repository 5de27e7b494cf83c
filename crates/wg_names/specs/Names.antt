-- What names stand for, and which call sees them.
use Rattle.std.specs.Prelude.{ℕ, ◌+◌, List, length, Bool, false, not, ◌||◌, ◌&&◌, ◌==◌, nat_lt, nat_le, bytes_eq, if◌then◌else◌, Option, Some, None, Result, Ok, Err, ⊤}
use Rattle.std.specs.Char.{is_ascii_alphanumeric}
use Rattle.std.specs.List.{list_all}
use Rattle.std.specs.Option.{option_map_or}
use Rattle.wg_names.specs.Uses.{admits, wants_own}
use Rattle.wg_types.specs.declared.wanted.Kind.{Kind}
use Rattle.wg_types.specs.declared.wanted.Kind.TheVariants as kind
use Rattle.wg_types.specs.declared.wanted.Wanted.{Wanted}
use Rattle.wg_types.specs.declared.canvases.CanvasCall.{CanvasCall}
use Rattle.wg_types.specs.declared.canvases.CanvasCall.TheVariants.{Configure, Current, Present}
use Rattle.wg_names.specs.declared.known.Mark.{Mark}

-- ---- what a name looks like

-- an ASCII letter, a digit or `_`
abbrev pub is_name_byte : ℕ → Bool
is_name_byte b = is_ascii_alphanumeric b || b == 95

-- 1 to 64 of these
abbrev pub is_name : List ℕ → Bool
is_name text = nat_le 1 (length text) && (nat_le (length text) 64 && list_all is_name_byte text)

-- ---- what names stand for

-- what each text stands for, where an earlier call in reading order has made it; how many names were made; and which of them stand for
-- canvases that an earlier call has configured
pub record Names : Type 0 where
  pub marks : List ℕ → Option Mark
  pub made : ℕ
  pub configured : List ℕ → Bool

-- no name was made
abbrev pub no_names : Names
no_names = record { marks = λ name. None; made = 0; configured = λ name. false }

-- one more name, which a call of phase p and lane l makes; its slot is how many names were made before
abbrev pub with_name : ℕ → ℕ → List ℕ → Kind → Names → Names
with_name p l name kind names = record names {
  marks = λ other. if bytes_eq name other then Some (record { kind = kind; phase = p; lane = l; slot = names.made }) else names.marks other;
  made = names.made + 1;
}

-- one more canvas that was configured, by its name
abbrev pub with_configured : List ℕ → Names → Names
with_configured name names = record names { configured = λ other. bytes_eq name other || names.configured other }

-- the slot of a name; each name that a call uses or makes was made, so that the 0 is not met
abbrev pub slot_in : Names → List ℕ → ℕ
slot_in names name = option_map_or (λ mark. mark.slot) (names.marks name) 0

-- the kind of what a name stands for; likewise
abbrev pub kind_in : Names → List ℕ → Kind
kind_in names name = option_map_or (λ mark. mark.kind) (names.marks name) kind.Encoder

-- lane l of phase p made it
abbrev pub is_own : ℕ → ℕ → Mark → Bool
is_own p l mark = mark.phase == p && mark.lane == l

-- a call of phase p and lane l sees what earlier phases made, and what its own lane made
abbrev pub is_visible : ℕ → ℕ → Mark → Bool
is_visible p l mark = nat_lt mark.phase p || is_own p l mark

-- script rule 12: the name stands for an encoder, a bundle encoder, a pass or a canvas of another lane or phase, where one of the
-- call's own is wanted
abbrev pub check_own : ℕ → ℕ → Wanted → Mark → Result ⊤ ℕ
check_own p l wanted mark = if wants_own wanted && not (is_own p l mark) then Err 12 else Ok tt

-- script rule 11: what the name stands for is not wanted here, as where a drop names the current texture of a canvas. Rule 12 comes
-- after it
abbrev pub check_wanted : ℕ → ℕ → Wanted → Mark → Result ⊤ ℕ
check_wanted p l wanted mark = if admits wanted mark.kind then check_own p l wanted mark else Err 11

-- script rule 10: no call has made the name, or none that is visible. Rule 11 comes after it
abbrev pub check_mark : ℕ → ℕ → Wanted → Option Mark → Result ⊤ ℕ
check_mark p l wanted None = Err 10
check_mark p l wanted (Some mark) = if is_visible p l mark then check_wanted p l wanted mark else Err 10

-- a name that a call of phase p and lane l uses, with what it must stand for
abbrev pub check_use : Names → ℕ → ℕ → (List ℕ × Wanted) → Result ⊤ ℕ
check_use names p l u = check_mark p l u.1 (names.marks u.0)

-- ---- canvases

-- script rule 15: no earlier call has configured the canvas of which the current texture is asked
abbrev pub check_configured : Names → List ℕ → CanvasCall → Result ⊤ ℕ
check_configured names canvas (Configure format usage) = Ok tt
check_configured names canvas Current = if names.configured canvas then Ok tt else Err 15
check_configured names canvas Present = Ok tt

-- the names after a call of a canvas
abbrev pub after_canvas : List ℕ → CanvasCall → Names → Names
after_canvas canvas (Configure format usage) names = with_configured canvas names
after_canvas canvas Current names = names
after_canvas canvas Present names = names

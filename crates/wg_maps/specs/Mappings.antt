-- How buffers are mapped (WebGPU, "Buffer Mapping"): the maps that are pending, and the buffers that are mapped.
use Rattle.std.specs.Prelude.{◌≡◌, ℕ, Bool, true, not, ◌&&◌, ◌==◌, nat_le, nat_lt, List, [], ◌∷◌, filter, map, Option, Some, None, is_some, if◌then◌else◌, refl}
use Rattle.std.specs.List.{find, list_any}
use Rattle.std.specs.Ordering.{nat_cmp}
use Rattle.std.specs.Coded.{Coded, code_by, coded×, coded_list, coded_ℕ}
use Rattle.std.specs.FinMap as table
use Rattle.std.specs.FinMap.{FinMap}
use Rattle.wg_types.specs.declared.mappings.MapMode.{MapMode}
use Rattle.wg_types.specs.declared.mappings.MapMode.TheVariants.{Read as ReadMode, Write as WriteMode}
use Rattle.wg_types.specs.declared.mappings.MapState.{MapState}
use Rattle.wg_types.specs.declared.mappings.MapState.TheVariants.{Unmapped as IsUnmapped, Pending, Mapped}
use Rattle.wg_types.specs.declared.mappings.Unmapped.{Unmapped}
use Rattle.wg_types.specs.declared.mappings.Unmapped.TheVariants.{Nothing, Aborted, Read, Written}
use Rattle.wg_types.specs.declared.mappings.MapDone.{MapDone}
use Rattle.wg_types.specs.declared.mappings.Mapping.{Mapping}
use Rattle.wg_types.specs.declared.mappings.PendingMap.{PendingMap}

-- how buffers are mapped, by their numbers
abbrev pub Mappings : Type 0
Mappings = FinMap nat_cmp Mapping

-- the mapped buffers that are kept, and the room for more
pub record MappedValue : Type 0 where
  pub buffers : Mappings
  -- for how many more there is room
  pub spare : ℕ

-- the pending maps and mapped buffers that are kept, and the room for more
pub record MapsValue : Type 0 where
  -- the maps that are pending, in the order of their promises
  pub pending : List PendingMap
  -- the buffers that are mapped
  pub mapped : Mappings
  -- for how many more maps there is room
  pub spare : ℕ

-- by which a proof tells values apart

-- how a proof tells kept mapped buffers apart
abbrev pub mapped_code : Coded Mapping → Coded MappedValue
mapped_code mapping =
    code_by (Mappings × ℕ) (coded× (table.code coded_ℕ mapping) coded_ℕ)
    (λ v. (v.buffers, v.spare)) (λ p. record { buffers = p.0; spare = p.1 }) (λ _. refl)

-- how a proof tells kept maps apart
abbrev pub maps_code : Coded PendingMap → Coded Mapping → Coded MapsValue
maps_code wait mapping =
    code_by (List PendingMap × (Mappings × ℕ)) (coded× (coded_list wait) (coded× (table.code coded_ℕ mapping) coded_ℕ))
    (λ v. (v.pending, (v.mapped, v.spare))) (λ p. record { pending = p.0; mapped = p.1.0; spare = p.1.1 }) (λ _. refl)

-- the pending map of a buffer, if there is one
abbrev pub pending_of : List PendingMap → ℕ → Option PendingMap
pending_of pending buffer = find (λ wait. wait.buffer == buffer) pending

-- whether a map of the buffer is pending
abbrev pub has_pending : List PendingMap → ℕ → Bool
has_pending pending buffer = is_some (pending_of pending buffer)

-- no buffer is both pending and mapped
abbrev pub IsApart : List PendingMap → Mappings → Type 0
IsApart pending mapped = (buffer : ℕ) → has_pending pending buffer ≡ true → table.get mapped buffer ≡ None

-- how a buffer stands that has this pending map and this mapping
abbrev pub state_with : Option PendingMap → Option Mapping → MapState
state_with (Some wait) mapping = Pending
state_with None (Some mapping) = Mapped
state_with None None = IsUnmapped

-- how a buffer stands: unmapped, pending or mapped
abbrev pub state_of : MapsValue → ℕ → MapState
state_of maps buffer = state_with (pending_of maps.pending buffer) (table.get maps.mapped buffer)

-- what a mapping leaves: what was written in it, if it is for writing
abbrev pub left_of_mapping : MapMode → ℕ → ℕ → Unmapped
left_of_mapping ReadMode lo hi = Read
left_of_mapping WriteMode lo hi = Written lo hi

-- what a buffer with this pending map and this mapping leaves when it is unmapped
abbrev pub left_with : Option PendingMap → Option Mapping → Unmapped
left_with (Some wait) mapping = Aborted wait.promise
left_with None (Some mapping) = left_of_mapping mapping.mode mapping.lo mapping.hi
left_with None None = Nothing

-- what an unmap of a buffer says that it was
abbrev pub left_of : MapsValue → ℕ → Unmapped
left_of maps buffer = left_with (pending_of maps.pending buffer) (table.get maps.mapped buffer)

-- pending maps without those of a buffer
abbrev pub without : List PendingMap → ℕ → List PendingMap
without pending buffer = filter (λ wait. not (wait.buffer == buffer)) pending

-- pending maps with one more, which comes before those of later promises
abbrev pub with_map : List PendingMap → PendingMap → List PendingMap
with_map [] new = new ∷ []
with_map (wait ∷ later) new = if nat_lt new.promise wait.promise then new ∷ wait ∷ later else wait ∷ with_map later new

-- whether a promise comes after those of all that are pending
abbrev pub is_latest : List PendingMap → ℕ → Bool
is_latest [] promise = true
is_latest (wait ∷ later) promise = nat_lt wait.promise promise && is_latest later promise

-- the pending maps of a buffer, of which there is one at most
abbrev pub maps_of : List PendingMap → ℕ → List PendingMap
maps_of pending buffer = filter (λ wait. wait.buffer == buffer) pending

-- whether a map is due once the operations up to this one are complete
abbrev pub is_due : ℕ → PendingMap → Bool
is_due completed wait = nat_le wait.last completed

-- what one is told of a map that is settled
abbrev pub map_done : PendingMap → MapDone
map_done wait = record { buffer = wait.buffer; promise = wait.promise; mode = wait.mapping.mode; lo = wait.mapping.lo; hi = wait.mapping.hi }

-- the maps that are due, in the order of their promises
abbrev pub due_maps : ℕ → List PendingMap → List PendingMap
due_maps completed pending = filter (is_due completed) pending

-- the pending maps that wait on after a completion
abbrev pub still_pending : ℕ → List PendingMap → List PendingMap
still_pending completed pending = filter (λ wait. not (is_due completed wait)) pending

-- the mapped buffers, and with them those of the maps of a list that are due
abbrev pub with_due : ℕ → List PendingMap → Mappings → Mappings
with_due completed [] mapped = mapped
with_due completed (wait ∷ later) mapped = with_due completed later (if is_due completed wait then table.insert mapped wait.buffer wait.mapping else mapped)

-- whether some map of a list is of this buffer and due
abbrev pub is_buffer_due : ℕ → ℕ → List PendingMap → Bool
is_buffer_due completed buffer pending = list_any (λ wait. is_due completed wait && wait.buffer == buffer) pending

-- the map of a buffer that waits on, if there is one
abbrev pub still_pending_of : ℕ → List PendingMap → ℕ → Option PendingMap
still_pending_of completed pending buffer = if is_buffer_due completed buffer pending then None else pending_of pending buffer

-- what is kept of maps after a completion, with those mapped that are due
abbrev pub settled_up_to : ℕ → MapsValue → MapsValue
settled_up_to completed maps = record maps { pending = still_pending completed maps.pending; mapped = with_due completed maps.pending maps.mapped }

-- the promises of pending maps, in their order
abbrev pub promises : List PendingMap → List ℕ
promises pending = map (λ (wait : PendingMap). wait.promise) pending

-- The objects that the entries of a bind group name, the entries with others in their place, and the entries of layouts
-- (WebGPU, "Resource Binding" and "Samplers").
use Rattle.std.specs.Prelude.{ℕ, ◌==◌, List, [], ◌∷◌, map, Option, Some, None, if◌then◌else◌}
use Rattle.wg_types.specs.declared.wanted.Wanted.{Wanted}
use Rattle.wg_types.specs.declared.wanted.Wanted.TheVariants as wanted
use Rattle.wg_types.specs.declared.bindings.LayoutEntry.{LayoutEntry}
use Rattle.wg_types.specs.declared.bindings.ResourceOf.{ResourceOf}
use Rattle.wg_types.specs.declared.bindings.ResourceOf.TheVariants.{Buffer, View, Sampler}
use Rattle.wg_types.specs.declared.bindings.GroupEntryOf.{GroupEntryOf}

-- the object that is bound, with what is wanted of it
abbrev pub resource_named : {R : Type 0} → ResourceOf R → R × Wanted
resource_named (Buffer buffer offset size) = (buffer, wanted.Buffer)
resource_named (View view) = (view, wanted.View)
resource_named (Sampler sampler) = (sampler, wanted.Sampler)

-- the objects of all entries of a bind group, in their order, each with what it has to be
abbrev pub entries_named : {R : Type 0} → List (GroupEntryOf R) → List (R × Wanted)
entries_named entries = map (λ entry. resource_named entry.resource) entries

-- what an entry binds, with another object in place of its own
abbrev pub map_resource : {R S : Type 0} → (R → S) → ResourceOf R → ResourceOf S
map_resource f (Buffer buffer offset size) = Buffer (f buffer) offset size
map_resource f (View view) = View (f view)
map_resource f (Sampler sampler) = Sampler (f sampler)

-- an entry with another object
abbrev pub map_entry : {R S : Type 0} → (R → S) → GroupEntryOf R → GroupEntryOf S
map_entry f entry = record { binding = entry.binding; resource = map_resource f entry.resource }

-- the entry of a binding in a layout, the first where there are several
abbrev pub entry_of : List LayoutEntry → ℕ → Option LayoutEntry
entry_of [] binding = None
entry_of (entry ∷ entries) binding = if entry.binding == binding then Some entry else entry_of entries binding

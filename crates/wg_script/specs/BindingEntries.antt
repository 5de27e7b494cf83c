-- The objects inside calls on bindings: the entries of bind group layouts, of what shaders use, and of
-- bind groups. For each its keys, and what each holds.
use Rattle.std.specs.Prelude.{ℕ, List, codes, false, is_some, if◌then◌else◌, Result}
use Rattle.serde_json.specs.Data.{Data}
use Rattle.serde_json.specs.Find.{get}
use Rattle.wg_types.specs.declared.bindings.BufferBinding.{BufferBinding}
use Rattle.wg_types.specs.declared.bindings.SamplerKind.TheVariants.{Filtering}
use Rattle.wg_types.specs.declared.bindings.StorageAccess.TheVariants.{WriteOnly}
use Rattle.wg_types.specs.declared.bindings.BindingKind.{BindingKind}
use Rattle.wg_types.specs.declared.bindings.BindingKind.TheVariants.{Buffer, Sampler, Texture, StorageTexture}
use Rattle.wg_types.specs.declared.bindings.LayoutEntry.{LayoutEntry}
use Rattle.wg_types.specs.declared.bindings.IfaceEntry.{IfaceEntry}
use Rattle.wg_types.specs.declared.bindings.Stage.TheVariants.{Compute}
use Rattle.wg_types.specs.declared.bindings.ResourceOf.TheVariants as resource
use Rattle.wg_types.specs.declared.bindings.GroupEntryOf.{GroupEntryOf}
use Rattle.wg_types.specs.declared.formats.SampleType.TheVariants.{Float}
use Rattle.wg_types.specs.declared.textures.ViewDim.TheVariants.{Two}
use Rattle.wg_script.specs.Giving.{◌>>=◌}
use Rattle.wg_script.specs.Values.{whole_at, whole_or, whole_if, most_whole, most_short, flag_or, name_at}
use Rattle.wg_script.specs.Words.{word_at, word_or}
use Rattle.wg_script.specs.TextureWords.{format_words, view_dim_words}
use Rattle.wg_script.specs.BindingWords.{kind_words, sampler_words, sample_words, access_words, stage_words}
use Rattle.wg_script.specs.declared.binding_words.KindWord.{KindWord}
use Rattle.wg_script.specs.declared.binding_words.KindWord.TheVariants as kind
use Rattle.wg_script.specs.Readers.{Reader, gives, need, may, has, all_of, ◌▹◌, inner_by}

-- ---- kinds of bindings

-- the keys of an entry that is a buffer
abbrev pub buffer_kind_keys : BufferBinding → Reader BindingKind
buffer_kind_keys binding = gives (λ dynamic min_size. Buffer binding dynamic min_size)
    ▹ may (codes "dynamic") (flag_or false)
    ▹ may (codes "minSize") (whole_or most_whole 0)

-- the keys of an entry that is a sampler
abbrev pub sampler_kind_keys : Reader BindingKind
sampler_kind_keys = gives (λ sampler_type. Sampler sampler_type)
    ▹ may (codes "type") (word_or sampler_words Filtering)

-- the keys of an entry that is a texture
abbrev pub texture_kind_keys : Reader BindingKind
texture_kind_keys = gives (λ sample dim multi. Texture sample dim multi)
    ▹ may (codes "sample") (word_or sample_words Float)
    ▹ may (codes "dim") (word_or view_dim_words Two)
    ▹ may (codes "multi") (flag_or false)

-- the keys of an entry that is a storage texture
abbrev pub storage_texture_kind_keys : Reader BindingKind
storage_texture_kind_keys = gives (λ access format dim. StorageTexture access format dim)
    ▹ may (codes "access") (word_or access_words WriteOnly)
    ▹ need (codes "format") (word_at format_words)
    ▹ may (codes "dim") (word_or view_dim_words Two)

-- the keys of a kind beside that of its word
abbrev pub kind_keys : KindWord → Reader BindingKind
kind_keys (kind.Buffer binding) = buffer_kind_keys binding
kind_keys kind.Sampler = sampler_kind_keys
kind_keys kind.Texture = texture_kind_keys
kind_keys kind.StorageTexture = storage_texture_kind_keys

-- an object whose keys hang on the word of its kind
abbrev pub kinded_by : {X : Type 0} → (KindWord → Reader X) → Data → Result X ℕ
kinded_by keys d = word_at kind_words (get (codes "kind") d) >>= λ word. inner_by (keys word) d

-- ---- entries of layouts

-- the keys of an entry of a layout, by its kind
abbrev pub layout_entry_keys : KindWord → Reader LayoutEntry
layout_entry_keys word = gives (λ binding visibility kind. record { binding = binding; visibility = visibility; kind = kind })
    ▹ need (codes "binding") (whole_at most_short)
    ▹ need (codes "visibility") (whole_at most_short)
    ▹ has (codes "kind")
    ▹ all_of (kind_keys word)

-- an entry of a bind group layout
unfoldable pub layout_entry_of : Data → Result LayoutEntry ℕ
layout_entry_of d = kinded_by layout_entry_keys d

-- ---- entries of what shaders use

-- the keys of an entry of a compute pipeline's interface, by its kind
abbrev pub iface_entry_keys : KindWord → Reader IfaceEntry
iface_entry_keys word = gives (λ group binding kind. record { group = group; binding = binding; stage = Compute; kind = kind })
    ▹ need (codes "group") (whole_at most_short)
    ▹ need (codes "binding") (whole_at most_short)
    ▹ has (codes "kind")
    ▹ all_of (kind_keys word)

-- an entry of what a compute shader uses
unfoldable pub iface_entry_of : Data → Result IfaceEntry ℕ
iface_entry_of d = kinded_by iface_entry_keys d

-- the keys of an entry of a render pipeline's interface, by its kind
abbrev pub staged_entry_keys : KindWord → Reader IfaceEntry
staged_entry_keys word = gives (λ group binding stage kind. record { group = group; binding = binding; stage = stage; kind = kind })
    ▹ need (codes "group") (whole_at most_short)
    ▹ need (codes "binding") (whole_at most_short)
    ▹ need (codes "stage") (word_at stage_words)
    ▹ has (codes "kind")
    ▹ all_of (kind_keys word)

-- an entry of what a shader of a render pipeline uses, which names its stage
unfoldable pub staged_entry_of : Data → Result IfaceEntry ℕ
staged_entry_of d = kinded_by staged_entry_keys d

-- ---- entries of bind groups

-- an entry with a buffer: no size stands for what remains of the buffer from the offset on
abbrev pub buffer_entry_keys : Reader (GroupEntryOf (List ℕ))
buffer_entry_keys = gives (λ binding buffer offset size. record { binding = binding; resource = resource.Buffer buffer offset size })
    ▹ need (codes "binding") (whole_at most_short)
    ▹ need (codes "buffer") name_at
    ▹ may (codes "offset") (whole_or most_whole 0)
    ▹ may (codes "size") (whole_if most_whole)

-- the keys of an entry that binds a view
abbrev pub view_entry_keys : Reader (GroupEntryOf (List ℕ))
view_entry_keys = gives (λ binding view. record { binding = binding; resource = resource.View view })
    ▹ need (codes "binding") (whole_at most_short)
    ▹ need (codes "view") name_at

-- the keys of an entry that binds a sampler
abbrev pub sampler_entry_keys : Reader (GroupEntryOf (List ℕ))
sampler_entry_keys = gives (λ binding sampler. record { binding = binding; resource = resource.Sampler sampler })
    ▹ need (codes "binding") (whole_at most_short)
    ▹ need (codes "sampler") name_at

-- an entry of a bind group, by which of its keys is there. One without any of them lacks a needed key
unfoldable pub group_entry_of : Data → Result (GroupEntryOf (List ℕ)) ℕ
group_entry_of d =
    if is_some (get (codes "buffer") d) then inner_by buffer_entry_keys d
    else if is_some (get (codes "view") d) then inner_by view_entry_keys d
    else inner_by sampler_entry_keys d

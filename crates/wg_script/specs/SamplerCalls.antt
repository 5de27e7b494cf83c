-- The call that makes a sampler: its keys in either form, and what each holds, in the order in which they are read.
use Rattle.std.specs.Prelude.{ℕ, List, ◌++◌, codes, if◌then◌else◌, Result, ⊤}
use Rattle.serde_json.specs.Data.{Data}
use Rattle.wg_types.specs.declared.bindings.SamplerKind.TheVariants.{Filtering}
use Rattle.wg_types.specs.declared.requests.RequestOf.TheVariants.{CreateSampler}
use Rattle.wg_types.specs.declared.samplers.FilterMode.TheVariants.{Nearest}
use Rattle.wg_types.specs.declared.samplers.SamplerFields.{SamplerFields}
use Rattle.wg_types.specs.declared.samplers.SamplerDesc.TheVariants.{Kind, Full}
use Rattle.wg_script.specs.Values.{whole_or, most_whole, most_short, has_any}
use Rattle.wg_script.specs.Words.{word_or, word_if}
use Rattle.wg_script.specs.BindingWords.{sampler_words}
use Rattle.wg_script.specs.SamplerWords.{filter_words, compare_words, address_words}
use Rattle.wg_script.specs.CallOf.{Call}
use Rattle.wg_script.specs.Calling.{making}
use Rattle.wg_script.specs.Readers.{Reader, gives, may, all_of, ◌▹◌, read_by}
use Rattle.wg_script.specs.Labels.{made_keys}

-- ---- a sampler that is described

-- what of a sampler's description rules go by. A level of detail stands for itself over 65536
abbrev pub sampler_fields_keys : Reader SamplerFields
sampler_fields_keys =
    gives (λ mag_filter min_filter mipmap_filter compare lod_min lod_max max_anisotropy. record {
      mag_filter = mag_filter;
      min_filter = min_filter;
      mipmap_filter = mipmap_filter;
      compare = compare;
      lod_min = lod_min;
      lod_max = lod_max;
      max_anisotropy = max_anisotropy;
    })
    ▹ may (codes "magFilter") (word_or filter_words Nearest)
    ▹ may (codes "minFilter") (word_or filter_words Nearest)
    ▹ may (codes "mipmapFilter") (word_or filter_words Nearest)
    ▹ may (codes "compare") (word_if compare_words)
    ▹ may (codes "lodMinClamp") (whole_or most_whole 0)
    ▹ may (codes "lodMaxClamp") (whole_or most_whole 2097152)
    ▹ may (codes "maxAnisotropy") (whole_or most_short 1)

-- how a sampler addresses what lies outside of a texture, of which nothing is kept
abbrev pub address_keys : Reader ⊤
address_keys = gives (λ u v w. tt)
    ▹ may (codes "addressModeU") (word_or address_words tt)
    ▹ may (codes "addressModeV") (word_or address_words tt)
    ▹ may (codes "addressModeW") (word_or address_words tt)

-- createSampler with what describes the sampler
abbrev pub described_sampler_keys : Reader Call
described_sampler_keys = gives (λ fields modes made. making (CreateSampler (Full fields)) made)
    ▹ all_of sampler_fields_keys
    ▹ all_of address_keys
    ▹ all_of made_keys

-- the reader of a createSampler with what describes the sampler
unfoldable pub described_sampler_of : Data → Result Call ℕ
described_sampler_of d = read_by described_sampler_keys d

-- ---- a sampler of which the kind alone is told

-- createSampler with the kind of the sampler
abbrev pub kind_sampler_keys : Reader Call
kind_sampler_keys = gives (λ kind made. making (CreateSampler (Kind kind)) made)
    ▹ may (codes "kind") (word_or sampler_words Filtering)
    ▹ all_of made_keys

-- the reader of a createSampler with the kind of the sampler
unfoldable pub kind_sampler_of : Data → Result Call ℕ
kind_sampler_of d = read_by kind_sampler_keys d

-- ---- both

-- the keys of which any says that a sampler is described
abbrev pub describing : List (List ℕ)
describing = sampler_fields_keys.optional ++ address_keys.optional

-- the reader of a createSampler. Script rule 7: a sampler that is described has no kind
unfoldable pub create_sampler_of : Data → Result Call ℕ
create_sampler_of d = if has_any describing d then described_sampler_of d else kind_sampler_of d

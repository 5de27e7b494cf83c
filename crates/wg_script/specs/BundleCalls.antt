-- The calls on render bundles: for each its keys, and what each holds, in the order in which they are read.
use Rattle.std.specs.Prelude.{ℕ, codes, false, Result}
use Rattle.serde_json.specs.Data.{Data}
use Rattle.wg_types.specs.declared.commands.CommandOf.TheVariants.{ExecuteBundles}
use Rattle.wg_types.specs.declared.requests.RequestOf.TheVariants.{CreateBundleEncoder, FinishBundle}
use Rattle.wg_script.specs.Values.{whole_or, most_short, flag_or, name_at}
use Rattle.wg_script.specs.Lists.{list_at, null_or, names_at}
use Rattle.wg_script.specs.Words.{word_if}
use Rattle.wg_script.specs.TextureWords.{format_words}
use Rattle.wg_script.specs.RenderEntries.{format_item}
use Rattle.wg_script.specs.CallOf.{Call}
use Rattle.wg_script.specs.Calling.{recording, making}
use Rattle.wg_script.specs.Readers.{Reader, gives, need, may, all_of, ◌▹◌, read_by}
use Rattle.wg_script.specs.Labels.{made_keys}

-- createBundleEncoder: a color that is null is left out
abbrev pub create_bundle_encoder_keys : Reader Call
create_bundle_encoder_keys =
    gives (λ colors depth samples depth_read_only stencil_read_only made. making (CreateBundleEncoder (record {
      colors = colors;
      depth = depth;
      samples = samples;
      depth_read_only = depth_read_only;
      stencil_read_only = stencil_read_only;
    })) made)
    ▹ need (codes "colors") (list_at (null_or format_item))
    ▹ may (codes "depth") (word_if format_words)
    ▹ may (codes "samples") (whole_or most_short 1)
    ▹ may (codes "depthReadOnly") (flag_or false)
    ▹ may (codes "stencilReadOnly") (flag_or false)
    ▹ all_of made_keys

-- the reader of a createBundleEncoder
unfoldable pub create_bundle_encoder_of : Data → Result Call ℕ
create_bundle_encoder_of d = read_by create_bundle_encoder_keys d

-- finishBundle
abbrev pub finish_bundle_keys : Reader Call
finish_bundle_keys = gives (λ on made. making (FinishBundle on) made)
    ▹ need (codes "on") name_at
    ▹ all_of made_keys

-- the reader of a finishBundle
unfoldable pub finish_bundle_of : Data → Result Call ℕ
finish_bundle_of d = read_by finish_bundle_keys d

-- executeBundles
abbrev pub execute_bundles_keys : Reader Call
execute_bundles_keys = gives (λ on bundles. recording on (ExecuteBundles bundles))
    ▹ need (codes "on") name_at
    ▹ need (codes "bundles") names_at

-- the reader of an executeBundles
unfoldable pub execute_bundles_of : Data → Result Call ℕ
execute_bundles_of d = read_by execute_bundles_keys d

-- What is known of an object, under its kind: the words of single kinds are read off this one table.
use Rattle.std.specs.Prelude.{Option, Some, None}
use Rattle.wg_types.specs.declared.handles.Info.{Info}
use Rattle.wg_types.specs.declared.handles.Info.TheVariants.{Buffer, Texture, View, Sampler, GroupLayout, PipelineLayout, Group, Compute, Render, Queries, Encoder, BundleEncoder, CommandBuffer, Bundle}
use Rattle.wg_types.specs.declared.handles.BufferInfo.{BufferInfo}
use Rattle.wg_types.specs.declared.handles.QueriesInfo.{QueriesInfo}
use Rattle.wg_types.specs.declared.textures.TextureInfo.{TextureInfo}
use Rattle.wg_types.specs.declared.textures.ViewInfo.{ViewInfo}
use Rattle.wg_types.specs.declared.bindings.SamplerKind.{SamplerKind}
use Rattle.wg_types.specs.declared.groups.GroupLayoutInfo.{GroupLayoutInfo}
use Rattle.wg_types.specs.declared.groups.PipelineLayoutInfo.{PipelineLayoutInfo}
use Rattle.wg_types.specs.declared.groups.GroupInfo.{GroupInfo}
use Rattle.wg_types.specs.declared.groups.ComputeInfo.{ComputeInfo}
use Rattle.wg_types.specs.declared.groups.RenderInfo.{RenderInfo}
use Rattle.wg_types.specs.declared.render.TargetInfo.{TargetInfo}
use Rattle.wg_types.specs.declared.bundles.BundleInfo.{BundleInfo}

-- one place for each kind of which something is known: that of the object's kind is taken, and no other
pub record Facts : Type 0 where
  pub buffer : Option BufferInfo
  pub texture : Option TextureInfo
  pub view : Option ViewInfo
  pub sampler : Option SamplerKind
  pub group_layout : Option GroupLayoutInfo
  pub pipeline_layout : Option PipelineLayoutInfo
  pub group : Option GroupInfo
  pub compute : Option ComputeInfo
  pub render : Option RenderInfo
  pub queries : Option QueriesInfo
  pub targets : Option TargetInfo
  pub bundle : Option BundleInfo

-- nothing is known of any sort
abbrev pub no_facts : Facts
no_facts = record {
  buffer = None;
  texture = None;
  view = None;
  sampler = None;
  group_layout = None;
  pipeline_layout = None;
  group = None;
  compute = None;
  render = None;
  queries = None;
  targets = None;
  bundle = None;
}

-- what is known of an object, under its sort
abbrev pub facts_of : Info → Facts
facts_of (Buffer known) = record no_facts { buffer = Some known }
facts_of (Texture known) = record no_facts { texture = Some known }
facts_of (View known) = record no_facts { view = Some known }
facts_of (Sampler known) = record no_facts { sampler = Some known }
facts_of (GroupLayout known) = record no_facts { group_layout = Some known }
facts_of (PipelineLayout known) = record no_facts { pipeline_layout = Some known }
facts_of (Group known) = record no_facts { group = Some known }
facts_of (Compute known) = record no_facts { compute = Some known }
facts_of (Render known) = record no_facts { render = Some known }
facts_of (Queries known) = record no_facts { queries = Some known }
facts_of Encoder = no_facts
facts_of (BundleEncoder known) = record no_facts { targets = Some known }
facts_of CommandBuffer = no_facts
facts_of (Bundle known) = record no_facts { bundle = Some known }

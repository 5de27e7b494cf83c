-- What a device has of a limit lies between the default and the best.
use Rattle.std.proofs.Common.{◌≡◌, ℕ, ◌<◌, Bool, true, false, cond, min, max, List, [], ◌∷◌, Option, Some, None, ◌^◌, lit<, refl, sym, ap, subst, ◌∙◌, arith}
use Rattle.std.specs.Prelude.{IfSome, nat_le, is_some, ◌||◌}
use Rattle.std.specs.List.{find, list_all}
use Rattle.std.specs.Option.{option_map, unwrap_or}
use Rattle.std.proofs.lemmas.Bool.{le-leb, leb-true, and_parts}
use Rattle.std.proofs.lemmas.Slice.Eq.{bytes_eq-Decides}
use Rattle.std.proofs.Math.Nat.{le-max_left, max-le, min-le_left, le-min}
use Rattle.wg_limits.specs.Names.{limit_text, limit_named, same_limit}
use Rattle.wg_limits.specs.Limits.{default_limits, best_limits, limit_of, is_alignment, no_better, can_ask, granted, limit_for, limits_for, is_asked, IsBetween, HaveFixed}
use Rattle.wg_limits.proofs.NameLemmas.{text_names}
use Rattle.wg_limits.specs.declared.names.LimitName.{LimitName}
use Rattle.wg_limits.specs.declared.names.LimitName.TheVariants.{MaxTextureDimension1d, MaxTextureDimension2d, MaxTextureDimension3d, MaxTextureArrayLayers, MaxBindGroups, MaxBindingsPerBindGroup, MaxDynamicUniformBuffersPerPipelineLayout, MaxDynamicStorageBuffersPerPipelineLayout, MaxSampledTexturesPerShaderStage, MaxSamplersPerShaderStage, MaxStorageBuffersPerShaderStage, MaxStorageTexturesPerShaderStage, MaxUniformBuffersPerShaderStage, MaxUniformBufferBindingSize, MaxStorageBufferBindingSize, MinUniformBufferOffsetAlignment, MinStorageBufferOffsetAlignment, MaxVertexBuffers, MaxVertexAttributes, MaxVertexBufferArrayStride, MaxBufferSize, MaxColorAttachments, MaxComputeWorkgroupsPerDimension, MaxColorAttachmentBytesPerSample}

-- names that are spelled the same are one
same_name : (a b : LimitName) → same_limit a b ≡ true → a ≡ b
same_name a b h =
    ap (λ o. unwrap_or o a) (sym (text_names a) ∙ (ap limit_named ((bytes_eq-Decides (limit_text a) (limit_text b)).0 h) ∙ text_names b))

-- the default is no better than the best
default_offered : (name : LimitName) → no_better name (limit_of name default_limits) (limit_of name best_limits) ≡ true
default_offered MaxTextureDimension1d = refl
default_offered MaxTextureDimension2d = refl
default_offered MaxTextureDimension3d = refl
default_offered MaxTextureArrayLayers = refl
default_offered MaxBindGroups = refl
default_offered MaxBindingsPerBindGroup = refl
default_offered MaxDynamicUniformBuffersPerPipelineLayout = refl
default_offered MaxDynamicStorageBuffersPerPipelineLayout = refl
default_offered MaxSampledTexturesPerShaderStage = refl
default_offered MaxSamplersPerShaderStage = refl
default_offered MaxStorageBuffersPerShaderStage = refl
default_offered MaxStorageTexturesPerShaderStage = refl
default_offered MaxUniformBuffersPerShaderStage = refl
default_offered MaxUniformBufferBindingSize = refl
default_offered MaxStorageBufferBindingSize = refl
default_offered MinUniformBufferOffsetAlignment = refl
default_offered MinStorageBufferOffsetAlignment = refl
default_offered MaxVertexBuffers = refl
default_offered MaxVertexAttributes = refl
default_offered MaxVertexBufferArrayStride = refl
default_offered MaxBufferSize = refl
default_offered MaxColorAttachments = refl
default_offered MaxComputeWorkgroupsPerDimension = refl
default_offered MaxColorAttachmentBytesPerSample = refl

abbrev no_better_at : Bool → ℕ → ℕ → Bool
no_better_at alignment a b = cond alignment (nat_le b a) (nat_le a b)

no_better_same : (alignment : Bool) (a : ℕ) → no_better_at alignment a a ≡ true
no_better_same true a = le-leb a a (omega arith)
no_better_same false a = le-leb a a (omega arith)

better_between : (alignment : Bool) (default value best : ℕ) → no_better_at alignment default best ≡ true → no_better_at alignment value best ≡ true
    → (no_better_at alignment default (cond alignment (min default value) (max default value)) ≡ true)
    × (no_better_at alignment (cond alignment (min default value) (max default value)) best ≡ true)
better_between true default value best d v =
    (le-leb (min default value) default (min-le_left default value), le-leb best (min default value) (le-min (leb-true best default d) (leb-true best value v)))
better_between false default value best d v =
    (le-leb default (max default value) (le-max_left default value), le-leb (max default value) best (max-le (leb-true default best d) (leb-true value best v)))

granted_between : (name : LimitName) (asked : Option (LimitName × ℕ)) → IfSome asked (λ a. no_better name a.1 (limit_of name best_limits) ≡ true)
    → IsBetween name (granted name asked)
granted_between name None h = (no_better_same (is_alignment name) (limit_of name default_limits), default_offered name)
granted_between name (Some asked) h =
    better_between (is_alignment name) (limit_of name default_limits) asked.1 (limit_of name best_limits) (default_offered name) h

-- what is found of a name can be asked for
here : (name : LimitName) (value : LimitName × ℕ) (rest : Option (LimitName × ℕ)) (same : Bool) → same_limit value.0 name ≡ same → can_ask value ≡ true
    → IfSome rest (λ a. no_better name a.1 (limit_of name best_limits) ≡ true)
    → IfSome (cond same (Some value) rest) (λ a. no_better name a.1 (limit_of name best_limits) ≡ true)
here name value rest true e can later =
    subst (λ n. no_better n value.1 (limit_of n best_limits) ≡ true) (same_name value.0 name e) ((and_parts _ _ can).0)
here name value rest false e can later = later

found : (name : LimitName) (values : List (LimitName × ℕ)) → list_all can_ask values ≡ true
    → IfSome (find (λ value. same_limit value.0 name) values) (λ a. no_better name a.1 (limit_of name best_limits) ≡ true)
found name [] h = tt
found name (value ∷ values) h =
    let both = and_parts (can_ask value) (list_all can_ask values) h in
    here name value (find (λ value. same_limit value.0 name) values) (same_limit value.0 name) refl both.0 (found name values both.1)

pub between : (name : LimitName) (values : List (LimitName × ℕ)) → list_all can_ask values ≡ true → IsBetween name (limit_for name values)
between name values h = granted_between name (find (λ value. same_limit value.0 name) values) (found name values h)

-- what a device tells of the bytes of a sample is what it has of them, also where it has no bound
granted_of_bound : (asked : Option (LimitName × ℕ))
    → unwrap_or (option_map (λ a. granted MaxColorAttachmentBytesPerSample asked) asked) 32 ≡ granted MaxColorAttachmentBytesPerSample asked
granted_of_bound None = refl
granted_of_bound (Some asked) = refl

pub all_between : (values : List (LimitName × ℕ)) → list_all can_ask values ≡ true → (name : LimitName) → IsBetween name (limit_of name (limits_for values))
all_between values h MaxTextureDimension1d = between MaxTextureDimension1d values h
all_between values h MaxTextureDimension2d = between MaxTextureDimension2d values h
all_between values h MaxTextureDimension3d = between MaxTextureDimension3d values h
all_between values h MaxTextureArrayLayers = between MaxTextureArrayLayers values h
all_between values h MaxBindGroups = between MaxBindGroups values h
all_between values h MaxBindingsPerBindGroup = between MaxBindingsPerBindGroup values h
all_between values h MaxDynamicUniformBuffersPerPipelineLayout = between MaxDynamicUniformBuffersPerPipelineLayout values h
all_between values h MaxDynamicStorageBuffersPerPipelineLayout = between MaxDynamicStorageBuffersPerPipelineLayout values h
all_between values h MaxSampledTexturesPerShaderStage = between MaxSampledTexturesPerShaderStage values h
all_between values h MaxSamplersPerShaderStage = between MaxSamplersPerShaderStage values h
all_between values h MaxStorageBuffersPerShaderStage = between MaxStorageBuffersPerShaderStage values h
all_between values h MaxStorageTexturesPerShaderStage = between MaxStorageTexturesPerShaderStage values h
all_between values h MaxUniformBuffersPerShaderStage = between MaxUniformBuffersPerShaderStage values h
all_between values h MaxUniformBufferBindingSize = between MaxUniformBufferBindingSize values h
all_between values h MaxStorageBufferBindingSize = between MaxStorageBufferBindingSize values h
all_between values h MinUniformBufferOffsetAlignment = between MinUniformBufferOffsetAlignment values h
all_between values h MinStorageBufferOffsetAlignment = between MinStorageBufferOffsetAlignment values h
all_between values h MaxVertexBuffers = between MaxVertexBuffers values h
all_between values h MaxVertexAttributes = between MaxVertexAttributes values h
all_between values h MaxVertexBufferArrayStride = between MaxVertexBufferArrayStride values h
all_between values h MaxBufferSize = between MaxBufferSize values h
all_between values h MaxColorAttachments = between MaxColorAttachments values h
all_between values h MaxComputeWorkgroupsPerDimension = between MaxComputeWorkgroupsPerDimension values h
all_between values h MaxColorAttachmentBytesPerSample =
    subst (IsBetween MaxColorAttachmentBytesPerSample) (sym (granted_of_bound (find (λ value. same_limit value.0 MaxColorAttachmentBytesPerSample) values))) (between MaxColorAttachmentBytesPerSample values h)

-- what is asked of a limit whose best fits 32 bits fits them
default_small : (name : LimitName) → limit_of name default_limits < 2 ^ 32
default_small MaxTextureDimension1d = lit< tt
default_small MaxTextureDimension2d = lit< tt
default_small MaxTextureDimension3d = lit< tt
default_small MaxTextureArrayLayers = lit< tt
default_small MaxBindGroups = lit< tt
default_small MaxBindingsPerBindGroup = lit< tt
default_small MaxDynamicUniformBuffersPerPipelineLayout = lit< tt
default_small MaxDynamicStorageBuffersPerPipelineLayout = lit< tt
default_small MaxSampledTexturesPerShaderStage = lit< tt
default_small MaxSamplersPerShaderStage = lit< tt
default_small MaxStorageBuffersPerShaderStage = lit< tt
default_small MaxStorageTexturesPerShaderStage = lit< tt
default_small MaxUniformBuffersPerShaderStage = lit< tt
default_small MaxUniformBufferBindingSize = lit< tt
default_small MaxStorageBufferBindingSize = lit< tt
default_small MinUniformBufferOffsetAlignment = lit< tt
default_small MinStorageBufferOffsetAlignment = lit< tt
default_small MaxVertexBuffers = lit< tt
default_small MaxVertexAttributes = lit< tt
default_small MaxVertexBufferArrayStride = lit< tt
default_small MaxBufferSize = lit< tt
default_small MaxColorAttachments = lit< tt
default_small MaxComputeWorkgroupsPerDimension = lit< tt
default_small MaxColorAttachmentBytesPerSample = lit< tt

small_between : (alignment : Bool) (default value best : ℕ) → no_better_at alignment default value ≡ true → no_better_at alignment value best ≡ true
    → default < 2 ^ 32 → best < 2 ^ 32 → value < 2 ^ 32
small_between true default value best d v ds bs = omega (arith, leb-true value default d, ds)
small_between false default value best d v ds bs = omega (arith, leb-true value best v, bs)

pub count_fits : (name : LimitName) (values : List (LimitName × ℕ)) → list_all can_ask values ≡ true → limit_of name best_limits < 2 ^ 32 → limit_for name values < 2 ^ 32
count_fits name values h small =
    let both : IsBetween name (limit_for name values) = between name values h in
    small_between (is_alignment name) (limit_of name default_limits) (limit_for name values) (limit_of name best_limits) both.0 both.1 (default_small name) small

-- the limits whose best is the default
between_equals : (a v : ℕ) → nat_le a v ≡ true → nat_le v a ≡ true → v ≡ a
between_equals a v h k = omega (arith, leb-true a v h, leb-true v a k)

pub all_fixed : (values : List (LimitName × ℕ)) → list_all can_ask values ≡ true → HaveFixed (limits_for values)
all_fixed values h = record {
  bind_groups = between_equals _ _ (between MaxBindGroups values h).0 (between MaxBindGroups values h).1;
  vertex_buffers = between_equals _ _ (between MaxVertexBuffers values h).0 (between MaxVertexBuffers values h).1;
  color_attachments = between_equals _ _ (between MaxColorAttachments values h).0 (between MaxColorAttachments values h).1;
  compute_workgroups_per_dimension = between_equals _ _ (between MaxComputeWorkgroupsPerDimension values h).0 (between MaxComputeWorkgroupsPerDimension values h).1;
  uniform_buffer_offset_alignment = between_equals _ _ (between MinUniformBufferOffsetAlignment values h).1 (between MinUniformBufferOffsetAlignment values h).0;
  storage_buffer_offset_alignment = between_equals _ _ (between MinStorageBufferOffsetAlignment values h).1 (between MinStorageBufferOffsetAlignment values h).0;
  queries_per_set = refl;
}

-- ---- the bound of the bytes of a sample is there where it is asked for

bound_kept : (value : LimitName × ℕ) (g : LimitName × ℕ → ℕ) (rest : Option (LimitName × ℕ)) (some same : Bool)
    → is_some (option_map g rest) ≡ some → is_some (option_map g (cond same (Some value) rest)) ≡ (same || some)
bound_kept value g rest some true h = refl
bound_kept value g rest some false h = h

found_asked : (name : LimitName) (g : LimitName × ℕ → ℕ) (values : List (LimitName × ℕ))
    → is_some (option_map g (find (λ value. same_limit value.0 name) values)) ≡ is_asked name values
found_asked name g [] = refl
found_asked name g (value ∷ values) =
    bound_kept value g (find (λ v. same_limit v.0 name) values) (is_asked name values) (same_limit value.0 name) (found_asked name g values)

pub bound_asked : (values : List (LimitName × ℕ)) → is_some (limits_for values).max_color_attachment_bytes_per_sample ≡ is_asked MaxColorAttachmentBytesPerSample values
bound_asked values = found_asked MaxColorAttachmentBytesPerSample (λ a. limit_for MaxColorAttachmentBytesPerSample values) values

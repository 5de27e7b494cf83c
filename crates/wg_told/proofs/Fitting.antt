-- What a device has of a limit is no better than what its adapter supports.
use Rattle.std.proofs.Common.{◌≡◌, ℕ, Bool, true, false, cond, min, max, List, [], ◌∷◌, Option, Some, None, refl, ap, sym, subst, ◌∙◌}
use Rattle.std.specs.Prelude.{nat_le, option_map, IfSome}
use Rattle.std.specs.List.{find, list_all}
use Rattle.std.specs.Option.{option_map_or, unwrap_or}
use Rattle.std.proofs.lemmas.Bool.{le-leb, leb-true, and_parts}
use Rattle.std.proofs.lemmas.Slice.Eq.{bytes_eq-Decides}
use Rattle.std.proofs.Math.Nat.{max-le, le-min}
use Rattle.wg_limits.specs.Names.{limit_text, limit_named, same_limit}
use Rattle.wg_limits.specs.Limits.{default_limits, limit_of, is_alignment, no_better, better, granted, limit_for, limits_for}
use Rattle.wg_limits.proofs.NameLemmas.{text_names}
use Rattle.wg_limits.proofs.Between.{all_between}
use Rattle.wg_limits.specs.declared.names.LimitName.{LimitName}
use Rattle.wg_limits.specs.declared.names.LimitName.TheVariants.{MaxTextureDimension1d, MaxTextureDimension2d, MaxTextureDimension3d, MaxTextureArrayLayers, MaxBindGroups, MaxBindingsPerBindGroup, MaxDynamicUniformBuffersPerPipelineLayout, MaxDynamicStorageBuffersPerPipelineLayout, MaxSampledTexturesPerShaderStage, MaxSamplersPerShaderStage, MaxStorageBuffersPerShaderStage, MaxStorageTexturesPerShaderStage, MaxUniformBuffersPerShaderStage, MaxUniformBufferBindingSize, MaxStorageBufferBindingSize, MinUniformBufferOffsetAlignment, MinStorageBufferOffsetAlignment, MaxVertexBuffers, MaxVertexAttributes, MaxVertexBufferArrayStride, MaxBufferSize, MaxColorAttachments, MaxComputeWorkgroupsPerDimension, MaxColorAttachmentBytesPerSample}
use Rattle.wg_told.specs.Limits.{all_named, can_support, is_supported, is_offered, failing, told_bad, LimitsFit}
use Rattle.wg_told.proofs.LimitLemmas.{all_from, all_can}

-- names that are spelled the same are one
same_name : (a b : LimitName) → same_limit a b ≡ true → a ≡ b
same_name a b h =
    ap (λ o. unwrap_or o a) (sym (text_names a) ∙ (ap limit_named ((bytes_eq-Decides (limit_text a) (limit_text b)).0 h) ∙ text_names b))

-- whether a value is no better than one that is said, if one is
abbrev within : LimitName → ℕ → Option (LimitName × ℕ) → Bool
within name value said = option_map_or (λ most. no_better name value most.1) said true

-- The default is no better than the first value that an adapter says.
default_here : (name : LimitName) (said : LimitName × ℕ) (rest : Option (LimitName × ℕ)) (same : Bool) → same_limit said.0 name ≡ same → can_support said ≡ true
    → within name (limit_of name default_limits) rest ≡ true → within name (limit_of name default_limits) (cond same (Some said) rest) ≡ true
default_here name said rest true e can later =
    subst (λ n. no_better n (limit_of n default_limits) said.1 ≡ true) (same_name said.0 name e) ((and_parts _ _ can).0)
default_here name said rest false e can later = later

default_within : (name : LimitName) (best : List (LimitName × ℕ)) → list_all can_support best ≡ true
    → within name (limit_of name default_limits) (find (λ said. same_limit said.0 name) best) ≡ true
default_within name [] h = refl
default_within name (said ∷ best) h =
    let both = and_parts (can_support said) (list_all can_support best) h in
    default_here name said (find (λ other. same_limit other.0 name) best) (same_limit said.0 name) refl both.0 (default_within name best both.1)

-- What is asked first of a limit is supported.
asked_here : (best : List (LimitName × ℕ)) (name : LimitName) (asked : LimitName × ℕ) (rest : Option (LimitName × ℕ)) (same : Bool)
    → same_limit asked.0 name ≡ same → is_offered best asked ≡ true → IfSome rest (λ a. is_supported best (name, a.1) ≡ true)
    → IfSome (cond same (Some asked) rest) (λ a. is_supported best (name, a.1) ≡ true)
asked_here best name asked rest true e offered later =
    subst (λ n. is_supported best (n, asked.1) ≡ true) (same_name asked.0 name e) ((and_parts _ _ offered).1)
asked_here best name asked rest false e offered later = later

asked_within : (best : List (LimitName × ℕ)) (name : LimitName) (values : List (LimitName × ℕ)) → list_all (is_offered best) values ≡ true
    → IfSome (find (λ asked. same_limit asked.0 name) values) (λ a. is_supported best (name, a.1) ≡ true)
asked_within best name [] h = tt
asked_within best name (asked ∷ values) h =
    let both = and_parts (is_offered best asked) (list_all (is_offered best) values) h in
    asked_here best name asked (find (λ other. same_limit other.0 name) values) (same_limit asked.0 name) refl both.0 (asked_within best name values both.1)

-- The better of two values that are supported is.
abbrev no_better_at : Bool → ℕ → ℕ → Bool
no_better_at alignment a b = cond alignment (nat_le b a) (nat_le a b)

better_at : (alignment : Bool) (a b most : ℕ) → no_better_at alignment a most ≡ true → no_better_at alignment b most ≡ true
    → no_better_at alignment (cond alignment (min a b) (max a b)) most ≡ true
better_at true a b most h k = le-leb most (min a b) (le-min (leb-true most a h) (leb-true most b k))
better_at false a b most h k = le-leb (max a b) most (max-le (leb-true a most h) (leb-true b most k))

better_within : (name : LimitName) (a b : ℕ) (said : Option (LimitName × ℕ)) → within name a said ≡ true → within name b said ≡ true → within name (better name a b) said ≡ true
better_within name a b None h k = refl
better_within name a b (Some most) h k = better_at (is_alignment name) a b most.1 h k

granted_within : (best : List (LimitName × ℕ)) (name : LimitName) (asked : Option (LimitName × ℕ)) → is_supported best (name, limit_of name default_limits) ≡ true
    → IfSome asked (λ a. is_supported best (name, a.1) ≡ true) → is_supported best (name, granted name asked) ≡ true
granted_within best name None default h = default
granted_within best name (Some asked) default h =
    better_within name (limit_of name default_limits) asked.1 (find (λ said. same_limit said.0 name) best) default h

for_within : (best values : List (LimitName × ℕ)) (name : LimitName) → list_all can_support best ≡ true → list_all (is_offered best) values ≡ true
    → is_supported best (name, limit_for name values) ≡ true
for_within best values name support offered =
    granted_within best name (find (λ asked. same_limit asked.0 name) values) (default_within name best support) (asked_within best name values offered)

-- what is told of the bytes of a sample is what a device has for what is asked, also where it has no bound of them
told_of_bound : (asked : Option (LimitName × ℕ))
    → granted MaxColorAttachmentBytesPerSample asked ≡ unwrap_or (option_map (λ a. granted MaxColorAttachmentBytesPerSample asked) asked) 32
told_of_bound None = refl
told_of_bound (Some asked) = refl

-- each limit of a device is what it has for what is asked of that
each_for : (name : LimitName) (values : List (LimitName × ℕ)) → limit_for name values ≡ limit_of name (limits_for values)
each_for MaxTextureDimension1d values = refl
each_for MaxTextureDimension2d values = refl
each_for MaxTextureDimension3d values = refl
each_for MaxTextureArrayLayers values = refl
each_for MaxBindGroups values = refl
each_for MaxBindingsPerBindGroup values = refl
each_for MaxDynamicUniformBuffersPerPipelineLayout values = refl
each_for MaxDynamicStorageBuffersPerPipelineLayout values = refl
each_for MaxSampledTexturesPerShaderStage values = refl
each_for MaxSamplersPerShaderStage values = refl
each_for MaxStorageBuffersPerShaderStage values = refl
each_for MaxStorageTexturesPerShaderStage values = refl
each_for MaxUniformBuffersPerShaderStage values = refl
each_for MaxUniformBufferBindingSize values = refl
each_for MaxStorageBufferBindingSize values = refl
each_for MinUniformBufferOffsetAlignment values = refl
each_for MinStorageBufferOffsetAlignment values = refl
each_for MaxVertexBuffers values = refl
each_for MaxVertexAttributes values = refl
each_for MaxVertexBufferArrayStride values = refl
each_for MaxBufferSize values = refl
each_for MaxColorAttachments values = refl
each_for MaxComputeWorkgroupsPerDimension values = refl
each_for MaxColorAttachmentBytesPerSample values = told_of_bound (find (λ asked. same_limit asked.0 MaxColorAttachmentBytesPerSample) values)

-- where no value fails, none does of what the adapter supports, and none of what is asked
none_bad : (best asked : Option ℕ) → told_bad best asked ≡ None → (best ≡ None) × (asked ≡ None)
none_bad None None none = (refl, refl)
none_bad None (Some place) none = cc
none_bad (Some place) asked none = cc

pub all_fit : LimitsFit
all_fit best limits none name =
    let both = none_bad (failing can_support best) (failing (is_offered (all_named best)) limits) none in
    let supported : is_supported (all_named best) (name, limit_for name (all_named limits)) ≡ true
    = for_within (all_named best) (all_named limits) name (all_from can_support best 0 both.0) (all_from (is_offered (all_named best)) limits 0 both.1) in (
      all_between (all_named limits) (all_can (all_named best) limits both.1) name,
      subst (λ value. is_supported (all_named best) (name, value) ≡ true) (each_for name (all_named limits)) supported,
    )

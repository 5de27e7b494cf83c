-- The tests of what a group binds, and groups that name the bindings of their layout in its order.
use Rattle.std.specs.Prelude.{ℕ, ◌+◌, Bool, true, false, ◌&&◌, ◌==◌, nat_le, List, [], ◌∷◌}
use Rattle.wg_types.specs.declared.limits.Limits.{Limits}
use Rattle.wg_types.specs.declared.bindings.BindingKind.{BindingKind}
use Rattle.wg_types.specs.declared.bindings.LayoutEntry.{LayoutEntry}
use Rattle.wg_types.specs.declared.bindings.BoundResource.{BoundResource}
use Rattle.wg_types.specs.declared.bindings.BoundEntry.{BoundEntry}
use Rattle.wg_model.specs.Groups.{sort_fits, usage_fits, range_fits, size_fits, view_fits, storage_view_fits, sampler_fits}
use Rattle.wg_groups.specs.declared.fits.Test.{Test}
use Rattle.wg_groups.specs.declared.fits.Test.TheVariants as tests

-- the test of a rule on an entry of a bind group
abbrev pub passes : Test → Limits → BindingKind → BoundResource → Bool
passes tests.Sort limits = sort_fits
passes tests.Usage limits = usage_fits
passes tests.Range limits = range_fits limits
passes tests.Size limits = size_fits limits
passes tests.View limits = view_fits
passes tests.StorageView limits = storage_view_fits
passes tests.Sampler limits = sampler_fits

-- whether a group names the bindings of a layout one by one, each above the one before it, and the first at least this
abbrev pub aligned_from : ℕ → List LayoutEntry → List BoundEntry → Bool
aligned_from least [] [] = true
aligned_from least [] (entry ∷ entries) = false
aligned_from least (asked ∷ layout) [] = false
aligned_from least (asked ∷ layout) (entry ∷ entries) = nat_le least asked.binding && asked.binding == entry.binding && aligned_from (asked.binding + 1) layout entries

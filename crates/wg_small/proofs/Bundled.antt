-- What is known of the touches of a bundle is small.
use Rattle.std.specs.Prelude.{filter, is_none, reverse}
use Rattle.std.proofs.Common.{◌≡◌, ℕ, List, [], ◌∷◌, ◌++◌, map, Bool, true, false, Option, Some, None, cond, refl, arith, if◌then◌else◌, true≢false, sym}
use Rattle.wg_types.specs.declared.limits.Maker.{Maker}
use Rattle.wg_types.specs.Commands.{Command}
use Rattle.wg_types.specs.declared.bundles.BundleTouch.{BundleTouch}
use Rattle.wg_types.specs.declared.bundles.BundleUse.{BundleUse}
use Rattle.wg_types.specs.declared.bundles.BundleUse.TheVariants.{Input, Constant, StorageRead, Storage}
use Rattle.wg_types.specs.declared.commands.On.{On}
use Rattle.wg_trace.specs.declared.parts.AccessKind.{AccessKind}
use Rattle.wg_types.specs.declared.render.TargetInfo.{TargetInfo}
use Rattle.wg_trace.specs.declared.steps.StepName.TheVariants as name
use Rattle.wg_trace.specs.declared.steps.StepPlace.TheVariants.{Op}
use Rattle.wg_rows.specs.Rows.{EachRow}
use Rattle.wg_rows.specs.Runs.{PartRun, BufferPart, LayerParts, QueryPart, Cells, Bytes, Layers, Slices, Queries, run_part}
use Rattle.wg_rows.specs.Uses.{Usages}
use Rattle.wg_rows.specs.Sets.{UseRow}
use Rattle.wg_model.specs.Touches.{Touch, Doing, deed_of, step_of}
use Rattle.wg_model.specs.Bundles.{is_used_so, no_cells, part_touched, cells_touched, touched_so, bundle_touches}
use Rattle.wg_model.specs.Render.{touches_over, bundle_set}
use Rattle.wg_model.specs.Walk.{bundled, bundle_verdict, bundle_of}
use Rattle.wg_model.proofs.StepLaws.{each_joined}
use Rattle.wg_shaped.proofs.Walked.{EachKept, kept_reverse}
use Rattle.wg_small.specs.Small.{IsSmallRange, HaveSmallRange, HasSmallRanges}
use Rattle.wg_small.proofs.Doings.{TouchHas, doing_has}
use Rattle.wg_small.proofs.Ranges.{ranges, ranges_closed}
use Rattle.wg_small.proofs.Stepped.{ranges_told}
use Rattle.wg_small.proofs.Known.{AreSmallTouched}
use Rattle.wg_small.proofs.Bound.{AreSmallTouches}
use Rattle.wg_small.proofs.Meeting.{IsSmallCommand, AreSmallCommands}
use Rattle.wg_small.proofs.Copies.{IsSmallDoing}
use Rattle.wg_small.proofs.Passes.{bundle_over_small}

-- what is touched, part and cells
part_small : (run : Cells) → HaveSmallRange run → IsSmallRange (run_part run)
part_small (Bytes object lo hi) h = tt
part_small (Queries object lo hi) h = tt
part_small (Layers object aspect mip lo hi) h = h
part_small (Slices object mip lo hi) h = (h.0, omega arith)

all_have : (touches : List Touch) → AreSmallTouches touches → EachRow (TouchHas ranges) touches
all_have [] h = tt
all_have (touch ∷ touches) h = ((part_small touch.0 h.0, λ e. h.0), all_have touches h.1)

pub step_small : (doing : Doing) → IsSmallDoing doing → HasSmallRanges (step_of (Op 0) doing)
step_small doing h = doing_has ranges ranges_closed ranges_told (Op 0) doing tt (all_have doing.1 h)

-- the touches of one use
filtered : (used : BundleUse) (touches : List Touch) → AreSmallTouches touches → AreSmallTouches (filter (is_used_so used) touches)
filtered used [] h = tt
filtered used (touch ∷ touches) h = by_test (is_used_so used touch) (filtered used touches h.1)
  where
    by_test : (b : Bool) → AreSmallTouches (filter (is_used_so used) touches) → AreSmallTouches (cond b (touch ∷ filter (is_used_so used) touches) (filter (is_used_so used) touches))
    by_test true rest = (h.0, rest)
    by_test false rest = rest

no_cells_small : (run : PartRun) → IsSmallRange run → HaveSmallRange (no_cells run)
no_cells_small (BufferPart object) h = omega arith
no_cells_small (LayerParts object aspect mip lo hi) h = (h.0, omega arith)
no_cells_small (QueryPart object) h = omega arith

parts_touched : (used : BundleUse) (rows : List UseRow) → EachRow (λ (row : PartRun × Usages). IsSmallRange row.0) rows → AreSmallTouched (map (part_touched used) rows)
parts_touched used [] h = tt
parts_touched used (row ∷ rows) h = (no_cells_small row.0 h.0, parts_touched used rows h.1)

all_cells : (used : BundleUse) (rows : List (Cells × AccessKind)) → EachRow (λ (row : Cells × AccessKind). HaveSmallRange row.0) rows → AreSmallTouched (map (cells_touched used) rows)
all_cells used [] h = tt
all_cells used (row ∷ rows) h = (h.0, all_cells used rows h.1)

joined : (xs ys : List BundleTouch) → AreSmallTouched xs → AreSmallTouched ys → AreSmallTouched (xs ++ ys)
joined xs ys h k = each_joined (λ (touch : BundleTouch). HaveSmallRange touch.cells) xs ys h k

used_small : (used : BundleUse) (touches : List Touch) → AreSmallTouches touches → AreSmallTouched (touched_so used touches)
used_small used touches h =
    let these : Doing = (name.RenderPass, filter (is_used_so used) touches) in
    let step : HasSmallRanges (step_of (Op 0) these) = step_small these (filtered used touches h) in
    joined (map (part_touched used) (deed_of these).uses) (map (cells_touched used) (deed_of these).accesses) (parts_touched used (deed_of these).uses step.uses) (all_cells used (deed_of these).accesses step.accesses)

touched : (touches : List Touch) → AreSmallTouches touches → AreSmallTouched (bundle_touches touches)
unfolding bundle_touches
touched touches h =
    joined (touched_so Input touches) _ (used_small Input touches h)
    (joined (touched_so Constant touches) _ (used_small Constant touches h) (joined (touched_so StorageRead touches) (touched_so Storage touches) (used_small StorageRead touches h) (used_small Storage touches h)))

commands_in : (kept : List (On × Command)) → EachKept IsSmallCommand kept → AreSmallCommands (map (λ (one : On × Command). one.1) kept)
commands_in [] h = tt
commands_in (one ∷ kept) h = (h.0, commands_in kept h.1)

pub none_is : {A : Type 0} (o : Option A) → is_none o ≡ true → o ≡ None
none_is None e = refl
none_is (Some x) e = absurd (true≢false (sym e))

pub bundle_of_small : (maker : Maker) (targets : Option TargetInfo) (commands : List (On × Command)) → EachKept IsSmallCommand commands → AreSmallTouched (bundle_of maker targets commands).touches
bundle_of_small maker None commands small = tt
bundle_of_small maker (Some targets) commands small = by_verdict (is_none (bundle_verdict maker targets (bundled commands))) refl
  where
    by_verdict : (b : Bool) → is_none (bundle_verdict maker targets (bundled commands)) ≡ b → AreSmallTouched (if b then bundle_touches (bundle_set targets (bundled commands)).touches else [])
    by_verdict true e =
        touched (touches_over None [] (bundled commands))
        (bundle_over_small maker targets (bundled commands) (commands_in (reverse commands) (kept_reverse IsSmallCommand commands small)) (none_is (bundle_verdict maker targets (bundled commands)) e))
    by_verdict false e = tt

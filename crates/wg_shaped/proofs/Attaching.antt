-- The attachments of a render pass agree at each cell, since no cell is attached twice.
use Rattle.std.specs.Prelude.{option_to_list}
use Rattle.std.specs.List.{flat_map, list_all, list_any}
use Rattle.std.specs.Option.{option_map, option_map_or, unwrap_or}
use Rattle.std.proofs.Common.{◌≡◌, ℕ, List, [], ◌∷◌, ◌++◌, map, Bool, true, false, not, Option, Some, None, ap, refl, sym, ◌∙◌, subst, append-nil, append_assoc, true≢false}
use Rattle.std.proofs.lemmas.Bool.{and_parts, or_parts, or_left, or_right}
use Rattle.wg_types.specs.Handles.{HandleValue}
use Rattle.wg_types.specs.declared.limits.CommandLimits.{CommandLimits}
use Rattle.wg_types.specs.declared.textures.ViewInfo.{ViewInfo}
use Rattle.wg_trace.specs.declared.parts.Aspect.{Aspect}
use Rattle.wg_trace.specs.declared.usages.Usages.{Usages}
use Rattle.wg_rows.specs.Rows.{EachRow}
use Rattle.wg_rows.specs.Runs.{Cell, Cells, Bytes, Layers, Slices, Queries, cell_line, covers}
use Rattle.wg_rows.specs.Uses.{AccessKind, Write}
use Rattle.wg_rows.proofs.Runs.{aspect_told}
use Rattle.wg_model.specs.Making.{no_view}
use Rattle.wg_model.specs.Rules.{AreMet}
use Rattle.wg_model.specs.Subresources.{view_cells}
use Rattle.wg_model.specs.Touches.{Touch}
use Rattle.wg_model.specs.Attachments.{RenderBegin, ColorTarget, DepthTarget, Attached, attached_view, attachment_of, depth_view, color_view, attached_whole, color_attached, target_views, attached_views, color_fits, slice_fits, attached_meet, attached_are_apart, begin_rules, attachment_usage, handle_cells, sliced, color_cells, attach_kind, attached, resolve_touches, color_touches, depth_how, cells_aspect, depth_touch, depth_touches, targets_touches}
use Rattle.wg_model.proofs.StepLaws.{each_joined}
use Rattle.wg_subres.specs.Has.{is_accessed}
use Rattle.wg_subres.specs.Attached.{attached_has, IsAttachable}
use Rattle.wg_subres.proofs.Attaching.{attached_meet_where}
use Rattle.wg_shaped.specs.Once.{IsFairColor}
use Rattle.wg_shaped.proofs.Fitting.{TouchesAgree, AllAgree, AgreeWith, agree_joined, map_agree, same_line}

-- a touch of cells of an attachment
abbrev Of : Attached → Touch → Type 0
Of a t = (c : Cell) → covers t.0 c ≡ true → attached_has a c ≡ true

-- Touches along attachments: a block of each.
record Next (a : Attached) (More : List Touch → Type 0) (touches : List Touch) : Type 0 where
  block : List Touch
  rest : List Touch
  is : touches ≡ block ++ rest
  own : EachRow (Of a) block
  agree : AllAgree block
  fits : IsAttachable a
  more : More rest

abbrev Along : List Attached → List Touch → Type 0
Along [] touches = touches ≡ []
Along (a ∷ views) touches = Next a (Along views) touches

-- a touch of an attachment agrees with those of others that it does not meet
one_apart : (a b : Attached) (t u : Touch) → attached_meet a b ≡ false → IsAttachable a → IsAttachable b → Of a t → Of b u → TouchesAgree t u
one_apart a b t u apart fits fits2 own own2 c e h = absurd (true≢false (sym (attached_meet_where.only a b fits fits2 c (own c e) (own2 c h)) ∙ apart))

block_apart : (a b : Attached) (t : Touch) (block : List Touch) → attached_meet a b ≡ false → IsAttachable a → IsAttachable b → Of a t → EachRow (Of b) block → AgreeWith block t
block_apart a b t [] apart fits fits2 own owns = tt
block_apart a b t (u ∷ block) apart fits fits2 own owns = (one_apart a b t u apart fits fits2 own owns.0, block_apart a b t block apart fits fits2 own owns.1)

rest_apart : (a : Attached) (t : Touch) (views : List Attached) (touches : List Touch) → IsAttachable a → Of a t → list_any (attached_meet a) views ≡ false → Along views touches → AgreeWith touches t
rest_apart a t [] touches fits own none along = subst (λ (ts : List Touch). AgreeWith ts t) (sym along) tt
rest_apart a t (b ∷ views) touches fits own none along =
    let parts : (attached_meet a b ≡ false) × (list_any (attached_meet a) views ≡ false) = or_parts (attached_meet a b) (list_any (attached_meet a) views) none in
    subst (λ (ts : List Touch). AgreeWith ts t) (sym along.is)
    (each_joined (TouchesAgree t) along.block along.rest (block_apart a b t along.block parts.0 fits along.fits own along.own) (rest_apart a t views along.rest fits own parts.1 along.more))

cross_apart : (a : Attached) (these : List Touch) (views : List Attached) (touches : List Touch) → IsAttachable a → EachRow (Of a) these → list_any (attached_meet a) views ≡ false → Along views touches → EachRow (AgreeWith touches) these
cross_apart a [] views touches fits owns none along = tt
cross_apart a (t ∷ these) views touches fits owns none along = (rest_apart a t views touches fits owns.0 none along, cross_apart a these views touches fits owns.1 none along)

not_false : (b : Bool) → not b ≡ true → b ≡ false
not_false true e = sym e
not_false false e = refl

along_agree : (views : List Attached) (touches : List Touch) → Along views touches → attached_are_apart views ≡ true → AllAgree touches
along_agree [] touches along apart = subst AllAgree (sym along) tt
along_agree (a ∷ views) touches along apart =
    let parts : (not (list_any (attached_meet a) views) ≡ true) × (attached_are_apart views ≡ true) = and_parts (not (list_any (attached_meet a) views)) (attached_are_apart views) apart in
    subst AllAgree (sym along.is)
    (agree_joined along.block along.rest along.agree (along_agree views along.rest along.more parts.1)
    (cross_apart a along.block views along.rest along.fits along.own (not_false (list_any (attached_meet a) views) parts.0) along.more))

-- blocks of attachments
these_own : (a : Attached) (how : Cells → Usages × AccessKind) (these : List Cells) → ((c : Cell) → is_accessed these c ≡ true → attached_has a c ≡ true) → EachRow (Of a) (map (λ (run : Cells). attached (how run) run) these)
these_own a how [] f = tt
these_own a how (run ∷ these) f = ((λ c e. f c (or_left (covers run c) (is_accessed these c) e)), these_own a how these (λ c e. f c (or_right (covers run c) (is_accessed these c) e)))

whole_sliced : (cells : List Cells) → map (sliced None) cells ≡ cells
whole_sliced [] = refl
whole_sliced (run ∷ cells) = ap (λ (xs : List Cells). run ∷ xs) (whole_sliced cells)

handle_own : (handle : HandleValue) (how : Cells → Usages × AccessKind) → EachRow (Of (attached_whole (attachment_of handle))) (map (λ (run : Cells). attached (how run) run) (handle_cells handle))
handle_own handle how = by_view (attached_view handle)
  where
    by_view : (o : Option ViewInfo) → EachRow (Of (attached_whole (unwrap_or o no_view))) (map (λ (run : Cells). attached (how run) run) (option_map_or view_cells o []))
    by_view None = tt
    by_view (Some view) = these_own (attached_whole view) how (view_cells view) (λ c e. ap (λ (xs : List Cells). is_accessed xs c) (whole_sliced (view_cells view)) ∙ e)

color_own : (target : ColorTarget) (how : Usages × AccessKind) → EachRow (Of (color_attached target)) (map (attached how) (color_cells target))
color_own target how = by_view (attached_view target.view)
  where
    by_view : (o : Option ViewInfo) → EachRow (Of (unwrap_or o no_view, target.depth_slice)) (map (attached how) (map (sliced target.depth_slice) (option_map_or view_cells o [])))
    by_view None = tt
    by_view (Some view) = these_own (view, target.depth_slice) (λ run. how) (map (sliced target.depth_slice) (view_cells view)) (λ c e. e)

color_attachable : (target : ColorTarget) → IsFairColor (Some target) → color_fits (color_view target) ≡ true → slice_fits (color_attached target) ≡ true → IsAttachable (color_attached target)
color_attachable target fair color slice = by_slice target.depth_slice slice
  where
    by_slice : (o : Option ℕ) → slice_fits (color_view target, o) ≡ true → IsAttachable (color_view target, o)
    by_slice None e = tt
    by_slice (Some n) e = (fair, (color, e))

-- the aspects of a depth attachment
same_aspect : (a b : Cells) → cell_line a ≡ cell_line b → cells_aspect a ≡ cells_aspect b
same_aspect (Layers object of mip lo hi) (Layers object2 of2 mip2 lo2 hi2) e = aspect_told of of2 (cc)
same_aspect (Layers object of mip lo hi) (Bytes object2 lo2 hi2) e = absurd (cc)
same_aspect (Layers object of mip lo hi) (Slices object2 mip2 lo2 hi2) e = absurd (cc)
same_aspect (Layers object of mip lo hi) (Queries object2 lo2 hi2) e = absurd (cc)
same_aspect (Bytes object lo hi) (Layers object2 of2 mip2 lo2 hi2) e = absurd (cc)
same_aspect (Slices object mip lo hi) (Layers object2 of2 mip2 lo2 hi2) e = absurd (cc)
same_aspect (Queries object lo hi) (Layers object2 of2 mip2 lo2 hi2) e = absurd (cc)
same_aspect a b e = refl

depth_with : (target : DepthTarget) (run : Cells) (cells : List Cells) → AgreeWith (map (depth_touch target) cells) (depth_touch target run)
depth_with target run [] = tt
depth_with target run (other ∷ cells) = ((λ c e h. ap (λ (of : Aspect). (depth_how target of).1) (same_aspect run other (same_line run other c e h))), depth_with target run cells)

depth_agree : (target : DepthTarget) (cells : List Cells) → AllAgree (map (depth_touch target) cells)
depth_agree target [] = tt
depth_agree target (run ∷ cells) = (depth_with target run cells, depth_agree target cells)

-- all of them
abbrev depth_views : Option DepthTarget → List Attached
depth_views depth = option_to_list (option_map (λ (target : DepthTarget). attached_whole (depth_view target)) depth)

depth_along : (depth : Option DepthTarget) → Along (depth_views depth) (depth_touches depth)
depth_along None = refl
depth_along (Some target) = record {
  block = map (depth_touch target) (handle_cells target.view);
  rest = [];
  is = sym (append-nil (map (depth_touch target) (handle_cells target.view)));
  own = handle_own target.view (λ run. depth_how target (cells_aspect run));
  agree = depth_agree target (handle_cells target.view);
  fits = tt;
  more = refl;
}

abbrev resolve_views : Option HandleValue → List Attached
resolve_views resolve = option_to_list (option_map (λ (view : HandleValue). attached_whole (attachment_of view)) resolve)

resolve_along : (resolve : Option HandleValue) (views more : List Attached) (later touches : List Touch) → Along (views ++ more) (later ++ touches) → Along ((resolve_views resolve ++ views) ++ more) ((resolve_touches resolve ++ later) ++ touches)
resolve_along None views more later touches along = along
resolve_along (Some view) views more later touches along = record {
  block = resolve_touches (Some view);
  rest = later ++ touches;
  is = append_assoc (resolve_touches (Some view)) later touches;
  own = handle_own view (λ run. (attachment_usage, Write));
  agree = map_agree (attachment_usage, Write) (handle_cells view);
  fits = tt;
  more = along;
}

abbrev given : List (Option ColorTarget) → List ColorTarget
given colors = flat_map (λ (color : Option ColorTarget). option_to_list color) colors

colors_along : (colors : List (Option ColorTarget)) (more : List Attached) (touches : List Touch) → EachRow IsFairColor colors
    → list_all (λ (target : ColorTarget). color_fits (color_view target)) (given colors) ≡ true → list_all (λ (target : ColorTarget). slice_fits (color_attached target)) (given colors) ≡ true
    → Along more touches → Along (flat_map target_views (given colors) ++ more) (flat_map color_touches colors ++ touches)
colors_along [] more touches fair color slice along = along
colors_along (None ∷ colors) more touches fair color slice along = colors_along colors more touches fair.1 color slice along
colors_along (Some target ∷ colors) more touches fair color slice along =
    let colored : (color_fits (color_view target) ≡ true) × (list_all (λ (target : ColorTarget). color_fits (color_view target)) (given colors) ≡ true) = and_parts (color_fits (color_view target)) (list_all (λ (target : ColorTarget). color_fits (color_view target)) (given colors)) color in
    let cut : (slice_fits (color_attached target) ≡ true) × (list_all (λ (target : ColorTarget). slice_fits (color_attached target)) (given colors) ≡ true) = and_parts (slice_fits (color_attached target)) (list_all (λ (target : ColorTarget). slice_fits (color_attached target)) (given colors)) slice in
    record {
      block = map (attached (attachment_usage, attach_kind target.load target.store)) (color_cells target);
      rest = (resolve_touches target.resolve ++ flat_map color_touches colors) ++ touches;
      is =
          ap (λ (ts : List Touch). ts ++ touches) (append_assoc (map (attached (attachment_usage, attach_kind target.load target.store)) (color_cells target)) (resolve_touches target.resolve) (flat_map color_touches colors))
          ∙ append_assoc (map (attached (attachment_usage, attach_kind target.load target.store)) (color_cells target)) (resolve_touches target.resolve ++ flat_map color_touches colors) touches;
      own = color_own target (attachment_usage, attach_kind target.load target.store);
      agree = map_agree (attachment_usage, attach_kind target.load target.store) (color_cells target);
      fits = color_attachable target fair.0 colored.0 cut.0;
      more = resolve_along target.resolve (flat_map target_views (given colors)) more (flat_map color_touches colors) touches (colors_along colors more touches fair.1 colored.1 cut.1 along);
    }

pub targets_agree : (limits : CommandLimits) (begin : RenderBegin) → EachRow IsFairColor begin.colors → AreMet (begin_rules limits begin) → AllAgree (targets_touches begin)
unfolding targets_touches begin_rules
targets_agree limits begin fair met =
    along_agree (attached_views begin) (flat_map color_touches begin.colors ++ depth_touches begin.depth)
    (colors_along begin.colors (depth_views begin.depth) (depth_touches begin.depth) fair met.1.1.0 met.1.1.1.0 (depth_along begin.depth)) met.1.1.1.1.1.1.1.1.0

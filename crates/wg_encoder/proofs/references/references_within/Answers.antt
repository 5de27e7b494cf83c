use Rattle.std.proofs.Common.{◌∙◌, ◌+◌, ◌++◌, List, map, drop, ap, sym, append_assoc}
use Rattle.std.proofs.lemmas.List.{at_drop_more}
use Rattle.wg_types.specs.Commands.{Command, named}
use Rattle.wg_types.specs.Handles.{HandleValue}
use Rattle.wg_types.specs.declared.commands.On.{On}
use Rattle.wg_types.specs.declared.handles.ObjRef.{ObjRef}
use Rattle.wg_types.specs.declared.wanted.Wanted.{Wanted}
use Rattle.wg_model.specs.Bundles.{references_within}
use Rattle.wg_encoder.proofs.references.references_within.Goals as goal

abbrev own : On × Command → List ObjRef
own kept = map (λ (object : HandleValue × Wanted). object.0.reference) (named kept.1)

pub loop-kept-preserved : goal.loop-kept-preserved
loop-kept-preserved c =
    let rest = references_within (drop (c.loop-kept.kept-index + 1) c.args.commands.now) in
    rw c.in_ok-push_references.ensures (append_assoc c.loop-kept.found.items (own c.kept-item.result) rest
    ∙ (ap (λ kept. c.loop-kept.found.items ++ (own kept ++ rest)) c.kept-item.is
    ∙ (ap (λ found. c.loop-kept.found.items ++ found) (sym (at_drop_more references_within c.args.commands.now c.loop-kept.kept-index c.kept-item.result c.loop-kept-test.true))
    ∙ c.loop-kept.invariant)))

use Rattle.std.proofs.Common.{◌∙◌, ℕ, List, map, ap, subst}
use Rattle.wg_cbtrack.specs.Near.{AreNear}
use Rattle.wg_cbtrack.specs.Next.{IsStep, IsSeen}
use Rattle.wg_cbtrack.proofs.Nearby.{AreUses, AreAccesses, step_with, seen_over, follows_near}
use Rattle.wg_cbtrack.proofs.noting.step_after.Goals as goal

pub returns : goal.returns
returns c =
    let os : List ℕ = c.in_ok-objects.objects.items in
    let us : AreUses os c.args.deed.now.uses = subst (AreUses os) c.as_slice.ensures c.in_ok-objects.ensures.rows in
    let xs : AreAccesses os c.args.deed.now.accesses = subst (AreAccesses os) c.as_slice-2.ensures c.in_ok-objects.ensures.others in
    let are : AreNear os c.args.rows.now c.in_ok-near.near = subst (λ os. AreNear os c.args.rows.now c.in_ok-near.near) c.as_slice-3.ensures.value c.in_ok-near.ensures in
    let step : IsStep c.in_ok-near.near.ends.items c.in_ok-near.near.wants.items c.in_ok-near.near.leaves.items c.args.deed.now c.in_ok-next.next.kept.items c.in_ok-next.next.ends.items c.in_ok-next.next.wants.items c.in_ok-next.next.leaves.items = step_with c.as_slice-4.result.now c.as_slice-5.result.now c.as_slice-6.result.now c.in_ok-near.near.ends.items c.in_ok-near.near.wants.items c.in_ok-near.near.leaves.items c.args.deed.now c.in_ok-next.next.kept.items c.in_ok-next.next.ends.items c.in_ok-next.next.wants.items c.in_ok-next.next.leaves.items c.as_slice-4.ensures.value c.as_slice-5.ensures.value c.as_slice-6.ensures.value c.in_ok-next.ensures in
    let seen : IsSeen c.in_ok-near.near.starts.items c.in_ok-near.near.last.items c.args.deed.now.uses c.in_ok-seen.seen.starts.items c.in_ok-seen.seen.ends.items = seen_over c.as_slice-7.result.now c.as_slice-8.result.now c.as_slice-9.result.now c.in_ok-near.near.starts.items c.in_ok-near.near.last.items c.args.deed.now.uses c.in_ok-seen.seen.starts.items c.in_ok-seen.seen.ends.items c.as_slice-7.ensures.value c.as_slice-8.ensures.value c.as_slice-9.ensures c.in_ok-seen.ensures in
    follows_near c.args.rows.now c.in_ok-near.near _ c.args.deed.now c.in_ok-next.next.kept.items os us xs are step seen (c.in_ok-needs.ensures ∙ ap (map (λ row. row.0)) c.as_slice-10.ensures.value)

use Rattle.std.proofs.Common.{◌≡◌, [], ◌∷◌, ap, sym, ◌∙◌}
use Rattle.wg_rows.specs.Cut.{choose, gaps, put_all}
use Rattle.wg_rows.specs.Runs.{cell_sort}
use Rattle.wg_rows.specs.Uses.{Read, same_kind}
use Rattle.wg_cbtrack.specs.Leaves.{cleared_kind}
use Rattle.wg_cbtrack.proofs.Covering.{covered_unset, covered_gaps, held_more}
use Rattle.wg_cbtrack.proofs.reads.push_read.Goals as goal

pub returns-then-are_none-clause-held : goal.returns-then-are_none-clause-held
returns-then-are_none-clause-held c = λ t.
    let none : c.near_cells-near.result.now ≡ [] = c.are_none.ensures.yes c.if-are_none.true in
    held_more c.args.wants.now c.args.leaves.now c.args.found.now.items c.push_free.new.found.items c.args.run c.requires.tidy c.requires.full c.requires.held (c.in_ok-push_free.ensures ∙ ap (λ ps. put_all cell_sort same_kind ps (put_all cell_sort same_kind c.args.found.now.items c.args.wants.now)) (sym (ap (gaps cell_sort ((c.args.run, Read) ∷ [])) none) ∙ c.near_cells-near.ensures.gaps Read))

pub returns-then-covers_at-clause-clear : goal.returns-then-covers_at-clause-clear
returns-then-covers_at-clause-clear c = λ t. ap (choose cleared_kind) (sym c.near_cells-near.ensures.inside) ∙ covered_unset c.near_cells-near.result.now c.args.run c.near_cells-near.ensures.apart (c.covers_at.ensures c.if-covers_at.true)

pub returns-then-covers_at-clause-wants : goal.returns-then-covers_at-clause-wants
returns-then-covers_at-clause-wants c = λ t. sym (ap (λ ps. put_all cell_sort same_kind ps (put_all cell_sort same_kind c.args.found.now.items c.args.wants.now)) (sym (c.near_cells-near.ensures.gaps Read) ∙ covered_gaps c.near_cells-near.result.now c.args.run c.near_cells-near.ensures.apart c.requires.full (c.covers_at.ensures c.if-covers_at.true)))

pub returns-clause-held : goal.returns-clause-held
returns-clause-held c = λ t. held_more c.args.wants.now c.args.leaves.now c.args.found.now.items c.push_rest.new.found.items c.args.run c.requires.tidy c.requires.full c.requires.held (c.in_ok-is_clear.ensures.wants t c.args.wants.now ∙ ap (λ ps. put_all cell_sort same_kind ps (put_all cell_sort same_kind c.args.found.now.items c.args.wants.now)) (c.near_cells-near.ensures.gaps Read))

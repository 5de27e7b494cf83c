-- The numbers of a range, one after another.
use Rattle.std.proofs.Common.{◌≡◌, ℕ, suc, ◌+◌, ◌-◌, ◌<◌, ◌≤◌, List, [], ◌∷◌, ◌++◌, refl, sym, ap, ◌∙◌, append_assoc, add-one, arith}
use Rattle.wg_rows.specs.Rows.{numbers}
use Rattle.wg_rows.specs.Runs.{Aspect, PartRun, LayerParts}
use Rattle.wg_model.specs.Subresources.{level_runs}

pub numbers_more : (lo hi : ℕ) → lo < hi → numbers lo hi ≡ lo ∷ numbers (lo + 1) hi
numbers_more lo hi lt =
    let e : hi - lo ≡ suc (hi - (lo + 1)) = omega arith in
    rw (e, add-one) refl

pub numbers_none : (lo hi : ℕ) → hi ≤ lo → numbers lo hi ≡ []
numbers_none lo hi le =
    let e : hi - lo ≡ 0 = omega arith in
    rw e refl

-- The runs of the levels that are left, with one level added.
pub one_level : (object lo hi : ℕ) (aspect : Aspect) (mip end : ℕ) (runs new all : List PartRun) → mip < end → new ≡ runs ++ LayerParts object aspect mip lo hi ∷ [] → runs ++ level_runs object lo hi (numbers mip end) aspect ≡ all → new ++ level_runs object lo hi (numbers (mip + 1) end) aspect ≡ all
one_level object lo hi aspect mip end runs new all lt added same =
    ap (λ xs. xs ++ level_runs object lo hi (numbers (mip + 1) end) aspect) added
    ∙ (append_assoc runs (LayerParts object aspect mip lo hi ∷ []) (level_runs object lo hi (numbers (mip + 1) end) aspect)
    ∙ (ap (λ ns. runs ++ level_runs object lo hi ns aspect) (sym (numbers_more mip end lt)) ∙ same))

-- Uses that are the first of their parts.
use Rattle.std.proofs.Common.{◌≡◌, ℕ, ◌<◌, List, [], ◌∷◌, ◌++◌, Option, Some, None, refl, ap, sym, ◌∙◌, subst, flat_map}
use Rattle.std.specs.Option.{option_or, option_map_or, option_and_then}
use Rattle.wg_rows.specs.Rows.{Spot, EachRow, Apart}
use Rattle.wg_rows.specs.Cut.{value_at, gaps, put_all}
use Rattle.wg_rows.specs.Runs.{part_sort}
use Rattle.wg_rows.specs.Uses.{Usages, same_set}
use Rattle.wg_rows.specs.Sets.{UseRow}
use Rattle.wg_rows.proofs.Told.{uses_tell}
use Rattle.wg_rows.proofs.Values.{Loose, apart_loose, AreFree, all_put}
use Rattle.wg_bars.specs.Changes.{ChangeRow}
use Rattle.wg_cbtrack.specs.Near.{use_object}
use Rattle.wg_cbtrack.specs.Join.{opens, used_after}
use Rattle.wg_cbtrack.specs.Alone.{Spread, AllAlone, FindsAll, ArePutAlone}
use Rattle.wg_cbtrack.proofs.Local.{same_values}
use Rattle.wg_cbtrack.proofs.Joins.{opens_are, used_are}
use Rattle.wg_cbtrack.proofs.Finding.{opened, gaps_alone, opens_flat}

-- Uses that open parts are some of the uses.
pub record Opens (rows us first : List UseRow) : Type 0 where
  pub spread : Spread first
  pub alone : AllAlone rows first

some_opens : (rows us : List UseRow) → Spread us → AllAlone rows us → ((o : ℕ) → EachRow (λ v. o < use_object v) us → EachRow (λ v. o < use_object v) (flat_map (λ (u : UseRow). gaps part_sort (u ∷ []) rows) us)) × Opens rows us (flat_map (λ (u : UseRow). gaps part_sort (u ∷ []) rows) us)
some_opens rows [] s h = (λ o l. tt, record { spread = tt; alone = tt })
some_opens rows (u ∷ us) s h = by_set h.0.0 (gaps_alone rows u h.0.0 h.0.1) (some_opens rows us s.2 h.1)
  where
    rest : List UseRow
    rest = flat_map (λ (u : UseRow). gaps part_sort (u ∷ []) rows) us

    All : List UseRow → Type 0
    All first = ((o : ℕ) → EachRow (λ v. o < use_object v) (u ∷ us) → EachRow (λ v. o < use_object v) first) × Opens rows (u ∷ us) first

    by_set : (set : Option Usages) → gaps part_sort (u ∷ []) rows ≡ opened u set → ((o : ℕ) → EachRow (λ v. o < use_object v) us → EachRow (λ v. o < use_object v) rest) × Opens rows us rest → All (gaps part_sort (u ∷ []) rows ++ rest)
    by_set None e k = subst (λ xs. All (xs ++ rest)) (sym e) (λ o l. (l.0, k.0 o l.1), record { spread = (s.0, k.0 (use_object u) s.1, k.1.spread); alone = (h.0, k.1.alone) })
    by_set (Some v) e k = subst (λ xs. All (xs ++ rest)) (sym e) (λ o l. k.0 o l.1, record { spread = k.1.spread; alone = k.1.alone })

pub opens_some : (rows us first : List UseRow) → Spread us → AllAlone rows us → first ≡ opens rows us → Opens rows us first
opens_some rows us first s h e = subst (Opens rows us) (sym (e ∙ sym (opens_flat rows us s h))) (some_opens rows us s h).1

-- They are put where nothing was.
pub opened_put : (rows us first : List UseRow) → Apart part_sort rows → Apart part_sort us → first ≡ opens rows us → used_after first rows ≡ put_all part_sort same_set first rows
opened_put rows us first a s e = same_values part_sort same_set uses_tell (used_after first rows) (put_all part_sort same_set first rows) used.0 put.0 (λ spot. used.1 spot ∙ sym (put.1 spot))
  where
    found : Apart part_sort (opens rows us) × ((spot : Spot) → value_at part_sort spot (opens rows us) ≡ option_and_then (λ to. option_map_or (λ (v : Usages). None) (value_at part_sort spot rows) (Some to)) (value_at part_sort spot us))
    found = opens_are rows us a s

    loose : Loose part_sort first
    loose = apart_loose part_sort first (subst (Apart part_sort) (sym e) found.0)

    free_by : (i o : Option Usages) (v : Usages) → option_and_then (λ (to : Usages). option_map_or (λ (v : Usages). None) i (Some to)) o ≡ Some v → i ≡ None
    free_by None o v f = refl
    free_by (Some w) None v f = absurd (cc)
    free_by (Some w) (Some to) v f = absurd (cc)

    are_free : AreFree part_sort first rows
    are_free spot v f = free_by (value_at part_sort spot rows) (value_at part_sort spot us) v (sym (found.1 spot) ∙ (ap (value_at part_sort spot) (sym e) ∙ f))

    used : Apart part_sort (used_after first rows) × ((spot : Spot) → value_at part_sort spot (used_after first rows) ≡ option_or (value_at part_sort spot first) (value_at part_sort spot rows))
    used = used_are first rows loose a

    put : Apart part_sort (put_all part_sort same_set first rows) × ((spot : Spot) → value_at part_sort spot (put_all part_sort same_set first rows) ≡ option_or (value_at part_sort spot first) (value_at part_sort spot rows))
    put = all_put part_sort same_set uses_tell first rows loose a are_free

-- All that is put where uses are spread, and each is the only one of its object.
pub puts_alone : (ends starts last us : List UseRow) (changes : List ChangeRow) (first opened : List UseRow) → Spread us → FindsAll ends starts last us changes first opened → ArePutAlone ends starts last us opened
puts_alone ends starts last us changes first opened s f =
    let some : Opens starts us opened = opens_some starts us opened s f.starts_alone f.opened_are in
    record { spread = s; among_ends = f.ends_alone; among_last = f.last_alone; opened_spread = some.spread; among_starts = some.alone }

-- They are put so among the same rows.
pub alone_same : (ends starts last us opened ends2 starts2 last2 us2 opened2 : List UseRow) → ends2 ≡ ends → starts2 ≡ starts → last2 ≡ last → us2 ≡ us → opened2 ≡ opened → ArePutAlone ends starts last us opened → ArePutAlone ends2 starts2 last2 us2 opened2
alone_same ends starts last us opened ends2 starts2 last2 us2 opened2 e s l u o a = subst (λ xs. ArePutAlone xs starts2 last2 us2 opened2) (sym e) (subst (λ xs. ArePutAlone ends xs last2 us2 opened2) (sym s) (subst (λ xs. ArePutAlone ends starts xs us2 opened2) (sym l) (subst (λ xs. ArePutAlone ends starts last xs opened2) (sym u) (subst (λ xs. ArePutAlone ends starts last us xs) (sym o) a))))

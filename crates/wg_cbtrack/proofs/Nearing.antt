-- What rows have of a run is told by those near it.
use Rattle.std.proofs.Common.{◌≡◌, ◌<◌, ◌≤◌, min, max, List, [], ◌∷◌, ◌++◌, Bool, true, false, ◌&&◌, ◌⊎◌, inl, inr, Option, Some, None, refl, ap, ap₂, sym, ◌∙◌, arith, if◌then◌else◌, nat_lt, subst}
use Rattle.std.specs.Option.{option_or, option_map_or}
use Rattle.std.proofs.lemmas.Bool.{ltb-true}
use Rattle.wg_rows.specs.Rows.{Sort, Spot, EachRow, list_eq, list_before, covers_spot, Apart, After}
use Rattle.wg_rows.specs.Cut.{value_at, inside_row, inside, gaps, choose, put_all}
use Rattle.wg_rows.specs.Chained.{ends_before, Chained}
use Rattle.wg_rows.specs.Runs.{PartRun, Cells, part_sort, cell_sort, part_lo, part_hi, cell_lo, cell_hi}
use Rattle.wg_rows.specs.Uses.{Usages, AccessKind, same_set, same_kind, same_change}
use Rattle.wg_rows.specs.Sets.{UseRow}
use Rattle.wg_bars.specs.Changes.{ChangeRow, change_from}
use Rattle.wg_rows.proofs.Chained.{put_all_more}
use Rattle.wg_rows.proofs.Cut.{Clips}
use Rattle.wg_rows.proofs.Printed.{Tells, before_not_self}
use Rattle.wg_rows.proofs.Sets.{covered, part_clips}
use Rattle.wg_rows.proofs.Told.{uses_tell, accesses_tell}
use Rattle.wg_rows.proofs.Values.{value_append, apart_loose, GapsAre, gaps_are}
use Rattle.wg_inplace.specs.Place.{AllBefore, AllBehind, IsNear}
use Rattle.wg_inplace.proofs.Placing.{ends_from, this_line, other_line, less_not, apart_chained}
use Rattle.wg_cbtrack.proofs.Local.{same_values}
use Rattle.wg_cbtrack.proofs.Leaving.{cell_clips}

and_no : (b : Bool) → (b && false) ≡ false
and_no true = refl
and_no false = refl

not_in : {R V : Type 0} (sort : Sort R) (r : R) (x : R × V) → (list_eq (sort.line r) (sort.line x.0) && nat_lt (max (sort.lo x.0) (sort.lo r)) (min (sort.hi x.0) (sort.hi r))) ≡ false → inside_row sort r x ≡ []
not_in {R} {V} sort r x e = ap (λ (b : Bool). if b then (sort.widen x.0 (max (sort.lo x.0) (sort.lo r)) (min (sort.hi x.0) (sort.hi r)), x.1) ∷ [] else []) e

row_off : {R V : Type 0} (sort : Sort R) (r : R) (x : R × V) → (list_eq (sort.line r) (sort.line x.0) ≡ false) ⊎ (min (sort.hi x.0) (sort.hi r) ≤ max (sort.lo x.0) (sort.lo r)) → inside_row sort r x ≡ []
row_off sort r x (inl e) = not_in sort r x (ap (λ (b : Bool). b && nat_lt (max (sort.lo x.0) (sort.lo r)) (min (sort.hi x.0) (sort.hi r))) e)
row_off sort r x (inr l) = not_in sort r x (ap (λ (b : Bool). list_eq (sort.line r) (sort.line x.0) && b) (less_not (max (sort.lo x.0) (sort.lo r)) (min (sort.hi x.0) (sort.hi r)) l) ∙ and_no (list_eq (sort.line r) (sort.line x.0)))

inside_before : {R V : Type 0} (sort : Sort R) (r : R) (front back : List (R × V)) → AllBefore sort r front → inside sort r (front ++ back) ≡ inside sort r back
inside_before sort r [] back h = refl
inside_before {R} {V} sort r (x ∷ xs) back h = ap₂ (λ (ys zs : List (R × V)). ys ++ zs) (row_off sort r x (by_case (ends_from sort x.0 r h.0).by)) (inside_before sort r xs back h.1)
  where
    by_case : (list_before (sort.line x.0) (sort.line r) ≡ true) ⊎ ((sort.line x.0 ≡ sort.line r) × (sort.hi x.0 ≤ sort.lo r)) → (list_eq (sort.line r) (sort.line x.0) ≡ false) ⊎ (min (sort.hi x.0) (sort.hi r) ≤ max (sort.lo x.0) (sort.lo r))
    by_case (inl b) = inl (other_line (sort.line x.0) (sort.line r) b)
    by_case (inr k) = inr (omega (arith, k.1))

inside_behind : {R V : Type 0} (sort : Sort R) (r : R) (mid back : List (R × V)) → AllBehind sort r back → inside sort r (mid ++ back) ≡ inside sort r mid
inside_behind sort r [] [] h = refl
inside_behind {R} {V} sort r [] (x ∷ xs) h = ap₂ (λ (ys zs : List (R × V)). ys ++ zs) (row_off sort r x (by_case (ends_from sort r x.0 h.0).by)) (inside_behind sort r [] xs h.1)
  where
    by_case : (list_before (sort.line r) (sort.line x.0) ≡ true) ⊎ ((sort.line r ≡ sort.line x.0) × (sort.hi r ≤ sort.lo x.0)) → (list_eq (sort.line r) (sort.line x.0) ≡ false) ⊎ (min (sort.hi x.0) (sort.hi r) ≤ max (sort.lo x.0) (sort.lo r))
    by_case (inl b) = inl (this_line (sort.line r) (sort.line x.0) b)
    by_case (inr k) = inr (omega (arith, k.1))
inside_behind {R} {V} sort r (x ∷ xs) back h = ap (λ (ys : List (R × V)). inside_row sort r x ++ ys) (inside_behind sort r xs back h)

pub inside_near : {R V : Type 0} (sort : Sort R) (r : R) (rows mid : List (R × V)) → IsNear sort r rows mid → inside sort r mid ≡ inside sort r rows
inside_near sort r rows mid n = sym (ap (inside sort r) n.is ∙ (inside_before sort r n.front (mid ++ n.back) n.before ∙ inside_behind sort r mid n.back n.behind))

-- The value of what a run covers.
no_both : {R : Type 0} (sort : Sort R) (a b : R) (spot : Spot) → ends_before sort a b ≡ true → covers_spot sort a spot ≡ true → covers_spot sort b spot ≡ true → ⊥
no_both sort a b spot e ca cb = by_case (ends_from sort a b e).by
  where
    of_a : (sort.line a ≡ spot.0) × (sort.lo a ≤ spot.1) × (spot.1 < sort.hi a)
    of_a = covered sort a spot ca

    of_b : (sort.line b ≡ spot.0) × (sort.lo b ≤ spot.1) × (spot.1 < sort.hi b)
    of_b = covered sort b spot cb

    by_case : (list_before (sort.line a) (sort.line b) ≡ true) ⊎ ((sort.line a ≡ sort.line b) × (sort.hi a ≤ sort.lo b)) → ⊥
    by_case (inl h) = before_not_self (sort.line a) (ap (list_before (sort.line a)) (of_a.0 ∙ sym of_b.0) ∙ h)
    by_case (inr k) = omega (arith, k.1, of_a.2, of_b.1)

value_before : {R V : Type 0} (sort : Sort R) (r : R) (rows : List (R × V)) (spot : Spot) → AllBefore sort r rows → covers_spot sort r spot ≡ true → value_at sort spot rows ≡ None
value_before sort r [] spot h c = refl
value_before {R} {V} sort r (x ∷ xs) spot h c = by_test (covers_spot sort x.0 spot) refl (value_before sort r xs spot h.1 c)
  where
    by_test : (b : Bool) → covers_spot sort x.0 spot ≡ b → value_at sort spot xs ≡ None → (if b then Some x.1 else value_at sort spot xs) ≡ None
    by_test true e k = absurd (no_both sort x.0 r spot h.0 e c)
    by_test false e k = k

value_behind : {R V : Type 0} (sort : Sort R) (r : R) (rows : List (R × V)) (spot : Spot) → AllBehind sort r rows → covers_spot sort r spot ≡ true → value_at sort spot rows ≡ None
value_behind sort r [] spot h c = refl
value_behind {R} {V} sort r (x ∷ xs) spot h c = by_test (covers_spot sort x.0 spot) refl (value_behind sort r xs spot h.1 c)
  where
    by_test : (b : Bool) → covers_spot sort x.0 spot ≡ b → value_at sort spot xs ≡ None → (if b then Some x.1 else value_at sort spot xs) ≡ None
    by_test true e k = absurd (no_both sort r x.0 spot h.0 c e)
    by_test false e k = k

or_none : {V : Type 0} (o : Option V) → option_or o None ≡ o
or_none None = refl
or_none (Some v) = refl

pub value_near : {R V : Type 0} (sort : Sort R) (r : R) (rows mid : List (R × V)) (spot : Spot) → IsNear sort r rows mid → covers_spot sort r spot ≡ true → value_at sort spot mid ≡ value_at sort spot rows
value_near {R} {V} sort r rows mid spot n c = sym (ap (value_at sort spot) n.is ∙ (value_append sort spot n.front (mid ++ n.back) ∙ (ap₂ (λ (a b : Option V). option_or a b) (value_before sort r n.front spot n.before c) (value_append sort spot mid n.back ∙ ap (λ (b : Option V). option_or (value_at sort spot mid) b) (value_behind sort r n.back spot n.behind c)) ∙ or_none (value_at sort spot mid))))

apart_behind : {R V : Type 0} (sort : Sort R) (xs ys : List (R × V)) → Apart sort (xs ++ ys) → Apart sort ys
apart_behind sort [] ys a = a
apart_behind sort (x ∷ xs) ys a = apart_behind sort xs ys a.2

each_first : {A : Type 0} (P : A → Type 0) (xs ys : List A) → EachRow P (xs ++ ys) → EachRow P xs
each_first P [] ys h = tt
each_first P (x ∷ xs) ys h = (h.0, each_first P xs ys h.1)

apart_before : {R V : Type 0} (sort : Sort R) (xs ys : List (R × V)) → Apart sort (xs ++ ys) → Apart sort xs
apart_before sort [] ys a = tt
apart_before sort (x ∷ xs) ys a = (a.0, each_first (After sort x) xs ys a.1, apart_before sort xs ys a.2)

pub apart_near : {R V : Type 0} (sort : Sort R) (r : R) (rows mid : List (R × V)) → IsNear sort r rows mid → Apart sort rows → Apart sort mid
apart_near sort r rows mid n a = apart_before sort mid n.back (apart_behind sort n.front (mid ++ n.back) (subst (Apart sort) n.is a))

pub gaps_near : {R V : Type 0} (sort : Sort R) (same : V → V → Bool) → Tells sort same → Clips sort → (run : R) (v : V) (rows mid : List (R × V)) → sort.lo run < sort.hi run → Apart sort rows → IsNear sort run rows mid → gaps sort ((run, v) ∷ []) mid ≡ gaps sort ((run, v) ∷ []) rows
gaps_near {R} {V} sort same tells clips run v rows mid full a n = same_values sort same tells (gaps sort ((run, v) ∷ []) mid) (gaps sort ((run, v) ∷ []) rows) of_mid.0 of_rows.0 (λ spot. of_mid.1 spot ∙ (by_cover spot (covers_spot sort run spot) refl ∙ sym (of_rows.1 spot)))
  where
    of_rows : GapsAre sort ((run, v) ∷ []) rows
    of_rows = gaps_are sort clips ((run, v) ∷ []) rows (full, tt, tt) (apart_loose sort rows a)

    of_mid : GapsAre sort ((run, v) ∷ []) mid
    of_mid = gaps_are sort clips ((run, v) ∷ []) mid (full, tt, tt) (apart_loose sort mid (apart_near sort run rows mid n a))

    none : (o : Option V) → ◌≡◌ {A = Option V} (option_map_or (λ (w : V). None) o None) None
    none None = refl
    none (Some w) = refl

    by_cover : (spot : Spot) (b : Bool) → covers_spot sort run spot ≡ b → option_map_or (λ (w : V). None) (value_at sort spot mid) (if b then Some v else None) ≡ option_map_or (λ (w : V). None) (value_at sort spot rows) (if b then Some v else None)
    by_cover spot true c = ap (λ (o : Option V). option_map_or (λ (w : V). None) o (Some v)) (value_near sort run rows mid spot n c)
    by_cover spot false c = none (value_at sort spot mid) ∙ sym (none (value_at sort spot rows))

pub inside_parts : (run : PartRun) (rows mid : List UseRow) → IsNear part_sort run rows mid → inside part_sort run mid ≡ inside part_sort run rows
inside_parts run rows mid n = inside_near part_sort run rows mid n

pub gaps_parts : (run : PartRun) (v : Usages) (rows mid : List UseRow) → nat_lt (part_lo run) (part_hi run) ≡ true → Apart part_sort rows → IsNear part_sort run rows mid → gaps part_sort ((run, v) ∷ []) mid ≡ gaps part_sort ((run, v) ∷ []) rows
gaps_parts run v rows mid e a n = gaps_near part_sort same_set uses_tell part_clips run v rows mid (ltb-true (part_lo run) (part_hi run) e) a n

pub inside_cells : (run : Cells) (rows mid : List (Cells × AccessKind)) → IsNear cell_sort run rows mid → inside cell_sort run mid ≡ inside cell_sort run rows
inside_cells run rows mid n = inside_near cell_sort run rows mid n

pub gaps_cells : (run : Cells) (v : AccessKind) (rows mid : List (Cells × AccessKind)) → nat_lt (cell_lo run) (cell_hi run) ≡ true → Apart cell_sort rows → IsNear cell_sort run rows mid → gaps cell_sort ((run, v) ∷ []) mid ≡ gaps cell_sort ((run, v) ∷ []) rows
gaps_cells run v rows mid e a n = gaps_near cell_sort same_kind accesses_tell cell_clips run v rows mid (ltb-true (cell_lo run) (cell_hi run) e) a n

pub parts_chained : (rows : List UseRow) → Apart part_sort rows → Chained part_sort rows
parts_chained rows a = apart_chained part_sort rows a

pub cells_chained : (rows : List (Cells × AccessKind)) → Apart cell_sort rows → Chained cell_sort rows
cells_chained rows a = apart_chained cell_sort rows a

pub cells_apart : (run : Cells) (rows mid : List (Cells × AccessKind)) → IsNear cell_sort run rows mid → Apart cell_sort rows → Apart cell_sort mid
cells_apart run rows mid n a = apart_near cell_sort run rows mid n a

-- Where nothing is near, a use changes nothing, and is the first of its parts.
pub no_changes : (row : UseRow) (near inner : List UseRow) (found : List ChangeRow) → near ≡ [] → inside part_sort row.0 near ≡ inside part_sort row.0 inner → put_all part_sort same_change found [] ≡ put_all part_sort same_change (choose (change_from row.1) (inside part_sort row.0 inner)) (put_all part_sort same_change found [])
no_changes row near inner found none same = sym (ap (λ xs. put_all part_sort same_change (choose (change_from row.1) xs) (put_all part_sort same_change found [])) (sym same ∙ ap (inside part_sort row.0) none))

pub all_open : (row : UseRow) (near inner found later : List UseRow) → near ≡ [] → gaps part_sort (row ∷ []) near ≡ gaps part_sort (row ∷ []) inner → later ≡ found ++ row ∷ [] → put_all part_sort same_set later [] ≡ put_all part_sort same_set (gaps part_sort (row ∷ []) inner) (put_all part_sort same_set found [])
all_open row near inner found later none same e = ap (λ xs. put_all part_sort same_set xs []) e ∙ (put_all_more part_sort same_set found (row ∷ []) [] ∙ sym (ap (λ xs. put_all part_sort same_set xs (put_all part_sort same_set found [])) (sym same ∙ ap (gaps part_sort (row ∷ [])) none)))

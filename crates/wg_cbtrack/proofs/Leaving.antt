-- The cells of one more step.
use Rattle.std.proofs.Common.{◌≡◌, ◌<◌, arith, Bool, true, false, not, ◌&&◌, ◌||◌, List, [], ◌∷◌, map, Option, Some, None, refl, ap, ap₂, sym, ◌∙◌, subst, if◌then◌else◌, true≢false, nat_le, nat_lt}
use Rattle.std.specs.Option.{option_map_or, option_and_then}
use Rattle.std.proofs.lemmas.Bool.{and_from, le-leb, lt-ltb, ltb-true}
use Rattle.wg_rows.specs.Runs.{Cells, Bytes, Layers, Slices, Queries, Cell, cell_spot, cell_sort, cell_line, cell_lo, cell_hi, covers}
use Rattle.wg_rows.specs.Rows.{list_eq, in_range, Spot, covers_spot, EachRow, Apart, Fits, any_row, has_value, put}
use Rattle.wg_rows.specs.Cut.{value_at, inside, put_all, overwrite}
use Rattle.wg_rows.specs.Uses.{AccessKind, Read, Write, Both, Drop, ReadDrop, same_kind, kind_reads, kind_writes, kind_unsets, row_reads, row_writes, row_unsets}
use Rattle.wg_init.specs.Effects.{is_full}
use Rattle.wg_cbtrack.specs.Leaves.{left_kind, left_after, with_pieces, cleared_kind, unset_pieces, unwritten_pieces, as_reads, AreTidy}
use Rattle.wg_cbtrack.specs.Next.{AreCells}
use Rattle.wg_rows.proofs.Put.{list_eq_refl, Each_value, put_const, put_any, Respects}
use Rattle.wg_rows.proofs.Runs.{cell_widens}
use Rattle.wg_rows.proofs.Printed.{put_apart, respects}
use Rattle.wg_rows.proofs.Told.{accesses_tell}
use Rattle.wg_rows.proofs.Cut.{Clips}
use Rattle.wg_rows.proofs.Sets.{empty_covers}
use Rattle.wg_rows.proofs.Values.{Loose, apart_loose, inside_value, inside_loose, choose_value, choose_loose, gaps_are, overwrite_value, overwrite_apart}

pub cell_clips : Clips cell_sort
cell_clips (Bytes a x y) lo hi l m h = (refl, refl, refl)
cell_clips (Layers a b c x y) lo hi l m h = (refl, refl, refl)
cell_clips (Slices a b x y) lo hi l m h = (refl, refl, refl)
cell_clips (Queries a x y) lo hi l m h = (refl, refl, refl)

-- Rows of which no two cover one spot pass a test there where their value does.
pub any_loose : (spot : Spot) (test : AccessKind → Bool) (rows : List (Cells × AccessKind)) → Loose cell_sort rows → any_row (λ run. covers_spot cell_sort run spot) test rows ≡ option_map_or test (value_at cell_sort spot rows) false
any_loose spot test [] a = refl
any_loose spot test (x ∷ xs) a = by_cover (covers_spot cell_sort x.0 spot) refl (any_loose spot test xs a.2)
  where
    or_none : (b : Bool) → (b || false) ≡ b
    or_none true = refl
    or_none false = refl

    by_cover : (b : Bool) → covers_spot cell_sort x.0 spot ≡ b → any_row (λ run. covers_spot cell_sort run spot) test xs ≡ option_map_or test (value_at cell_sort spot xs) false → ((b && test x.1) || any_row (λ run. covers_spot cell_sort run spot) test xs) ≡ option_map_or test (if b then Some x.1 else value_at cell_sort spot xs) false
    by_cover true k h = ap (λ t. test x.1 || t) (h ∙ ap (λ (o : Option AccessKind). option_map_or test o false) (a.1 spot k)) ∙ or_none (test x.1)
    by_cover false k h = h

-- What is unset was written.
quiet : (o : Option AccessKind) → option_map_or kind_writes o false ≡ false → option_map_or kind_unsets o false ≡ false
quiet None e = refl
quiet (Some Read) e = refl
quiet (Some Write) e = absurd (true≢false e)
quiet (Some Both) e = absurd (true≢false e)
quiet (Some Drop) e = absurd (true≢false e)
quiet (Some ReadDrop) e = absurd (true≢false e)

pub writes_loose : (c : Cell) (rows : List (Cells × AccessKind)) → Loose cell_sort rows → row_writes c rows ≡ option_map_or kind_writes (value_at cell_sort (cell_spot c) rows) false
unfolding covers
writes_loose c rows a = any_loose (cell_spot c) kind_writes rows a

pub unsets_loose : (c : Cell) (rows : List (Cells × AccessKind)) → Loose cell_sort rows → row_unsets c rows ≡ option_map_or kind_unsets (value_at cell_sort (cell_spot c) rows) false
unfolding covers
unsets_loose c [] a = refl
unsets_loose c (x ∷ xs) a = by_cover (covers_spot cell_sort x.0 (cell_spot c)) refl (unsets_loose c xs a.2) (writes_loose c xs a.2)
  where
    by_writes : (w : Bool) → row_writes c xs ≡ w → row_unsets c xs ≡ option_map_or kind_unsets (value_at cell_sort (cell_spot c) xs) false → w ≡ option_map_or kind_writes (value_at cell_sort (cell_spot c) xs) false → (if w then row_unsets c xs else false) ≡ option_map_or kind_unsets (value_at cell_sort (cell_spot c) xs) false
    by_writes true e h w = h
    by_writes false e h w = sym (quiet (value_at cell_sort (cell_spot c) xs) (sym w))

    by_cover : (b : Bool) → covers_spot cell_sort x.0 (cell_spot c) ≡ b → row_unsets c xs ≡ option_map_or kind_unsets (value_at cell_sort (cell_spot c) xs) false → row_writes c xs ≡ option_map_or kind_writes (value_at cell_sort (cell_spot c) xs) false → (if row_writes c xs then row_unsets c xs else (b && kind_unsets x.1)) ≡ option_map_or kind_unsets (if b then Some x.1 else value_at cell_sort (cell_spot c) xs) false
    by_cover true k h w = ap (λ t. if t then row_unsets c xs else kind_unsets x.1) (w ∙ ap (λ (o : Option AccessKind). option_map_or kind_writes o false) (a.1 (cell_spot c) k))
    by_cover false k h w = by_writes (row_writes c xs) refl h w

-- A run that is empty covers nothing.
none_covered : (run : Cells) (spot : Spot) → is_full run ≡ false → covers_spot cell_sort run spot ≡ false
none_covered run spot e = ap (λ t. list_eq (cell_line run) spot.0 && t) (empty_covers (cell_lo run) (cell_hi run) spot.1 e) ∙ none (list_eq (cell_line run) spot.0)
  where
    none : (b : Bool) → (b && false) ≡ false
    none true = refl
    none false = refl

-- What is left after accesses.
abbrev left_by : Cell → List (Cells × AccessKind) → Option AccessKind → Option AccessKind
left_by c xs before = if row_writes c xs then Some (if row_unsets c xs then Drop else Write) else before

abbrev LeftAfter : List (Cells × AccessKind) → List (Cells × AccessKind) → Type 0
LeftAfter xs rows = Apart cell_sort (left_after xs rows) × ((c : Cell) → value_at cell_sort (cell_spot c) (left_after xs rows) ≡ left_by c xs (value_at cell_sort (cell_spot c) rows))

left_is : (xs rows : List (Cells × AccessKind)) → Apart cell_sort rows → LeftAfter xs rows
unfolding covers
left_is [] rows a = (a, λ c. refl)
left_is (x ∷ xs) rows a = by_test (kind_writes x.1) (is_full x.0) refl refl (λ next b. left_is xs next b)
  where
    -- what the access makes of the value at a cell
    by_all : (c : Cell) (w b k : Bool) → kind_writes x.1 ≡ k → (if w then Some (if row_unsets c xs then Drop else Write) else (if b && k then Some (left_kind x.1) else value_at cell_sort (cell_spot c) rows)) ≡ (if (b && k) || w then Some (if (if w then row_unsets c xs else (b && kind_unsets x.1)) then Drop else Write) else value_at cell_sort (cell_spot c) rows)
    by_all c true true true e = refl
    by_all c true true false e = refl
    by_all c true false k e = refl
    by_all c false true true e = refl
    by_all c false true false e = refl
    by_all c false false k e = refl

    done : (next : List (Cells × AccessKind)) → ((c : Cell) → value_at cell_sort (cell_spot c) next ≡ (if covers_spot cell_sort x.0 (cell_spot c) && kind_writes x.1 then Some (left_kind x.1) else value_at cell_sort (cell_spot c) rows)) → LeftAfter xs next → Apart cell_sort (left_after xs next) × ((c : Cell) → value_at cell_sort (cell_spot c) (left_after xs next) ≡ left_by c (x ∷ xs) (value_at cell_sort (cell_spot c) rows))
    done next one h = (h.0, λ c. h.1 c ∙ (ap (left_by c xs) (one c) ∙ by_all c (row_writes c xs) (covers_spot cell_sort x.0 (cell_spot c)) (kind_writes x.1) refl))

    never : (c : Cell) (b k : Bool) → (b && k) ≡ false → value_at cell_sort (cell_spot c) rows ≡ (if b && k then Some (left_kind x.1) else value_at cell_sort (cell_spot c) rows)
    never c b k e = sym (ap (λ t. if t then Some (left_kind x.1) else value_at cell_sort (cell_spot c) rows) e)

    and_false : (b : Bool) → (b && false) ≡ false
    and_false true = refl
    and_false false = refl

    by_test : (k f : Bool) → kind_writes x.1 ≡ k → is_full x.0 ≡ f → ((next : List (Cells × AccessKind)) → Apart cell_sort next → LeftAfter xs next) → Apart cell_sort (left_after xs (if k && f then overwrite cell_sort same_kind (x.0, left_kind x.1) rows else rows)) × ((c : Cell) → value_at cell_sort (cell_spot c) (left_after xs (if k && f then overwrite cell_sort same_kind (x.0, left_kind x.1) rows else rows)) ≡ left_by c (x ∷ xs) (value_at cell_sort (cell_spot c) rows))
    by_test true true e g rest =
        let full : cell_lo x.0 < cell_hi x.0 = ltb-true (cell_lo x.0) (cell_hi x.0) g in
        done (overwrite cell_sort same_kind (x.0, left_kind x.1) rows) (λ c. overwrite_value cell_sort same_kind accesses_tell cell_clips (x.0, left_kind x.1) rows (cell_spot c) full a ∙ (ap (λ t. if t then Some (left_kind x.1) else value_at cell_sort (cell_spot c) rows) (sym (and_true (covers_spot cell_sort x.0 (cell_spot c)))) ∙ ap (λ k. if covers_spot cell_sort x.0 (cell_spot c) && k then Some (left_kind x.1) else value_at cell_sort (cell_spot c) rows) (sym e))) (rest (overwrite cell_sort same_kind (x.0, left_kind x.1) rows) (overwrite_apart cell_sort same_kind accesses_tell cell_clips (x.0, left_kind x.1) rows full a))
      where
        and_true : (b : Bool) → (b && true) ≡ b
        and_true true = refl
        and_true false = refl
    by_test true false e g rest = done rows (λ c. never c (covers_spot cell_sort x.0 (cell_spot c)) (kind_writes x.1) (ap (λ t. t && kind_writes x.1) (none_covered x.0 (cell_spot c) g))) (rest rows a)
    by_test false f e g rest = done rows (λ c. never c (covers_spot cell_sort x.0 (cell_spot c)) (kind_writes x.1) (ap (λ k. covers_spot cell_sort x.0 (cell_spot c) && k) e ∙ and_false (covers_spot cell_sort x.0 (cell_spot c)))) (rest rows a)

-- Rows of one value.
pub each_from : (kind : AccessKind) (rows : List (Cells × AccessKind)) → EachRow (λ row. row.1 ≡ kind) rows → Each_value kind rows
each_from kind [] h = tt
each_from kind (x ∷ xs) h = (h.0, each_from kind xs h.1)

pub each_to : (kind : AccessKind) (rows : List (Cells × AccessKind)) → Each_value kind rows → EachRow (λ row. row.1 ≡ kind) rows
each_to kind [] h = tt
each_to kind (x ∷ xs) h = (h.0, each_to kind xs h.1)

-- Rows that have one value wherever they have one.
each_by_value : (kind : AccessKind) (rows : List (Cells × AccessKind)) → Loose cell_sort rows → ((spot : Spot) (v : AccessKind) → value_at cell_sort spot rows ≡ Some v → v ≡ kind) → Each_value kind rows
each_by_value kind [] l h = tt
each_by_value kind (x ∷ xs) l h = (h (cell_line x.0, cell_lo x.0) x.1 (ap (λ b. if b then Some x.1 else value_at cell_sort (cell_line x.0, cell_lo x.0) xs) itself), each_by_value kind xs l.2 (λ spot v e. rest spot v e (covers_spot cell_sort x.0 spot) refl))
  where
    itself : covers_spot cell_sort x.0 (cell_line x.0, cell_lo x.0) ≡ true
    itself = and_from (list_eq (cell_line x.0) (cell_line x.0)) (in_range (cell_lo x.0) (cell_hi x.0) (cell_lo x.0)) (list_eq_refl (cell_line x.0)) (and_from (nat_le (cell_lo x.0) (cell_lo x.0)) (nat_lt (cell_lo x.0) (cell_hi x.0)) (le-leb (cell_lo x.0) (cell_lo x.0) (omega arith)) (lt-ltb (cell_lo x.0) (cell_hi x.0) l.0))

    rest : (spot : Spot) (v : AccessKind) → value_at cell_sort spot xs ≡ Some v → (b : Bool) → covers_spot cell_sort x.0 spot ≡ b → v ≡ kind
    rest spot v e true k = let none_is_some : None ≡ Some v = sym (l.1 spot k) ∙ e in absurd (cc)
    rest spot v e false k = h spot v (ap (λ b. if b then Some x.1 else value_at cell_sort spot xs) k ∙ e)

-- Pieces put among rows of the same value.
pub fits_each : (kind : AccessKind) (r : Cells × AccessKind) (rows : List (Cells × AccessKind)) → r.1 ≡ kind → Each_value kind rows → EachRow (Fits cell_sort r) rows
fits_each kind r [] e h = tt
fits_each kind r (y ∷ ys) e h = (λ spot p q. e ∙ sym h.0, fits_each kind r ys e h.1)

pub put_each : (kind : AccessKind) (ps rows : List (Cells × AccessKind)) → Loose cell_sort ps → Each_value kind ps → Each_value kind rows → Apart cell_sort rows → Each_value kind (put_all cell_sort same_kind ps rows) × Apart cell_sort (put_all cell_sort same_kind ps rows)
put_each kind [] rows l e h a = (h, a)
put_each kind (p ∷ ps) rows l e h a = put_each kind ps (put cell_sort same_kind p rows) l.2 e.1 (put_const cell_sort same_kind kind p rows e.0 h) (put_apart cell_sort same_kind accesses_tell p rows l.0 a (fits_each kind p rows e.0 h))

pub put_any_all : (spot : Spot) (test : AccessKind → Bool) → Respects same_kind test → (ps rows : List (Cells × AccessKind)) → any_row (λ run. covers_spot cell_sort run spot) test (put_all cell_sort same_kind ps rows) ≡ (any_row (λ run. covers_spot cell_sort run spot) test ps || any_row (λ run. covers_spot cell_sort run spot) test rows)
put_any_all spot test r [] rows = refl
put_any_all spot test r (p ∷ ps) rows = put_any_all spot test r ps (put cell_sort same_kind p rows) ∙ (ap (λ t. any_row (λ run. covers_spot cell_sort run spot) test ps || t) (put_any cell_sort same_kind spot test cell_widens r p rows) ∙ moved (any_row (λ run. covers_spot cell_sort run spot) test ps) (covers_spot cell_sort p.0 spot && test p.1) (any_row (λ run. covers_spot cell_sort run spot) test rows))
  where
    moved : (a b c : Bool) → (a || (b || c)) ≡ ((b || a) || c)
    moved true true c = refl
    moved true false c = refl
    moved false true c = refl
    moved false false c = refl

-- The pieces of a run have one value, at those of its cells that pass a test.
abbrev pub PiecesAre : AccessKind → (Cell → Bool) → (Cells → List (Cells × AccessKind)) → Type 0
PiecesAre kind passes pieces = (run : Cells) → is_full run ≡ true → Loose cell_sort (pieces run) × Each_value kind (pieces run) × ((c : Cell) → value_at cell_sort (cell_spot c) (pieces run) ≡ (if covers_spot cell_sort run (cell_spot c) && passes c then Some kind else None))

abbrev pub WithPieces : AccessKind → (Cell → Bool) → (Cells → List (Cells × AccessKind)) → List (Cells × AccessKind) → List (Cells × AccessKind) → Type 0
WithPieces kind passes pieces xs rows = Each_value kind (with_pieces pieces xs rows) × Apart cell_sort (with_pieces pieces xs rows) × ((c : Cell) (test : AccessKind → Bool) → Respects same_kind test → any_row (λ run. covers_spot cell_sort run (cell_spot c)) test (with_pieces pieces xs rows) ≡ (any_row (λ run. covers_spot cell_sort run (cell_spot c)) test rows || ((any_row (λ run. covers_spot cell_sort run (cell_spot c)) kind_reads xs && passes c) && test kind)))

pub pieces_put : (kind : AccessKind) (passes : Cell → Bool) (pieces : Cells → List (Cells × AccessKind)) → PiecesAre kind passes pieces → (xs rows : List (Cells × AccessKind)) → Each_value kind rows → Apart cell_sort rows → WithPieces kind passes pieces xs rows
pieces_put kind passes pieces each [] rows h a = (h, a, λ c test r. sym (or_none (any_row (λ run. covers_spot cell_sort run (cell_spot c)) test rows)))
  where
    or_none : (b : Bool) → (b || false) ≡ b
    or_none true = refl
    or_none false = refl
pieces_put kind passes pieces each (x ∷ xs) rows h a = by_test (kind_reads x.1) (is_full x.0) refl refl (pieces_put kind passes pieces each xs rows h a)
  where
    joined : (c r p t b : Bool) → (option_map_or (λ (v : Bool). t) (if c && p then Some true else None) false || (b || ((r && p) && t))) ≡ (b || ((((c && true) || r) && p) && t))
    joined true r true true true = refl
    joined true true true true false = refl
    joined true false true true false = refl
    joined true r true false true = refl
    joined true true true false false = refl
    joined true false true false false = refl
    joined true true false t b = refl
    joined true false false t b = refl
    joined false r p t b = refl

    value_of : (b : Bool) (test : AccessKind → Bool) → option_map_or test (if b then Some kind else None) false ≡ option_map_or (λ (v : Bool). test kind) (if b then Some true else None) false
    value_of true test = refl
    value_of false test = refl

    skipped : (c r p t b : Bool) → c ≡ false → (b || ((r && p) && t)) ≡ (b || (((c || r) && p) && t))
    skipped c r p t b e = ap (λ k. b || (((k || r) && p) && t)) (sym e)

    and_false : (b : Bool) → (b && false) ≡ false
    and_false true = refl
    and_false false = refl

    by_test : (k f : Bool) → kind_reads x.1 ≡ k → is_full x.0 ≡ f → WithPieces kind passes pieces xs rows → Each_value kind (if k && f then put_all cell_sort same_kind (pieces x.0) (with_pieces pieces xs rows) else with_pieces pieces xs rows) × Apart cell_sort (if k && f then put_all cell_sort same_kind (pieces x.0) (with_pieces pieces xs rows) else with_pieces pieces xs rows) × ((c : Cell) (test : AccessKind → Bool) → Respects same_kind test → any_row (λ run. covers_spot cell_sort run (cell_spot c)) test (if k && f then put_all cell_sort same_kind (pieces x.0) (with_pieces pieces xs rows) else with_pieces pieces xs rows) ≡ (any_row (λ run. covers_spot cell_sort run (cell_spot c)) test rows || ((((covers_spot cell_sort x.0 (cell_spot c) && k) || any_row (λ run. covers_spot cell_sort run (cell_spot c)) kind_reads xs) && passes c) && test kind)))
    by_test true true e g rest =
        let one : Loose cell_sort (pieces x.0) × Each_value kind (pieces x.0) × ((c : Cell) → value_at cell_sort (cell_spot c) (pieces x.0) ≡ (if covers_spot cell_sort x.0 (cell_spot c) && passes c then Some kind else None)) = each x.0 g in
        let all : Each_value kind (put_all cell_sort same_kind (pieces x.0) (with_pieces pieces xs rows)) × Apart cell_sort (put_all cell_sort same_kind (pieces x.0) (with_pieces pieces xs rows)) = put_each kind (pieces x.0) (with_pieces pieces xs rows) one.0 one.1 rest.0 rest.1 in (
          all.0,
          all.1,
          λ c test r.
              put_any_all (cell_spot c) test r (pieces x.0) (with_pieces pieces xs rows)
              ∙ (ap₂ ◌||◌ (any_loose (cell_spot c) test (pieces x.0) one.0 ∙ (ap (λ (o : Option AccessKind). option_map_or test o false) (one.2 c) ∙ value_of (covers_spot cell_sort x.0 (cell_spot c) && passes c) test)) (rest.2 c test r)
              ∙ joined (covers_spot cell_sort x.0 (cell_spot c)) (any_row (λ run. covers_spot cell_sort run (cell_spot c)) kind_reads xs) (passes c) (test kind) (any_row (λ run. covers_spot cell_sort run (cell_spot c)) test rows)),
        )
    by_test true false e g rest = (rest.0, rest.1, λ c test r. rest.2 c test r ∙ skipped (covers_spot cell_sort x.0 (cell_spot c) && true) (any_row (λ run. covers_spot cell_sort run (cell_spot c)) kind_reads xs) (passes c) (test kind) (any_row (λ run. covers_spot cell_sort run (cell_spot c)) test rows) (ap (λ t. t && true) (none_covered x.0 (cell_spot c) g)))
    by_test false f e g rest = (rest.0, rest.1, λ c test r. rest.2 c test r ∙ skipped (covers_spot cell_sort x.0 (cell_spot c) && false) (any_row (λ run. covers_spot cell_sort run (cell_spot c)) kind_reads xs) (passes c) (test kind) (any_row (λ run. covers_spot cell_sort run (cell_spot c)) test rows) (and_false (covers_spot cell_sort x.0 (cell_spot c))))

-- The pieces that a clear inside sets,
unset_are : (leaves : List (Cells × AccessKind)) → Apart cell_sort leaves → PiecesAre Write (λ c. row_unsets c leaves) (unset_pieces leaves)
unset_are leaves a run full = (loose, each_by_value Write (unset_pieces leaves run) loose only, λ c. value (cell_spot c) ∙ (by_cover (covers_spot cell_sort run (cell_spot c)) (value_at cell_sort (cell_spot c) leaves) ∙ ap (λ t. if covers_spot cell_sort run (cell_spot c) && t then Some Write else None) (sym (unsets_loose c leaves (apart_loose cell_sort leaves a)))))
  where
    inner : Loose cell_sort (inside cell_sort run leaves)
    inner = inside_loose cell_sort cell_clips run leaves (apart_loose cell_sort leaves a)

    loose : Loose cell_sort (unset_pieces leaves run)
    loose = choose_loose cell_sort cleared_kind (inside cell_sort run leaves) inner

    value : (spot : Spot) → value_at cell_sort spot (unset_pieces leaves run) ≡ option_and_then cleared_kind (if covers_spot cell_sort run spot then value_at cell_sort spot leaves else None)
    value spot = choose_value cell_sort cleared_kind (inside cell_sort run leaves) spot inner ∙ ap (option_and_then cleared_kind) (inside_value cell_sort cell_clips run leaves spot)

    by_cover : (b : Bool) (o : Option AccessKind) → option_and_then cleared_kind (if b then o else None) ≡ (if b && option_map_or kind_unsets o false then Some Write else None)
    by_cover true None = refl
    by_cover true (Some k) = refl
    by_cover false o = refl

    chosen : (o : Option AccessKind) (v : AccessKind) → option_and_then cleared_kind o ≡ Some v → v ≡ Write
    chosen None v e = absurd (cc)
    chosen (Some k) v e = by_unsets (kind_unsets k) e
      where
        by_unsets : (u : Bool) → (if u then Some Write else None) ≡ Some v → v ≡ Write
        by_unsets true f = cc
        by_unsets false f = absurd (cc)

    only : (spot : Spot) (v : AccessKind) → value_at cell_sort spot (unset_pieces leaves run) ≡ Some v → v ≡ Write
    only spot v e = chosen (if covers_spot cell_sort run spot then value_at cell_sort spot leaves else None) v (sym (value spot) ∙ e)

-- and those that are wanted from before all steps.
pub unwritten_are : (leaves : List (Cells × AccessKind)) → Apart cell_sort leaves → ((c : Cell) (kind : AccessKind) → value_at cell_sort (cell_spot c) leaves ≡ Some kind → kind_writes kind ≡ true) → PiecesAre Read (λ c. not (row_writes c leaves)) (unwritten_pieces leaves)
unwritten_are leaves a written run full = (apart_loose cell_sort (unwritten_pieces leaves run) found.0, each_by_value Read (unwritten_pieces leaves run) (apart_loose cell_sort (unwritten_pieces leaves run) found.0) only, λ c. found.1 (cell_spot c) ∙ (by_cover (covers_spot cell_sort run (cell_spot c)) (value_at cell_sort (cell_spot c) leaves) (written c) ∙ ap (λ t. if covers_spot cell_sort run (cell_spot c) && not t then Some Read else None) (sym (writes_loose c leaves (apart_loose cell_sort leaves a)))))
  where
    found : Apart cell_sort (unwritten_pieces leaves run) × ((spot : Spot) → value_at cell_sort spot (unwritten_pieces leaves run) ≡ option_map_or (λ (v : AccessKind). None) (value_at cell_sort spot leaves) (value_at cell_sort spot ((run, Read) ∷ [])))
    found = gaps_are cell_sort cell_clips ((run, Read) ∷ []) leaves (ltb-true (cell_lo run) (cell_hi run) full, tt, tt) (apart_loose cell_sort leaves a)

    by_cover : (b : Bool) (o : Option AccessKind) → ((kind : AccessKind) → o ≡ Some kind → kind_writes kind ≡ true) → option_map_or (λ (v : AccessKind). None) o (if b then Some Read else None) ≡ (if b && not (option_map_or kind_writes o false) then Some Read else None)
    by_cover true None h = refl
    by_cover true (Some k) h = sym (ap (λ t. if not t then Some Read else None) (h k refl))
    by_cover false None h = refl
    by_cover false (Some k) h = refl

    chosen : (o : Option AccessKind) (b : Bool) (v : AccessKind) → option_map_or (λ (v : AccessKind). None) o (if b then Some Read else None) ≡ Some v → v ≡ Read
    chosen None true v e = cc
    chosen None false v e = absurd (cc)
    chosen (Some k) b v e = absurd (cc)

    only : (spot : Spot) (v : AccessKind) → value_at cell_sort spot (unwritten_pieces leaves run) ≡ Some v → v ≡ Read
    only spot v e = chosen (value_at cell_sort spot leaves) (covers_spot cell_sort run spot) v (sym (found.1 spot) ∙ e)

-- Rows that are each written leave nothing unset.
write_sets : (c : Cell) (rows : List (Cells × AccessKind)) → Each_value Write rows → row_unsets c rows ≡ false
write_sets c [] h = refl
write_sets c (x ∷ xs) h = ap₂ (λ (a b : Bool). if row_writes c xs then a else (covers x.0 c && b)) (write_sets c xs h.1) (ap kind_unsets h.0) ∙ by_tests (row_writes c xs) (covers x.0 c)
  where
    by_tests : (w b : Bool) → (if w then false else (b && false)) ≡ false
    by_tests true b = refl
    by_tests false true = refl
    by_tests false false = refl

some_is : (a b : AccessKind) → Some a ≡ Some b → b ≡ a
some_is a b e = cc

same_reads : Respects same_kind kind_reads
same_reads u v e = ap kind_reads (accesses_tell.equal u v e)

same_writes : Respects same_kind kind_writes
same_writes u v e = ap kind_writes (accesses_tell.equal u v e)

-- The cells of one more step, as they are found.
pub cells_are : (wants leaves accesses clear wanted set left : List (Cells × AccessKind)) → AreTidy wants leaves → clear ≡ with_pieces (unset_pieces leaves) accesses [] → wanted ≡ with_pieces (unwritten_pieces leaves) accesses wants → set ≡ left_after clear leaves → left ≡ left_after accesses set → AreCells wants leaves accesses clear wanted left
unfolding covers
cells_are wants leaves accesses clear wanted set left tidy cl wa se le = record {
  apart = subst (Apart cell_sort) (sym cl) cleared.1;
  clear = λ c v. ap (has_value cell_sort same_kind (cell_spot c) v) cl ∙ cleared.2 c (same_kind v) (respects cell_sort same_kind accesses_tell v);
  wants = λ c. ap (row_reads c) wa ∙ (needed.2 c kind_reads same_reads ∙ ap (λ t. row_reads c wants || t) (swap (row_reads c accesses) (not (row_writes c leaves))));
  writes = λ c. writes_loose c left (apart_loose cell_sort left left_apart) ∙ (ap (λ (o : Option AccessKind). option_map_or kind_writes o false) (left_value c) ∙ (by_writes (row_writes c accesses) (row_writes c clear) (row_unsets c accesses) (row_unsets c clear) (value_at cell_sort (cell_spot c) leaves) (clear_written c) ∙ ap (λ t. row_writes c accesses || t) (sym (writes_loose c leaves leaves_loose))));
  unsets = λ c. unsets_loose c left (apart_loose cell_sort left left_apart) ∙ (ap (λ (o : Option AccessKind). option_map_or kind_unsets o false) (left_value c) ∙ (by_unsets (row_writes c accesses) (row_writes c clear) (row_unsets c accesses) (row_unsets c clear) (value_at cell_sort (cell_spot c) leaves) (write_sets c clear each_clear) ∙ ap₂ (λ (t u : Bool). if row_writes c accesses then row_unsets c accesses else (if t then false else u)) (clear_at c) (sym (unsets_loose c leaves leaves_loose))));
  tidy = record {
    reads = (each_to Read wanted (subst (Each_value Read) (sym wa) needed.0), subst (Apart cell_sort) (sym wa) needed.1);
    left = left_apart;
    written = λ c kind e. kinds c (row_writes c accesses) (row_writes c clear) (row_unsets c accesses) (row_unsets c clear) kind (sym (left_value c) ∙ e);
  };
}
  where
    leaves_loose : Loose cell_sort leaves
    leaves_loose = apart_loose cell_sort leaves tidy.left

    cleared : WithPieces Write (λ c. row_unsets c leaves) (unset_pieces leaves) accesses []
    cleared = pieces_put Write (λ c. row_unsets c leaves) (unset_pieces leaves) (unset_are leaves tidy.left) accesses [] tt tt

    needed : WithPieces Read (λ c. not (row_writes c leaves)) (unwritten_pieces leaves) accesses wants
    needed = pieces_put Read (λ c. not (row_writes c leaves)) (unwritten_pieces leaves) (unwritten_are leaves tidy.left tidy.written) accesses wants (each_from Read wants tidy.reads.0) tidy.reads.1

    each_clear : Each_value Write clear
    each_clear = subst (Each_value Write) (sym cl) cleared.0

    after_clear : LeftAfter clear leaves
    after_clear = left_is clear leaves tidy.left

    set_apart : Apart cell_sort set
    set_apart = subst (Apart cell_sort) (sym se) after_clear.0

    after_all : LeftAfter accesses set
    after_all = left_is accesses set set_apart

    left_apart : Apart cell_sort left
    left_apart = subst (Apart cell_sort) (sym le) after_all.0

    left_value : (c : Cell) → value_at cell_sort (cell_spot c) left ≡ left_by c accesses (left_by c clear (value_at cell_sort (cell_spot c) leaves))
    left_value c = ap (value_at cell_sort (cell_spot c)) le ∙ (after_all.1 c ∙ ap (left_by c accesses) (ap (value_at cell_sort (cell_spot c)) se ∙ after_clear.1 c))

    and_true : (b : Bool) → (b && true) ≡ b
    and_true true = refl
    and_true false = refl

    swap : (a b : Bool) → ((a && b) && true) ≡ (b && a)
    swap true true = refl
    swap true false = refl
    swap false true = refl
    swap false false = refl

    clear_at : (c : Cell) → row_writes c clear ≡ (row_reads c accesses && row_unsets c leaves)
    clear_at c = ap (row_writes c) cl ∙ (cleared.2 c kind_writes same_writes ∙ and_true (row_reads c accesses && row_unsets c leaves))

    -- a clear inside writes what was written
    clear_written : (c : Cell) → row_writes c clear ≡ true → option_map_or kind_writes (value_at cell_sort (cell_spot c) leaves) false ≡ true
    clear_written c e = by_value (value_at cell_sort (cell_spot c) leaves) (tidy.written c) (unsets_loose c leaves leaves_loose) (row_reads c accesses) (sym (clear_at c) ∙ e)
      where
        by_value : (o : Option AccessKind) → ((kind : AccessKind) → o ≡ Some kind → kind_writes kind ≡ true) → row_unsets c leaves ≡ option_map_or kind_unsets o false → (r : Bool) → (r && row_unsets c leaves) ≡ true → option_map_or kind_writes o false ≡ true
        by_value None h u true f = absurd (true≢false (sym f ∙ u))
        by_value None h u false f = absurd (true≢false (sym f))
        by_value (Some k) h u r f = h k refl

    by_writes : (a x u v : Bool) (o : Option AccessKind) → (x ≡ true → option_map_or kind_writes o false ≡ true) → option_map_or kind_writes (if a then Some (if u then Drop else Write) else (if x then Some (if v then Drop else Write) else o)) false ≡ (a || option_map_or kind_writes o false)
    by_writes true x true v o h = refl
    by_writes true x false v o h = refl
    by_writes false true u true o h = sym (h refl)
    by_writes false true u false o h = sym (h refl)
    by_writes false false u v o h = refl

    by_unsets : (a x u v : Bool) (o : Option AccessKind) → v ≡ false → option_map_or kind_unsets (if a then Some (if u then Drop else Write) else (if x then Some (if v then Drop else Write) else o)) false ≡ (if a then u else (if x then false else option_map_or kind_unsets o false))
    by_unsets true x true v o e = refl
    by_unsets true x false v o e = refl
    by_unsets false true u true o e = absurd (true≢false e)
    by_unsets false true u false o e = refl
    by_unsets false false u v o e = refl

    kinds : (c : Cell) (a x u v : Bool) (kind : AccessKind) → (if a then Some (if u then Drop else Write) else (if x then Some (if v then Drop else Write) else value_at cell_sort (cell_spot c) leaves)) ≡ Some kind → kind_writes kind ≡ true
    kinds c true x true v kind e = ap kind_writes (some_is Drop kind e)
    kinds c true x false v kind e = ap kind_writes (some_is Write kind e)
    kinds c false true u true kind e = ap kind_writes (some_is Drop kind e)
    kinds c false true u false kind e = ap kind_writes (some_is Write kind e)
    kinds c false false u v kind e = tidy.written c kind e

-- Reads are told by their cells.
pub reads_again : (rows : List (Cells × AccessKind)) → EachRow (λ row. row.1 ≡ Read) rows → as_reads (map (λ row. row.0) rows) ≡ rows
reads_again [] h = refl
reads_again (x ∷ xs) h = ap₂ ◌∷◌ (ap (λ (kind : AccessKind). (x.0, kind)) (sym h.0)) (reads_again xs h.1)

-- Each segment with an access has a cell, which stands at the end that begins it.
use Rattle.std.proofs.Common.{◌≡◌, ◌≢◌, ℕ, zero, suc, ◌+◌, ◌-◌, ◌<◌, ◌≤◌, List, [], ◌∷◌, ◌++◌, length, map, Bool, true, false, ◌&&◌, ◌||◌, ◌==◌, nat_lt, nat_le, Option, Some, None, refl, ap, sym, subst, ◌∙◌, ◌⊎◌, inl, inr, arith, slice_get, if◌then◌else◌, true≢false}
use Rattle.std.specs.Option.{option_or, option_map}
use Rattle.std.proofs.lemmas.Bool.{and_parts, cases_lt, eqb-true, eq-eqb, ne_eqb, ltb-true, leb-true}
use Rattle.wg_rows.specs.Rows.{in_range}
use Rattle.wg_rows.specs.Runs.{Aspect, Color, Depth, Stencil, PartRun, BufferPart, QueryPart, LayerParts, Cell, Byte, Texels, Slice, Query, Cells, Bytes, Layers, Slices, Queries, covers, cell_run, aspect_number}
use Rattle.wg_rows.specs.Uses.{AccessKind, kind_reads, kind_writes, row_writes}
use Rattle.wg_rows.specs.Once.{AreOnce}
use Rattle.wg_orders.specs.Steps.{writes}
use Rattle.wg_orders.specs.Trace.{Item, Bar, StepItem, Free, steps_of, writes_at}
use Rattle.wg_check.specs.declared.stories.Access.{Access}
use Rattle.wg_check.specs.declared.events.CellDeed.{CellDeed}
use Rattle.wg_check.specs.declared.events.CellDeed.TheVariants.{Fence, Act}
use Rattle.wg_check.specs.Doings.{Doings, IsStory}
use Rattle.wg_check.specs.Clashes.{doings, story}
use Rattle.wg_check.specs.Segments.{Key, KeyEvent, before, then_on, story_at, key_story, lies_in, rank, ranked, Rises, Among, EndsIn}
use Rattle.wg_check.specs.Keys.{key, cell_key, event, run_event, row_events, bar_events, key_events}
use Rattle.wg_check.specs.Cells.{place_in, cell_in, row_cell, cell_from}
use Rattle.wg_check.specs.Ends.{Ascending}
use Rattle.wg_check.proofs.Between.{key_between, run_covers}
use Rattle.wg_check.proofs.Bridge.{on_row, stories}
use Rattle.wg_check.proofs.Ranks.{story_ranked, rank_within}
use Rattle.wg_check.proofs.Sorting.{rank_at, itself}
use Rattle.wg_check.proofs.Telling.{cell_story}

-- A key has a cell.
pub record HasCell (k : Key) : Type 0 where
  pub cell : Cell
  pub stands : cell_key cell ≡ k

keyed : (k : Key) (s a m : ℕ) → s ≡ k.sort → a ≡ k.aspect → m ≡ k.mip → key k.object s a m k.at ≡ k
keyed k s a m p q r = ap (λ (n : ℕ). key k.object n a m k.at) p ∙ (ap (λ (n : ℕ). key k.object k.sort n m k.at) q ∙ ap (λ (n : ℕ). key k.object k.sort k.aspect n k.at) r)

-- what the tests of a line tell
record InLine (k : Key) (s a m : ℕ) : Type 0 where
  sort : s ≡ k.sort
  aspect : a ≡ k.aspect
  mip : m ≡ k.mip

in_line : (k : Key) (o s a m lo hi : ℕ) (deed : CellDeed) → lies_in k (event (key o s a m lo) (key o s a m hi) deed) ≡ true → InLine k s a m
in_line k o s a m lo hi deed e =
    let tests : ((o == k.object) && ((s == k.sort) && ((a == k.aspect) && ((m == k.mip) && in_range lo hi k.at)))) ≡ true = sym (key_between k.object k.sort k.aspect k.mip k.at o s a m lo hi) ∙ e in
    let first : ((o == k.object) ≡ true) × (((s == k.sort) && ((a == k.aspect) && ((m == k.mip) && in_range lo hi k.at))) ≡ true) = and_parts (o == k.object) ((s == k.sort) && ((a == k.aspect) && ((m == k.mip) && in_range lo hi k.at))) tests in
    let second : ((s == k.sort) ≡ true) × (((a == k.aspect) && ((m == k.mip) && in_range lo hi k.at)) ≡ true) = and_parts (s == k.sort) ((a == k.aspect) && ((m == k.mip) && in_range lo hi k.at)) first.1 in
    let third : ((a == k.aspect) ≡ true) × (((m == k.mip) && in_range lo hi k.at) ≡ true) = and_parts (a == k.aspect) ((m == k.mip) && in_range lo hi k.at) second.1 in
    let fourth : ((m == k.mip) ≡ true) × (in_range lo hi k.at ≡ true) = and_parts (m == k.mip) (in_range lo hi k.at) third.1 in
    record { sort = eqb-true s k.sort second.0; aspect = eqb-true a k.aspect third.0; mip = eqb-true m k.mip fourth.0 }

run_cell : (k : Key) (run : Cells) (deed : CellDeed) → lies_in k (run_event run deed) ≡ true → HasCell k
run_cell k (Bytes o lo hi) deed e = let l : InLine k 0 0 0 = in_line k o 0 0 0 lo hi deed e in record { cell = Byte k.object k.at; stands = keyed k 0 0 0 l.sort l.aspect l.mip }
run_cell k (Queries o lo hi) deed e = let l : InLine k 1 0 0 = in_line k o 1 0 0 lo hi deed e in record { cell = Query k.object k.at; stands = keyed k 1 0 0 l.sort l.aspect l.mip }
run_cell k (Layers o aspect mip lo hi) deed e = let l : InLine k 2 (aspect_number aspect) mip = in_line k o 2 (aspect_number aspect) mip lo hi deed e in record { cell = Texels k.object aspect mip k.at; stands = keyed k 2 (aspect_number aspect) mip l.sort l.aspect l.mip }
run_cell k (Slices o mip lo hi) deed e = let l : InLine k 3 0 mip = in_line k o 3 0 mip lo hi deed e in record { cell = Slice k.object mip k.at; stands = keyed k 3 0 mip l.sort l.aspect l.mip }

-- A key at which a step accesses something has a cell.
abbrev Filled : Key → List KeyEvent → Type 0
Filled k events = (e : ℕ) (a : Access) (rest : List Access) → key_story k e events ≡ a ∷ rest → HasCell k

rows_filled : (k : Key) (n : ℕ) (rows : List (Cells × AccessKind)) (tail : List KeyEvent) → Filled k tail → Filled k (row_events n rows ++ tail)
rows_filled k n [] tail filled e a rest h = filled e a rest h
rows_filled k n (row ∷ rows) tail filled e a rest h = by_cover (lies_in k (run_event row.0 (Act n (kind_reads row.1) (kind_writes row.1)))) refl (sym (on_row k e n (kind_reads row.1) (kind_writes row.1) row.0 (row_events n rows ++ tail)) ∙ h) (rows_filled k n rows tail filled)
  where
    by_cover : (b : Bool) → lies_in k (run_event row.0 (Act n (kind_reads row.1) (kind_writes row.1))) ≡ b → (if b then (record { place = n; reads = kind_reads row.1; writes = kind_writes row.1; epoch = e }) ∷ key_story k e (row_events n rows ++ tail) else key_story k e (row_events n rows ++ tail)) ≡ a ∷ rest → Filled k (row_events n rows ++ tail) → HasCell k
    by_cover true on h rest_filled = run_cell k row.0 (Act n (kind_reads row.1) (kind_writes row.1)) on
    by_cover false on h rest_filled = rest_filled e a rest h

fence_filled : (k lo hi : Key) (tail : List KeyEvent) → Filled k tail → Filled k (event lo hi Fence ∷ tail)
fence_filled k lo hi tail filled e a rest h = by_cover (lies_in k (event lo hi Fence)) h
  where
    by_cover : (b : Bool) → (if b then key_story k (suc e) tail else key_story k e tail) ≡ a ∷ rest → HasCell k
    by_cover true h = filled (suc e) a rest h
    by_cover false h = filled e a rest h

bar_filled : (k : Key) (parts : PartRun) (tail : List KeyEvent) → Filled k tail → Filled k (bar_events parts ++ tail)
bar_filled k (BufferPart object) tail filled = fence_filled k (key object 0 0 0 0) (key object 0 0 1 0) tail filled
bar_filled k (QueryPart object) tail filled = fence_filled k (key object 1 0 0 0) (key object 1 0 1 0) tail filled
bar_filled k (LayerParts object aspect mip lo hi) tail filled = fence_filled k (key object 2 (aspect_number aspect) mip lo) (key object 2 (aspect_number aspect) mip hi) ((if (aspect_number aspect == 0) && ((lo == 0) && nat_lt 0 hi) then event (key object 3 0 mip 0) (key object 3 0 (suc mip) 0) Fence ∷ [] else []) ++ tail) (by_first ((aspect_number aspect == 0) && ((lo == 0) && nat_lt 0 hi)))
  where
    by_first : (b : Bool) → Filled k ((if b then event (key object 3 0 mip 0) (key object 3 0 (suc mip) 0) Fence ∷ [] else []) ++ tail)
    by_first true = fence_filled k (key object 3 0 mip 0) (key object 3 0 (suc mip) 0) tail filled
    by_first false = filled

items_filled : (k : Key) (n : ℕ) (items : List Item) → Filled k (key_events n items)
items_filled k n [] = λ e a rest h. absurd (cc)
items_filled k n (Bar parts from to ∷ items) = bar_filled k parts (key_events n items) (items_filled k n items)
items_filled k n (StepItem s ∷ items) = rows_filled k n s.accesses (key_events (suc n) items) (items_filled k (suc n) items)
items_filled k n (Free object sort ∷ items) = items_filled k n items

-- No event is on the segment below all ends, nor on what is above them.

rank_some : (ends : List Key) (k : Key) → Among k ends → 0 < rank ends k
rank_some [] k among = absurd among
rank_some (x ∷ ends) k (inl same) =
    let here : rank (x ∷ ends) k ≡ suc (rank ends k) = ap (λ (b : Bool). if b then rank ends k else suc (rank ends k)) (ap (before k) (sym same) ∙ itself k) in
    omega (arith, here)
rank_some (x ∷ ends) k (inr among) = by_end (before k x) (rank_some ends k among)
  where
    by_end : (b : Bool) → 0 < rank ends k → 0 < (if b then rank ends k else suc (rank ends k))
    by_end true l = l
    by_end false l = omega arith

none_on : (ends : List Key) (n e : ℕ) (events : List KeyEvent) → EndsIn ends events → ((lo hi : Key) → Among lo ends → in_range (rank ends lo) (rank ends hi) n ≡ false) → story_at n e (map (ranked ends) events) ≡ []
none_on ends n e [] within off = refl
none_on ends n e (v ∷ events) within off = ap (λ (b : Bool). if b then then_on v.deed e (story_at n (suc e) (map (ranked ends) events)) (story_at n e (map (ranked ends) events)) else story_at n e (map (ranked ends) events)) (off v.lo v.hi within.0) ∙ none_on ends n e events within.2 off

below_all : (ends : List Key) (lo hi : Key) → Among lo ends → in_range (rank ends lo) (rank ends hi) 0 ≡ false
below_all ends lo hi among = by_test (nat_le (rank ends lo) 0) refl
  where
    by_test : (b : Bool) → nat_le (rank ends lo) 0 ≡ b → (b && nat_lt 0 (rank ends hi)) ≡ false
    by_test false e = refl
    by_test true e = absurd (omega (arith, leb-true (rank ends lo) 0 e, rank_some ends lo among))

above_all : (ends : List Key) (n : ℕ) (lo hi : Key) → length ends < n → in_range (rank ends lo) (rank ends hi) n ≡ false
above_all ends n lo hi more = by_test (nat_le (rank ends lo) n) (nat_lt n (rank ends hi)) refl
  where
    by_test : (a b : Bool) → nat_lt n (rank ends hi) ≡ b → (a && b) ≡ false
    by_test true false e = refl
    by_test false b e = refl
    by_test true true e = absurd (omega (arith, ltb-true n (rank ends hi) e, rank_within ends hi, more))

get_some : (ends : List Key) (i : ℕ) → i < length ends → (k : Key) × (slice_get ends i ≡ Some k)
get_some [] i l = absurd (omega arith)
get_some (x ∷ ends) zero l = (x, refl)
get_some (x ∷ ends) (suc i) l = get_some ends i (omega arith)

-- What a segment with an access has.
pub record SegmentCell (ends : List Key) (n : ℕ) : Type 0 where
  pub cell : Cell
  pub index : ℕ
  pub number : n ≡ suc index
  pub first : slice_get ends index ≡ Some (cell_key cell)
  pub ranks : rank ends (cell_key cell) ≡ n

pub segment_cell : (trace : List Item) (ends : List Key) (n : ℕ) (a : Access) (rest : List Access) → Ascending ends → EndsIn ends (key_events 0 trace) → story_at n 0 (map (ranked ends) (key_events 0 trace)) ≡ a ∷ rest → SegmentCell ends n
segment_cell trace ends zero a rest up within h = let none : [] ≡ a ∷ rest = sym (none_on ends 0 0 (key_events 0 trace) within (below_all ends)) ∙ h in absurd (cc)
segment_cell trace ends (suc i) a rest up within h = by_length (cases_lt i (length ends))
  where
    by_length : (i < length ends) ⊎ (length ends ≤ i) → SegmentCell ends (suc i)
    by_length (inr more) = let none : [] ≡ a ∷ rest = sym (none_on ends (suc i) 0 (key_events 0 trace) within (λ lo hi _. above_all ends (suc i) lo hi (omega arith))) ∙ h in absurd (cc)
    by_length (inl below) = at (get_some ends i below)
      where
        at : (k : Key) × (slice_get ends i ≡ Some k) → SegmentCell ends (suc i)
        at found = from (items_filled found.0 0 trace 0 a rest (sym (story_ranked ends found.0 0 (key_events 0 trace) within) ∙ (ap (λ (n : ℕ). story_at n 0 (map (ranked ends) (key_events 0 trace))) here ∙ h)))
          where
            here : rank ends found.0 ≡ suc i
            here = rank_at ends i found.0 up found.1

            from : HasCell found.0 → SegmentCell ends (suc i)
            from has = record { cell = has.cell; index = i; number = refl; first = found.1 ∙ ap Some (sym has.stands); ranks = ap (rank ends) has.stands ∙ here }

-- The story of each segment is by steps that rise.

rises_from : (d : Doings) (n : ℕ) (story : List Access) → IsStory d n story → Rises n story
rises_from d n [] is = tt
rises_from d n (a ∷ story) is = (is.0.behind, rises_from d (suc a.place) story is.1)

pub rises : (trace : List Item) (ends : List Key) → AreOnce trace → Ascending ends → EndsIn ends (key_events 0 trace) → (n : ℕ) → Rises 0 (story_at n 0 (map (ranked ends) (key_events 0 trace)))
rises trace ends once up within n = by_story (story_at n 0 (map (ranked ends) (key_events 0 trace))) refl
  where
    by_story : (s : List Access) → story_at n 0 (map (ranked ends) (key_events 0 trace)) ≡ s → Rises 0 s
    by_story [] e = tt
    by_story (a ∷ rest) e = at (segment_cell trace ends n a rest up within e)
      where
        at : SegmentCell ends n → Rises 0 (a ∷ rest)
        at has =
            let same : story has.cell trace ≡ a ∷ rest = sym (stories has.cell 0 0 trace once) ∙ (sym (story_ranked ends (cell_key has.cell) 0 (key_events 0 trace) within) ∙ (ap (λ (n : ℕ). story_at n 0 (map (ranked ends) (key_events 0 trace))) has.ranks ∙ e)) in
            subst (Rises 0) same (rises_from (doings has.cell trace) 0 (story has.cell trace) (cell_story trace has.cell))

-- The cell of a writer's row.

pub same_aspect : (a b : Aspect) → aspect_number a ≡ aspect_number b → a ≡ b
same_aspect Color Color e = refl
same_aspect Depth Depth e = refl
same_aspect Stencil Stencil e = refl
same_aspect Color Depth e = absurd (omega (arith, e))
same_aspect Color Stencil e = absurd (omega (arith, e))
same_aspect Depth Color e = absurd (omega (arith, e))
same_aspect Depth Stencil e = absurd (omega (arith, e))
same_aspect Stencil Color e = absurd (omega (arith, e))
same_aspect Stencil Depth e = absurd (omega (arith, e))

-- the cell that a run has at a key, by the tests of its line
in_at : (k : Key) (make : ℕ → Cells) (o s a m lo hi : ℕ) → option_map make (place_in k o s a m lo hi) ≡ (if lies_in k (event (key o s a m lo) (key o s a m hi) Fence) then Some (make k.at) else None)
in_at k make o s a m lo hi = by_tests ((o == k.object) && ((s == k.sort) && ((a == k.aspect) && ((m == k.mip) && in_range lo hi k.at)))) (lies_in k (event (key o s a m lo) (key o s a m hi) Fence)) (key_between k.object k.sort k.aspect k.mip k.at o s a m lo hi)
  where
    by_tests : (b c : Bool) → c ≡ b → option_map make (if b then Some k.at else None) ≡ (if c then Some (make k.at) else None)
    by_tests true c e = ap (λ (c : Bool). if c then Some (make k.at) else None) (sym e)
    by_tests false c e = ap (λ (c : Bool). if c then Some (make k.at) else None) (sym e)

abbrev made_at : (run : Cells) (k : Key) → Cells
made_at (Bytes o lo hi) k = Bytes o k.at (k.at + 1)
made_at (Queries o lo hi) k = Queries o k.at (k.at + 1)
made_at (Layers o aspect mip lo hi) k = Layers o aspect mip k.at (k.at + 1)
made_at (Slices o mip lo hi) k = Slices o mip k.at (k.at + 1)

cell_in_run : (run : Cells) (k : Key) → cell_in run k ≡ (if lies_in k (run_event run Fence) then Some (made_at run k) else None)
cell_in_run (Bytes o lo hi) k = in_at k (λ x. Bytes o x (x + 1)) o 0 0 0 lo hi
cell_in_run (Queries o lo hi) k = in_at k (λ x. Queries o x (x + 1)) o 1 0 0 lo hi
cell_in_run (Layers o aspect mip lo hi) k = in_at k (λ x. Layers o aspect mip x (x + 1)) o 2 (aspect_number aspect) mip lo hi
cell_in_run (Slices o mip lo hi) k = in_at k (λ x. Slices o mip x (x + 1)) o 3 0 mip lo hi

object_eq : (k : Key) (o s a m lo hi : ℕ) (deed : CellDeed) → lies_in k (event (key o s a m lo) (key o s a m hi) deed) ≡ true → o ≡ k.object
object_eq k o s a m lo hi deed e = eqb-true o k.object (and_parts (o == k.object) ((s == k.sort) && ((a == k.aspect) && ((m == k.mip) && in_range lo hi k.at))) (sym (key_between k.object k.sort k.aspect k.mip k.at o s a m lo hi) ∙ e)).0

made_is : (run : Cells) (c : Cell) → lies_in (cell_key c) (run_event run Fence) ≡ true → made_at run (cell_key c) ≡ cell_run c
made_is (Bytes o lo hi) (Byte q x) e = ap (λ (n : ℕ). Bytes n x (x + 1)) (object_eq (cell_key (Byte q x)) o 0 0 0 lo hi Fence e)
made_is (Bytes o lo hi) (Query q x) e = let l : InLine (cell_key (Query q x)) 0 0 0 = in_line (cell_key (Query q x)) o 0 0 0 lo hi Fence e in absurd (omega (arith, l.sort))
made_is (Bytes o lo hi) (Texels q a m x) e = let l : InLine (cell_key (Texels q a m x)) 0 0 0 = in_line (cell_key (Texels q a m x)) o 0 0 0 lo hi Fence e in absurd (omega (arith, l.sort))
made_is (Bytes o lo hi) (Slice q m x) e = let l : InLine (cell_key (Slice q m x)) 0 0 0 = in_line (cell_key (Slice q m x)) o 0 0 0 lo hi Fence e in absurd (omega (arith, l.sort))
made_is (Queries o lo hi) (Byte q x) e = let l : InLine (cell_key (Byte q x)) 1 0 0 = in_line (cell_key (Byte q x)) o 1 0 0 lo hi Fence e in absurd (omega (arith, l.sort))
made_is (Queries o lo hi) (Query q x) e = ap (λ (n : ℕ). Queries n x (x + 1)) (object_eq (cell_key (Query q x)) o 1 0 0 lo hi Fence e)
made_is (Queries o lo hi) (Texels q a m x) e = let l : InLine (cell_key (Texels q a m x)) 1 0 0 = in_line (cell_key (Texels q a m x)) o 1 0 0 lo hi Fence e in absurd (omega (arith, l.sort))
made_is (Queries o lo hi) (Slice q m x) e = let l : InLine (cell_key (Slice q m x)) 1 0 0 = in_line (cell_key (Slice q m x)) o 1 0 0 lo hi Fence e in absurd (omega (arith, l.sort))
made_is (Layers o b n lo hi) (Byte q x) e = let l : InLine (cell_key (Byte q x)) 2 (aspect_number b) n = in_line (cell_key (Byte q x)) o 2 (aspect_number b) n lo hi Fence e in absurd (omega (arith, l.sort))
made_is (Layers o b n lo hi) (Query q x) e = let l : InLine (cell_key (Query q x)) 2 (aspect_number b) n = in_line (cell_key (Query q x)) o 2 (aspect_number b) n lo hi Fence e in absurd (omega (arith, l.sort))
made_is (Layers o b n lo hi) (Texels q a m x) e =
    let l : InLine (cell_key (Texels q a m x)) 2 (aspect_number b) n = in_line (cell_key (Texels q a m x)) o 2 (aspect_number b) n lo hi Fence e in
    let object : o ≡ q = object_eq (cell_key (Texels q a m x)) o 2 (aspect_number b) n lo hi Fence e in
    let aspect : b ≡ a = same_aspect b a l.aspect in
    let mip : n ≡ m = l.mip in
    cc
made_is (Layers o b n lo hi) (Slice q m x) e = let l : InLine (cell_key (Slice q m x)) 2 (aspect_number b) n = in_line (cell_key (Slice q m x)) o 2 (aspect_number b) n lo hi Fence e in absurd (omega (arith, l.sort))
made_is (Slices o n lo hi) (Byte q x) e = let l : InLine (cell_key (Byte q x)) 3 0 n = in_line (cell_key (Byte q x)) o 3 0 n lo hi Fence e in absurd (omega (arith, l.sort))
made_is (Slices o n lo hi) (Query q x) e = let l : InLine (cell_key (Query q x)) 3 0 n = in_line (cell_key (Query q x)) o 3 0 n lo hi Fence e in absurd (omega (arith, l.sort))
made_is (Slices o n lo hi) (Texels q a m x) e = let l : InLine (cell_key (Texels q a m x)) 3 0 n = in_line (cell_key (Texels q a m x)) o 3 0 n lo hi Fence e in absurd (omega (arith, l.sort))
made_is (Slices o n lo hi) (Slice q m x) e =
    let l : InLine (cell_key (Slice q m x)) 3 0 n = in_line (cell_key (Slice q m x)) o 3 0 n lo hi Fence e in
    let object : o ≡ q = object_eq (cell_key (Slice q m x)) o 3 0 n lo hi Fence e in
    let mip : n ≡ m = l.mip in
    cc

cell_in_is : (run : Cells) (c : Cell) → cell_in run (cell_key c) ≡ (if covers run c then Some (cell_run c) else None)
cell_in_is run c = cell_in_run run (cell_key c) ∙ by_cover (lies_in (cell_key c) (run_event run Fence)) refl (run_covers run c Fence)
  where
    by_cover : (b : Bool) → lies_in (cell_key c) (run_event run Fence) ≡ b → lies_in (cell_key c) (run_event run Fence) ≡ covers run c → (if b then Some (made_at run (cell_key c)) else None) ≡ (if covers run c then Some (cell_run c) else None)
    by_cover true e same = ap Some (made_is run c e) ∙ ap (λ (t : Bool). if t then Some (cell_run c) else None) (sym e ∙ same)
    by_cover false e same = ap (λ (t : Bool). if t then Some (cell_run c) else None) (sym e ∙ same)

row_cell_is : (c : Cell) (rows : List (Cells × AccessKind)) → row_writes c rows ≡ true → row_cell (cell_key c) rows ≡ Some (cell_run c)
row_cell_is c [] e = absurd (true≢false (sym e))
row_cell_is c (row ∷ rows) e = ap (λ (o : Option Cells). option_or o (row_cell (cell_key c) rows)) (cell_in_is row.0 c) ∙ by_cover (covers row.0 c) e (row_cell_is c rows)
  where
    by_cover : (b : Bool) → ((b && kind_writes row.1) || row_writes c rows) ≡ true → (row_writes c rows ≡ true → row_cell (cell_key c) rows ≡ Some (cell_run c)) → option_or (if b then Some (cell_run c) else None) (row_cell (cell_key c) rows) ≡ Some (cell_run c)
    by_cover true e rest = refl
    by_cover false e rest = rest e

-- A step that writes the cell gives it.
pub cell_found : (c : Cell) (items : List Item) (n j : ℕ) → writes_at c (steps_of items) j ≡ true → cell_from n (n + j) (cell_key c) items ≡ Some (cell_run c)
unfolding writes
cell_found c [] n j e = absurd (true≢false (sym e))
cell_found c (Bar parts from to ∷ items) n j e = cell_found c items n j e
cell_found c (StepItem s ∷ items) n zero e = ap (λ (b : Bool). if b then row_cell (cell_key c) s.accesses else cell_from (suc n) (n + 0) (cell_key c) items) (eq-eqb n (n + 0) (omega arith)) ∙ row_cell_is c s.accesses e
cell_found c (StepItem s ∷ items) n (suc j) e =
    let on : n + suc j ≡ suc n + j = omega arith in
    ap (λ (b : Bool). if b then row_cell (cell_key c) s.accesses else cell_from (suc n) (n + suc j) (cell_key c) items) (ne_eqb n (n + suc j) (λ same. omega (arith, same)))
    ∙ (ap (λ (x : ℕ). cell_from (suc n) x (cell_key c) items) on ∙ cell_found c items (suc n) j e)
cell_found c (Free object sort ∷ items) n j e = cell_found c items n j e

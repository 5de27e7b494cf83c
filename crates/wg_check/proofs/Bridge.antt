-- The events of a trace give each cell its story.
use Rattle.std.proofs.Common.{◌≡◌, ℕ, suc, List, [], ◌∷◌, ◌++◌, Bool, true, false, ◌&&◌, ◌||◌, refl, ap, ap₂, sym, ◌∙◌, if◌then◌else◌}
use Rattle.wg_rows.specs.Runs.{Cell, Cells, Bytes, Layers, Slices, Queries, covers, covers_part, part_of}
use Rattle.wg_rows.specs.Uses.{AccessKind, Read, Write, Both, Drop, ReadDrop, kind_reads, kind_writes, row_reads, row_writes}
use Rattle.wg_rows.specs.Once.{NoneCovers, OneCovers, AreOnce}
use Rattle.wg_orders.specs.Steps.{reads, writes}
use Rattle.wg_orders.specs.Trace.{Item, Bar, StepItem, Free}
use Rattle.wg_check.specs.declared.stories.Access.{Access}
use Rattle.wg_check.specs.declared.events.CellDeed.TheVariants.{Act}
use Rattle.wg_check.specs.Clashes.{story_from}
use Rattle.wg_check.specs.Segments.{Key, KeyEvent, key_story, lies_in}
use Rattle.wg_check.specs.Keys.{cell_key, run_event, row_events, key_events}
use Rattle.wg_check.proofs.Between.{run_covers}
use Rattle.wg_check.proofs.Bars.{bar_on}

abbrev told : ℕ → ℕ → Bool → Bool → List Access → List Access
told n e r w rest = if r || w then (record { place = n; reads = r; writes = w; epoch = e }) ∷ rest else rest

pub on_row : (k : Key) (e n : ℕ) (r w : Bool) (run : Cells) (tail : List KeyEvent) → key_story k e (run_event run (Act n r w) ∷ tail) ≡ (if lies_in k (run_event run (Act n r w)) then (record { place = n; reads = r; writes = w; epoch = e }) ∷ key_story k e tail else key_story k e tail)
on_row k e n r w (Bytes object lo hi) tail = refl
on_row k e n r w (Layers object aspect mip lo hi) tail = refl
on_row k e n r w (Slices object mip lo hi) tail = refl
on_row k e n r w (Queries object lo hi) tail = refl

record Quiet (c : Cell) (n e : ℕ) (rest : List KeyEvent) (rows : List (Cells × AccessKind)) : Type 0 where
  same : key_story (cell_key c) e (row_events n rows ++ rest) ≡ key_story (cell_key c) e rest
  reads : row_reads c rows ≡ false
  writes : row_writes c rows ≡ false

quiet : (c : Cell) (n e : ℕ) (rest : List KeyEvent) (rows : List (Cells × AccessKind)) → NoneCovers c rows → Quiet c n e rest rows
quiet c n e rest [] h = record { same = refl; reads = refl; writes = refl }
quiet c n e rest (row ∷ rows) h = with_rest (quiet c n e rest rows h.1)
  where
    deed : lies_in (cell_key c) (run_event row.0 (Act n (kind_reads row.1) (kind_writes row.1))) ≡ false
    deed = run_covers row.0 c (Act n (kind_reads row.1) (kind_writes row.1)) ∙ h.0

    with_rest : Quiet c n e rest rows → Quiet c n e rest (row ∷ rows)
    with_rest q = record {
      same = on_row (cell_key c) e n (kind_reads row.1) (kind_writes row.1) row.0 (row_events n rows ++ rest) ∙ (ap (λ (t : Bool). if t then (record { place = n; reads = kind_reads row.1; writes = kind_writes row.1; epoch = e }) ∷ key_story (cell_key c) e (row_events n rows ++ rest) else key_story (cell_key c) e (row_events n rows ++ rest)) deed ∙ q.same);
      reads = ap₂ (λ (t u : Bool). (t && kind_reads row.1) || u) h.0 q.reads;
      writes = ap₂ (λ (t u : Bool). (t && kind_writes row.1) || u) h.0 q.writes;
    }

kinds : (n e : ℕ) (kind : AccessKind) (rest : List Access) → told n e ((true && kind_reads kind) || false) ((true && kind_writes kind) || false) rest ≡ (record { place = n; reads = kind_reads kind; writes = kind_writes kind; epoch = e }) ∷ rest
kinds n e Read rest = refl
kinds n e Write rest = refl
kinds n e Both rest = refl
kinds n e Drop rest = refl
kinds n e ReadDrop rest = refl

rows_on : (c : Cell) (n e : ℕ) (rest : List KeyEvent) (rows : List (Cells × AccessKind)) → OneCovers c rows → key_story (cell_key c) e (row_events n rows ++ rest) ≡ told n e (row_reads c rows) (row_writes c rows) (key_story (cell_key c) e rest)
rows_on c n e rest [] h = refl
rows_on c n e rest (row ∷ rows) h = on_row (cell_key c) e n (kind_reads row.1) (kind_writes row.1) row.0 (row_events n rows ++ rest) ∙ (ap (λ (t : Bool). if t then (record { place = n; reads = kind_reads row.1; writes = kind_writes row.1; epoch = e }) ∷ key_story (cell_key c) e (row_events n rows ++ rest) else key_story (cell_key c) e (row_events n rows ++ rest)) (run_covers row.0 c (Act n (kind_reads row.1) (kind_writes row.1))) ∙ by_cover (covers row.0 c) h.0 (rows_on c n e rest rows h.1))
  where
    by_cover : (t : Bool) → (t ≡ true → NoneCovers c rows) → key_story (cell_key c) e (row_events n rows ++ rest) ≡ told n e (row_reads c rows) (row_writes c rows) (key_story (cell_key c) e rest) → (if t then (record { place = n; reads = kind_reads row.1; writes = kind_writes row.1; epoch = e }) ∷ key_story (cell_key c) e (row_events n rows ++ rest) else key_story (cell_key c) e (row_events n rows ++ rest)) ≡ told n e ((t && kind_reads row.1) || row_reads c rows) ((t && kind_writes row.1) || row_writes c rows) (key_story (cell_key c) e rest)
    by_cover false alone same = same
    by_cover true alone same =
        let q : Quiet c n e rest rows = quiet c n e rest rows (alone refl) in
        ap (λ (s : List Access). (record { place = n; reads = kind_reads row.1; writes = kind_writes row.1; epoch = e }) ∷ s) q.same
        ∙ (sym (kinds n e row.1 (key_story (cell_key c) e rest)) ∙ ap₂ (λ (r w : Bool). told n e ((true && kind_reads row.1) || r) ((true && kind_writes row.1) || w) (key_story (cell_key c) e rest)) (sym q.reads) (sym q.writes))

-- Where no step gives a cell twice, the events give each cell its story.
pub stories : (c : Cell) (n e : ℕ) (items : List Item) → AreOnce items → key_story (cell_key c) e (key_events n items) ≡ story_from c n e items
unfolding reads writes
stories c n e [] h = refl
stories c n e (Bar parts from to ∷ items) h = bar_on parts c e (key_events n items) ∙ ap₂ (λ (y z : List Access). if covers_part parts (part_of c) then y else z) (stories c n (suc e) items h) (stories c n e items h)
stories c n e (StepItem s ∷ items) h = rows_on c n e (key_events (suc n) items) s.accesses (h.0 c) ∙ ap (told n e (row_reads c s.accesses) (row_writes c s.accesses)) (stories c (suc n) e items h.1)
stories c n e (Free object sort ∷ items) h = stories c n e items h

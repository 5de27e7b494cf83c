-- A printed trace is a text of lines.
use Rattle.std.specs.Prelude.{codes, decimal}
use Rattle.std.specs.List.{flat_map}
use Rattle.std.proofs.Common.{◌≡◌, ℕ, ◌+◌, List, [], ◌∷◌, ◌++◌, ap, sym, refl, ◌∙◌, append-nil, append_assoc}
use Rattle.wg_trace.specs.declared.parts.PartRun.{PartRun}
use Rattle.wg_trace.specs.declared.parts.PartRun.TheVariants.{Buffer, Queries, Texture}
use Rattle.wg_trace.specs.declared.parts.Cells.{Cells}
use Rattle.wg_trace.specs.declared.parts.Cells.TheVariants.{Bytes, Queries as QueryCells, Layers, Slices}
use Rattle.wg_trace.specs.declared.parts.AccessKind.{AccessKind}
use Rattle.wg_trace.specs.declared.usages.Usages.{Usages}
use Rattle.wg_trace.specs.declared.steps.StepPlace.{StepPlace}
use Rattle.wg_trace.specs.declared.steps.StepPlace.TheVariants.{Op, Host}
use Rattle.wg_trace.specs.declared.steps.Item.{Item}
use Rattle.wg_trace.specs.declared.steps.Item.TheVariants.{Bar as BarItem, Step as StepItem, Free as FreeItem}
use Rattle.wg_trace.specs.StepNames.{step_name_text}
use Rattle.wg_print.specs.Items.{sort_text, from_text, place_text, use_text, access_text, item_text}
use Rattle.wg_print.specs.Parts.{access_kind_text, part_text, cells_text}
use Rattle.wg_print.specs.Pieces.{line_text}
use Rattle.wg_print.specs.UsageSets.{usages_text}
use Rattle.wg_readtrace.specs.declared.line.Line.{Line}
use Rattle.wg_readtrace.specs.declared.line.Line.TheVariants.{Bar, Step, Use, Acc, Free, End}
use Rattle.wg_readback.specs.Texts.{numbered, step_after}
use Rattle.wg_readback.proofs.Fields.{fields}
use Rattle.wg_readback.proofs.Said.{part_words, cell_words, place_words, IsLine, said}

-- the lines of uses, of accesses and of a trace whose first step has number n, with `end` behind them
abbrev pub use_lines : List (PartRun × Usages) → List Line → List Line
use_lines [] lines = lines
use_lines (row ∷ rows) lines = Use row.0 row.1 ∷ use_lines rows lines

abbrev pub acc_lines : List (Cells × AccessKind) → List Line → List Line
acc_lines [] lines = lines
acc_lines (row ∷ rows) lines = Acc row.1 row.0 ∷ acc_lines rows lines

abbrev pub trace_lines : ℕ → List Item → List Line
trace_lines n [] = End ∷ []
trace_lines n (BarItem part from to ∷ items) = Bar part from to ∷ trace_lines n items
trace_lines n (StepItem step ∷ items) = Step n step.place step.name ∷ use_lines step.uses (acc_lines step.accesses (trace_lines (n + 1) items))
trace_lines n (FreeItem object sort ∷ items) = Free object sort ∷ trace_lines n items

abbrev pub AreLines : List Line → Type 0
AreLines [] = Unit {0}
AreLines (line ∷ lines) = IsLine line × AreLines lines

-- the text of lines, each with its end
abbrev pub text_of : List Line → List ℕ
text_of [] = []
text_of (line ∷ lines) = said line ++ (10 ∷ text_of lines)

-- a line is said as an item is printed
part_joined : (part : PartRun) (ws : List (List ℕ)) → fields (part_words part ++ ws) ≡ 32 ∷ (part_text part ++ fields ws)
part_joined (Buffer object) ws = refl
part_joined (Queries object) ws = refl
part_joined (Texture object aspect mip lo hi) ws = simp append_assoc

cells_joined : (run : Cells) (ws : List (List ℕ)) → fields (cell_words run ++ ws) ≡ 32 ∷ (cells_text run ++ fields ws)
cells_joined (Bytes object lo hi) ws = simp append_assoc
cells_joined (QueryCells object lo hi) ws = simp append_assoc
cells_joined (Layers object aspect mip lo hi) ws = simp append_assoc
cells_joined (Slices object mip lo hi) ws = simp append_assoc

place_joined : (place : StepPlace) (ws : List (List ℕ)) → fields (place_words place ++ ws) ≡ 32 ∷ (place_text place ++ fields ws)
place_joined (Op n) ws = refl
place_joined (Host n) ws = refl

bar_joined : (p f u rest : List ℕ) → (codes "bar" ++ (32 ∷ (p ++ (32 ∷ (f ++ (32 ∷ (u ++ []))))))) ++ (10 ∷ rest) ≡ (codes "bar " ++ p ++ codes " " ++ f ++ codes " " ++ u ++ codes "\n") ++ rest
bar_joined p f u rest = simp (append-nil, append_assoc)

step_joined : (d p w us as_ rest : List ℕ) → (codes "step" ++ (32 ∷ (d ++ (32 ∷ (p ++ (32 ∷ (w ++ []))))))) ++ (10 ∷ (us ++ (as_ ++ rest))) ≡ (codes "step " ++ d ++ codes " " ++ p ++ codes " " ++ w ++ codes "\n" ++ us ++ as_) ++ rest
step_joined d p w us as_ rest = simp (append-nil, append_assoc)

use_joined : (p u rest : List ℕ) → (codes "use" ++ (32 ∷ (p ++ (32 ∷ (u ++ []))))) ++ (10 ∷ rest) ≡ (codes "use " ++ p ++ codes " " ++ u ++ codes "\n") ++ rest
use_joined p u rest = simp (append-nil, append_assoc)

acc_joined : (k c rest : List ℕ) → (codes "acc" ++ (32 ∷ (k ++ (32 ∷ (c ++ []))))) ++ (10 ∷ rest) ≡ (codes "acc " ++ k ++ codes " " ++ c ++ codes "\n") ++ rest
acc_joined k c rest = simp (append-nil, append_assoc)

free_joined : (s d rest : List ℕ) → (codes "free" ++ (32 ∷ (s ++ (32 ∷ (d ++ []))))) ++ (10 ∷ rest) ≡ (codes "free " ++ s ++ codes " " ++ d ++ codes "\n") ++ rest
free_joined s d rest = simp (append-nil, append_assoc)

uses_text : (rows : List (PartRun × Usages)) (lines : List Line) → text_of (use_lines rows lines) ≡ flat_map use_text rows ++ text_of lines
uses_text [] lines = refl
uses_text (row ∷ rows) lines =
    ap (λ (t : List ℕ). (codes "use" ++ t) ++ (10 ∷ text_of (use_lines rows lines))) (part_joined row.0 (usages_text row.1 ∷ []))
    ∙ (ap (λ (t : List ℕ). (codes "use" ++ (32 ∷ (part_text row.0 ++ (32 ∷ (usages_text row.1 ++ []))))) ++ (10 ∷ t)) (uses_text rows lines)
    ∙ (use_joined (part_text row.0) (usages_text row.1) (flat_map use_text rows ++ text_of lines)
    ∙ sym (append_assoc (use_text row) (flat_map use_text rows) (text_of lines))))

accesses_text : (rows : List (Cells × AccessKind)) (lines : List Line) → text_of (acc_lines rows lines) ≡ flat_map access_text rows ++ text_of lines
accesses_text [] lines = refl
accesses_text (row ∷ rows) lines =
    ap (λ (t : List ℕ). (codes "acc" ++ (32 ∷ (access_kind_text row.1 ++ t))) ++ (10 ∷ text_of (acc_lines rows lines))) (cells_joined row.0 [])
    ∙ (ap (λ (t : List ℕ). (codes "acc" ++ (32 ∷ (access_kind_text row.1 ++ (32 ∷ (cells_text row.0 ++ []))))) ++ (10 ∷ t)) (accesses_text rows lines)
    ∙ (acc_joined (access_kind_text row.1) (cells_text row.0) (flat_map access_text rows ++ text_of lines)
    ∙ sym (append_assoc (access_text row) (flat_map access_text rows) (text_of lines))))

pub trace_text : (n : ℕ) (trace : List Item) → text_of (trace_lines n trace) ≡ numbered step_after item_text n trace ++ line_text (codes "end")
unfolding item_text
trace_text n [] = refl
trace_text n (BarItem part from to ∷ items) =
    ap (λ (t : List ℕ). (codes "bar" ++ t) ++ (10 ∷ text_of (trace_lines n items))) (part_joined part (from_text from ∷ usages_text to ∷ []))
    ∙ (bar_joined (part_text part) (from_text from) (usages_text to) (text_of (trace_lines n items))
    ∙ (ap (λ (t : List ℕ). item_text n (BarItem part from to) ++ t) (trace_text n items)
    ∙ sym (append_assoc (item_text n (BarItem part from to)) (numbered step_after item_text n items) (line_text (codes "end")))))
trace_text n (StepItem step ∷ items) =
    ap (λ (t : List ℕ). (codes "step" ++ (32 ∷ (decimal n ++ t))) ++ (10 ∷ text_of (use_lines step.uses (acc_lines step.accesses (trace_lines (n + 1) items))))) (place_joined step.place (step_name_text step.name ∷ []))
    ∙ (ap (λ (t : List ℕ). (codes "step" ++ (32 ∷ (decimal n ++ (32 ∷ (place_text step.place ++ (32 ∷ (step_name_text step.name ++ []))))))) ++ (10 ∷ t))
    (uses_text step.uses (acc_lines step.accesses (trace_lines (n + 1) items)) ∙ ap (λ (t : List ℕ). flat_map use_text step.uses ++ t) (accesses_text step.accesses (trace_lines (n + 1) items)))
    ∙ (step_joined (decimal n) (place_text step.place) (step_name_text step.name) (flat_map use_text step.uses) (flat_map access_text step.accesses) (text_of (trace_lines (n + 1) items))
    ∙ (ap (λ (t : List ℕ). item_text n (StepItem step) ++ t) (trace_text (n + 1) items)
    ∙ sym (append_assoc (item_text n (StepItem step)) (numbered step_after item_text (n + 1) items) (line_text (codes "end"))))))
trace_text n (FreeItem object sort ∷ items) =
    free_joined (sort_text sort) (decimal object) (text_of (trace_lines n items))
    ∙ (ap (λ (t : List ℕ). item_text n (FreeItem object sort) ++ t) (trace_text n items)
    ∙ sym (append_assoc (item_text n (FreeItem object sort)) (numbered step_after item_text n items) (line_text (codes "end"))))

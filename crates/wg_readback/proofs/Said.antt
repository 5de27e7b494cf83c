-- Lines are read as they are printed.
use Rattle.std.specs.Prelude.{Some, None, Option, nat_lt, codes, decimal}
use Rattle.std.proofs.Common.{◌≡◌, ℕ, ◌<◌, ◌≤◌, ◌^◌, List, [], ◌∷◌, ◌++◌, drop, Bool, if◌then◌else◌, ap, refl, ◌∙◌, arith, lit<}
use Rattle.std.proofs.lemmas.Bool.{lt-ltb}
use Rattle.wg_trace.specs.declared.parts.Aspect.{Aspect}
use Rattle.wg_trace.specs.declared.parts.PartRun.{PartRun}
use Rattle.wg_trace.specs.declared.parts.PartRun.TheVariants.{Buffer, Queries, Texture}
use Rattle.wg_trace.specs.declared.parts.Cells.{Cells}
use Rattle.wg_trace.specs.declared.parts.Cells.TheVariants.{Bytes, Queries as QueryCells, Layers, Slices}
use Rattle.wg_trace.specs.declared.steps.StepPlace.{StepPlace}
use Rattle.wg_trace.specs.declared.steps.StepPlace.TheVariants.{Op, Host}
use Rattle.wg_trace.specs.StepNames.{step_name_text}
use Rattle.wg_print.specs.Items.{sort_text, from_text}
use Rattle.wg_print.specs.Parts.{aspect_text, access_kind_text}
use Rattle.wg_print.specs.UsageSets.{usages_text}
use Rattle.wg_readtrace.specs.declared.line.Line.{Line}
use Rattle.wg_readtrace.specs.declared.line.Line.TheVariants.{Bar, Step, Use, Acc, Free, End}
use Rattle.wg_readtrace.specs.Words.{gap_len, number_word, aspect_word, kind_word, name_word, sort_word, set_word}
use Rattle.wg_readtrace.specs.Forms.{◌>>=◌, word_as, most_53, most_32, number, range, whole, from_word, buffer_part, query_part, texture_part, part_of, bytes_of, queries_of, layers_of, slices_of, cells_of, place_of, bar_of, step_of, use_of, acc_of, free_of, line_as, line_of}
use Rattle.wg_readback.specs.Shapes.{IsSet, IsFrom}
use Rattle.wg_readback.specs.Printable.{IsSmallPlace}
use Rattle.wg_readback.proofs.Whole.{IsRange, IsPart, AreCells}
use Rattle.wg_readback.proofs.Fields.{AreWordBytes, AreWords, fields, words_more, first_word, later_words, then_as, word_read, AreLineBytes, line_bytes, bytes_more, fields_bytes}
use Rattle.wg_readback.proofs.Numbers.{number_read, decimal_word}
use Rattle.wg_readback.proofs.Words.{aspect_read, kind_read, sort_read, name_read}
use Rattle.wg_readback.proofs.Sets.{set_read, from_read}

-- a number, and a range
number_field : (most n : ℕ) (ws : List (List ℕ)) → n ≤ most → most < 2 ^ 64 → number most (fields (decimal n ∷ ws)) ≡ Some (n, fields ws)
number_field most n ws l small = word_read (number_word most) (decimal n) ws n (decimal_word n) (number_read most n l small)

wide : (n : ℕ) (ws : List (List ℕ)) → n ≤ most_53 → number most_53 (fields (decimal n ∷ ws)) ≡ Some (n, fields ws)
wide n ws l = number_field most_53 n ws l (lit< tt)

small : (n : ℕ) (ws : List (List ℕ)) → n ≤ most_32 → number most_32 (fields (decimal n ∷ ws)) ≡ Some (n, fields ws)
small n ws l = number_field most_32 n ws l (lit< tt)

range_field : (most lo hi : ℕ) (ws : List (List ℕ)) → IsRange most lo hi → most < 2 ^ 64 → range most (fields (decimal lo ∷ decimal hi ∷ ws)) ≡ Some ((lo, hi), fields ws)
range_field most lo hi ws h fits =
    then_as (number most (fields (decimal lo ∷ decimal hi ∷ ws))) (lo, fields (decimal hi ∷ ws)) (λ a. number most a.1 >>= λ b. if nat_lt a.0 b.0 then Some ((a.0, b.0), b.1) else None)
    (number_field most lo (decimal hi ∷ ws) (omega arith) fits)
    ∙ (then_as (number most (fields (decimal hi ∷ ws))) (hi, fields ws) (λ b. if nat_lt lo b.0 then Some ((lo, b.0), b.1) else None) (number_field most hi ws h.1 fits)
    ∙ ap (λ (t : Bool). if t then Some ((lo, hi), fields ws) else None) (lt-ltb lo hi h.0))

aspect_field : (aspect : Aspect) (ws : List (List ℕ)) → word_as aspect_word (fields (aspect_text aspect ∷ ws)) ≡ Some (aspect, fields ws)
aspect_field aspect ws = word_read aspect_word (aspect_text aspect) ws aspect (aspect_read aspect).1 (aspect_read aspect).0

-- the words of a part, of cells and of a place
abbrev pub part_words : PartRun → List (List ℕ)
part_words (Buffer object) = codes "b" ∷ decimal object ∷ []
part_words (Queries object) = codes "q" ∷ decimal object ∷ []
part_words (Texture object aspect mip lo hi) = codes "t" ∷ decimal object ∷ aspect_text aspect ∷ decimal mip ∷ decimal lo ∷ decimal hi ∷ []

abbrev pub cell_words : Cells → List (List ℕ)
cell_words (Bytes object lo hi) = codes "b" ∷ decimal object ∷ decimal lo ∷ decimal hi ∷ []
cell_words (QueryCells object lo hi) = codes "q" ∷ decimal object ∷ decimal lo ∷ decimal hi ∷ []
cell_words (Layers object aspect mip lo hi) = codes "t" ∷ decimal object ∷ aspect_text aspect ∷ decimal mip ∷ decimal lo ∷ decimal hi ∷ []
cell_words (Slices object mip lo hi) = codes "s" ∷ decimal object ∷ codes "color" ∷ decimal mip ∷ decimal lo ∷ decimal hi ∷ []

abbrev pub place_words : StepPlace → List (List ℕ)
place_words (Op number) = codes "op" ∷ decimal number ∷ []
place_words (Host entry) = codes "host" ∷ decimal entry ∷ []

part_read : (part : PartRun) (ws : List (List ℕ)) → IsPart part → part_of (fields (part_words part ++ ws)) ≡ Some (part, fields ws)
unfolding part_of buffer_part query_part texture_part
part_read (Buffer object) ws h = then_as (number most_53 (fields (decimal object ∷ ws))) (object, fields ws) (λ o. Some (Buffer o.0, o.1)) (wide object ws h)
part_read (Queries object) ws h = then_as (number most_53 (fields (decimal object ∷ ws))) (object, fields ws) (λ o. Some (Queries o.0, o.1)) (wide object ws h)
part_read (Texture object aspect mip lo hi) ws h =
    rw (wide object (aspect_text aspect ∷ decimal mip ∷ decimal lo ∷ decimal hi ∷ ws) h.0, aspect_field aspect (decimal mip ∷ decimal lo ∷ decimal hi ∷ ws), small mip (decimal lo ∷ decimal hi ∷ ws) h.1, range_field most_32 lo hi ws h.2 (lit< tt)) refl

cells_read : (run : Cells) (ws : List (List ℕ)) → AreCells run → cells_of (fields (cell_words run ++ ws)) ≡ Some (run, fields ws)
unfolding cells_of bytes_of queries_of layers_of slices_of
cells_read (Bytes object lo hi) ws h = rw (wide object (decimal lo ∷ decimal hi ∷ ws) h.0, range_field most_53 lo hi ws h.1 (lit< tt)) refl
cells_read (QueryCells object lo hi) ws h = rw (wide object (decimal lo ∷ decimal hi ∷ ws) h.0, range_field most_32 lo hi ws h.1 (lit< tt)) refl
cells_read (Layers object aspect mip lo hi) ws h =
    rw (wide object (aspect_text aspect ∷ decimal mip ∷ decimal lo ∷ decimal hi ∷ ws) h.0, aspect_field aspect (decimal mip ∷ decimal lo ∷ decimal hi ∷ ws), small mip (decimal lo ∷ decimal hi ∷ ws) h.1, range_field most_32 lo hi ws h.2 (lit< tt)) refl
cells_read (Slices object mip lo hi) ws h =
    rw (wide object (codes "color" ∷ decimal mip ∷ decimal lo ∷ decimal hi ∷ ws) h.0, small mip (decimal lo ∷ decimal hi ∷ ws) h.1, range_field most_32 lo hi ws h.2 (lit< tt)) refl

place_read : (place : StepPlace) (ws : List (List ℕ)) → IsSmallPlace place → place_of (fields (place_words place ++ ws)) ≡ Some (place, fields ws)
unfolding place_of
place_read (Op n) ws h = then_as (number most_53 (fields (decimal n ∷ ws))) (n, fields ws) (λ m. Some (Op m.0, m.1)) (wide n ws h)
place_read (Host n) ws h = then_as (number most_53 (fields (decimal n ∷ ws))) (n, fields ws) (λ m. Some (Host m.0, m.1)) (wide n ws h)

-- What a line has to be, and its words.
abbrev pub IsLine : Line → Type 0
IsLine (Bar part from to) = IsPart part × IsFrom from × IsSet to
IsLine (Step n place name) = (n ≤ most_53) × IsSmallPlace place
IsLine (Use part set) = IsPart part × IsSet set
IsLine (Acc kind run) = AreCells run
IsLine (Free object sort) = object ≤ most_53
IsLine End = Unit {0}

abbrev pub said_first : Line → List ℕ
said_first (Bar part from to) = codes "bar"
said_first (Step n place name) = codes "step"
said_first (Use part set) = codes "use"
said_first (Acc kind run) = codes "acc"
said_first (Free object sort) = codes "free"
said_first End = codes "end"

abbrev pub said_words : Line → List (List ℕ)
said_words (Bar part from to) = part_words part ++ (from_text from ∷ usages_text to ∷ [])
said_words (Step n place name) = decimal n ∷ (place_words place ++ (step_name_text name ∷ []))
said_words (Use part set) = part_words part ++ (usages_text set ∷ [])
said_words (Acc kind run) = access_kind_text kind ∷ (cell_words run ++ [])
said_words (Free object sort) = sort_text sort ∷ decimal object ∷ []
said_words End = []

-- the text of a line, without its end
abbrev pub said : Line → List ℕ
said line = said_first line ++ fields (said_words line)

set_field : {A : Type 0} (f : List ℕ → Option A) (w : List ℕ) (x : A) → (f w ≡ Some x) × AreWordBytes w → word_as f (fields (w ∷ [])) ≡ Some (x, [])
set_field f w x h = word_read f w [] x h.1 h.0

bar_read : (line : Line) (ws : List (List ℕ)) → IsLine line → line_as (said_first line) (fields (said_words line)) ≡ Some line
unfolding bar_of step_of use_of acc_of free_of
bar_read (Bar part from to) ws h =
    then_as (part_of (fields (part_words part ++ (from_text from ∷ usages_text to ∷ [])))) (part, fields (from_text from ∷ usages_text to ∷ [])) (λ p. word_as from_word p.1 >>= λ f. word_as set_word f.1 >>= λ t. whole t.1 (Bar p.0 f.0 t.0))
    (part_read part (from_text from ∷ usages_text to ∷ []) h.0)
    ∙ (then_as (word_as from_word (fields (from_text from ∷ usages_text to ∷ []))) (from, fields (usages_text to ∷ [])) (λ f. word_as set_word f.1 >>= λ t. whole t.1 (Bar part f.0 t.0))
    (word_read from_word (from_text from) (usages_text to ∷ []) from (from_read from h.1).1 (from_read from h.1).0)
    ∙ then_as (word_as set_word (fields (usages_text to ∷ []))) (to, []) (λ t. whole t.1 (Bar part from t.0)) (set_field set_word (usages_text to) to (set_read to h.2)))
bar_read (Step n place name) ws h =
    then_as (number most_53 (fields (decimal n ∷ (place_words place ++ (step_name_text name ∷ []))))) (n, fields (place_words place ++ (step_name_text name ∷ []))) (λ n. place_of n.1 >>= λ p. word_as name_word p.1 >>= λ w. whole w.1 (Step n.0 p.0 w.0))
    (wide n (place_words place ++ (step_name_text name ∷ [])) h.0)
    ∙ (then_as (place_of (fields (place_words place ++ (step_name_text name ∷ [])))) (place, fields (step_name_text name ∷ [])) (λ p. word_as name_word p.1 >>= λ w. whole w.1 (Step n p.0 w.0)) (place_read place (step_name_text name ∷ []) h.1)
    ∙ then_as (word_as name_word (fields (step_name_text name ∷ []))) (name, []) (λ w. whole w.1 (Step n place w.0)) (set_field name_word (step_name_text name) name (name_read name)))
bar_read (Use part set) ws h =
    then_as (part_of (fields (part_words part ++ (usages_text set ∷ [])))) (part, fields (usages_text set ∷ [])) (λ p. word_as set_word p.1 >>= λ s. whole s.1 (Use p.0 s.0)) (part_read part (usages_text set ∷ []) h.0)
    ∙ then_as (word_as set_word (fields (usages_text set ∷ []))) (set, []) (λ s. whole s.1 (Use part s.0)) (set_field set_word (usages_text set) set (set_read set h.1))
bar_read (Acc kind run) ws h =
    then_as (word_as kind_word (fields (access_kind_text kind ∷ (cell_words run ++ [])))) (kind, fields (cell_words run ++ [])) (λ k. cells_of k.1 >>= λ r. whole r.1 (Acc k.0 r.0))
    (word_read kind_word (access_kind_text kind) (cell_words run ++ []) kind (kind_read kind).1 (kind_read kind).0)
    ∙ then_as (cells_of (fields (cell_words run ++ []))) (run, []) (λ r. whole r.1 (Acc kind r.0)) (cells_read run [] h)
bar_read (Free object sort) ws h =
    then_as (word_as sort_word (fields (sort_text sort ∷ decimal object ∷ []))) (sort, fields (decimal object ∷ [])) (λ s. number most_53 s.1 >>= λ o. whole o.1 (Free o.0 s.0))
    (word_read sort_word (sort_text sort) (decimal object ∷ []) sort (sort_read sort).1 (sort_read sort).0)
    ∙ then_as (number most_53 (fields (decimal object ∷ []))) (object, []) (λ o. whole o.1 (Free o.0 sort)) (wide object [] h)
bar_read End ws h = refl

first_bytes : (line : Line) → AreWordBytes (said_first line)
first_bytes (Bar part from to) = refl
first_bytes (Step n place name) = refl
first_bytes (Use part set) = refl
first_bytes (Acc kind run) = refl
first_bytes (Free object sort) = refl
first_bytes End = refl

-- a line is read as it is printed
pub line_read : (line : Line) → IsLine line → line_of (said line) ≡ Some line
unfolding line_of
line_read line h =
    ap (λ (w : List ℕ). line_as w (drop (gap_len (said line)) (said line))) (first_word (said_first line) (said_words line) (first_bytes line))
    ∙ (ap (line_as (said_first line)) (later_words (said_first line) (said_words line) (first_bytes line))
    ∙ bar_read line [] h)

part_bytes : (part : PartRun) → AreWords (part_words part)
part_bytes (Buffer object) = (refl, (decimal_word object, tt))
part_bytes (Queries object) = (refl, (decimal_word object, tt))
part_bytes (Texture object aspect mip lo hi) = (refl, (decimal_word object, ((aspect_read aspect).1, (decimal_word mip, (decimal_word lo, (decimal_word hi, tt))))))

cell_bytes : (run : Cells) → AreWords (cell_words run)
cell_bytes (Bytes object lo hi) = (refl, (decimal_word object, (decimal_word lo, (decimal_word hi, tt))))
cell_bytes (QueryCells object lo hi) = (refl, (decimal_word object, (decimal_word lo, (decimal_word hi, tt))))
cell_bytes (Layers object aspect mip lo hi) = (refl, (decimal_word object, ((aspect_read aspect).1, (decimal_word mip, (decimal_word lo, (decimal_word hi, tt))))))
cell_bytes (Slices object mip lo hi) = (refl, (decimal_word object, (refl, (decimal_word mip, (decimal_word lo, (decimal_word hi, tt))))))

place_bytes : (place : StepPlace) → AreWords (place_words place)
place_bytes (Op n) = (refl, (decimal_word n, tt))
place_bytes (Host n) = (refl, (decimal_word n, tt))

words_bytes : (line : Line) → IsLine line → AreWords (said_words line)
words_bytes (Bar part from to) h = words_more (part_words part) (from_text from ∷ usages_text to ∷ []) (part_bytes part) ((from_read from h.1).1, ((set_read to h.2).1, tt))
words_bytes (Step n place name) h = (decimal_word n, words_more (place_words place) (step_name_text name ∷ []) (place_bytes place) ((name_read name).1, tt))
words_bytes (Use part set) h = words_more (part_words part) (usages_text set ∷ []) (part_bytes part) ((set_read set h.1).1, tt)
words_bytes (Acc kind run) h = ((kind_read kind).1, words_more (cell_words run) [] (cell_bytes run) tt)
words_bytes (Free object sort) h = ((sort_read sort).1, (decimal_word object, tt))
words_bytes End h = tt

-- its bytes are those of a line
pub line_said : (line : Line) → IsLine line → AreLineBytes (said line)
line_said line h = bytes_more (said_first line) (fields (said_words line)) (line_bytes (said_first line) (first_bytes line)) (fields_bytes (said_words line) (words_bytes line h))

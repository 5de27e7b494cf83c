-- The text of a set of usages.
use Rattle.std.specs.Prelude.{ℕ, List, [], ◌∷◌, ◌==◌, map, filter, codes, bit_and}
use Rattle.std.specs.List.{join_with_byte}
use Rattle.wg_trace.specs.declared.usages.Usages.{Usages}

-- each usage's bit, with the word for it
abbrev pub usage_words : List (ℕ × List ℕ)
usage_words =
    (1, codes "input") ∷ (2, codes "constant") ∷ (4, codes "storage") ∷ (8, codes "storage-read")
    ∷ (16, codes "attachment") ∷ (32, codes "attachment-read") ∷ (64, codes "copy-src") ∷ (128, codes "copy-dst")
    ∷ (256, codes "query-write") ∷ (512, codes "query-read") ∷ (1024, codes "host-read") ∷ (2048, codes "host-write")
    ∷ (4096, codes "clear") ∷ []

-- the words, in turn, whose bits the set has
unfoldable pub chosen_words : ℕ → List (ℕ × List ℕ) → List (List ℕ)
chosen_words set words = map (λ w. w.1) (filter (λ w. bit_and set w.0 == w.0) words)

-- the words of the usages of a set, with a '+' (43) between each two
unfoldable pub words_text : ℕ → List (ℕ × List ℕ) → List ℕ
words_text set words = join_with_byte 43 (chosen_words set words)

-- the words of a set of usages, as they are printed
unfoldable pub usages_text : Usages → List ℕ
usages_text set = words_text set.0 usage_words

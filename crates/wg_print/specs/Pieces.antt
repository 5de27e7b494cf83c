-- Texts in pieces, and lines.
use Rattle.std.specs.Prelude.{ℕ, List, ◌++◌, codes, decimal}
use Rattle.std.specs.List.{flat_map}
use Rattle.wg_print.specs.declared.pieces.Piece.{Piece}
use Rattle.wg_print.specs.declared.pieces.Piece.TheVariants.{Word, Number}

-- the text of a piece: a word, or a number in decimal digits
abbrev pub piece_text : Piece → List ℕ
piece_text (Word word) = word.now
piece_text (Number number) = decimal number

-- the text of some pieces, one after another
abbrev pub pieces_text : List Piece → List ℕ
pieces_text pieces = flat_map piece_text pieces

-- a text with the end of a line
abbrev pub line_text : List ℕ → List ℕ
line_text text = text ++ codes "\n"

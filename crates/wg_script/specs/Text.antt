-- The bytes of a text, wherever it lies.
use Rattle.std.specs.Prelude.{List, ℕ, string_bytes}
use Rattle.wg_script.specs.declared.name.Text.{Text}
use Rattle.wg_script.specs.declared.name.Text.TheVariants.{Short, Long}

-- the bytes of a text, short or long
abbrev pub text_bytes : Text → List ℕ
text_bytes (Short text) = text.bytes
text_bytes (Long text) = string_bytes text

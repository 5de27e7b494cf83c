-- What a call says of what it makes: its name, and beside that a label, for whoever reads the script.
use Rattle.std.specs.Prelude.{ℕ, List, length, nat_le, ◌==◌, not, ◌&&◌, Bool, codes, if◌then◌else◌, Option, Some, None, Result, Ok, Err, ⊤}
use Rattle.std.specs.List.{list_all}
use Rattle.serde_json.specs.Data.{Data}
use Rattle.serde_json.specs.Find.{as_str}
use Rattle.wg_script.specs.Values.{name_at}
use Rattle.wg_script.specs.Readers.{Reader, gives, need, may, ◌▹◌}

-- ---- labels

-- whether a byte may stand in a label: one from 32 on that is not 127. Text is UTF-8, where a byte below 128 is a character by itself
abbrev pub is_label_byte : ℕ → Bool
is_label_byte b = nat_le 32 b && not (b == 127)

-- a label: at most 256 bytes, each of which may stand in one. It may be empty
abbrev pub is_label : List ℕ → Bool
is_label text = nat_le (length text) 256 && list_all is_label_byte text

-- script rule 8: a label is no text, or one that is too long or has a byte that may not stand there. Nothing of it is kept
abbrev pub label_of : Option (List ℕ) → Result ⊤ ℕ
label_of None = Err 8
label_of (Some s) = if is_label s then Ok tt else Err 8

-- a label, where the key is there
abbrev pub label_if : Option Data → Result ⊤ ℕ
label_if None = Ok tt
label_if (Some d) = label_of (as_str d)

-- ---- what a call makes

-- the keys of what a call makes: a label, which is not looked at further, and the name
abbrev pub made_keys : Reader (List ℕ)
made_keys = gives (λ label name. name)
    ▹ may (codes "label") label_if
    ▹ need (codes "as") name_at

-- The rows of one object, among rows in printed order.
use Rattle.std.specs.Prelude.{ℕ, ◌==◌, nat_lt, List, [], ◌∷◌, if◌then◌else◌}
use Rattle.std.specs.List.{filter}
use Rattle.wg_rows.specs.Runs.{run_object}
use Rattle.wg_rows.specs.Sets.{UseRow}

-- the rows of one object
abbrev pub rows_with : ℕ → List UseRow → List UseRow
rows_with object rows = filter (λ row. run_object row.0 == object) rows

-- rows without the first ones, which are of lesser objects
abbrev pub skipped : ℕ → List UseRow → List UseRow
skipped object [] = []
skipped object (row ∷ rows) = if nat_lt (run_object row.0) object then skipped object rows else row ∷ rows

-- the first rows, which are of the object
abbrev pub taken : ℕ → List UseRow → List UseRow
taken object [] = []
taken object (row ∷ rows) = if run_object row.0 == object then row ∷ taken object rows else []

-- The ends of runs, in order and each one once.
use Rattle.std.specs.Prelude.{true, List, [], ◌∷◌, Option, Some, None, if◌then◌else◌, ◌≡◌}
use Rattle.wg_rows.specs.Rows.{EachRow}
use Rattle.wg_check.specs.Segments.{Key, KeyEvent, before}

-- the ends of these runs, as they come
abbrev pub ends_of : List KeyEvent → List Key
ends_of [] = []
ends_of (v ∷ events) = v.lo ∷ (v.hi ∷ ends_of events)

-- those of some keys that stand behind all that came before them
abbrev pub apart_from : Option Key → List Key → List Key
apart_from last [] = []
apart_from None (k ∷ keys) = k ∷ apart_from (Some k) keys
apart_from (Some last) (k ∷ keys) = if before last k then k ∷ apart_from (Some k) keys else apart_from (Some last) keys

-- Each key stands before those behind it.
abbrev pub Ascending : List Key → Type 0
Ascending [] = Unit {0}
Ascending (k ∷ keys) = EachRow (λ other. before k other ≡ true) keys × Ascending keys

-- The rows of a tracker that a note touches: those of the objects that its step uses or accesses.
use Rattle.std.specs.Prelude.{ℕ, ◌≡◌, ◌+◌, ◌≤◌, List, length, vec_len, vec_capacity}
use Rattle.wg_rows.specs.Runs.{Cells, part_line, cell_line}
use Rattle.wg_rows.specs.Uses.{AccessKind}
use Rattle.wg_rows.specs.Sets.{UseRow}
use Rattle.wg_rows.specs.Rows.{line_object}
use Rattle.wg_cbtrack.specs.declared.kept.Rows.{Rows}
use Rattle.wg_cbtrack.specs.Owners.{rows_among, Ordered, AreExchanged}

-- the object of a use
abbrev pub use_object : UseRow → ℕ
use_object row = line_object (part_line row.0)

-- the object of a run of cells
abbrev pub cells_object : Cells → ℕ
cells_object run = line_object (cell_line run)

-- the object of an access
abbrev pub access_object : Cells × AccessKind → ℕ
access_object row = cells_object row.0

-- All rows stand in the order of their objects.
pub record AreOrdered (rows : Rows) : Type 0 where
  pub ends : Ordered use_object rows.ends.items
  pub wants : Ordered access_object rows.wants.items
  pub leaves : Ordered access_object rows.leaves.items
  pub starts : Ordered use_object rows.starts.items
  pub last : Ordered use_object rows.last.items
  pub needs : Ordered cells_object rows.needs.items

-- Rows are those of some objects. The cells that are needed are told by those that are wanted.
pub record AreNear (os : List ℕ) (rows near : Rows) : Type 0 where
  pub ends : near.ends.items ≡ rows_among use_object os rows.ends.items
  pub wants : near.wants.items ≡ rows_among access_object os rows.wants.items
  pub leaves : near.leaves.items ≡ rows_among access_object os rows.leaves.items
  pub starts : near.starts.items ≡ rows_among use_object os rows.starts.items
  pub last : near.last.items ≡ rows_among use_object os rows.last.items

-- There is room for other rows beside those that are there.
pub record FitsBeside (rows near : Rows) : Type 0 where
  pub ends : vec_len rows.ends + length near.ends.items ≤ vec_capacity rows.ends
  pub wants : vec_len rows.wants + length near.wants.items ≤ vec_capacity rows.wants
  pub leaves : vec_len rows.leaves + length near.leaves.items ≤ vec_capacity rows.leaves
  pub starts : vec_len rows.starts + length near.starts.items ≤ vec_capacity rows.starts
  pub last : vec_len rows.last + length near.last.items ≤ vec_capacity rows.last
  pub needs : vec_len rows.needs + length near.needs.items ≤ vec_capacity rows.needs

-- Rows are the same, whatever room there is beside them.
pub record AreSameRows (rows after : Rows) : Type 0 where
  pub ends : after.ends.items ≡ rows.ends.items
  pub wants : after.wants.items ≡ rows.wants.items
  pub leaves : after.leaves.items ≡ rows.leaves.items
  pub starts : after.starts.items ≡ rows.starts.items
  pub last : after.last.items ≡ rows.last.items
  pub needs : after.needs.items ≡ rows.needs.items

-- Some objects have other rows in place of their own.
pub record AreAllExchanged (os : List ℕ) (near rows after : Rows) : Type 0 where
  pub ends : AreExchanged use_object os near.ends.items rows.ends.items after.ends.items
  pub wants : AreExchanged access_object os near.wants.items rows.wants.items after.wants.items
  pub leaves : AreExchanged access_object os near.leaves.items rows.leaves.items after.leaves.items
  pub starts : AreExchanged use_object os near.starts.items rows.starts.items after.starts.items
  pub last : AreExchanged use_object os near.last.items rows.last.items after.last.items
  pub needs : AreExchanged cells_object os near.needs.items rows.needs.items after.needs.items

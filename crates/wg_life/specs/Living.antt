-- What is kept of the resources that are not released.
use Rattle.std.specs.Prelude.{◌≡◌, ℕ, ◌<◌, ◌≤◌, true, List, length, Some, slice_index}
use Rattle.slab.specs.Slab.{get, slab_len, HasRoomFor}
use Rattle.wg_life.specs.declared.rows.Row.{Row}
use Rattle.wg_life.specs.declared.live.Live.{Live}
use Rattle.wg_life.specs.Lives.{row_at, is_live, live_bytes, live_count}

-- There is a number under a key for each resource that is not released, and for nothing else; their bytes are counted.
pub record IsKept (rows : List Row) (live : Live) : Type 0 where
  pub count : slab_len live.slab ≡ live_count rows
  pub bytes : live.bytes ≡ live_bytes rows
  pub len : length live.keys.items ≡ length rows
  pub under_key : (n : ℕ) → n < length rows → is_live (row_at rows n) ≡ true → get live.slab (slice_index live.keys.items n) ≡ Some n

-- So many more objects can be added to what is kept of live resources.
pub record HasPlacesFor (live : Live) (more : ℕ) : Type 0 where
  pub slab : HasRoomFor live.slab more
  pub keys : more ≤ live.keys.spare

-- A release takes nothing more, and no room away.
pub record IsLess (old new : Live) : Type 0 where
  pub bytes : new.bytes ≤ old.bytes
  pub count : slab_len new.slab ≤ slab_len old.slab
  pub places : (more : ℕ) → HasPlacesFor old more → HasPlacesFor new more

-- What is told of many items at once: as many as there is room for, with their uses and accesses.
use Rattle.std.specs.Prelude.{◌-◌, ◌≤◌, ◌&&◌, nat_le, Bool, List, [], ◌∷◌, ◌++◌, length, map, drop, if◌then◌else◌}
use Rattle.std.specs.List.{flat_map}
use Rattle.wg_trace.specs.declared.steps.Item.{Item}
use Rattle.wg_told.specs.declared.drains.Room.{Room}
use Rattle.wg_told.specs.declared.drains.ToldCounts.{ToldCounts}
use Rattle.wg_told.specs.declared.items.ToldItem.{ToldItem}
use Rattle.wg_told.specs.declared.items.ToldUse.{ToldUse}
use Rattle.wg_told.specs.declared.items.ToldAccess.{ToldAccess}
use Rattle.wg_told.specs.Items.{item_told, use_told, access_told, uses_of, accesses_of}

-- the items of a list, as they are told
abbrev pub items_told : List Item → List ToldItem
items_told items = map item_told items

-- the uses of the items of a list, item after item, as they are told
abbrev pub uses_told : List Item → List ToldUse
uses_told items = flat_map (λ item. map use_told (uses_of item)) items

-- the accesses of the items of a list, item after item, as they are told
abbrev pub accesses_told : List Item → List ToldAccess
accesses_told items = flat_map (λ item. map access_told (accesses_of item)) items

-- how many items are told with how many uses and accesses
abbrev pub counts_told : List Item → ToldCounts
counts_told items = record { items = length items; uses = length (uses_told items); accesses = length (accesses_told items) }

-- whether there is room for an item with its uses and accesses
abbrev pub fits : Room → Item → Bool
fits room item = nat_le 1 room.items && nat_le (length (uses_of item)) room.uses && nat_le (length (accesses_of item)) room.accesses

-- the room that is left behind an item
abbrev pub room_behind : Room → Item → Room
room_behind room item = record {
  items = room.items - 1;
  uses = room.uses - length (uses_of item);
  accesses = room.accesses - length (accesses_of item);
}

-- the first items of a list, up to one for which there is no room
abbrev pub fitting : Room → List Item → List Item
fitting room [] = []
fitting room (item ∷ items) = if fits room item then item ∷ fitting (room_behind room item) items else []

-- items for which there is room, with all their uses and accesses
pub record AreInRoom (room : Room) (items : List Item) : Type 0 where
  pub items_fit : length items ≤ room.items
  pub uses_fit : length (uses_told items) ≤ room.uses
  pub accesses_fit : length (accesses_told items) ≤ room.accesses

-- a list over the beginning of another one
abbrev pub over : {T : Type 0} → List T → List T → List T
over xs ys = xs ++ drop (length xs) ys

-- the room that three lists have
abbrev pub room_in : List ToldItem → List ToldUse → List ToldAccess → Room
room_in items uses accesses = record { items = length items; uses = length uses; accesses = length accesses }

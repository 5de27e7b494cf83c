-- Nothing is lost in what is told: what is told alike is the same. And of many items as many are told as there is room for.
use Rattle.std.specs.Prelude.{◌≡◌, ◌<◌, ◌≤◌, ℕ, List, map, length, take}
use Rattle.wg_trace.specs.declared.replies.Reply.{Reply}
use Rattle.wg_trace.specs.declared.replies.Settlement.{Settlement}
use Rattle.wg_trace.specs.declared.steps.Item.{Item}
use Rattle.wg_told.specs.declared.drains.Room.{Room}
use Rattle.wg_told.specs.Replies.{reply_told, settlement_told}
use Rattle.wg_told.specs.Items.{item_told, use_told, access_told, uses_of, accesses_of}
use Rattle.wg_told.specs.Drains.{items_told, uses_told, accesses_told, fitting, AreInRoom}

-- two items that are told alike, with their uses and accesses
abbrev pub ItemsToldApart : Type 0
ItemsToldApart =
    (a b : Item) → item_told a ≡ item_told b → map use_told (uses_of a) ≡ map use_told (uses_of b)
    → map access_told (accesses_of a) ≡ map access_told (accesses_of b) → a ≡ b

-- two lists of items that are told alike, item after item, with all their uses and all their accesses
abbrev pub ListsToldApart : Type 0
ListsToldApart =
    (one other : List Item) → items_told one ≡ items_told other → uses_told one ≡ uses_told other → accesses_told one ≡ accesses_told other → one ≡ other

-- two settlements that are told alike
abbrev pub SettlementsToldApart : Type 0
SettlementsToldApart = (a b : Settlement) → settlement_told a ≡ settlement_told b → a ≡ b

-- two replies that are told alike, with what they settle, and at the same entry
abbrev pub RepliesToldApart : Type 0
RepliesToldApart =
    (a b : Reply) (m n : ℕ) → reply_told a m ≡ reply_told b n
    → map settlement_told a.settled ≡ map settlement_told b.settled → (a ≡ b) × (m ≡ n)

-- What is told at once of a list of items is its beginning. There is room for that, and for no longer beginning of the list.
abbrev pub FitsAsMany : Type 0
FitsAsMany =
    (room : Room) (items : List Item) → (fitting room items ≡ take (length (fitting room items)) items) × AreInRoom room (fitting room items)
    × ((n : ℕ) → length (fitting room items) < n → n ≤ length items → AreInRoom room (take n items) → ⊥)

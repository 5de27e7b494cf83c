-- Items that are told one after another, over the beginnings of lists.
use Rattle.std.proofs.Common.{◌≡◌, ℕ, zero, suc, ◌+◌, ◌-◌, ◌≤◌, ◌<◌, List, [], ◌∷◌, ◌++◌, Bool, true, false, ◌&&◌, nat_le, map, length, take, drop, set, get_or, refl, sym, ap, ◌∙◌, arith, append_assoc, append-nil, length-append, length-drop, if◌then◌else◌}
use borrow.Rule.Slice.PartMut.{put_mid}
use lib.Seq.{take_all}
use Rattle.std.specs.List.{flat_map}
use Rattle.std.proofs.lemmas.Bool.{and_parts, leb-true, le-leb, lt-leb}
use Rattle.std.proofs.lemmas.List.{map-append, take_more, drop_more, drop_at, take_at, drop-drop, drop_all, length-map, length-take-le}
use Rattle.std.proofs.lemmas.List.Folds.{length-flat_map-take}
use Rattle.std.proofs.Math.Seq.{take-length}
use Rattle.std.proofs.lemmas.Grind.{flat_map-append}
use Rattle.wg_trace.specs.declared.steps.Item.{Item}
use Rattle.wg_trace.specs.declared.steps.Item.TheVariants.{Bar, Step as StepItem, Free}
use Rattle.wg_told.specs.declared.drains.Room.{Room}
use Rattle.wg_told.specs.Items.{item_told, use_told, access_told, uses_of, accesses_of}
use Rattle.wg_told.specs.Drains.{items_told, uses_told, accesses_told, fits, room_behind, fitting, AreInRoom, over}
use Rattle.wg_told.specs.Laws.{FitsAsMany, ListsToldApart}
use Rattle.wg_told.proofs.Telling.{items_told_apart}

-- the next element is put over
set_over : {T : Type 0} (us ys : List T) (v : T) → length us < length ys → set (over us ys) (length us) v ≡ over (us ++ v ∷ []) ys
set_over [] [] v h = absurd (omega (arith, h))
set_over [] (y ∷ ys) v h = refl
set_over (u ∷ us) [] v h = absurd (omega (arith, h))
set_over (u ∷ us) (y ∷ ys) v h = ap (λ zs. u ∷ zs) (set_over us ys v (omega (arith, h)))

-- a loop that tells the elements of a list, one step on
pub put_step : {S T : Type 0} (tell : S → T) (xs : List S) (i : ℕ) (d : S) (out ys : List T) (v : T)
    → i < length xs → length xs ≤ length ys → v ≡ tell (get_or xs i d) → out ≡ over (map tell (take i xs)) ys
    → set out i v ≡ over (map tell (take (i + 1) xs)) ys
put_step tell xs i d out ys v h room e so_far =
    let us = map tell (take i xs) in
    let long : length us ≡ i = length-map (take i xs) tell ∙ length-take-le i xs (omega (arith, h)) in
    let short : length us < length ys = omega (arith, h, room, long) in
    let there : set (over us ys) (length us) v ≡ over (us ++ v ∷ []) ys = set_over us ys v short in
    let more : us ++ tell (get_or xs i d) ∷ [] ≡ map tell (take (i + 1) xs)
    = sym (ap (map tell) (take_more xs i d h) ∙ map-append tell (take i xs) (get_or xs i d ∷ [])) in
    ap (λ zs. set zs i v) so_far ∙ (ap (λ n. set (over us ys) n v) (sym long) ∙ (there
    ∙ (ap (λ w. over (us ++ w ∷ []) ys) e ∙ ap (λ zs. over zs ys) more)))

-- and at its end
pub put_end : {S T : Type 0} (tell : S → T) (xs : List S) (i : ℕ) (out ys : List T)
    → i ≤ length xs → length xs ≤ i → out ≡ over (map tell (take i xs)) ys → out ≡ over (map tell xs) ys
put_end tell xs i out ys h k so_far =
    let whole : i ≡ length xs = omega (arith, h, k) in
    so_far ∙ (ap (λ n. over (map tell (take n xs)) ys) whole ∙ ap (λ zs. over (map tell zs) ys) (take-length xs))

-- what is told behind what was told before
over_more : {T : Type 0} (us vs ys : List T) → us ++ over vs (drop (length us) ys) ≡ over (us ++ vs) ys
over_more us vs ys =
    ap (λ zs. us ++ (vs ++ zs)) (drop-drop (length vs) (length us) ys)
    ∙ (sym (append_assoc us vs (drop (length us + length vs) ys)) ∙ ap (λ n. (us ++ vs) ++ drop n ys) (sym (length-append us vs)))

-- a walk over lists whose elements are told, one list after another, one step on
join_step : {S T : Type 0} (tell : S → List T) (xs : List S) (i : ℕ) (x : S) (out ys : List T) (count : ℕ)
    → i < length xs → x ≡ get_or xs i x → count ≡ length (flat_map tell (take i xs)) → out ≡ over (flat_map tell (take i xs)) ys
    → take count out ++ over (tell x) (drop count out) ≡ over (flat_map tell (take (i + 1) xs)) ys
join_step tell xs i x out ys count h is counted so_far =
    let us = flat_map tell (take i xs) in
    let next : flat_map tell (take (i + 1) xs) ≡ us ++ tell x
    = ap (flat_map tell) (take_more xs i x h ∙ ap (λ y. take i xs ++ y ∷ []) (sym is)) ∙ (flat_map-append tell (take i xs) (x ∷ []) ∙ ap (λ zs. us ++ zs) (append-nil (tell x))) in
    let front : take count (over us ys) ≡ us = take_at us (drop (length us) ys) count (sym counted) in
    let back : drop count (over us ys) ≡ drop (length us) ys = drop_at us (drop (length us) ys) count (sym counted) in
    ap (λ zs. take count zs ++ over (tell x) (drop count zs)) so_far
    ∙ (ap (λ zs. zs ++ over (tell x) (drop count (over us ys))) front ∙ (ap (λ zs. us ++ over (tell x) zs) back
    ∙ (over_more us (tell x) ys ∙ ap (λ zs. over zs ys) (sym next))))

-- there is room for them
room_step : {S T : Type 0} (tell : S → List T) (xs : List S) (i : ℕ) (x : S) (count room : ℕ)
    → i < length xs → x ≡ get_or xs i x → count ≡ length (flat_map tell (take i xs)) → length (flat_map tell xs) ≤ room
    → count + length (tell x) ≤ room
room_step tell xs i x count room h is counted fit =
    let same : length (tell x) ≡ length (tell (get_or xs i x)) = ap (λ y. length (tell y)) is in
    omega (arith, counted, fit, same, length-flat_map-take tell xs i x h)

-- there is room for one list more in what is left
pub own_room : {S T : Type 0} (tell : S → List T) (xs : List S) (i : ℕ) (x : S) (n count : ℕ) (out : List T) (room : ℕ)
    → i < length xs → x ≡ get_or xs i x → n ≡ length (tell x) → count ≡ length (flat_map tell (take i xs)) → length (flat_map tell xs) ≤ room → length out ≡ room
    → (count ≤ length out) × (n ≤ length (take (length out - count) (drop count out)))
own_room tell xs i x n count out room h is many counted fit long =
    let both = room_step tell xs i x count room h is counted fit in
    let left : length (drop count out) ≡ length out - count = length-drop count out in
    let all : take (length out - count) (drop count out) ≡ drop count out = take_all (length out - count) (drop count out) (omega (arith, left)) in
    let more : length (take (length out - count) (drop count out)) ≡ length out - count = ap length all ∙ left in
    (omega (arith, both, long), omega (arith, both, long, many, more))

-- what is told in what is left is told behind what was told before
pub join_part : {S T : Type 0} (tell : S → List T) (xs : List S) (i : ℕ) (x : S) (count : ℕ) (out new ys : List T)
    → i < length xs → x ≡ get_or xs i x → count ≡ length (flat_map tell (take i xs)) → out ≡ over (flat_map tell (take i xs)) ys
    → new ≡ over (tell x) (take (length out - count) (drop count out))
    → put_mid count (length out - count) out new ≡ over (flat_map tell (take (i + 1) xs)) ys
join_part tell xs i x count out new ys h is counted so_far new_is =
    let left : length (drop count out) ≡ length out - count = length-drop count out in
    let all : take (length out - count) (drop count out) ≡ drop count out = take_all (length out - count) (drop count out) (omega (arith, left)) in
    let none : drop (length out - count) (drop count out) ≡ [] = drop_all (length out - count) (drop count out) (omega (arith, left)) in
    ap (λ zs. take count out ++ (new ++ zs)) none ∙ (ap (λ zs. take count out ++ zs) (append-nil new)
    ∙ (ap (λ zs. take count out ++ zs) (new_is ∙ ap (λ zs. over (tell x) zs) all) ∙ join_step tell xs i x out ys count h is counted so_far))

-- and how many there are then
pub count_step : {S T : Type 0} (tell : S → List T) (xs : List S) (i : ℕ) (x : S) (count more : ℕ)
    → i < length xs → x ≡ get_or xs i x → count ≡ length (flat_map tell (take i xs)) → more ≡ length (tell x)
    → count + more ≡ length (flat_map tell (take (i + 1) xs))
count_step tell xs i x count more h is counted e =
    let us = flat_map tell (take i xs) in
    let next : flat_map tell (take (i + 1) xs) ≡ us ++ tell x
    = ap (flat_map tell) (take_more xs i x h ∙ ap (λ y. take i xs ++ y ∷ []) (sym is)) ∙ (flat_map-append tell (take i xs) (x ∷ []) ∙ ap (λ zs. us ++ zs) (append-nil (tell x))) in
    let long : length (flat_map tell (take (i + 1) xs)) ≡ length us + length (tell x) = ap length next ∙ length-append us (tell x) in
    omega (arith, counted, e, long)

-- whether there is room for an item, part by part
fits_parts : (room : Room) (item : Item) → fits room item ≡ true
    → ((nat_le 1 room.items && nat_le (length (uses_of item)) room.uses) ≡ true) × (nat_le (length (accesses_of item)) room.accesses ≡ true)
fits_parts room item e = and_parts (nat_le 1 room.items && nat_le (length (uses_of item)) room.uses) (nat_le (length (accesses_of item)) room.accesses) e

one_fits : (room : Room) (item : Item) → fits room item ≡ true → 1 ≤ room.items
one_fits room item e = leb-true 1 room.items (and_parts (nat_le 1 room.items) (nat_le (length (uses_of item)) room.uses) (fits_parts room item e).0).0

uses_fit : (room : Room) (item : Item) → fits room item ≡ true → length (uses_of item) ≤ room.uses
uses_fit room item e =
    leb-true (length (uses_of item)) room.uses (and_parts (nat_le 1 room.items) (nat_le (length (uses_of item)) room.uses) (fits_parts room item e).0).1

accesses_fit : (room : Room) (item : Item) → fits room item ≡ true → length (accesses_of item) ≤ room.accesses
accesses_fit room item e = leb-true (length (accesses_of item)) room.accesses (fits_parts room item e).1

and_false : (b : Bool) → (b && false) ≡ false
and_false true = refl
and_false false = refl

pub no_item_fits : (room : Room) (item : Item) → room.items < 1 → fits room item ≡ false
no_item_fits room item h =
    let B = nat_le (length (uses_of item)) room.uses in let C = nat_le (length (accesses_of item)) room.accesses in
    ap (λ b. (b && B) && C) (lt-leb 1 room.items h)

pub no_uses_fit : (room : Room) (item : Item) → room.uses < length (uses_of item) → fits room item ≡ false
no_uses_fit room item h =
    let A = nat_le 1 room.items in let C = nat_le (length (accesses_of item)) room.accesses in
    ap (λ b. (A && b) && C) (lt-leb (length (uses_of item)) room.uses h) ∙ ap (λ b. b && C) (and_false A)

pub both_fit : (room : Room) (item : Item) → 1 ≤ room.items → length (uses_of item) ≤ room.uses → fits room item ≡ nat_le (length (accesses_of item)) room.accesses
both_fit room item h k =
    let B = nat_le (length (uses_of item)) room.uses in let C = nat_le (length (accesses_of item)) room.accesses in
    ap (λ b. (b && B) && C) (le-leb 1 room.items h) ∙ ap (λ b. (true && b) && C) (le-leb (length (uses_of item)) room.uses k)

pub fits_apart : (room : Room) (item : Item) → fits room item ≡ true → (1 ≤ room.items) × (length (uses_of item) ≤ room.uses) × (length (accesses_of item) ≤ room.accesses)
fits_apart room item e = (one_fits room item e, uses_fit room item e, accesses_fit room item e)

-- what fits is no more than there is room for
within : (count : List Item → ℕ) (b : Bool) (ys : List Item) (n : ℕ) → count [] ≡ 0 → (b ≡ true → count ys ≤ n) → count (if b then ys else []) ≤ n
within count true ys n e h = h refl
within count false ys n e h = omega (arith, e)

pub fitting_items : (room : Room) (items : List Item) → length (fitting room items) ≤ room.items
fitting_items room [] = omega arith
fitting_items room (x ∷ xs) =
    within length (fits room x) (x ∷ fitting (room_behind room x) xs) room.items refl
    (λ e. let one = one_fits room x e in
    let rest : length (fitting (room_behind room x) xs) ≤ room.items - 1 = fitting_items (room_behind room x) xs in
    omega (arith, one, rest))

pub fitting_length : (room : Room) (items : List Item) → length (fitting room items) ≤ length items
fitting_length room [] = omega arith
fitting_length room (x ∷ xs) =
    within length (fits room x) (x ∷ fitting (room_behind room x) xs) (length (x ∷ xs)) refl
    (λ e. let rest = fitting_length (room_behind room x) xs in omega (arith, rest))

pub fitting_uses : (room : Room) (items : List Item) → length (uses_told (fitting room items)) ≤ room.uses
fitting_uses room [] = omega arith
fitting_uses room (x ∷ xs) =
    within (λ ys. length (uses_told ys)) (fits room x) (x ∷ fitting (room_behind room x) xs) room.uses refl
    (λ e. let own = uses_fit room x e in
    let left = fitting (room_behind room x) xs in
    let rest : length (uses_told left) ≤ room.uses - length (uses_of x) = fitting_uses (room_behind room x) xs in
    let whole : length (map use_told (uses_of x) ++ uses_told left) ≤ room.uses
    = omega (arith, own, rest, length-map (uses_of x) use_told, length-append (map use_told (uses_of x)) (uses_told left)) in
    whole)

pub fitting_accesses : (room : Room) (items : List Item) → length (accesses_told (fitting room items)) ≤ room.accesses
fitting_accesses room [] = omega arith
fitting_accesses room (x ∷ xs) =
    within (λ ys. length (accesses_told ys)) (fits room x) (x ∷ fitting (room_behind room x) xs) room.accesses refl
    (λ e. let own = accesses_fit room x e in
    let left = fitting (room_behind room x) xs in
    let rest : length (accesses_told left) ≤ room.accesses - length (accesses_of x) = fitting_accesses (room_behind room x) xs in
    let whole : length (map access_told (accesses_of x) ++ accesses_told left) ≤ room.accesses
    = omega (arith, own, rest, length-map (accesses_of x) access_told, length-append (map access_told (accesses_of x)) (accesses_told left)) in
    whole)

-- What fits is the beginning of the list.
first_fit : (b : Bool) (x : Item) (rest xs : List Item) → rest ≡ take (length rest) xs
    → (if b then x ∷ rest else []) ≡ take (length (if b then x ∷ rest else [])) (x ∷ xs)
first_fit true x rest xs same = ap (λ zs. x ∷ zs) same
first_fit false x rest xs same = refl

fitting_first : (room : Room) (items : List Item) → fitting room items ≡ take (length (fitting room items)) items
fitting_first room [] = refl
fitting_first room (x ∷ xs) = first_fit (fits room x) x (fitting (room_behind room x) xs) xs (fitting_first (room_behind room x) xs)

-- Where there is room for a list, there is for its first item, and for the others in what is left behind it.
behind_first : (room : Room) (x : Item) (xs : List Item) → AreInRoom room (x ∷ xs) → AreInRoom (room_behind room x) xs
behind_first room x xs are =
    let many = are.items_fit in
    let long_uses : length (map use_told (uses_of x) ++ uses_told xs) ≤ room.uses = are.uses_fit in
    let long_accesses : length (map access_told (accesses_of x) ++ accesses_told xs) ≤ room.accesses = are.accesses_fit in
    record {
      items_fit = omega (arith, many);
      uses_fit = omega (arith, long_uses, length-map (uses_of x) use_told, length-append (map use_told (uses_of x)) (uses_told xs));
      accesses_fit = omega (arith, long_accesses, length-map (accesses_of x) access_told, length-append (map access_told (accesses_of x)) (accesses_told xs));
    }

first_fits : (room : Room) (x : Item) (xs : List Item) → AreInRoom room (x ∷ xs) → fits room x ≡ true
first_fits room x xs are =
    let many = are.items_fit in
    let long_uses : length (map use_told (uses_of x) ++ uses_told xs) ≤ room.uses = are.uses_fit in
    let long_accesses : length (map access_told (accesses_of x) ++ accesses_told xs) ≤ room.accesses = are.accesses_fit in
    let one : 1 ≤ room.items = omega (arith, many) in
    let own_uses : length (uses_of x) ≤ room.uses
    = omega (arith, long_uses, length-map (uses_of x) use_told, length-append (map use_told (uses_of x)) (uses_told xs)) in
    let own_accesses : length (accesses_of x) ≤ room.accesses
    = omega (arith, long_accesses, length-map (accesses_of x) access_told, length-append (map access_told (accesses_of x)) (accesses_told xs)) in
    both_fit room x one own_uses ∙ le-leb (length (accesses_of x)) room.accesses own_accesses

-- There is room for no longer beginning of the list.
no_more_fit : (b : Bool) (n : ℕ) (room : Room) (x : Item) (rest xs : List Item) → fits room x ≡ b
    → length (if b then x ∷ rest else []) < n → n ≤ length (x ∷ xs) → AreInRoom room (take n (x ∷ xs))
    → ((m : ℕ) → length rest < m → m ≤ length xs → AreInRoom (room_behind room x) (take m xs) → ⊥) → ⊥
no_more_fit true zero room x rest xs is more within are behind = omega (arith, more)
no_more_fit false zero room x rest xs is more within are behind = omega (arith, more)
no_more_fit true (suc m) room x rest xs is more within are behind =
    behind m (omega (arith, more)) (omega (arith, within)) (behind_first room x (take m xs) are)
no_more_fit false (suc m) room x rest xs is more within are behind =
    let no : true ≡ false = sym (first_fits room x (take m xs) are) ∙ is in cc

fitting_longest : (room : Room) (items : List Item) (n : ℕ)
    → length (fitting room items) < n → n ≤ length items → AreInRoom room (take n items) → ⊥
fitting_longest room [] n more within are = omega (arith, more, within)
fitting_longest room (x ∷ xs) n more within are =
    let rest = fitting (room_behind room x) xs in
    no_more_fit (fits room x) n room x rest xs refl more within are (λ m. fitting_longest (room_behind room x) xs m)

pub as_many_fit : FitsAsMany
as_many_fit room items = (
  fitting_first room items,
  record { items_fit = fitting_items room items; uses_fit = fitting_uses room items; accesses_fit = fitting_accesses room items },
  fitting_longest room items,
)

-- the walk over the items, one step on
pub fitting_step : (whole items : List Item) (i : ℕ) (x : Item) (room : Room)
    → i < length items → x ≡ get_or items i x → fits room x ≡ true → whole ≡ take i items ++ fitting room (drop i items)
    → whole ≡ take (i + 1) items ++ fitting (room_behind room x) (drop (i + 1) items)
fitting_step whole items i x room h is e so_far =
    let rest = fitting (room_behind room x) (drop (i + 1) items) in
    let left : drop i items ≡ x ∷ drop (i + 1) items = drop_more items i x h ∙ ap (λ y. y ∷ drop (i + 1) items) (sym is) in
    let fit : fitting room (drop i items) ≡ x ∷ rest = ap (fitting room) left ∙ ap (λ b. if b then x ∷ rest else []) e in
    let first : take (i + 1) items ≡ take i items ++ x ∷ [] = take_more items i x h ∙ ap (λ y. take i items ++ y ∷ []) (sym is) in
    so_far ∙ (ap (λ zs. take i items ++ zs) fit ∙ (sym (append_assoc (take i items) (x ∷ []) rest) ∙ ap (λ zs. zs ++ rest) (sym first)))

-- and where the next one has no room
pub fitting_stop : (whole items : List Item) (i : ℕ) (x : Item) (room : Room)
    → i < length items → x ≡ get_or items i x → fits room x ≡ false → whole ≡ take i items ++ fitting room (drop i items)
    → take i items ≡ whole
fitting_stop whole items i x room h is e so_far =
    let rest = fitting (room_behind room x) (drop (i + 1) items) in
    let left : drop i items ≡ x ∷ drop (i + 1) items = drop_more items i x h ∙ ap (λ y. y ∷ drop (i + 1) items) (sym is) in
    let fit : fitting room (drop i items) ≡ [] = ap (fitting room) left ∙ ap (λ b. if b then x ∷ rest else []) e in
    sym (so_far ∙ (ap (λ zs. take i items ++ zs) fit ∙ append-nil (take i items)))

-- Lists of items that are told alike.
as_many_uses : (item : Item) → (item_told item).uses ≡ length (uses_of item)
as_many_uses (Bar part from to) = refl
as_many_uses (StepItem step) = refl
as_many_uses (Free object sort) = refl

as_many_accesses : (item : Item) → (item_told item).accesses ≡ length (accesses_of item)
as_many_accesses (Bar part from to) = refl
as_many_accesses (StepItem step) = refl
as_many_accesses (Free object sort) = refl

parts_apart : {T : Type 0} (xs ys zs ws : List T) → length xs ≡ length ys → xs ++ zs ≡ ys ++ ws → (xs ≡ ys) × (zs ≡ ws)
parts_apart [] [] zs ws long same = (refl, same)
parts_apart [] (y ∷ ys) zs ws long same = absurd (omega (arith, long))
parts_apart (x ∷ xs) [] zs ws long same = absurd (omega (arith, long))
parts_apart (x ∷ xs) (y ∷ ys) zs ws long same =
    let first : x ≡ y = cc in
    let more : xs ++ zs ≡ ys ++ ws = cc in
    let rest = parts_apart xs ys zs ws (omega (arith, long)) more in
    let front : xs ≡ ys = rest.0 in
    (cc, rest.1)

pub lists_told_apart : ListsToldApart
lists_told_apart [] [] items uses accesses = refl
lists_told_apart [] (b ∷ ys) items uses accesses = cc
lists_told_apart (a ∷ xs) [] items uses accesses = cc
lists_told_apart (a ∷ xs) (b ∷ ys) items uses accesses =
    let first : item_told a ≡ item_told b = cc in
    let more : items_told xs ≡ items_told ys = cc in
    let many_uses : length (uses_of a) ≡ length (uses_of b) = sym (as_many_uses a) ∙ (ap (λ t. t.uses) first ∙ as_many_uses b) in
    let many_accesses : length (accesses_of a) ≡ length (accesses_of b) = sym (as_many_accesses a) ∙ (ap (λ t. t.accesses) first ∙ as_many_accesses b) in
    let u = parts_apart (map use_told (uses_of a)) (map use_told (uses_of b)) (uses_told xs) (uses_told ys)
    (length-map (uses_of a) use_told ∙ (many_uses ∙ sym (length-map (uses_of b) use_told))) uses in
    let c = parts_apart (map access_told (accesses_of a)) (map access_told (accesses_of b)) (accesses_told xs) (accesses_told ys)
    (length-map (accesses_of a) access_told ∙ (many_accesses ∙ sym (length-map (accesses_of b) access_told))) accesses in
    let here : a ≡ b = items_told_apart a b first u.0 c.0 in
    let rest : xs ≡ ys = lists_told_apart xs ys more u.1 c.1 in
    cc

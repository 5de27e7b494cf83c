-- Members in the order of their keys, in a list and in a map.
use Rattle.std.proofs.Common.{◌≡◌, ℕ, List, [], ◌∷◌, ◌++◌, Ordering, Less, Equal, Greater, nat_cmp, Bor, refl, ap, ◌∙◌, sym, subst}
use Rattle.std.proofs.lemmas.Cmp.{nat_list_cmp_total}
use Rattle.std.specs.Ordering.{match_ordering, ordering_reverse}
use Rattle.std.specs.Cmp.Lexicographic.{slice_cmp}
use Rattle.std.specs.BTreeMap.{insert_entry}
use Rattle.serde_json.specs.Data.{Data, Members, no_members, member, put}
use Rattle.wg_json.specs.View.{view, members_view}
use Rattle.wg_json.specs.Places.{ComesFirst, KeysAscend}
use Rattle.wg_json.specs.declared.value.Value.{Value}
use Rattle.wg_json.proofs.Placing.{Entry}

-- ---- a member that is put keeps the order

flipped : (k l : List ℕ) → slice_cmp nat_cmp k l ≡ Greater → slice_cmp nat_cmp l k ≡ Less
flipped k l is = nat_list_cmp_total.antisymm l k ∙ ap ordering_reverse is

first_stays_at : (o : Ordering) (f k l : List ℕ) (d e : Data) (ms : Members) → slice_cmp nat_cmp f k ≡ Less → slice_cmp nat_cmp f l ≡ Less
    → ComesFirst f (match_ordering o (member k d (member l e ms)) (member l d ms) (member l e (put k d ms)))
first_stays_at Less f k l d e ms new old = new
first_stays_at Equal f k l d e ms new old = old
first_stays_at Greater f k l d e ms new old = old

first_stays : (f k : List ℕ) (d : Data) (ms : Members) → slice_cmp nat_cmp f k ≡ Less → ComesFirst f ms → ComesFirst f (put k d ms)
first_stays f k d no_members new old = new
first_stays f k d (member l e ms) new old = first_stays_at (slice_cmp nat_cmp k l) f k l d e ms new old

keys_ascend_at : (o : Ordering) (k l : List ℕ) (d e : Data) (ms : Members) → slice_cmp nat_cmp k l ≡ o → ComesFirst l ms → KeysAscend ms → KeysAscend (put k d ms)
    → KeysAscend (match_ordering o (member k d (member l e ms)) (member l d ms) (member l e (put k d ms)))
keys_ascend_at Less k l d e ms is first rest later = (is, (first, rest))
keys_ascend_at Equal k l d e ms is first rest later = (first, rest)
keys_ascend_at Greater k l d e ms is first rest later = (first_stays l k d ms (flipped k l is) first, later)

pub keys_ascend : (k : List ℕ) (d : Data) (ms : Members) → KeysAscend ms → KeysAscend (put k d ms)
keys_ascend k d no_members up = (tt, tt)
keys_ascend k d (member l e ms) up = keys_ascend_at (slice_cmp nat_cmp k l) k l d e ms refl up.0 up.1 (keys_ascend k d ms up.1)

-- ---- a map of members

abbrev pub key_order : Bor (List ℕ) → Bor (List ℕ) → Ordering
key_order k l = slice_cmp nat_cmp k.now l.now

inserted_at : (o : Ordering) (k : Bor (List ℕ)) (v : Value) (e : Entry) (es fs : List Entry) (ms : Members) → members_view fs ≡ ms
    → members_view (match_ordering o ((k, v) ∷ e ∷ es) ((e.0, v) ∷ es) (e ∷ fs))
    ≡ match_ordering o (member k.now (view v) (members_view (e ∷ es))) (member e.0.now (view v) (members_view es)) (member e.0.now (view e.1) ms)
inserted_at Less k v e es fs ms later = refl
inserted_at Equal k v e es fs ms later = refl
inserted_at Greater k v e es fs ms later = ap (member e.0.now (view e.1)) later

-- what is inserted there is put among what it shows
pub members_view-insert_entry : (k : Bor (List ℕ)) (v : Value) (es : List Entry) → members_view (insert_entry key_order es k v) ≡ put k.now (view v) (members_view es)
members_view-insert_entry k v [] = refl
members_view-insert_entry k v (e ∷ es) = inserted_at (key_order k e.0) k v e es (insert_entry key_order es k v) (put k.now (view v) (members_view es)) (members_view-insert_entry k v es)

-- ---- a list, moved to a map from its end

keys_ascend_behind : (before es : List Entry) → KeysAscend (members_view (before ++ es)) → KeysAscend (members_view es)
keys_ascend_behind [] es up = up
keys_ascend_behind (b ∷ before) es up = keys_ascend_behind before es up.1

inserted_first : (e : Entry) (es : List Entry) → ComesFirst e.0.now (members_view es) → insert_entry key_order es e.0 e.1 ≡ e ∷ es
inserted_first e [] first = refl
inserted_first e (f ∷ es) first = ap (λ o. match_ordering o (e ∷ f ∷ es) ((f.0, e.1) ∷ es) (f ∷ insert_entry key_order es e.0 e.1)) first

last_first : (before es : List Entry) (e : Entry) → (before ++ e ∷ []) ++ es ≡ before ++ e ∷ es
last_first [] es e = refl
last_first (b ∷ before) es e = ap (λ fs. b ∷ fs) (last_first before es e)

pub last_inserted : (before es : List Entry) (e : Entry) → KeysAscend (members_view ((before ++ e ∷ []) ++ es)) → before ++ insert_entry key_order es e.0 e.1 ≡ (before ++ e ∷ []) ++ es
last_inserted before es e up =
    let same = last_first before es e in
    let behind = keys_ascend_behind before (e ∷ es) (subst (λ fs. KeysAscend (members_view fs)) same up) in
    ap (λ fs. before ++ fs) (inserted_first e es behind.0) ∙ sym same

-- A member put at the place of its key.
use Rattle.std.proofs.Common.{◌≡◌, ℕ, ◌+◌, ◌<◌, ◌≤◌, suc, List, [], ◌∷◌, length, Ordering, Less, Equal, Greater, Result, Ok, Err, is_eq, nat_cmp, Bor, refl, sym, ap, ◌∙◌, arith}
use Rattle.std.proofs.lemmas.Map.Text.{is_eq-slice_cmp}
use Rattle.std.proofs.lemmas.Slice.Eq.{bytes_eq-Decides}
use Rattle.std.specs.Prelude.{slice_set, is_ok, OnOk, if◌then◌else◌}
use Rattle.std.specs.List.{insert}
use Rattle.std.specs.Ordering.{match_ordering}
use Rattle.std.specs.Cmp.Lexicographic.{slice_cmp}
use Rattle.serde_json.specs.Data.{member, put}
use Rattle.wg_json.specs.View.{view, members_view}
use Rattle.wg_json.specs.Places.{place_from}
use Rattle.wg_json.specs.declared.value.Value.{Value}

abbrev pub Entry : Type 0
Entry = Bor (List ℕ) × Value

same_key : (k l : List ℕ) → slice_cmp nat_cmp k l ≡ Equal → k ≡ l
same_key k l is = (bytes_eq-Decides k l).0 (sym (is_eq-slice_cmp k l) ∙ ap is_eq is)

-- ---- a key that stands there

found_at : (o : Ordering) (n p : ℕ) (e m : Entry) (ms : List Entry) → slice_cmp nat_cmp e.0.now m.0.now ≡ o
    → match_ordering o (Err n) (Ok n) (place_from (n + 1) e.0.now ms) ≡ Ok p
    → (place_from (n + 1) e.0.now ms ≡ Ok p → (i : ℕ) × (p ≡ n + 1 + i) × (i < length ms) × (members_view (slice_set ms i e) ≡ put e.0.now (view e.1) (members_view ms)))
    → (i : ℕ) × (p ≡ n + i) × (i < suc (length ms)) × (members_view (slice_set (m ∷ ms) i e) ≡ put e.0.now (view e.1) (members_view (m ∷ ms)))
found_at Less n p e m ms is h later = absurd (cc)
found_at Equal n p e m ms is h later =
    let here : p ≡ n = cc in
    let key = same_key e.0.now m.0.now is in
    (0, omega (arith, here), omega arith, rw is (ap (λ k. member k (view e.1) (members_view ms)) key))
found_at Greater n p e m ms is h later =
    let l = later h in
    (suc l.0, omega (arith, l.1), omega (arith, l.2), rw is (ap (member m.0.now (view m.1)) l.3))

pub found : (n p : ℕ) (e : Entry) (es : List Entry) → place_from n e.0.now es ≡ Ok p
    → (i : ℕ) × (p ≡ n + i) × (i < length es) × (members_view (slice_set es i e) ≡ put e.0.now (view e.1) (members_view es))
found n p e [] h = absurd (cc)
found n p e (m ∷ ms) h = found_at _ n p e m ms refl h (found (n + 1) p e ms)

-- ---- a key that does not

missing_at : (o : Ordering) (n p : ℕ) (e m : Entry) (ms : List Entry) → slice_cmp nat_cmp e.0.now m.0.now ≡ o
    → match_ordering o (Err n) (Ok n) (place_from (n + 1) e.0.now ms) ≡ Err p
    → (place_from (n + 1) e.0.now ms ≡ Err p → (i : ℕ) × (p ≡ n + 1 + i) × (i ≤ length ms) × (members_view (insert ms i e) ≡ put e.0.now (view e.1) (members_view ms)))
    → (i : ℕ) × (p ≡ n + i) × (i ≤ suc (length ms)) × (members_view (insert (m ∷ ms) i e) ≡ put e.0.now (view e.1) (members_view (m ∷ ms)))
missing_at Less n p e m ms is h later =
    let here : p ≡ n = cc in
    (0, omega (arith, here), omega arith, rw is refl)
missing_at Equal n p e m ms is h later = absurd (cc)
missing_at Greater n p e m ms is h later =
    let l = later h in
    (suc l.0, omega (arith, l.1), omega (arith, l.2), rw is (ap (member m.0.now (view m.1)) l.3))

pub missing : (n p : ℕ) (e : Entry) (es : List Entry) → place_from n e.0.now es ≡ Err p
    → (i : ℕ) × (p ≡ n + i) × (i ≤ length es) × (members_view (insert es i e) ≡ put e.0.now (view e.1) (members_view es))
missing n p e [] h = (0, omega (arith, (let here : p ≡ n = cc in here)), omega arith, refl)
missing n p e (m ∷ ms) h = missing_at _ n p e m ms refl h (missing (n + 1) p e ms)

-- at the head of a list
pub found_here : (p : ℕ) (e : Entry) (es : List Entry) → place_from 0 e.0.now es ≡ Ok p
    → (p < length es) × (members_view (slice_set es p e) ≡ put e.0.now (view e.1) (members_view es))
found_here p e es h = let f = found 0 p e es h in let same : p ≡ f.0 = omega (arith, f.1) in rw same (f.2, f.3)

pub missing_here : (p : ℕ) (e : Entry) (es : List Entry) → place_from 0 e.0.now es ≡ Err p
    → (p ≤ length es) × (members_view (insert es p e) ≡ put e.0.now (view e.1) (members_view es))
missing_here p e es h = let f = missing 0 p e es h in let same : p ≡ f.0 = omega (arith, f.1) in rw same (f.2, f.3)

-- an insert that went well
pub inserted : {T E : Type 0} (r : Result T E) (p : ℕ) (e : Entry) (es changed : List Entry) → changed ≡ (if is_ok r then insert es p e else es)
    → place_from 0 e.0.now es ≡ Err p → OnOk r (members_view changed ≡ put e.0.now (view e.1) (members_view es))
inserted (Ok x) p e es changed same h = ap members_view same ∙ (missing_here p e es h).1
inserted (Err x) p e es changed same h = tt

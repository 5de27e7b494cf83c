-- The segments in two halves, each over its own entries.
use Rattle.std.proofs.Common.{◌≡◌, ℕ, zero, suc, ◌+◌, ◌-◌, ◌<◌, ◌≤◌, List, [], ◌∷◌, Bool, true, false, nat_lt, nat_le, Option, Some, None, refl, ap, ap₂, sym, ◌∙◌, ◌⊎◌, inl, inr, arith, if◌then◌else◌, true≢false}
use Rattle.std.proofs.lemmas.Bool.{cases_Bool, ltb-true, ltb-false, lt-ltb, le-ltb, le-leb, and_parts, and_from, leb-true}
use Rattle.wg_rows.specs.Rows.{in_range}
use Rattle.wg_check.specs.declared.ends.SegmentEvent.{SegmentEvent}
use Rattle.wg_check.specs.Segments.{touches, earlier}
use Rattle.wg_check.specs.Digests.{Digest, SegmentEntry, Run, Known, FoundClash, nothing, deed_digest, joined, least_reader, digest_at, digest_onto, spans, narrowed, found_here, found_at, first_found, found_among}
use Rattle.wg_check.proofs.Joining.{joined_assoc, joined_left, joined_right}

earlier_trans : (a b c : Option ℕ) → earlier a b ≡ true → earlier b c ≡ true → earlier a c ≡ true
earlier_trans None b c e h = absurd (true≢false (sym e))
earlier_trans (Some x) None c e h = absurd (true≢false (sym h))
earlier_trans (Some x) (Some y) None e h = refl
earlier_trans (Some x) (Some y) (Some z) e h = let x_below_y : x < y = ltb-true x y e in let y_below_z : y < z = ltb-true y z h in lt-ltb x z (omega arith)

earlier_not : (a b c : Option ℕ) → earlier b a ≡ false → earlier c b ≡ false → earlier c a ≡ false
earlier_not a b None e h = refl
earlier_not a None (Some z) e h = absurd (true≢false h)
earlier_not None (Some y) (Some z) e h = absurd (true≢false e)
earlier_not (Some x) (Some y) (Some z) e h = let x_to_y : x ≤ y = ltb-false y x e in let y_to_z : y ≤ z = ltb-false z y h in le-ltb z x (omega arith)

first_assoc : (a b c : Option FoundClash) → first_found (first_found a b) c ≡ first_found a (first_found b c)
first_assoc None b c = refl
first_assoc (Some a) None c = refl
first_assoc (Some a) (Some b) None = by_first (earlier b.reader a.reader)
  where
    by_first : (t : Bool) → first_found (if t then Some b else Some a) None ≡ (if t then Some b else Some a)
    by_first true = refl
    by_first false = refl
first_assoc (Some a) (Some b) (Some c) = by_both (earlier b.reader a.reader) (earlier c.reader b.reader) refl refl
  where
    pick : (t : Bool) (x y : FoundClash) → earlier x.reader y.reader ≡ t → first_found (Some y) (Some x) ≡ (if t then Some x else Some y)
    pick t x y e = ap (λ (t : Bool). if t then Some x else Some y) e

    by_both : (t u : Bool) → earlier b.reader a.reader ≡ t → earlier c.reader b.reader ≡ u → first_found (if t then Some b else Some a) (Some c) ≡ first_found (Some a) (if u then Some c else Some b)
    by_both true true e h = pick true c b h ∙ sym (pick true c a (earlier_trans c.reader b.reader a.reader h e))
    by_both true false e h = pick false c b h ∙ sym (pick true b a e)
    by_both false true e h = refl
    by_both false false e h = pick false c a (earlier_not a.reader b.reader c.reader e h) ∙ sym (pick false b a e)

among_split : (entries : List SegmentEntry) (lo m n : ℕ) → found_among entries lo (m + n) ≡ first_found (found_among entries lo m) (found_among entries (lo + m) n)
among_split entries lo zero n = ap₂ (found_among entries) (omega arith) (omega arith)
among_split entries lo (suc m) n =
    let more : suc m + n ≡ suc (m + n) = omega arith in
    let on : suc lo + m ≡ lo + suc m = omega arith in
    ap (found_among entries lo) more
    ∙ (ap (first_found (found_at entries lo)) (among_split entries (suc lo) m n ∙ ap (λ (x : ℕ). first_found (found_among entries (suc lo) m) (found_among entries x n)) on)
    ∙ sym (first_assoc (found_at entries lo) (found_among entries (suc lo) m) (found_among entries (lo + suc m) n)))

-- What is on a segment touches what the segment lies in,
on_touches : (v : SegmentEvent) (lo hi n : ℕ) → lo ≤ n → n < hi → touches lo hi v ≡ false → in_range v.lo v.hi n ≡ false
on_touches v lo hi n a b e = by_cover (cases_Bool (in_range v.lo v.hi n))
  where
    by_cover : (in_range v.lo v.hi n ≡ true) ⊎ (in_range v.lo v.hi n ≡ false) → in_range v.lo v.hi n ≡ false
    by_cover (inr out) = out
    by_cover (inl covers) = absurd (true≢false (sym (and_from (nat_lt v.lo hi) (nat_lt lo v.hi) (lt-ltb v.lo hi (omega (arith, l))) (lt-ltb lo v.hi (omega (arith, r)))) ∙ e))
      where
        l : v.lo ≤ n
        l = leb-true v.lo n (and_parts (nat_le v.lo n) (nat_lt n v.hi) covers).0

        r : n < v.hi
        r = ltb-true n v.hi (and_parts (nat_le v.lo n) (nat_lt n v.hi) covers).1

-- and what spans these is on each.
spans_on : (v : SegmentEvent) (lo hi n : ℕ) → lo ≤ n → n < hi → spans lo hi v ≡ true → in_range v.lo v.hi n ≡ true
spans_on v lo hi n a b e =
    let ends : (nat_le v.lo lo ≡ true) × (nat_le hi v.hi ≡ true) = and_parts (nat_le v.lo lo) (nat_le hi v.hi) e in
    let l : v.lo ≤ lo = leb-true v.lo lo ends.0 in
    let r : hi ≤ v.hi = leb-true hi v.hi ends.1 in
    and_from (nat_le v.lo n) (nat_lt n v.hi) (le-leb v.lo n (omega arith)) (lt-ltb n v.hi (omega arith))

digest_narrowed : (lo hi n : ℕ) (digest : Digest) (entries : List SegmentEntry) → lo ≤ n → n < hi → digest_at n (narrowed lo hi digest entries) ≡ joined digest (digest_at n entries)
digest_narrowed lo hi n digest [] a b = refl
digest_narrowed lo hi n digest (Known other ∷ entries) a b = digest_narrowed lo hi n (joined digest other) entries a b ∙ joined_assoc digest other (digest_at n entries)
digest_narrowed lo hi n digest (Run v ∷ entries) a b = by_touch (λ d. digest_narrowed lo hi n d entries a b) (touches lo hi v) refl (spans lo hi v) refl
  where
    on : Bool → Digest
    on t = if t then joined (deed_digest v.deed) (digest_at n entries) else digest_at n entries

    by_touch : ((d : Digest) → digest_at n (narrowed lo hi d entries) ≡ joined d (digest_at n entries)) → (t : Bool) → touches lo hi v ≡ t → (u : Bool) → spans lo hi v ≡ u → digest_at n (if t then (if u then narrowed lo hi (joined digest (deed_digest v.deed)) entries else Known digest ∷ (Run v ∷ narrowed lo hi nothing entries)) else narrowed lo hi digest entries) ≡ joined digest (on (in_range v.lo v.hi n))
    by_touch rest false e u h = rest digest ∙ ap (λ (t : Bool). joined digest (on t)) (sym (on_touches v lo hi n a b e))
    by_touch rest true e true h =
        rest (joined digest (deed_digest v.deed))
        ∙ (joined_assoc digest (deed_digest v.deed) (digest_at n entries)
        ∙ ap (λ (t : Bool). joined digest (on t)) (sym (spans_on v lo hi n a b h)))
    by_touch rest true e false h =
        let alone : digest_at n (narrowed lo hi nothing entries) ≡ digest_at n entries = rest nothing ∙ joined_left (digest_at n entries) in
        ap (λ (d : Digest). joined digest (if in_range v.lo v.hi n then joined (deed_digest v.deed) d else d)) alone

digest_behind : (n : ℕ) (digest : Digest) (entries : List SegmentEntry) → digest_onto n digest entries ≡ joined digest (digest_at n entries)
digest_behind n digest [] = sym (joined_right digest)
digest_behind n digest (Known other ∷ entries) = digest_behind n (joined digest other) entries ∙ joined_assoc digest other (digest_at n entries)
digest_behind n digest (Run v ∷ entries) = by_range (in_range v.lo v.hi n) (digest_behind n (joined digest (deed_digest v.deed)) entries) (digest_behind n digest entries)
  where
    by_range : (b : Bool) → digest_onto n (joined digest (deed_digest v.deed)) entries ≡ joined (joined digest (deed_digest v.deed)) (digest_at n entries) → digest_onto n digest entries ≡ joined digest (digest_at n entries) → (if b then digest_onto n (joined digest (deed_digest v.deed)) entries else digest_onto n digest entries) ≡ joined digest (if b then joined (deed_digest v.deed) (digest_at n entries) else digest_at n entries)
    by_range true more same = more ∙ joined_assoc digest (deed_digest v.deed) (digest_at n entries)
    by_range false more same = same

pub digest_is : (n : ℕ) (entries : List SegmentEntry) → digest_onto n nothing entries ≡ digest_at n entries
digest_is n entries = digest_behind n nothing entries ∙ joined_left (digest_at n entries)

among_narrowed : (entries : List SegmentEntry) (from to lo n : ℕ) → from ≤ lo → lo + n ≤ to → found_among (narrowed from to nothing entries) lo n ≡ found_among entries lo n
among_narrowed entries from to lo zero a b = refl
among_narrowed entries from to lo (suc n) a b = ap₂ first_found (at_lo (digest_narrowed from to lo nothing entries a (omega arith) ∙ joined_left (digest_at lo entries))) (among_narrowed entries from to (suc lo) n (omega arith) (omega arith))
  where
    at_lo : digest_at lo (narrowed from to nothing entries) ≡ digest_at lo entries → found_at (narrowed from to nothing entries) lo ≡ found_at entries lo
    at_lo same = ap (λ (d : Digest). found_here lo (least_reader d)) (digest_is lo (narrowed from to nothing entries) ∙ (same ∙ sym (digest_is lo entries)))

pub no_segments : (entries : List SegmentEntry) (lo hi : ℕ) → lo ≡ hi → found_among entries lo (hi - lo) ≡ None
no_segments entries lo hi same = let gap : hi - lo ≡ 0 = omega arith in ap (found_among entries lo) gap

first_none : (a : Option FoundClash) → first_found a None ≡ a
first_none None = refl
first_none (Some a) = refl

pub one_segment : (entries : List SegmentEntry) (lo hi : ℕ) → hi - lo ≡ 1 → found_among entries lo (hi - lo) ≡ found_at entries lo
one_segment entries lo hi one = ap (found_among entries lo) one ∙ first_none (found_at entries lo)

-- The whole from its halves.
pub halves : (entries : List SegmentEntry) (lo middle hi : ℕ) → lo ≤ middle → middle ≤ hi → found_among entries lo (hi - lo) ≡ first_found (found_among (narrowed lo middle nothing entries) lo (middle - lo)) (found_among (narrowed middle hi nothing entries) middle (hi - middle))
halves entries lo middle hi a b =
    let whole : hi - lo ≡ (middle - lo) + (hi - middle) = omega arith in
    let at : lo + (middle - lo) ≡ middle = omega arith in
    ap (found_among entries lo) whole
    ∙ (among_split entries lo (middle - lo) (hi - middle)
    ∙ ap₂ first_found (sym (among_narrowed entries lo middle lo (middle - lo) (omega arith) (omega arith))) (ap (λ (x : ℕ). found_among entries x (hi - middle)) at ∙ sym (among_narrowed entries middle hi middle (hi - middle) (omega arith) (omega arith))))

-- What is read of a line has numbers that are small enough, ranges with a place and sets with a usage.
use Rattle.std.specs.Prelude.{Some, None, Option, nat_lt, codes, bytes_eq}
use Rattle.std.specs.List.{find}
use Rattle.std.specs.Option.{option_and_then, option_map}
use Rattle.std.proofs.Common.{◌≡◌, ℕ, ◌+◌, ◌-◌, ◌*◌, ◌<◌, ◌≤◌, ◌==◌, ◌&&◌, ◌||◌, List, [], ◌∷◌, ◌++◌, length, take, drop, Bool, true, false, cond, if◌then◌else◌, refl, arith, lit≤}
use Rattle.std.proofs.lemmas.Bool.{ltb-true, ltb-false}
use Rattle.wg_trace.specs.declared.parts.PartRun.TheVariants as part
use Rattle.wg_trace.specs.declared.parts.Cells.TheVariants as cells
use Rattle.wg_trace.specs.declared.steps.StepPlace.TheVariants.{Op, Host}
use Rattle.wg_rows.specs.Rows.{EachRow}
use Rattle.wg_print.specs.UsageSets.{usage_words}
use Rattle.wg_readtrace.specs.declared.line.Line.{Line}
use Rattle.wg_readtrace.specs.declared.line.Line.TheVariants.{Bar, Step, Use, Acc, Free, End}
use Rattle.wg_readtrace.specs.Words.{gap_len, field, digits, number_word, printed_as, aspect_word, kind_word, name_word, sort_word, usage_word, with_bit, with_usage, set_from, usages, set_word}
use Rattle.wg_readtrace.specs.Forms.{Read, ◌>>=◌, word_as, most_53, most_32, number, range, whole, from_word, buffer_part, query_part, texture_part, part_as, part_of, bytes_of, queries_of, layers_of, slices_of, is_color, cells_as, cells_of, place_as, place_of, bar_of, step_of, use_of, acc_of, free_of, line_as, line_of}
use Rattle.wg_readback.specs.Shapes.{IsSet, IsFrom}
use Rattle.wg_readback.specs.Printable.{IsSmallPlace}
use Rattle.wg_readback.proofs.Whole.{IsRange, IsPart, AreCells}
use Rattle.wg_readback.proofs.Said.{IsLine}

-- what is read, if something is, has P
abbrev pub Has : {A : Type 0} → (A → Type 0) → Option A → Type 0
Has P None = Unit {0}
Has P (Some x) = P x

-- the same, beside what stands behind it
abbrev Gets : {A : Type 0} → (A → Type 0) → Read A → Type 0
Gets P r = Has (λ x. P x.0) r

abbrev IsAny : {A : Type 0} → A → Type 0
IsAny x = Unit {0}

then_has : {A B : Type 0} (P : A → Type 0) (Q : B → Type 0) (r : Option A) (f : A → Option B) → Has P r → ((x : A) → P x → Has Q (f x)) → Has Q (r >>= f)
then_has P Q None f h k = tt
then_has P Q (Some x) f h k = k x h

if_has : {A : Type 0} (P : A → Type 0) (b : Bool) (x y : Option A) → Has P x → Has P y → Has P (if b then x else y)
if_has P true x y h k = h
if_has P false x y h k = k

any_has : {A : Type 0} (r : Option A) → Has IsAny r
any_has None = tt
any_has (Some x) = tt

word_has : {A : Type 0} (P : A → Type 0) (f : List ℕ → Option A) (bs : List ℕ) → ((w : List ℕ) → Has P (f w)) → Gets P (word_as f bs)
word_has P f bs h = then_has IsAny (λ x. P x.0) (field bs) (λ w. f w.0 >>= λ x. Some (x, w.1)) (any_has (field bs)) (λ w _. then_has P (λ x. P x.0) (f w.0) (λ x. Some (x, w.1)) (h w.0) (λ x k. k))

-- numbers and ranges
digits_has : (most n : ℕ) (bs : List ℕ) → n ≤ most → Has (λ m. m ≤ most) (digits most n bs)
digits_has most n [] l = l
digits_has most n (b ∷ bs) l = by_tests (nat_lt b 48 || nat_lt 57 b) (nat_lt most (n * 10 + (b - 48))) refl (λ k. digits_has most (n * 10 + (b - 48)) bs k)
  where
    by_tests : (s t : Bool) → nat_lt most (n * 10 + (b - 48)) ≡ t → (n * 10 + (b - 48) ≤ most → Has (λ m. m ≤ most) (digits most (n * 10 + (b - 48)) bs))
        → Has (λ m. m ≤ most) (if s then None else (if t then None else digits most (n * 10 + (b - 48)) bs))
    by_tests true t e h = tt
    by_tests false true e h = tt
    by_tests false false e h = h (ltb-false most (n * 10 + (b - 48)) e)

number_word_has : (most : ℕ) (w : List ℕ) → Has (λ m. m ≤ most) (number_word most w)
number_word_has most [] = tt
number_word_has most (b ∷ bs) = if_has (λ m. m ≤ most) ((b == 48) && nat_lt 1 (length (b ∷ bs))) None (digits most 0 (b ∷ bs)) tt (digits_has most 0 (b ∷ bs) (omega arith))

number_has : (most : ℕ) (bs : List ℕ) → Gets (λ n. n ≤ most) (number most bs)
number_has most bs = word_has (λ n. n ≤ most) (number_word most) bs (λ w. number_word_has most w)

abbrev InRange : ℕ → ℕ × ℕ → Type 0
InRange most at = IsRange most at.0 at.1

range_has : (most : ℕ) (bs : List ℕ) → Gets (InRange most) (range most bs)
range_has most bs =
    then_has (λ r. r.0 ≤ most) (λ r. InRange most r.0) (number most bs) (λ a. number most a.1 >>= λ b. if nat_lt a.0 b.0 then Some ((a.0, b.0), b.1) else None) (number_has most bs)
    (λ a _. then_has (λ r. r.0 ≤ most) (λ r. InRange most r.0) (number most a.1) (λ b. if nat_lt a.0 b.0 then Some ((a.0, b.0), b.1) else None) (number_has most a.1) (λ b h. by_test a.0 b.0 b.1 h (nat_lt a.0 b.0) refl))
  where
    by_test : (lo hi : ℕ) (rest : List ℕ) → hi ≤ most → (t : Bool) → nat_lt lo hi ≡ t → Gets (InRange most) (if t then Some ((lo, hi), rest) else None)
    by_test lo hi rest h true e = (ltb-true lo hi e, h)
    by_test lo hi rest h false e = tt

-- sets
bits_small : EachRow (λ (row : ℕ × List ℕ). row.0 ≤ 4096) usage_words
bits_small = (lit≤ tt, (lit≤ tt, (lit≤ tt, (lit≤ tt, (lit≤ tt, (lit≤ tt, (lit≤ tt, (lit≤ tt, (lit≤ tt, (lit≤ tt, (lit≤ tt, (lit≤ tt, (lit≤ tt, tt)))))))))))))

find_has : {A : Type 0} (P : A → Type 0) (test : A → Bool) (xs : List A) → EachRow P xs → Has P (find test xs)
find_has P test [] h = tt
find_has P test (x ∷ xs) h = by_test (test x) (find_has P test xs h.1)
  where
    by_test : (t : Bool) → Has P (find test xs) → Has P (cond t (Some x) (find test xs))
    by_test true k = h.0
    by_test false k = k

usage_has : (w : List ℕ) → Has (λ b. b ≤ 4096) (usage_word w)
usage_has w = by_row (printed_as (λ row. row.1) usage_words w) (find_has (λ (row : ℕ × List ℕ). row.0 ≤ 4096) (λ row. bytes_eq w row.1) usage_words bits_small)
  where
    by_row : (o : Option (ℕ × List ℕ)) → Has (λ row. row.0 ≤ 4096) o → Has (λ b. b ≤ 4096) (option_map (λ row. row.0) o)
    by_row None h = tt
    by_row (Some row) h = h

abbrev IsBits : ℕ → Type 0
IsBits set = (0 < set) × (set < 8192)

added_has : (set : ℕ) (w : List ℕ) → Has IsBits (with_usage set w)
added_has set w = by_bit (usage_word w) (usage_has w)
  where
    by_test : (bit : ℕ) → bit ≤ 4096 → (t : Bool) → nat_lt set bit ≡ t → Has IsBits (if t then Some (set + bit) else None)
    by_test bit h true e = let below : set < bit = ltb-true set bit e in (omega arith, omega arith)
    by_test bit h false e = tt

    by_bit : (o : Option ℕ) → Has (λ b. b ≤ 4096) o → Has IsBits (with_bit set o)
    by_bit None h = tt
    by_bit (Some bit) h = by_test bit h (nat_lt set bit) refl

set_from_has : (set : ℕ) (piece bs : List ℕ) → Has IsBits (set_from set piece bs)
set_from_has set piece [] = added_has set piece
set_from_has set piece (b ∷ bs) = by_test (b == 43) (with_usage set piece) (λ more. set_from_has more [] bs) (set_from_has set (piece ++ b ∷ []) bs)
  where
    by_test : (t : Bool) (o : Option ℕ) → ((more : ℕ) → Has IsBits (set_from more [] bs)) → Has IsBits (set_from set (piece ++ b ∷ []) bs)
        → Has IsBits (if t then option_and_then (λ more. set_from more [] bs) o else set_from set (piece ++ b ∷ []) bs)
    by_test true None h k = tt
    by_test true (Some more) h k = h more
    by_test false o h k = k

set_has : (w : List ℕ) → Has IsSet (set_word w)
set_has w = by_bits (set_from 0 [] w) (set_from_has 0 [] w)
  where
    by_bits : (o : Option ℕ) → Has IsBits o → Has IsSet (option_map usages o)
    by_bits None h = tt
    by_bits (Some bits) h = h

from_has : (w : List ℕ) → Has IsFrom (from_word w)
from_has w = if_has IsFrom (bytes_eq w (codes "none")) (Some None) (set_word w >>= λ set. Some (Some set)) tt (then_has IsSet IsFrom (set_word w) (λ set. Some (Some set)) (set_has w) (λ set h. h))

-- parts, cells and places
buffer_has : (bs : List ℕ) → Gets IsPart (buffer_part bs)
unfolding buffer_part
buffer_has bs = then_has (λ r. r.0 ≤ most_53) (λ r. IsPart r.0) (number most_53 bs) (λ o. Some (part.Buffer o.0, o.1)) (number_has most_53 bs) (λ o h. h)

query_has : (bs : List ℕ) → Gets IsPart (query_part bs)
unfolding query_part
query_has bs = then_has (λ r. r.0 ≤ most_53) (λ r. IsPart r.0) (number most_53 bs) (λ o. Some (part.Queries o.0, o.1)) (number_has most_53 bs) (λ o h. h)

texture_has : (bs : List ℕ) → Gets IsPart (texture_part bs)
unfolding texture_part
texture_has bs =
    then_has (λ r. r.0 ≤ most_53) (λ r. IsPart r.0) (number most_53 bs) (λ o. word_as aspect_word o.1 >>= λ a. number most_32 a.1 >>= λ m. range most_32 m.1 >>= λ l. Some (part.Texture o.0 a.0 m.0 l.0.0 l.0.1, l.1)) (number_has most_53 bs)
    (λ o h. then_has IsAny (λ r. IsPart r.0) (word_as aspect_word o.1) (λ a. number most_32 a.1 >>= λ m. range most_32 m.1 >>= λ l. Some (part.Texture o.0 a.0 m.0 l.0.0 l.0.1, l.1)) (any_has (word_as aspect_word o.1))
    (λ a _. then_has (λ r. r.0 ≤ most_32) (λ r. IsPart r.0) (number most_32 a.1) (λ m. range most_32 m.1 >>= λ l. Some (part.Texture o.0 a.0 m.0 l.0.0 l.0.1, l.1)) (number_has most_32 a.1)
    (λ m k. then_has (λ r. InRange most_32 r.0) (λ r. IsPart r.0) (range most_32 m.1) (λ l. Some (part.Texture o.0 a.0 m.0 l.0.0 l.0.1, l.1)) (range_has most_32 m.1) (λ l p. (h, k, p)))))

part_has : (bs : List ℕ) → Gets IsPart (part_of bs)
unfolding part_of
part_has bs =
    then_has IsAny (λ r. IsPart r.0) (field bs) (λ w. part_as w.0 w.1) (any_has (field bs))
    (λ w _. if_has (λ r. IsPart r.0) (bytes_eq w.0 (codes "b")) (buffer_part w.1) (if bytes_eq w.0 (codes "q") then query_part w.1 else (if bytes_eq w.0 (codes "t") then texture_part w.1 else None)) (buffer_has w.1)
    (if_has (λ r. IsPart r.0) (bytes_eq w.0 (codes "q")) (query_part w.1) (if bytes_eq w.0 (codes "t") then texture_part w.1 else None) (query_has w.1)
    (if_has (λ r. IsPart r.0) (bytes_eq w.0 (codes "t")) (texture_part w.1) None (texture_has w.1) tt)))

bytes_has : (bs : List ℕ) → Gets AreCells (bytes_of bs)
unfolding bytes_of
bytes_has bs =
    then_has (λ r. r.0 ≤ most_53) (λ r. AreCells r.0) (number most_53 bs) (λ o. range most_53 o.1 >>= λ l. Some (cells.Bytes o.0 l.0.0 l.0.1, l.1)) (number_has most_53 bs)
    (λ o h. then_has (λ r. InRange most_53 r.0) (λ r. AreCells r.0) (range most_53 o.1) (λ l. Some (cells.Bytes o.0 l.0.0 l.0.1, l.1)) (range_has most_53 o.1) (λ l p. (h, p)))

queries_has : (bs : List ℕ) → Gets AreCells (queries_of bs)
unfolding queries_of
queries_has bs =
    then_has (λ r. r.0 ≤ most_53) (λ r. AreCells r.0) (number most_53 bs) (λ o. range most_32 o.1 >>= λ l. Some (cells.Queries o.0 l.0.0 l.0.1, l.1)) (number_has most_53 bs)
    (λ o h. then_has (λ r. InRange most_32 r.0) (λ r. AreCells r.0) (range most_32 o.1) (λ l. Some (cells.Queries o.0 l.0.0 l.0.1, l.1)) (range_has most_32 o.1) (λ l p. (h, p)))

layers_has : (bs : List ℕ) → Gets AreCells (layers_of bs)
unfolding layers_of
layers_has bs =
    then_has (λ r. r.0 ≤ most_53) (λ r. AreCells r.0) (number most_53 bs) (λ o. word_as aspect_word o.1 >>= λ a. number most_32 a.1 >>= λ m. range most_32 m.1 >>= λ l. Some (cells.Layers o.0 a.0 m.0 l.0.0 l.0.1, l.1)) (number_has most_53 bs)
    (λ o h. then_has IsAny (λ r. AreCells r.0) (word_as aspect_word o.1) (λ a. number most_32 a.1 >>= λ m. range most_32 m.1 >>= λ l. Some (cells.Layers o.0 a.0 m.0 l.0.0 l.0.1, l.1)) (any_has (word_as aspect_word o.1))
    (λ a _. then_has (λ r. r.0 ≤ most_32) (λ r. AreCells r.0) (number most_32 a.1) (λ m. range most_32 m.1 >>= λ l. Some (cells.Layers o.0 a.0 m.0 l.0.0 l.0.1, l.1)) (number_has most_32 a.1)
    (λ m k. then_has (λ r. InRange most_32 r.0) (λ r. AreCells r.0) (range most_32 m.1) (λ l. Some (cells.Layers o.0 a.0 m.0 l.0.0 l.0.1, l.1)) (range_has most_32 m.1) (λ l p. (h, k, p)))))

slices_has : (bs : List ℕ) → Gets AreCells (slices_of bs)
unfolding slices_of
slices_has bs =
    then_has (λ r. r.0 ≤ most_53) (λ r. AreCells r.0) (number most_53 bs) (λ o. word_as aspect_word o.1 >>= λ a. number most_32 a.1 >>= λ m. range most_32 m.1 >>= λ l. if is_color a.0 then Some (cells.Slices o.0 m.0 l.0.0 l.0.1, l.1) else None) (number_has most_53 bs)
    (λ o h. then_has IsAny (λ r. AreCells r.0) (word_as aspect_word o.1) (λ a. number most_32 a.1 >>= λ m. range most_32 m.1 >>= λ l. if is_color a.0 then Some (cells.Slices o.0 m.0 l.0.0 l.0.1, l.1) else None) (any_has (word_as aspect_word o.1))
    (λ a _. then_has (λ r. r.0 ≤ most_32) (λ r. AreCells r.0) (number most_32 a.1) (λ m. range most_32 m.1 >>= λ l. if is_color a.0 then Some (cells.Slices o.0 m.0 l.0.0 l.0.1, l.1) else None) (number_has most_32 a.1)
    (λ m k. then_has (λ r. InRange most_32 r.0) (λ r. AreCells r.0) (range most_32 m.1) (λ l. if is_color a.0 then Some (cells.Slices o.0 m.0 l.0.0 l.0.1, l.1) else None) (range_has most_32 m.1)
    (λ l p. if_has (λ r. AreCells r.0) (is_color a.0) (Some (cells.Slices o.0 m.0 l.0.0 l.0.1, l.1)) None (h, k, p) tt))))

cells_has : (bs : List ℕ) → Gets AreCells (cells_of bs)
unfolding cells_of
cells_has bs =
    then_has IsAny (λ r. AreCells r.0) (field bs) (λ w. cells_as w.0 w.1) (any_has (field bs))
    (λ w _. if_has (λ r. AreCells r.0) (bytes_eq w.0 (codes "b")) (bytes_of w.1) (if bytes_eq w.0 (codes "q") then queries_of w.1 else (if bytes_eq w.0 (codes "t") then layers_of w.1 else (if bytes_eq w.0 (codes "s") then slices_of w.1 else None))) (bytes_has w.1)
    (if_has (λ r. AreCells r.0) (bytes_eq w.0 (codes "q")) (queries_of w.1) (if bytes_eq w.0 (codes "t") then layers_of w.1 else (if bytes_eq w.0 (codes "s") then slices_of w.1 else None)) (queries_has w.1)
    (if_has (λ r. AreCells r.0) (bytes_eq w.0 (codes "t")) (layers_of w.1) (if bytes_eq w.0 (codes "s") then slices_of w.1 else None) (layers_has w.1)
    (if_has (λ r. AreCells r.0) (bytes_eq w.0 (codes "s")) (slices_of w.1) None (slices_has w.1) tt))))

place_has : (bs : List ℕ) → Gets IsSmallPlace (place_of bs)
unfolding place_of
place_has bs =
    then_has IsAny (λ r. IsSmallPlace r.0) (field bs) (λ w. place_as w.0 w.1) (any_has (field bs))
    (λ w _. if_has (λ r. IsSmallPlace r.0) (bytes_eq w.0 (codes "op")) (number most_53 w.1 >>= λ n. Some (Op n.0, n.1)) (if bytes_eq w.0 (codes "host") then (number most_53 w.1 >>= λ n. Some (Host n.0, n.1)) else None)
    (then_has (λ r. r.0 ≤ most_53) (λ r. IsSmallPlace r.0) (number most_53 w.1) (λ n. Some (Op n.0, n.1)) (number_has most_53 w.1) (λ n h. h))
    (if_has (λ r. IsSmallPlace r.0) (bytes_eq w.0 (codes "host")) (number most_53 w.1 >>= λ n. Some (Host n.0, n.1)) None
    (then_has (λ r. r.0 ≤ most_53) (λ r. IsSmallPlace r.0) (number most_53 w.1) (λ n. Some (Host n.0, n.1)) (number_has most_53 w.1) (λ n h. h)) tt))

-- lines
whole_has : (bs : List ℕ) (line : Line) → IsLine line → Has IsLine (whole bs line)
whole_has bs line h = if_has IsLine (length bs == 0) (Some line) None h tt

bar_has : (bs : List ℕ) → Has IsLine (bar_of bs)
unfolding bar_of
bar_has bs =
    then_has (λ r. IsPart r.0) IsLine (part_of bs) (λ p. word_as from_word p.1 >>= λ f. word_as set_word f.1 >>= λ t. whole t.1 (Bar p.0 f.0 t.0)) (part_has bs)
    (λ p h. then_has (λ r. IsFrom r.0) IsLine (word_as from_word p.1) (λ f. word_as set_word f.1 >>= λ t. whole t.1 (Bar p.0 f.0 t.0)) (word_has IsFrom from_word p.1 (λ w. from_has w))
    (λ f k. then_has (λ r. IsSet r.0) IsLine (word_as set_word f.1) (λ t. whole t.1 (Bar p.0 f.0 t.0)) (word_has IsSet set_word f.1 (λ w. set_has w)) (λ t m. whole_has t.1 (Bar p.0 f.0 t.0) (h, k, m))))

step_has : (bs : List ℕ) → Has IsLine (step_of bs)
unfolding step_of
step_has bs =
    then_has (λ r. r.0 ≤ most_53) IsLine (number most_53 bs) (λ n. place_of n.1 >>= λ p. word_as name_word p.1 >>= λ w. whole w.1 (Step n.0 p.0 w.0)) (number_has most_53 bs)
    (λ n h. then_has (λ r. IsSmallPlace r.0) IsLine (place_of n.1) (λ p. word_as name_word p.1 >>= λ w. whole w.1 (Step n.0 p.0 w.0)) (place_has n.1)
    (λ p k. then_has IsAny IsLine (word_as name_word p.1) (λ w. whole w.1 (Step n.0 p.0 w.0)) (any_has (word_as name_word p.1)) (λ w _. whole_has w.1 (Step n.0 p.0 w.0) (h, k))))

use_has : (bs : List ℕ) → Has IsLine (use_of bs)
unfolding use_of
use_has bs =
    then_has (λ r. IsPart r.0) IsLine (part_of bs) (λ p. word_as set_word p.1 >>= λ s. whole s.1 (Use p.0 s.0)) (part_has bs)
    (λ p h. then_has (λ r. IsSet r.0) IsLine (word_as set_word p.1) (λ s. whole s.1 (Use p.0 s.0)) (word_has IsSet set_word p.1 (λ w. set_has w)) (λ s k. whole_has s.1 (Use p.0 s.0) (h, k)))

acc_has : (bs : List ℕ) → Has IsLine (acc_of bs)
unfolding acc_of
acc_has bs =
    then_has IsAny IsLine (word_as kind_word bs) (λ k. cells_of k.1 >>= λ r. whole r.1 (Acc k.0 r.0)) (any_has (word_as kind_word bs))
    (λ k _. then_has (λ r. AreCells r.0) IsLine (cells_of k.1) (λ r. whole r.1 (Acc k.0 r.0)) (cells_has k.1) (λ r h. whole_has r.1 (Acc k.0 r.0) h))

free_has : (bs : List ℕ) → Has IsLine (free_of bs)
unfolding free_of
free_has bs =
    then_has IsAny IsLine (word_as sort_word bs) (λ s. number most_53 s.1 >>= λ o. whole o.1 (Free o.0 s.0)) (any_has (word_as sort_word bs))
    (λ s _. then_has (λ r. r.0 ≤ most_53) IsLine (number most_53 s.1) (λ o. whole o.1 (Free o.0 s.0)) (number_has most_53 s.1) (λ o h. whole_has o.1 (Free o.0 s.0) h))

line_as_has : (w bs : List ℕ) → Has IsLine (line_as w bs)
line_as_has w bs =
    if_has IsLine (bytes_eq w (codes "bar")) (bar_of bs) (if bytes_eq w (codes "step") then step_of bs else (if bytes_eq w (codes "use") then use_of bs else (if bytes_eq w (codes "acc") then acc_of bs else (if bytes_eq w (codes "free") then free_of bs else (if bytes_eq w (codes "end") then whole bs End else None))))) (bar_has bs)
    (if_has IsLine (bytes_eq w (codes "step")) (step_of bs) (if bytes_eq w (codes "use") then use_of bs else (if bytes_eq w (codes "acc") then acc_of bs else (if bytes_eq w (codes "free") then free_of bs else (if bytes_eq w (codes "end") then whole bs End else None)))) (step_has bs)
    (if_has IsLine (bytes_eq w (codes "use")) (use_of bs) (if bytes_eq w (codes "acc") then acc_of bs else (if bytes_eq w (codes "free") then free_of bs else (if bytes_eq w (codes "end") then whole bs End else None))) (use_has bs)
    (if_has IsLine (bytes_eq w (codes "acc")) (acc_of bs) (if bytes_eq w (codes "free") then free_of bs else (if bytes_eq w (codes "end") then whole bs End else None)) (acc_has bs)
    (if_has IsLine (bytes_eq w (codes "free")) (free_of bs) (if bytes_eq w (codes "end") then whole bs End else None) (free_has bs)
    (if_has IsLine (bytes_eq w (codes "end")) (whole bs End) None (whole_has bs End tt) tt)))))

pub line_has : (bs : List ℕ) → Has IsLine (line_of bs)
unfolding line_of
line_has bs = line_as_has (take (gap_len bs) bs) (drop (gap_len bs) bs)

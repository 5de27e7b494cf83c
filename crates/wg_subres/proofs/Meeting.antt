-- Two copies meet exactly where some part is in both.
use Rattle.std.proofs.Common.{◌≡◌, ℕ, ◌==◌, max, true, ◌&&◌, ◌||◌, List, [], ◌∷◌, refl, sym, ◌∙◌, ◌⊎◌, inl, inr, arith, eqb-true, eq-eqb}
use Rattle.std.proofs.lemmas.Bool.{and_parts, and_from, or_cases, or_left, or_right}
use Rattle.std.proofs.lemmas.Bool.Decides.{nat_tests}
use Rattle.wg_types.specs.declared.textures.TextureInfo.{TextureInfo}
use Rattle.wg_types.specs.declared.textures.TextureSpot.{TextureSpot}
use Rattle.wg_types.specs.Formats.{row}
use Rattle.wg_rows.specs.Rows.{in_range}
use Rattle.wg_rows.specs.Runs.{Aspect, aspect_number, Part, Buffer, Subresource, QuerySet}
use Rattle.wg_model.specs.Formats.{named_aspects}
use Rattle.wg_model.specs.Subresources.{first_layer, end_layer, is_aspect_of, aspects_meet, ranges_meet, copies_meet}
use Rattle.wg_subres.specs.Has.{copy_has, CopiesMeet}

-- Aspects.
pub same_number : (x y a : ℕ) → x == a ≡ true → y == a ≡ true → x == y ≡ true
same_number x y a e f = eq-eqb x y (eqb-true x a e ∙ sym (eqb-true y a f))

meets_one : (x a : Aspect) (ys : List Aspect) → aspect_number x == aspect_number a ≡ true → is_aspect_of a ys ≡ true → is_aspect_of x ys ≡ true
meets_one x a [] e f = absurd (cc)
meets_one x a (y ∷ ys) e f = by_cases (or_cases (aspect_number y == aspect_number a) (is_aspect_of a ys) f) (meets_one x a ys e)
  where
    by_cases : (aspect_number y == aspect_number a ≡ true) ⊎ (is_aspect_of a ys ≡ true) → (is_aspect_of a ys ≡ true → is_aspect_of x ys ≡ true) → (aspect_number y == aspect_number x) || is_aspect_of x ys ≡ true
    by_cases (inl g) rest = or_left (aspect_number y == aspect_number x) (is_aspect_of x ys) (same_number (aspect_number y) (aspect_number x) (aspect_number a) g e)
    by_cases (inr g) rest = or_right (aspect_number y == aspect_number x) (is_aspect_of x ys) (rest g)

pub meets : (a : Aspect) (xs ys : List Aspect) → is_aspect_of a xs ≡ true → is_aspect_of a ys ≡ true → aspects_meet xs ys ≡ true
meets a [] ys e f = absurd (cc)
meets a (x ∷ xs) ys e f = by_cases (or_cases (aspect_number x == aspect_number a) (is_aspect_of a xs) e) (λ g. meets a xs ys g f)
  where
    by_cases : (aspect_number x == aspect_number a ≡ true) ⊎ (is_aspect_of a xs ≡ true) → (is_aspect_of a xs ≡ true → aspects_meet xs ys ≡ true) → is_aspect_of x ys || aspects_meet xs ys ≡ true
    by_cases (inl g) rest = or_left (is_aspect_of x ys) (aspects_meet xs ys) (meets_one x a ys g f)
    by_cases (inr g) rest = or_right (is_aspect_of x ys) (aspects_meet xs ys) (rest g)

-- An aspect in both.
pub turned : (x y : ℕ) → x == y ≡ true → y == x ≡ true
turned x y e = eq-eqb y x (sym (eqb-true x y e))

abbrev pub InBoth : List Aspect → List Aspect → Type 0
InBoth xs ys = (a : Aspect) × ((is_aspect_of a xs ≡ true) × (is_aspect_of a ys ≡ true))

pub in_both : (xs ys : List Aspect) → aspects_meet xs ys ≡ true → InBoth xs ys
in_both [] ys e = absurd (cc)
in_both (x ∷ xs) ys e = by_cases (or_cases (is_aspect_of x ys) (aspects_meet xs ys) e) (in_both xs ys)
  where
    more : InBoth xs ys → InBoth (x ∷ xs) ys
    more found = (found.0, (or_right (aspect_number x == aspect_number found.0) (is_aspect_of found.0 xs) found.1.0, found.1.1))

    by_cases : (is_aspect_of x ys ≡ true) ⊎ (aspects_meet xs ys ≡ true) → (aspects_meet xs ys ≡ true → InBoth xs ys) → InBoth (x ∷ xs) ys
    by_cases (inl g) rest = (x, (or_left (aspect_number x == aspect_number x) (is_aspect_of x xs) (eq-eqb (aspect_number x) (aspect_number x) refl), g))
    by_cases (inr g) rest = more (rest g)

-- Layers.
pub in_lower : (lo hi lo2 hi2 : ℕ) → ranges_meet lo hi lo2 hi2 ≡ true → in_range lo hi (max lo lo2) ≡ true
in_lower lo hi lo2 hi2 e = grind (arith, nat_tests, e)

pub in_upper : (lo hi lo2 hi2 : ℕ) → ranges_meet lo hi lo2 hi2 ≡ true → in_range lo2 hi2 (max lo lo2) ≡ true
in_upper lo hi lo2 hi2 e = grind (arith, nat_tests, e)

pub ranges_share : (lo hi lo2 hi2 x : ℕ) → in_range lo hi x ≡ true → in_range lo2 hi2 x ≡ true → ranges_meet lo hi lo2 hi2 ≡ true
ranges_share lo hi lo2 hi2 x e f = grind (arith, nat_tests, e, f)

-- A part in both.
has_from : (texture object : ℕ) (info : TextureInfo) (spot : TextureSpot) (size : List ℕ) (aspect : Aspect) (mip layer : ℕ) → texture == object ≡ true → is_aspect_of aspect (named_aspects spot.aspect (row info.format).aspects) ≡ true → spot.mip == mip ≡ true → in_range (first_layer info.dim spot.origin) (end_layer info.dim spot.origin size) layer ≡ true → copy_has texture info spot size (Subresource object aspect mip layer) ≡ true
has_from texture object info spot size aspect mip layer o a m l =
    and_from (texture == object) (is_aspect_of aspect (named_aspects spot.aspect (row info.format).aspects) && (spot.mip == mip && in_range (first_layer info.dim spot.origin) (end_layer info.dim spot.origin size) layer)) o
    (and_from (is_aspect_of aspect (named_aspects spot.aspect (row info.format).aspects)) (spot.mip == mip && in_range (first_layer info.dim spot.origin) (end_layer info.dim spot.origin size) layer) a
    (and_from (spot.mip == mip) (in_range (first_layer info.dim spot.origin) (end_layer info.dim spot.origin size) layer) m l))

-- What a part of a copy is.
record Has (texture object : ℕ) (info : TextureInfo) (spot : TextureSpot) (size : List ℕ) (aspect : Aspect) (mip layer : ℕ) : Type 0 where
  among : is_aspect_of aspect (named_aspects spot.aspect (row info.format).aspects) ≡ true
  level : spot.mip == mip ≡ true
  in_layers : in_range (first_layer info.dim spot.origin) (end_layer info.dim spot.origin size) layer ≡ true

has_parts : (texture object : ℕ) (info : TextureInfo) (spot : TextureSpot) (size : List ℕ) (aspect : Aspect) (mip layer : ℕ) → copy_has texture info spot size (Subresource object aspect mip layer) ≡ true → Has texture object info spot size aspect mip layer
has_parts texture object info spot size aspect mip layer e =
    let first : (texture == object ≡ true) × (is_aspect_of aspect (named_aspects spot.aspect (row info.format).aspects) && (spot.mip == mip && in_range (first_layer info.dim spot.origin) (end_layer info.dim spot.origin size) layer) ≡ true) = and_parts (texture == object) (is_aspect_of aspect (named_aspects spot.aspect (row info.format).aspects) && (spot.mip == mip && in_range (first_layer info.dim spot.origin) (end_layer info.dim spot.origin size) layer)) e in
    let second : (is_aspect_of aspect (named_aspects spot.aspect (row info.format).aspects) ≡ true) × (spot.mip == mip && in_range (first_layer info.dim spot.origin) (end_layer info.dim spot.origin size) layer ≡ true) = and_parts (is_aspect_of aspect (named_aspects spot.aspect (row info.format).aspects)) (spot.mip == mip && in_range (first_layer info.dim spot.origin) (end_layer info.dim spot.origin size) layer) first.1 in
    let third : (spot.mip == mip ≡ true) × (in_range (first_layer info.dim spot.origin) (end_layer info.dim spot.origin size) layer ≡ true) = and_parts (spot.mip == mip) (in_range (first_layer info.dim spot.origin) (end_layer info.dim spot.origin size) layer) second.1 in
    record { among = second.0; level = third.0; in_layers = third.1 }

meet_from : (source : TextureInfo) (from : TextureSpot) (target : TextureInfo) (to : TextureSpot) (size : List ℕ) → from.mip == to.mip ≡ true → aspects_meet (named_aspects from.aspect (row source.format).aspects) (named_aspects to.aspect (row target.format).aspects) ≡ true → ranges_meet (first_layer source.dim from.origin) (end_layer source.dim from.origin size) (first_layer target.dim to.origin) (end_layer target.dim to.origin size) ≡ true → copies_meet source from target to size ≡ true
unfolding copies_meet
meet_from source from target to size m a r =
    and_from (from.mip == to.mip) _ m (and_from (aspects_meet (named_aspects from.aspect (row source.format).aspects) (named_aspects to.aspect (row target.format).aspects)) _ a r)

only : (texture : ℕ) (source : TextureInfo) (from : TextureSpot) (target : TextureInfo) (to : TextureSpot) (size : List ℕ) (part : Part) → copy_has texture source from size part ≡ true → copy_has texture target to size part ≡ true → copies_meet source from target to size ≡ true
only texture source from target to size (Buffer object) e f = absurd (cc)
only texture source from target to size (QuerySet object) e f = absurd (cc)
only texture source from target to size (Subresource object aspect mip layer) e f =
    let one : Has texture object source from size aspect mip layer = has_parts texture object source from size aspect mip layer e in
    let two : Has texture object target to size aspect mip layer = has_parts texture object target to size aspect mip layer f in
    meet_from source from target to size
    (same_number from.mip to.mip mip one.level two.level)
    (meets aspect (named_aspects from.aspect (row source.format).aspects) (named_aspects to.aspect (row target.format).aspects) one.among two.among)
    (ranges_share (first_layer source.dim from.origin) (end_layer source.dim from.origin size) (first_layer target.dim to.origin) (end_layer target.dim to.origin size) layer one.in_layers two.in_layers)

-- What two copies that meet share.
record Meet (source : TextureInfo) (from : TextureSpot) (target : TextureInfo) (to : TextureSpot) (size : List ℕ) : Type 0 where
  level : from.mip == to.mip ≡ true
  aspects : aspects_meet (named_aspects from.aspect (row source.format).aspects) (named_aspects to.aspect (row target.format).aspects) ≡ true
  layers : ranges_meet (first_layer source.dim from.origin) (end_layer source.dim from.origin size) (first_layer target.dim to.origin) (end_layer target.dim to.origin size) ≡ true

meet_parts : (source : TextureInfo) (from : TextureSpot) (target : TextureInfo) (to : TextureSpot) (size : List ℕ) → copies_meet source from target to size ≡ true → Meet source from target to size
unfolding copies_meet
meet_parts source from target to size e =
    let first : (from.mip == to.mip ≡ true) × (aspects_meet (named_aspects from.aspect (row source.format).aspects) (named_aspects to.aspect (row target.format).aspects) && ranges_meet (first_layer source.dim from.origin) (end_layer source.dim from.origin size) (first_layer target.dim to.origin) (end_layer target.dim to.origin size) ≡ true) = and_parts (from.mip == to.mip) (aspects_meet (named_aspects from.aspect (row source.format).aspects) (named_aspects to.aspect (row target.format).aspects) && ranges_meet (first_layer source.dim from.origin) (end_layer source.dim from.origin size) (first_layer target.dim to.origin) (end_layer target.dim to.origin size)) e in
    let second : (aspects_meet (named_aspects from.aspect (row source.format).aspects) (named_aspects to.aspect (row target.format).aspects) ≡ true) × (ranges_meet (first_layer source.dim from.origin) (end_layer source.dim from.origin size) (first_layer target.dim to.origin) (end_layer target.dim to.origin size) ≡ true) = and_parts (aspects_meet (named_aspects from.aspect (row source.format).aspects) (named_aspects to.aspect (row target.format).aspects)) (ranges_meet (first_layer source.dim from.origin) (end_layer source.dim from.origin size) (first_layer target.dim to.origin) (end_layer target.dim to.origin size)) first.1 in
    record { level = first.0; aspects = second.0; layers = second.1 }

shared : (texture : ℕ) (source : TextureInfo) (from : TextureSpot) (target : TextureInfo) (to : TextureSpot) (size : List ℕ) → copies_meet source from target to size ≡ true → (part : Part) × ((copy_has texture source from size part ≡ true) × (copy_has texture target to size part ≡ true))
shared texture source from target to size e =
    let met : Meet source from target to size = meet_parts source from target to size e in
    let found : InBoth (named_aspects from.aspect (row source.format).aspects) (named_aspects to.aspect (row target.format).aspects) = in_both (named_aspects from.aspect (row source.format).aspects) (named_aspects to.aspect (row target.format).aspects) met.aspects in (
      Subresource texture found.0 from.mip (max (first_layer source.dim from.origin) (first_layer target.dim to.origin)),
      (
        has_from texture texture source from size found.0 from.mip (max (first_layer source.dim from.origin) (first_layer target.dim to.origin)) (eq-eqb texture texture refl) found.1.0 (eq-eqb from.mip from.mip refl) (in_lower (first_layer source.dim from.origin) (end_layer source.dim from.origin size) (first_layer target.dim to.origin) (end_layer target.dim to.origin size) met.layers),
        has_from texture texture target to size found.0 from.mip (max (first_layer source.dim from.origin) (first_layer target.dim to.origin)) (eq-eqb texture texture refl) found.1.1 (turned from.mip to.mip met.level) (in_upper (first_layer source.dim from.origin) (end_layer source.dim from.origin size) (first_layer target.dim to.origin) (end_layer target.dim to.origin size) met.layers),
      ),
    )

pub copies_meet_where : CopiesMeet
copies_meet_where = record { shared = shared; only = only }

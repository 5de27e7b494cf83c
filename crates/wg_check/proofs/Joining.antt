-- Digests of lists of deeds are told together in any grouping.
use Rattle.std.proofs.Common.{◌≡◌, ℕ, Bool, true, false, ◌||◌, ◌&&◌, Option, Some, None, refl, ap, sym, ◌∙◌, if◌then◌else◌}
use Rattle.std.specs.Option.{option_or}
use Rattle.wg_check.specs.Digests.{Stretch, Course, Digest, Open, Parted, no_access, stretched, no_stretch, one_stretch, met_in, left_by, followed, nothing, joined}

pub or_assoc : {A : Type 0} (a b c : Option A) → option_or (option_or a b) c ≡ option_or a (option_or b c)
or_assoc None b c = refl
or_assoc (Some a) b c = refl

or_none : {A : Type 0} (a : Option A) → option_or a None ≡ a
or_none None = refl
or_none (Some a) = refl

any_assoc : (a b c : Bool) → ((a || b) || c) ≡ (a || (b || c))
any_assoc true b c = refl
any_assoc false b c = refl

pub any_false : (a : Bool) → (a || false) ≡ a
any_false true = refl
any_false false = refl

many_assoc : (m n o a b c : Bool) → ((m || (n || (a && b))) || (o || ((a || b) && c))) ≡ (m || ((n || (o || (b && c))) || (a && (b || c))))
many_assoc true n o a b c = refl
many_assoc false true o a b c = refl
many_assoc false false true true true c = refl
many_assoc false false false true true true = refl
many_assoc false false false true true false = refl
many_assoc false false true true false c = refl
many_assoc false false false true false c = refl
many_assoc false false true false true c = refl
many_assoc false false false false true true = refl
many_assoc false false false false true false = refl
many_assoc false false true false false c = refl
many_assoc false false false false false c = refl

abbrev a_stretch : Bool → Bool → Option ℕ → Option ℕ → Stretch
a_stretch a b f g = record { writes = a; many = b; first = f; met = g }

abbrev a_course : Option ℕ → Option ℕ → Option Bool → Course
a_course a b l = record { calm = a; alarmed = b; leaves = l }

-- the readers met in three stretches
met_assoc : (a b c : Bool) (f g h m n o : Option ℕ)
    → option_or (if c then option_or f g else option_or (if b then f else m) (if a then g else n)) (if a || b then h else o)
    ≡ option_or (if b || c then f else m) (if a then option_or g h else option_or (if c then g else n) (if b then h else o))
met_assoc true true true f g h m n o = or_assoc f g h
met_assoc true true false f g h m n o = or_assoc f g h
met_assoc true false true f g h m n o = or_assoc f g h
met_assoc true false false f g h m n o = or_assoc m g h
met_assoc false true true f g h m n o = or_assoc f g h
met_assoc false true false f g h m n o = or_assoc f n h
met_assoc false false true f g h m n o = or_assoc f g o
met_assoc false false false f g h m n o = or_assoc m n o

pub stretched_assoc : (x y z : Stretch) → stretched (stretched x y) z ≡ stretched x (stretched y z)
stretched_assoc x y z = together (any_assoc x.writes y.writes z.writes) (many_assoc x.many y.many z.many x.writes y.writes z.writes) (or_assoc x.first y.first z.first) (met_assoc x.writes y.writes z.writes x.first y.first z.first x.met y.met z.met)
  where
    together : {a a2 b b2 : Bool} {f f2 g g2 : Option ℕ} → a ≡ a2 → b ≡ b2 → f ≡ f2 → g ≡ g2 → a_stretch a b f g ≡ a_stretch a2 b2 f2 g2
    together p q r s = cc

pub stretched_left : (x : Stretch) → stretched no_access x ≡ x
stretched_left x = together (any_false x.many) (met_alone x.writes)
  where
    met_alone : (b : Bool) → option_or (if b then None else None) x.met ≡ x.met
    met_alone true = refl
    met_alone false = refl

    together : {b b2 : Bool} {g g2 : Option ℕ} → b ≡ b2 → g ≡ g2 → a_stretch x.writes b x.first g ≡ a_stretch x.writes b2 x.first g2
    together p q = cc

any_none : (b : Bool) (x : Option ℕ) → option_or x (if b then None else None) ≡ x
any_none true x = or_none x
any_none false x = or_none x

pub stretched_right : (x : Stretch) → stretched x no_access ≡ x
stretched_right x = together (any_false x.writes) (many_alone x.many x.writes) (or_none x.first) (any_none x.writes x.met)
  where
    many_alone : (m a : Bool) → (m || (false || (a && false))) ≡ m
    many_alone true a = refl
    many_alone false true = refl
    many_alone false false = refl

    together : {a a2 b b2 : Bool} {f f2 g g2 : Option ℕ} → a ≡ a2 → b ≡ b2 → f ≡ f2 → g ≡ g2 → a_stretch a b f g ≡ a_stretch a2 b2 f2 g2
    together p q r s = cc

-- a course behind others

pub left_followed : (x y : Course) (alarm : Bool) → left_by (followed x y) alarm ≡ left_by y (left_by x alarm)
left_followed x y alarm = by_last y.leaves x.leaves
  where
    by_last : (o p : Option Bool) → left_by (a_course None None (option_or o p)) alarm ≡ left_by (a_course None None o) (left_by (a_course None None p) alarm)
    by_last None p = refl
    by_last (Some many) p = refl

pub met_followed : (x y : Course) (alarm : Bool) → met_in (followed x y) alarm ≡ option_or (met_in x alarm) (met_in y (left_by x alarm))
met_followed x y true = refl
met_followed x y false = refl

pub followed_assoc : (x y z : Course) → followed (followed x y) z ≡ followed x (followed y z)
followed_assoc x y z = together (side false) (side true) (sym (or_assoc z.leaves y.leaves x.leaves))
  where
    side : (alarm : Bool) → option_or (option_or (met_in x alarm) (met_in y (left_by x alarm))) (met_in z (left_by (followed x y) alarm)) ≡ option_or (met_in x alarm) (met_in (followed y z) (left_by x alarm))
    side alarm =
        ap (λ (b : Bool). option_or (option_or (met_in x alarm) (met_in y (left_by x alarm))) (met_in z b)) (left_followed x y alarm)
        ∙ (or_assoc (met_in x alarm) (met_in y (left_by x alarm)) (met_in z (left_by y (left_by x alarm)))
        ∙ ap (option_or (met_in x alarm)) (sym (met_followed y z (left_by x alarm))))

    together : {a a2 b b2 : Option ℕ} {l l2 : Option Bool} → a ≡ a2 → b ≡ b2 → l ≡ l2 → a_course a b l ≡ a_course a2 b2 l2
    together p q r = cc

pub followed_left : (x : Course) → followed no_stretch x ≡ x
followed_left x = ap (λ (l : Option Bool). a_course x.calm x.alarmed l) (or_none x.leaves)

pub joined_assoc : (x y z : Digest) → joined (joined x y) z ≡ joined x (joined y z)
joined_assoc (Open x) (Open y) (Open z) = ap Open (stretched_assoc x y z)
joined_assoc (Open x) (Open y) (Parted h c t) = ap (λ (s : Stretch). Parted s c t) (stretched_assoc x y h)
joined_assoc (Open x) (Parted h c t) (Open z) = refl
joined_assoc (Open x) (Parted h c t) (Parted h2 c2 t2) = refl
joined_assoc (Parted h c t) (Open y) (Open z) = ap (Parted h c) (stretched_assoc t y z)
joined_assoc (Parted h c t) (Open y) (Parted h2 c2 t2) = ap (λ (s : Stretch). Parted h (followed (followed c (one_stretch s)) c2) t2) (stretched_assoc t y h2)
joined_assoc (Parted h c t) (Parted h2 c2 t2) (Open z) = refl
joined_assoc (Parted h c t) (Parted h2 c2 t2) (Parted h3 c3 t3) =
    ap (λ (d : Course). Parted h d t3)
    (ap (λ (d : Course). followed d c3) (followed_assoc (followed c (one_stretch (stretched t h2))) c2 (one_stretch (stretched t2 h3)))
    ∙ followed_assoc (followed c (one_stretch (stretched t h2))) (followed c2 (one_stretch (stretched t2 h3))) c3)

pub joined_left : (x : Digest) → joined nothing x ≡ x
joined_left (Open x) = ap Open (stretched_left x)
joined_left (Parted h c t) = ap (λ (s : Stretch). Parted s c t) (stretched_left h)

pub joined_right : (x : Digest) → joined x nothing ≡ x
joined_right (Open x) = ap Open (stretched_right x)
joined_right (Parted h c t) = ap (Parted h c) (stretched_right t)

-- Touches whose usage scope is compatible agree at each cell, but for those of attachments.
use Rattle.std.specs.Prelude.{filter}
use Rattle.std.proofs.Common.{◌≡◌, List, [], ◌∷◌, map, Bool, true, false, ◌&&◌, ◌||◌, cond, None, ap, refl, sym, ◌∙◌, subst, inl, inr, true≢false}
use Rattle.wg_rows.specs.Rows.{EachRow}
use Rattle.wg_rows.specs.Runs.{Cell, Cells, Bytes, Layers, Slices, Queries, cell_line, covers, part_of}
use Rattle.wg_rows.specs.Uses.{Read, Write, Both}
use Rattle.wg_rows.proofs.Lying.{cells_lie}
use Rattle.wg_model.specs.Scopes.{Use, is_within, agree, Among, Compatible, clash, IsVerdict}
use Rattle.wg_model.specs.Touches.{Touch, use_of, in_scope, is_scoped}
use Rattle.wg_model.proofs.Verdicts.{verdict_is}
use Rattle.wg_shaped.proofs.Fitting.{TouchesAgree, AllAgree, AgreeWith, same_line}

-- How a touch uses and accesses cells: it reads them, it reads and writes what it stores in, they are of an attachment, or it
-- writes queries, which no usage scope has.
pub data Told (t : Touch) : Type 0 where
  Reads : is_scoped t.0 ≡ true → is_within 43 t.1.0 ≡ true → is_within 4 t.1.0 ≡ false → is_within 16 t.1.0 ≡ false → t.1.1 ≡ Read → Told t
  Stores : is_scoped t.0 ≡ true → is_within 43 t.1.0 ≡ false → is_within 4 t.1.0 ≡ true → is_within 16 t.1.0 ≡ false → t.1.1 ≡ Both → Told t
  Attaches : is_scoped t.0 ≡ true → is_within 43 t.1.0 ≡ false → is_within 4 t.1.0 ≡ false → is_within 16 t.1.0 ≡ true → Told t
  WritesQueries : is_scoped t.0 ≡ false → t.1.0.0 ≡ 256 → t.1.1 ≡ Write → Told t

abbrev pub AreTold : List Touch → Type 0
AreTold touches = EachRow Told touches

-- a touch of an attachment that is drawn to
abbrev pub IsAttached : Touch → Type 0
IsAttached t = is_within 16 t.1.0 ≡ true

-- uses of a compatible scope may stand together where a part is of both
no_three : (a b c d e f : Bool) → (a && b) || (c && d) || (e && f) ≡ true → (a && b ≡ false) → (c && d ≡ false) → (e && f ≡ false) → ⊥
no_three a b c d e f h x y z = true≢false (sym h ∙ joined (a && b) (c && d) (e && f) x y z)
  where
    joined : (p q r : Bool) → p ≡ false → q ≡ false → r ≡ false → p || q || r ≡ false
    joined p q r x y z = rw (x, y, z) refl

left_false : (a b : Bool) → a ≡ false → a && b ≡ false
left_false a b e = ap (λ (t : Bool). t && b) e

right_false : (a b : Bool) → b ≡ false → a && b ≡ false
right_false true b e = e
right_false false b e = refl

stand_together : (uses : List Use) (a b : Touch) → Compatible uses → Among (use_of a) uses → Among (use_of b) uses → (c : Cell) → covers a.0 c ≡ true → covers b.0 c ≡ true → agree a.1.0 b.1.0 ≡ true
stand_together uses a b compatible in_a in_b c e h = by_test (agree a.1.0 b.1.0) refl
  where
    by_test : (t : Bool) → agree a.1.0 b.1.0 ≡ t → t ≡ true
    by_test true same = refl
    by_test false same = absurd (compatible (part_of c) (record { a = use_of a; b = use_of b; a_among = in_a; b_among = in_b; a_of = cells_lie a.0 c e; b_of = cells_lie b.0 c h; differ = same }))

-- what no scope has is of another line than what scopes have
scoped_apart : (a b : Cells) → is_scoped a ≡ true → is_scoped b ≡ false → cell_line a ≡ cell_line b → ⊥
scoped_apart (Bytes o lo hi) (Queries p lo2 hi2) e h k = cc
scoped_apart (Layers o aspect mip lo hi) (Queries p lo2 hi2) e h k = cc
scoped_apart (Slices o mip lo hi) (Queries p lo2 hi2) e h k = cc
scoped_apart (Queries o lo hi) b e h k = true≢false (sym e)
scoped_apart a (Bytes o lo hi) e h k = true≢false h
scoped_apart a (Layers o aspect mip lo hi) e h k = true≢false h
scoped_apart a (Slices o mip lo hi) e h k = true≢false h

-- Two touches of a scope, each told: they agree, if those of attachments do.
abbrev InScope : List Use → Touch → Type 0
InScope uses t = is_scoped t.0 ≡ true → Among (use_of t) uses

told_agree : (uses : List Use) (a b : Touch) → Compatible uses → InScope uses a → InScope uses b → Told a → Told b → (IsAttached a → IsAttached b → TouchesAgree a b) → TouchesAgree a b
told_agree uses a b compatible in_a in_b (Reads s r w t k) (Reads s2 r2 w2 t2 k2) att c e h = k ∙ sym k2
told_agree uses a b compatible in_a in_b (Stores s r w t k) (Stores s2 r2 w2 t2 k2) att c e h = k ∙ sym k2
told_agree uses a b compatible in_a in_b (Attaches s r w t) (Attaches s2 r2 w2 t2) att c e h = att t t2 c e h
told_agree uses a b compatible in_a in_b (WritesQueries s q k) (WritesQueries s2 q2 k2) att c e h = k ∙ sym k2
told_agree uses a b compatible in_a in_b (WritesQueries s q k) (Reads s2 r2 w2 t2 k2) att c e h = absurd (scoped_apart b.0 a.0 s2 s (same_line b.0 a.0 c h e))
told_agree uses a b compatible in_a in_b (WritesQueries s q k) (Stores s2 r2 w2 t2 k2) att c e h = absurd (scoped_apart b.0 a.0 s2 s (same_line b.0 a.0 c h e))
told_agree uses a b compatible in_a in_b (WritesQueries s q k) (Attaches s2 r2 w2 t2) att c e h = absurd (scoped_apart b.0 a.0 s2 s (same_line b.0 a.0 c h e))
told_agree uses a b compatible in_a in_b (Reads s r w t k) (WritesQueries s2 q2 k2) att c e h = absurd (scoped_apart a.0 b.0 s s2 (same_line a.0 b.0 c e h))
told_agree uses a b compatible in_a in_b (Stores s r w t k) (WritesQueries s2 q2 k2) att c e h = absurd (scoped_apart a.0 b.0 s s2 (same_line a.0 b.0 c e h))
told_agree uses a b compatible in_a in_b (Attaches s r w t) (WritesQueries s2 q2 k2) att c e h = absurd (scoped_apart a.0 b.0 s s2 (same_line a.0 b.0 c e h))
told_agree uses a b compatible in_a in_b (Reads s r w t k) (Stores s2 r2 w2 t2 k2) att c e h =
    absurd (no_three (is_within 43 a.1.0) (is_within 43 b.1.0) (is_within 4 a.1.0) (is_within 4 b.1.0) (is_within 16 a.1.0) (is_within 16 b.1.0) (stand_together uses a b compatible (in_a s) (in_b s2) c e h) (right_false _ _ r2) (left_false _ _ w) (left_false _ _ t))
told_agree uses a b compatible in_a in_b (Reads s r w t k) (Attaches s2 r2 w2 t2) att c e h =
    absurd (no_three (is_within 43 a.1.0) (is_within 43 b.1.0) (is_within 4 a.1.0) (is_within 4 b.1.0) (is_within 16 a.1.0) (is_within 16 b.1.0) (stand_together uses a b compatible (in_a s) (in_b s2) c e h) (right_false _ _ r2) (left_false _ _ w) (left_false _ _ t))
told_agree uses a b compatible in_a in_b (Stores s r w t k) (Reads s2 r2 w2 t2 k2) att c e h =
    absurd (no_three (is_within 43 a.1.0) (is_within 43 b.1.0) (is_within 4 a.1.0) (is_within 4 b.1.0) (is_within 16 a.1.0) (is_within 16 b.1.0) (stand_together uses a b compatible (in_a s) (in_b s2) c e h) (left_false _ _ r) (right_false _ _ w2) (left_false _ _ t))
told_agree uses a b compatible in_a in_b (Stores s r w t k) (Attaches s2 r2 w2 t2) att c e h =
    absurd (no_three (is_within 43 a.1.0) (is_within 43 b.1.0) (is_within 4 a.1.0) (is_within 4 b.1.0) (is_within 16 a.1.0) (is_within 16 b.1.0) (stand_together uses a b compatible (in_a s) (in_b s2) c e h) (left_false _ _ r) (right_false _ _ w2) (left_false _ _ t))
told_agree uses a b compatible in_a in_b (Attaches s r w t) (Reads s2 r2 w2 t2 k2) att c e h =
    absurd (no_three (is_within 43 a.1.0) (is_within 43 b.1.0) (is_within 4 a.1.0) (is_within 4 b.1.0) (is_within 16 a.1.0) (is_within 16 b.1.0) (stand_together uses a b compatible (in_a s) (in_b s2) c e h) (left_false _ _ r) (left_false _ _ w) (right_false _ _ t2))
told_agree uses a b compatible in_a in_b (Attaches s r w t) (Stores s2 r2 w2 t2 k2) att c e h =
    absurd (no_three (is_within 43 a.1.0) (is_within 43 b.1.0) (is_within 4 a.1.0) (is_within 4 b.1.0) (is_within 16 a.1.0) (is_within 16 b.1.0) (stand_together uses a b compatible (in_a s) (in_b s2) c e h) (left_false _ _ r) (left_false _ _ w) (right_false _ _ t2))

-- all touches of a scope
abbrev pub scope_of : List Touch → List Use
scope_of touches = map use_of (filter in_scope touches)

among_more : (x : Touch) (t : Touch) (touches : List Touch) → Among (use_of t) (scope_of touches) → Among (use_of t) (scope_of (x ∷ touches))
among_more x t touches h = by_test (in_scope x)
  where
    by_test : (b : Bool) → Among (use_of t) (map use_of (cond b (x ∷ filter in_scope touches) (filter in_scope touches)))
    by_test true = inr h
    by_test false = h

among_first : (t : Touch) (touches : List Touch) → InScope (scope_of (t ∷ touches)) t
among_first t touches e = by_test (in_scope t) e
  where
    by_test : (b : Bool) → b ≡ true → Among (use_of t) (map use_of (cond b (t ∷ filter in_scope touches) (filter in_scope touches)))
    by_test true e = inl refl
    by_test false e = absurd (true≢false (sym e))

all_in : (touches : List Touch) → EachRow (InScope (scope_of touches)) touches
all_in [] = tt
all_in (t ∷ touches) = (among_first t touches, later (touches) (all_in touches))
  where
    later : (these : List Touch) → EachRow (InScope (scope_of touches)) these → EachRow (InScope (scope_of (t ∷ touches))) these
    later [] h = tt
    later (x ∷ these) h = ((λ e. among_more t x touches (h.0 e)), later these h.1)

-- the touches of attachments that are drawn to agree
abbrev pub AttachedWith : List Touch → Touch → Type 0
AttachedWith touches a = EachRow (λ b. IsAttached a → IsAttached b → TouchesAgree a b) touches

abbrev pub AttachedAgree : List Touch → Type 0
AttachedAgree [] = Unit {0}
AttachedAgree (a ∷ touches) = AttachedWith touches a × AttachedAgree touches

one_agrees : (uses : List Use) (a : Touch) (touches : List Touch) → Compatible uses → InScope uses a → EachRow (InScope uses) touches → Told a → AreTold touches → AttachedWith touches a → AgreeWith touches a
one_agrees uses a [] compatible in_a ins t told att = tt
one_agrees uses a (b ∷ touches) compatible in_a ins t told att =
    (told_agree uses a b compatible in_a ins.0 t told.0 att.0, one_agrees uses a touches compatible in_a ins.1 t told.1 att.1)

all_agree : (uses : List Use) (touches : List Touch) → Compatible uses → EachRow (InScope uses) touches → AreTold touches → AttachedAgree touches → AllAgree touches
all_agree uses [] compatible ins told att = tt
all_agree uses (a ∷ touches) compatible ins told att =
    (one_agrees uses a touches compatible ins.0 ins.1 told.0 told.1 att.0, all_agree uses touches compatible ins.1 told.1 att.1)

compatible_if : (uses : List Use) → clash uses ≡ None → Compatible uses
compatible_if uses e = subst (IsVerdict uses) e (verdict_is uses)

pub scope_agrees : (touches : List Touch) → clash (scope_of touches) ≡ None → AreTold touches → AttachedAgree touches → AllAgree touches
scope_agrees touches e told att = all_agree (scope_of touches) touches (compatible_if (scope_of touches) e) (all_in touches) told att

-- A pipeline that tells its faces counts as one that writes stencil exactly where it can change some value of it.
use Rattle.std.proofs.Common.{◌≡◌, ◌≢◌, ℕ, ◌+◌, ◌-◌, ◌%◌, ◌^◌, ◌<◌, ◌==◌, min, Bool, true, false, not, ◌&&◌, ◌||◌, Some, if◌then◌else◌, true≢false, inl, inr, refl, ap, subst, sym, ◌∙◌, arith}
use Rattle.std.specs.Int.{bit_at, w32, trailing_zeros}
use Rattle.std.proofs.lemmas.Bool.{cond-true, cond-false, eq-eqb, ne_eqb, and_parts, and_cases, and_left, and_right, and_from, or_cases, or_left, or_right, not-true, not_from_false, cases_eq}
use Rattle.std.proofs.lemmas.Nat.{pow_pos, pow_below}
use Rattle.std.proofs.lemmas.Nat.Bits.{bit_at-zero, bit_at-pow_same, bit_at_ones, bit_at_ones_above, bit_at-trailing_zeros}
use Rattle.wg_types.specs.declared.fixed.StencilOperation.{StencilOperation}
use Rattle.wg_types.specs.declared.fixed.StencilOperation.TheVariants.{Keep, Zero, Replace, Invert, IncrementClamp, DecrementClamp, IncrementWrap, DecrementWrap}
use Rattle.wg_types.specs.declared.fixed.StencilFace.{StencilFace}
use Rattle.wg_types.specs.declared.fixed.StencilState.TheVariants.{Faces}
use Rattle.wg_types.specs.declared.fixed.CullMode.{CullMode}
use Rattle.wg_types.specs.declared.fixed.CullMode.TheVariants as cull
use Rattle.wg_model.specs.FixedFunction.{is_keep, keeps, draws_fronts, draws_backs, writes_stencil}
use Rattle.wg_pipes.specs.StencilLaws.{greatest, operated, written_bit, CanChangeBy, IsOf, Sort, fronts, backs, face_of, culled_sort, CanChange, StencilCanChange}

-- What is written of a bit.
written : (write_mask result value bit : ℕ) → bit_at write_mask bit ≡ 1 → written_bit write_mask result value bit ≡ bit_at result bit
written write_mask result value bit set = cond-true (bit_at write_mask bit == 1) (bit_at result bit) (bit_at value bit) (eq-eqb (bit_at write_mask bit) 1 set)

unwritten : (result value bit : ℕ) → written_bit 0 result value bit ≡ bit_at value bit
unwritten result value bit =
    let none : bit_at 0 bit ≡ 0 = bit_at-zero bit in
    cond-false (bit_at 0 bit == 1) (bit_at result bit) (bit_at value bit) (ne_eqb (bit_at 0 bit) 1 (λ e. absurd (omega (arith, none, e))))

one_of_both : (b : Bool) (x : ℕ) → (if b then x else x) ≡ x
one_of_both true x = refl
one_of_both false x = refl

zero_one : (a b : ℕ) → a ≡ 0 → b ≡ 1 → a ≢ b
zero_one a b e f same = absurd (omega arith)

one_zero : (a b : ℕ) → a ≡ 1 → b ≡ 0 → a ≢ b
one_zero a b e f same = absurd (omega arith)

-- An operation changes a bit that the mask has.
change : (operation : StencilOperation) (write_mask i reference value : ℕ) → bit_at write_mask i ≡ 1 → i < 32 → reference < 2 ^ 32 → value < 2 ^ 32 → bit_at (operated operation reference value) i ≢ bit_at value i → CanChangeBy operation write_mask
change operation write_mask i reference value set below fits within differs = record {
  reference = reference;
  value = value;
  bit = i;
  reference_fits = fits;
  value_fits = within;
  bit_fits = below;
  differs = λ same. differs (sym (written write_mask (operated operation reference value) value i set) ∙ same);
}

-- Steps from and to a power of two.
clamped : (p : ℕ) → 0 < p → p < 2 ^ 32 → min ((p - 1) + 1) greatest ≡ p
clamped p positive within = omega arith

wrapped : (p : ℕ) → 0 < p → p < 2 ^ 32 → ((p - 1) + 1) % 2 ^ 32 ≡ p
wrapped p positive within = omega arith

turned : (p : ℕ) → 0 < p → p < 2 ^ 32 → (p + greatest) % 2 ^ 32 ≡ p - 1
turned p positive within = omega arith

one_less : (p : ℕ) → 0 < p → p < 2 ^ 32 → p - 1 < 2 ^ 32
one_less p positive within = omega arith

-- Each operation but keep changes each bit that the mask has.
change_by : (operation : StencilOperation) (write_mask i : ℕ) → is_keep operation ≡ false → bit_at write_mask i ≡ 1 → i < 32 → CanChangeBy operation write_mask
change_by operation write_mask i kept set below = by_operation operation kept
  where
    none : bit_at 0 i ≡ 0
    none = bit_at-zero i

    here : bit_at (2 ^ i) i ≡ 1
    here = bit_at-pow_same i

    under : bit_at (2 ^ i - 1) i ≡ 0
    under = bit_at_ones_above i i (omega arith)

    positive : 0 < 2 ^ i
    positive = pow_pos i

    within : 2 ^ i < 2 ^ 32
    within = pow_below i 32 below

    less : 2 ^ i - 1 < 2 ^ 32
    less = one_less (2 ^ i) positive within

    fits : 0 < 2 ^ 32
    fits = pow_pos 32

    by_operation : (done : StencilOperation) → is_keep done ≡ false → CanChangeBy done write_mask
    by_operation Keep e = absurd (true≢false e)
    by_operation Zero e = change Zero write_mask i 0 (2 ^ i) set below fits within (zero_one (bit_at 0 i) (bit_at (2 ^ i) i) none here)
    by_operation Replace e = change Replace write_mask i (2 ^ i) 0 set below within fits (one_zero (bit_at (2 ^ i) i) (bit_at 0 i) here none)
    by_operation Invert e = change Invert write_mask i 0 0 set below fits fits (one_zero (bit_at greatest i) (bit_at 0 i) (bit_at_ones 32 i below) none)
    by_operation IncrementClamp e = change IncrementClamp write_mask i 0 (2 ^ i - 1) set below fits less (one_zero (bit_at (min ((2 ^ i - 1) + 1) greatest) i) (bit_at (2 ^ i - 1) i) (ap (λ n. bit_at n i) (clamped (2 ^ i) positive within) ∙ here) under)
    by_operation DecrementClamp e = change DecrementClamp write_mask i 0 (2 ^ i) set below fits within (zero_one (bit_at (2 ^ i - 1) i) (bit_at (2 ^ i) i) under here)
    by_operation IncrementWrap e = change IncrementWrap write_mask i 0 (2 ^ i - 1) set below fits less (one_zero (bit_at (((2 ^ i - 1) + 1) % 2 ^ 32) i) (bit_at (2 ^ i - 1) i) (ap (λ n. bit_at n i) (wrapped (2 ^ i) positive within) ∙ here) under)
    by_operation DecrementWrap e = change DecrementWrap write_mask i 0 (2 ^ i) set below fits within (zero_one (bit_at ((2 ^ i + greatest) % 2 ^ 32) i) (bit_at (2 ^ i) i) (ap (λ n. bit_at n i) (turned (2 ^ i) positive within) ∙ under) here)

-- What changes some value is no keep.
no_keep : (operation : StencilOperation) (write_mask : ℕ) → CanChangeBy operation write_mask → is_keep operation ≡ false
no_keep Keep write_mask changes = absurd (changes.differs (one_of_both (bit_at write_mask changes.bit == 1) (bit_at changes.value changes.bit)))
no_keep Zero write_mask changes = refl
no_keep Replace write_mask changes = refl
no_keep Invert write_mask changes = refl
no_keep IncrementClamp write_mask changes = refl
no_keep DecrementClamp write_mask changes = refl
no_keep IncrementWrap write_mask changes = refl
no_keep DecrementWrap write_mask changes = refl

-- Nothing changes where the mask has no bit.
no_mask : (operation : StencilOperation) → CanChangeBy operation 0 → ⊥
no_mask operation changes = changes.differs (unwritten (operated operation changes.reference changes.value) changes.value changes.bit)

some_bit : (operation : StencilOperation) (write_mask : ℕ) → CanChangeBy operation write_mask → not (write_mask == 0) ≡ true
some_bit operation write_mask changes = not_from_false (write_mask == 0) (ne_eqb write_mask 0 (λ e. no_mask operation (subst (CanChangeBy operation) e changes)))

-- One of the three operations of a face is no keep exactly where these are not all keep.
pub record Changing (face : StencilFace) : Type 0 where
  pub operation : StencilOperation
  pub of_face : IsOf operation face
  pub changes : is_keep operation ≡ false

changing : (face : StencilFace) → keeps face ≡ false → Changing face
changing face e = elim (and_cases (is_keep face.fail_op) (is_keep face.depth_fail_op && is_keep face.pass_op) e) [
  | inl fails ↦ record { operation = face.fail_op; of_face = inl refl; changes = fails }
  | inr rest ↦ elim (and_cases (is_keep face.depth_fail_op) (is_keep face.pass_op) rest) [
    | inl fails ↦ record { operation = face.depth_fail_op; of_face = inr (inl refl); changes = fails }
    | inr passes ↦ record { operation = face.pass_op; of_face = inr (inr refl); changes = passes }
  ]
]

not_kept : (face : StencilFace) (operation : StencilOperation) → IsOf operation face → is_keep operation ≡ false → keeps face ≡ false
not_kept face operation of_face e = elim of_face [
  | inl first ↦ and_left (is_keep face.fail_op) (is_keep face.depth_fail_op && is_keep face.pass_op) (sym (ap is_keep first) ∙ e)
  | inr rest ↦ and_right (is_keep face.fail_op) (is_keep face.depth_fail_op && is_keep face.pass_op)
      (elim rest [
        | inl second ↦ and_left (is_keep face.depth_fail_op) (is_keep face.pass_op) (sym (ap is_keep second) ∙ e)
        | inr third ↦ and_right (is_keep face.depth_fail_op) (is_keep face.pass_op) (sym (ap is_keep third) ∙ e)
      ])
]

-- Which faces are drawn.
fronts_drawn : (culled : CullMode) → draws_fronts culled ≡ true → culled_sort culled ≢ Some fronts
fronts_drawn cull.None e f = absurd (cc)
fronts_drawn cull.Front e f = absurd (cc)
fronts_drawn cull.Back e f = absurd (cc)

backs_drawn : (culled : CullMode) → draws_backs culled ≡ true → culled_sort culled ≢ Some backs
backs_drawn cull.None e f = absurd (cc)
backs_drawn cull.Front e f = absurd (cc)
backs_drawn cull.Back e f = absurd (cc)

draws_some : (culled : CullMode) → culled_sort culled ≢ Some fronts → draws_fronts culled ≡ true
draws_some cull.None drawn = refl
draws_some cull.Front drawn = absurd (drawn refl)
draws_some cull.Back drawn = refl

draws_others : (culled : CullMode) → culled_sort culled ≢ Some backs → draws_backs culled ≡ true
draws_others cull.None drawn = refl
draws_others cull.Front drawn = refl
draws_others cull.Back drawn = absurd (drawn refl)

-- From the test to a change.
changed_by : (culled : CullMode) (front back : StencilFace) (write_mask i : ℕ) → bit_at write_mask i ≡ 1 → i < 32 → ((draws_fronts culled && not (keeps front)) || (draws_backs culled && not (keeps back))) ≡ true → CanChange culled front back write_mask
changed_by culled front back write_mask i set below e = elim (or_cases (draws_fronts culled && not (keeps front)) (draws_backs culled && not (keeps back)) e) [
  | inl some ↦
      (let both = and_parts (draws_fronts culled) (not (keeps front)) some in
      let found = changing front (not-true (keeps front) both.1) in
      record { sort = fronts; operation = found.operation; drawn = fronts_drawn culled both.0; of_face = found.of_face; changes = change_by found.operation write_mask i found.changes set below })
  | inr some ↦
      (let both = and_parts (draws_backs culled) (not (keeps back)) some in
      let found = changing back (not-true (keeps back) both.1) in
      record { sort = backs; operation = found.operation; drawn = backs_drawn culled both.0; of_face = found.of_face; changes = change_by found.operation write_mask i found.changes set below })
]

-- From a change to the test.
tested : (culled : CullMode) (front back : StencilFace) (sort : Sort) (operation : StencilOperation) → culled_sort culled ≢ Some sort → IsOf operation (face_of front back sort) → is_keep operation ≡ false → ((draws_fronts culled && not (keeps front)) || (draws_backs culled && not (keeps back))) ≡ true
tested culled front back fronts operation drawn of_face e = or_left (draws_fronts culled && not (keeps front)) (draws_backs culled && not (keeps back)) (and_from (draws_fronts culled) (not (keeps front)) (draws_some culled drawn) (not_from_false (keeps front) (not_kept front operation of_face e)))
tested culled front back backs operation drawn of_face e = or_right (draws_fronts culled && not (keeps front)) (draws_backs culled && not (keeps back)) (and_from (draws_backs culled) (not (keeps back)) (draws_others culled drawn) (not_from_false (keeps back) (not_kept back operation of_face e)))

can_change : (culled : CullMode) (front back : StencilFace) (write_mask : ℕ) → write_mask < 2 ^ 32 → writes_stencil culled (Faces front back write_mask) ≡ true → CanChange culled front back write_mask
can_change culled front back write_mask fits e =
    let both = and_parts (not (write_mask == 0)) ((draws_fronts culled && not (keeps front)) || (draws_backs culled && not (keeps back))) e in
    let masked = some_mask write_mask (not-true (write_mask == 0) both.0) in
    let lowest = bit_at-trailing_zeros w32 write_mask masked fits in
    changed_by culled front back write_mask (trailing_zeros w32 write_mask) lowest.1 lowest.0 both.1
  where
    some_mask : (n : ℕ) → (n == 0) ≡ false → 0 < n
    some_mask n test = elim (cases_eq n 0) [
      | inl is ↦ absurd (true≢false (sym (eq-eqb n 0 is) ∙ test))
      | inr other ↦ omega (arith, other)
    ]

changes_tested : (culled : CullMode) (front back : StencilFace) (write_mask : ℕ) → CanChange culled front back write_mask → writes_stencil culled (Faces front back write_mask) ≡ true
changes_tested culled front back write_mask found = and_from (not (write_mask == 0)) ((draws_fronts culled && not (keeps front)) || (draws_backs culled && not (keeps back))) (some_bit found.operation write_mask found.changes) (tested culled front back found.sort found.operation found.drawn found.of_face (no_keep found.operation write_mask found.changes))

pub stencil_changes : StencilCanChange
stencil_changes culled front back write_mask fits = (can_change culled front back write_mask fits, changes_tested culled front back write_mask)

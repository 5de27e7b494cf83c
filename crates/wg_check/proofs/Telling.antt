-- The story of a cell tells what the steps do to it.
use Rattle.std.proofs.Common.{◌≡◌, ℕ, suc, ◌+◌, ◌-◌, ◌<◌, ◌≤◌, List, [], ◌∷◌, Bool, true, false, ◌||◌, refl, ap, ◌∙◌, ◌≢◌, ◌⊎◌, inl, inr, arith, if◌then◌else◌, None}
use Rattle.std.proofs.lemmas.Bool.{cases_eq}
use Rattle.wg_rows.specs.Runs.{Cell, part_of, covers_part}
use Rattle.wg_orders.specs.Steps.{reads, writes}
use Rattle.wg_orders.specs.Trace.{Item, Bar, StepItem, Free, steps_of, reads_at, writes_at}
use Rattle.wg_check.specs.declared.stories.Access.{Access}
use Rattle.wg_check.specs.Doings.{Doings, IsStory, IsClash}
use Rattle.wg_check.specs.Stories.{clash_from}
use Rattle.wg_check.specs.Clashes.{epoch, doings, access, story_from, story}
use Rattle.wg_check.proofs.Walks.{story_clash}
use Rattle.wg_check.proofs.Differing.{rising}

-- Behind n steps and e barriers the doings are those of these items.
record Follows (d : Doings) (c : Cell) (n e : ℕ) (items : List Item) : Type 0 where
  reads : (k : ℕ) → d.reads (n + k) ≡ reads_at c (steps_of items) k
  writes : (k : ℕ) → d.writes (n + k) ≡ writes_at c (steps_of items) k
  epoch : (k : ℕ) → d.epoch (n + k) ≡ e + epoch (part_of c) items k

story_on : (d : Doings) (n : ℕ) (story : List Access) → d.reads n ≡ false → d.writes n ≡ false → IsStory d (suc n) story → IsStory d n story
story_on d n [] r w h = λ k l. at k l (cases_eq k n)
  where
    at : (k : ℕ) → n ≤ k → (k ≡ n) ⊎ (k ≡ n → ⊥) → (d.reads k ≡ false) × (d.writes k ≡ false)
    at k l (inl same) = (ap d.reads same ∙ r, ap d.writes same ∙ w)
    at k l (inr other) = let ne : k ≢ n = other in h k (omega arith)
story_on d n (a ∷ rest) r w h = (record { behind = omega (arith, h.0.behind); between = λ k l below. at k l below (cases_eq k n); reads = h.0.reads; writes = h.0.writes; epoch = h.0.epoch }, h.1)
  where
    at : (k : ℕ) → n ≤ k → k < a.place → (k ≡ n) ⊎ (k ≡ n → ⊥) → (d.reads k ≡ false) × (d.writes k ≡ false)
    at k l below (inl same) = (ap d.reads same ∙ r, ap d.writes same ∙ w)
    at k l below (inr other) = let ne : k ≢ n = other in h.0.between k (omega arith) below

told : (d : Doings) (c : Cell) (n e : ℕ) (items : List Item) → Follows d c n e items → IsStory d n (story_from c n e items)
told d c n e [] f = λ k l. let same : k ≡ n + (k - n) = omega arith in (ap d.reads same ∙ f.reads (k - n), ap d.writes same ∙ f.writes (k - n))
told d c n e (Bar parts from to ∷ items) f = by_cover (covers_part parts (part_of c)) f.epoch (told d c n (suc e) items) (told d c n e items)
  where
    by_cover : (b : Bool) → ((k : ℕ) → d.epoch (n + k) ≡ e + (if b then suc (epoch (part_of c) items k) else epoch (part_of c) items k)) → (Follows d c n (suc e) items → IsStory d n (story_from c n (suc e) items)) → (Follows d c n e items → IsStory d n (story_from c n e items)) → IsStory d n (if b then story_from c n (suc e) items else story_from c n e items)
    by_cover true h more same = more (record { reads = f.reads; writes = f.writes; epoch = λ k. omega (arith, h k) })
    by_cover false h more same = same (record { reads = f.reads; writes = f.writes; epoch = h })
told d c n e (StepItem s ∷ items) f = by_access (reads s c) (writes s c) refl refl (told d c (suc n) e items on)
  where
    here : n ≡ n + 0
    here = omega arith

    next : (k : ℕ) → suc n + k ≡ n + suc k
    next k = omega arith

    on : Follows d c (suc n) e items
    on = record {
      reads = λ k. ap d.reads (next k) ∙ f.reads (suc k);
      writes = λ k. ap d.writes (next k) ∙ f.writes (suc k);
      epoch = λ k. ap d.epoch (next k) ∙ f.epoch (suc k);
    }

    first : IsStory d (suc n) (story_from c (suc n) e items) → IsStory d n (access c s n e ∷ story_from c (suc n) e items)
    first h = (record { behind = omega arith; between = λ k l below. absurd (omega arith); reads = ap d.reads here ∙ f.reads 0; writes = ap d.writes here ∙ f.writes 0; epoch = ap d.epoch here ∙ (f.epoch 0 ∙ omega arith) }, h)

    by_access : (r w : Bool) → reads s c ≡ r → writes s c ≡ w → IsStory d (suc n) (story_from c (suc n) e items) → IsStory d n (if r || w then access c s n e ∷ story_from c (suc n) e items else story_from c (suc n) e items)
    by_access true w a b h = first h
    by_access false true a b h = first h
    by_access false false a b h = story_on d n (story_from c (suc n) e items) (ap d.reads here ∙ (f.reads 0 ∙ a)) (ap d.writes here ∙ (f.writes 0 ∙ b)) h
told d c n e (Free object sort ∷ items) f = told d c n e items (record { reads = f.reads; writes = f.writes; epoch = f.epoch })

pub cell_story : (trace : List Item) (c : Cell) → IsStory (doings c trace) 0 (story c trace)
cell_story trace c = told (doings c trace) c 0 0 trace (record { reads = λ k. ap (reads_at c (steps_of trace)) (zero_on k); writes = λ k. ap (writes_at c (steps_of trace)) (zero_on k); epoch = λ k. ap (epoch (part_of c) trace) (zero_on k) ∙ omega arith })
  where
    zero_on : (k : ℕ) → 0 + k ≡ k
    zero_on k = omega arith

pub cell_clash : (trace : List Item) (c : Cell) → IsClash (doings c trace) 0 (clash_from None (story c trace))
cell_clash trace c = story_clash (doings c trace) (rising (part_of c) trace) (story c trace) (cell_story trace c)

-- What the deeds on a segment tell is the least reader of its story that clashes.
use Rattle.std.proofs.Common.{◌≡◌, ◌≢◌, ℕ, suc, ◌<◌, ◌≤◌, List, [], ◌∷◌, map, Bool, true, false, not, ◌||◌, ◌&&◌, ◌==◌, Option, Some, None, is_some, refl, ap, ap₂, sym, ◌∙◌, arith, if◌then◌else◌, true≢false, subst}
use Rattle.std.specs.Option.{option_or, option_map}
use Rattle.std.proofs.lemmas.Bool.{eq-eqb, ne_eqb}
use Rattle.wg_rows.specs.Rows.{in_range}
use Rattle.wg_check.specs.declared.stories.Access.{Access}
use Rattle.wg_check.specs.declared.stories.Past.{Past}
use Rattle.wg_check.specs.declared.events.CellDeed.{CellDeed}
use Rattle.wg_check.specs.declared.events.CellDeed.TheVariants.{Fence, Act}
use Rattle.wg_check.specs.declared.ends.SegmentEvent.{SegmentEvent}
use Rattle.wg_check.specs.Stories.{Meeting, next_writer, first_of, after, later, writer_for, at_end, or_on, clash_from}
use Rattle.wg_check.specs.Segments.{then_on, story_at, Rises}
use Rattle.wg_check.specs.Digests.{Stretch, Course, Digest, Open, Parted, Run, no_access, one_access, stretched, no_stretch, one_stretch, met_in, left_by, followed, nothing, deed_digest, joined, end_met, or_else, least_reader, digest_at}
use Rattle.wg_check.proofs.Joining.{any_false, stretched_assoc, stretched_left, stretched_right, left_followed, met_followed, followed_left}

-- the deeds on a segment

abbrev pub deeds_at : ℕ → List SegmentEvent → List CellDeed
deeds_at n [] = []
deeds_at n (v ∷ events) = if in_range v.lo v.hi n then v.deed ∷ deeds_at n events else deeds_at n events

abbrev pub digest_of : List CellDeed → Digest
digest_of [] = nothing
digest_of (d ∷ deeds) = joined (deed_digest d) (digest_of deeds)

abbrev pub story_of : ℕ → List CellDeed → List Access
story_of e [] = []
story_of e (d ∷ deeds) = then_on d e (story_of (suc e) deeds) (story_of e deeds)

digest_deeds : (n : ℕ) (events : List SegmentEvent) → digest_at n (map Run events) ≡ digest_of (deeds_at n events)
digest_deeds n [] = refl
digest_deeds n (v ∷ events) = by_range (in_range v.lo v.hi n) (digest_deeds n events)
  where
    by_range : (b : Bool) → digest_at n (map Run events) ≡ digest_of (deeds_at n events) → (if b then joined (deed_digest v.deed) (digest_at n (map Run events)) else digest_at n (map Run events)) ≡ digest_of (if b then v.deed ∷ deeds_at n events else deeds_at n events)
    by_range true same = ap (joined (deed_digest v.deed)) same
    by_range false same = same

story_deeds : (n e : ℕ) (events : List SegmentEvent) → story_at n e events ≡ story_of e (deeds_at n events)
story_deeds n e [] = refl
story_deeds n e (v ∷ events) = by_range (in_range v.lo v.hi n) (story_deeds n (suc e) events) (story_deeds n e events)
  where
    by_range : (b : Bool) → story_at n (suc e) events ≡ story_of (suc e) (deeds_at n events) → story_at n e events ≡ story_of e (deeds_at n events) → (if b then then_on v.deed e (story_at n (suc e) events) (story_at n e events) else story_at n e events) ≡ story_of e (if b then v.deed ∷ deeds_at n events else deeds_at n events)
    by_range true more same = ap₂ (then_on v.deed e) more same
    by_range false more same = same

-- The least reader: behind a stretch that is not over, with what is left by the one before it.

abbrev closed : Bool → Stretch → Option ℕ
closed d s = met_in (one_stretch s) d

abbrev leaves : Bool → Stretch → Bool
leaves d s = left_by (one_stretch s) d

abbrev walk : Bool → Stretch → List CellDeed → Option (Option ℕ)
walk d s [] = or_else (closed d s) (end_met (leaves d s))
walk d s (Fence ∷ deeds) = or_else (closed d s) (walk (leaves d s) no_access deeds)
walk d s (Act place reads writes ∷ deeds) = walk d (stretched s (one_access place reads writes)) deeds

abbrev read : Bool → Stretch → Digest → Option (Option ℕ)
read d s (Open y) = or_else (closed d (stretched s y)) (end_met (leaves d (stretched s y)))
read d s (Parted h c t) = or_else (closed d (stretched s h)) (or_else (met_in c (leaves d (stretched s h))) (or_else (closed (left_by c (leaves d (stretched s h))) t) (end_met (leaves (left_by c (leaves d (stretched s h))) t))))

else_assoc : (a b : Option ℕ) (rest : Option (Option ℕ)) → or_else (option_or a b) rest ≡ or_else a (or_else b rest)
else_assoc None b rest = refl
else_assoc (Some a) b rest = refl

read_act : (d : Bool) (s a : Stretch) (g : Digest) → read d s (joined (Open a) g) ≡ read d (stretched s a) g
read_act d s a (Open y) = ap (λ (s : Stretch). or_else (closed d s) (end_met (leaves d s))) (sym (stretched_assoc s a y))
read_act d s a (Parted h c t) = ap (λ (s : Stretch). or_else (closed d s) (or_else (met_in c (leaves d s)) (or_else (closed (left_by c (leaves d s)) t) (end_met (leaves (left_by c (leaves d s)) t))))) (sym (stretched_assoc s a h))

read_fence : (d : Bool) (s : Stretch) (g : Digest) → read d s (joined (deed_digest Fence) g) ≡ or_else (closed d s) (read (leaves d s) no_access g)
read_fence d s (Open y) = ap (λ (s : Stretch). or_else (closed d s) (or_else (met_in no_stretch (leaves d s)) (or_else (closed (leaves d s) (stretched no_access y)) (end_met (leaves (leaves d s) (stretched no_access y)))))) (stretched_right s) ∙ none (leaves d s)
  where
    none : (b : Bool) → or_else (closed d s) (or_else (met_in no_stretch b) (or_else (closed (leaves d s) (stretched no_access y)) (end_met (leaves (leaves d s) (stretched no_access y))))) ≡ or_else (closed d s) (or_else (closed (leaves d s) (stretched no_access y)) (end_met (leaves (leaves d s) (stretched no_access y))))
    none true = refl
    none false = refl
read_fence d s (Parted h c t) =
    ap (λ (s : Stretch). or_else (closed d s) (on (followed (followed no_stretch first) c) (leaves d s))) (stretched_right s)
    ∙ (ap (λ (k : Course). or_else (closed d s) (on (followed k c) (leaves d s))) (followed_left first)
    ∙ ap (or_else (closed d s)) (parted (leaves d s)))
  where
    first : Course
    first = one_stretch (stretched no_access h)

    on : Course → Bool → Option (Option ℕ)
    on k b = or_else (met_in k b) (or_else (closed (left_by k b) t) (end_met (leaves (left_by k b) t)))

    parted : (b : Bool) → on (followed first c) b ≡ or_else (met_in first b) (on c (left_by first b))
    parted b =
        ap₂ (λ (o : Option ℕ) (l : Bool). or_else o (or_else (closed l t) (end_met (leaves l t)))) (met_followed first c b) (left_followed first c b)
        ∙ else_assoc (met_in first b) (met_in c (left_by first b)) (or_else (closed (left_by c (left_by first b)) t) (end_met (leaves (left_by c (left_by first b)) t)))

read_walk : (d : Bool) (s : Stretch) (deeds : List CellDeed) → read d s (digest_of deeds) ≡ walk d s deeds
read_walk d s [] = ap (λ (s : Stretch). or_else (closed d s) (end_met (leaves d s))) (stretched_right s)
read_walk d s (Fence ∷ deeds) = read_fence d s (digest_of deeds) ∙ ap (or_else (closed d s)) (read_walk (leaves d s) no_access deeds)
read_walk d s (Act place reads writes ∷ deeds) = read_act d s (one_access place reads writes) (digest_of deeds) ∙ read_walk d (stretched s (one_access place reads writes)) deeds

least_read : (g : Digest) → least_reader g ≡ read false no_access g
least_read (Open y) = ap (λ (s : Stretch). or_else (closed false s) (end_met (leaves false s))) (sym (stretched_left y))
least_read (Parted h c t) =
    ap₂ (λ (o : Option ℕ) (b : Bool). or_else o (end_met b)) (met_followed (followed (one_stretch h) c) (one_stretch t) false ∙ ap₂ (λ (o : Option ℕ) (b : Bool). option_or o (met_in (one_stretch t) b)) (met_followed (one_stretch h) c false) (left_followed (one_stretch h) c false)) (left_followed (followed (one_stretch h) c) (one_stretch t) false ∙ ap (left_by (one_stretch t)) (left_followed (one_stretch h) c false))
    ∙ (else_assoc (option_or (met_in (one_stretch h) false) (met_in c (leaves false h))) (closed (left_by c (leaves false h)) t) (end_met (leaves (left_by c (leaves false h)) t))
    ∙ (else_assoc (closed false h) (met_in c (leaves false h)) (or_else (closed (left_by c (leaves false h)) t) (end_met (leaves (left_by c (leaves false h)) t)))
    ∙ ap (λ (s : Stretch). or_else (closed false s) (or_else (met_in c (leaves false s)) (or_else (closed (left_by c (leaves false s)) t) (end_met (leaves (left_by c (leaves false s)) t))))) (sym (stretched_left h))))

-- The walk over stretches, and that over accesses.

abbrev reader : Option Meeting → Option (Option ℕ)
reader = option_map (λ (m : Meeting). m.reader)

-- whether the next writer stands behind the same barriers
abbrev ahead : ℕ → Option Access → Bool
ahead e None = false
ahead e (Some w) = w.epoch == e

-- What the kept writers are, beside the stretch that is not over, behind e barriers and before step m.
data Kept (d : Bool) (s : Stretch) (e m : ℕ) : Option Past → Type 0 where
  Never : s.writes ≡ false → s.many ≡ false → d ≡ false → Kept d s e m None
  Before : (p : Past) → s.writes ≡ false → s.many ≡ false → p.epoch < e → not (p.first == p.last) ≡ d → p.first ≤ p.last → p.last < m → Kept d s e m (Some p)
  Within : (p : Past) → s.writes ≡ true → p.epoch ≡ e → not (p.first == p.last) ≡ s.many → p.first ≤ p.last → p.last < m → Kept d s e m (Some p)

none_ahead : (e f : ℕ) (deeds : List CellDeed) → e < f → ahead e (next_writer (story_of f deeds)) ≡ false
none_ahead e f [] l = refl
none_ahead e f (Fence ∷ deeds) l = none_ahead e (suc f) deeds (omega arith)
none_ahead e f (Act place reads true ∷ deeds) l = ne_eqb f e (λ same. omega (arith, same))
none_ahead e f (Act place reads false ∷ deeds) l = none_ahead e f deeds l

any_step : (d : Bool) → (d || false) ≡ d
any_step true = refl
any_step false = refl

left_from : (d : Bool) (s : Stretch) (w : Bool) → s.writes ≡ w → leaves d s ≡ (if w then s.many else d)
left_from d s true h = ap (λ (b : Bool). left_by (record { calm = None; alarmed = None; leaves = if b then Some s.many else None }) d) h
left_from d s false h = ap (λ (b : Bool). left_by (record { calm = None; alarmed = None; leaves = if b then Some s.many else None }) d) h

at_last : (d : Bool) (s : Stretch) (e m : ℕ) (past : Option Past) → Kept d s e m past → end_met (leaves d s) ≡ reader (option_map (λ j. record { reader = None; writer = j }) (at_end past))
at_last d s e m _ (Never w many calm) = ap end_met (left_from d s false w ∙ calm)
at_last d s e m _ (Before p w many old single l below) = ap end_met (left_from d s false w ∙ sym single) ∙ ends (p.first == p.last)
  where
    ends : (b : Bool) → end_met (not b) ≡ reader (option_map (λ j. record { reader = None; writer = j }) (if b then None else Some p.first))
    ends true = refl
    ends false = refl
at_last d s e m _ (Within p w here single l below) = ap end_met (left_from d s true w ∙ sym single) ∙ ends (p.first == p.last)
  where
    ends : (b : Bool) → end_met (not b) ≡ reader (option_map (λ j. record { reader = None; writer = j }) (if b then None else Some p.first))
    ends true = refl
    ends false = refl

behind_fence : (d : Bool) (s : Stretch) (e m : ℕ) (past : Option Past) → Kept d s e m past → Kept (leaves d s) no_access (suc e) m past
behind_fence d s e m _ (Never w many calm) = Never refl refl (left_from d s false w ∙ calm)
behind_fence d s e m _ (Before p w many old single l below) = Before p refl refl (omega arith) (single ∙ sym (left_from d s false w)) l below
behind_fence d s e m _ (Within p w here single l below) = Before p refl refl (omega (arith, here)) (single ∙ sym (left_from d s true w)) l below

-- whether some writer is to be met at an access
met_at : (d : Bool) (s : Stretch) (e m : ℕ) (past : Option Past) (a : Access) (next : Option Access) → a.epoch ≡ e → Kept d s e m past → is_some (writer_for past a next) ≡ (s.writes || (d || ahead e next))
met_at d s e m past a next at kept = by_kept past kept
  where
    some_if : (b : Bool) (x : ℕ) → is_some (if b then Some x else None) ≡ b
    some_if true x = refl
    some_if false x = refl

    met_later : (next : Option Access) → is_some (later a next) ≡ ahead e next
    met_later None = refl
    met_later (Some w) = some_if (w.epoch == a.epoch) w.place ∙ ap (λ (x : ℕ). w.epoch == x) at

    by_kept : (past : Option Past) → Kept d s e m past → is_some (writer_for past a next) ≡ (s.writes || (d || ahead e next))
    by_kept _ (Never w many calm) = met_later next ∙ ap₂ (λ (b c : Bool). b || (c || ahead e next)) (sym w) (sym calm)
    by_kept _ (Before p w many old single l below) = by_single (not (p.first == p.last)) single ∙ ap (λ (b : Bool). b || (d || ahead e next)) (sym w)
      where
        other : (p.epoch == a.epoch) ≡ false
        other = ne_eqb p.epoch a.epoch (λ same. omega (arith, same, at, old))

        by_single : (b : Bool) → b ≡ d → is_some (if b then Some p.first else (if p.epoch == a.epoch then Some p.last else later a next)) ≡ (d || ahead e next)
        by_single true same = ap (λ (c : Bool). c || ahead e next) same
        by_single false same = ap (λ (c : Bool). is_some (if c then Some p.last else later a next)) other ∙ (met_later next ∙ ap (λ (c : Bool). c || ahead e next) same)
    by_kept _ (Within p w here single l below) = by_single (not (p.first == p.last)) ∙ ap (λ (b : Bool). b || (d || ahead e next)) (sym w)
      where
        same : (p.epoch == a.epoch) ≡ true
        same = eq-eqb p.epoch a.epoch (here ∙ sym at)

        by_single : (b : Bool) → is_some (if b then Some p.first else (if p.epoch == a.epoch then Some p.last else later a next)) ≡ true
        by_single true = refl
        by_single false = ap (λ (c : Bool). is_some (if c then Some p.last else later a next)) same

-- the kept writers behind an access
kept_on : (d : Bool) (s : Stretch) (e m : ℕ) (past : Option Past) (a : Access) → a.epoch ≡ e → m ≤ a.place → Kept d s e m past → Kept d (stretched s (one_access a.place a.reads a.writes)) e (suc a.place) (after past a)
kept_on d s e m past a at behind kept = by_writes a.writes past kept
  where
    all_false : s.writes ≡ false → s.many ≡ false → (s.many || (false || (s.writes && false))) ≡ false
    all_false w many = ap₂ (λ (x y : Bool). x || (false || (y && false))) many w

    one_false : s.writes ≡ false → s.many ≡ false → (s.many || (false || (s.writes && true))) ≡ false
    one_false w many = ap₂ (λ (x y : Bool). x || (false || (y && true))) many w

    both_true : s.writes ≡ true → (s.many || (false || (s.writes && true))) ≡ true
    both_true w = ap (λ (y : Bool). s.many || (false || (y && true))) w ∙ or_true s.many
      where
        or_true : (b : Bool) → (b || true) ≡ true
        or_true true = refl
        or_true false = refl

    as_many : s.writes ≡ true → (s.many || (false || (s.writes && false))) ≡ s.many
    as_many w = ap (λ (y : Bool). s.many || (false || (y && false))) w ∙ any_false s.many

    itself : not (a.place == a.place) ≡ false
    itself = ap not (eq-eqb a.place a.place refl)

    by_writes : (b : Bool) (past : Option Past) → Kept d s e m past → Kept d (stretched s (one_access a.place a.reads b)) e (suc a.place) (if b then Some (record { last = a.place; first = first_of past a; epoch = a.epoch }) else past)
    by_writes false _ (Never w many calm) = Never (ap (λ (y : Bool). y || false) w) (all_false w many) calm
    by_writes false _ (Before p w many old single l below) = Before p (ap (λ (y : Bool). y || false) w) (all_false w many) old single l (omega (arith, behind))
    by_writes false _ (Within p w here single l below) = Within p (ap (λ (y : Bool). y || false) w) here (single ∙ sym (as_many w)) l (omega (arith, behind))
    by_writes true _ (Never w many calm) = Within (record { last = a.place; first = a.place; epoch = a.epoch }) (ap (λ (y : Bool). y || true) w) at (itself ∙ sym (one_false w many)) (omega arith) (omega arith)
    by_writes true _ (Before p w many old single l below) = by_epoch (p.epoch == a.epoch) (ne_eqb p.epoch a.epoch (λ same. omega (arith, same, at, old)))
      where
        by_epoch : (c : Bool) → c ≡ false → Kept d (stretched s (one_access a.place a.reads true)) e (suc a.place) (Some (record { last = a.place; first = if c then p.first else a.place; epoch = a.epoch }))
        by_epoch true other = absurd (true≢false other)
        by_epoch false other = Within (record { last = a.place; first = a.place; epoch = a.epoch }) (ap (λ (y : Bool). y || true) w) at (itself ∙ sym (one_false w many)) (omega arith) (omega arith)
    by_writes true _ (Within p w here single l below) = by_epoch (p.epoch == a.epoch) (eq-eqb p.epoch a.epoch (here ∙ sym at))
      where
        by_epoch : (c : Bool) → c ≡ true → Kept d (stretched s (one_access a.place a.reads true)) e (suc a.place) (Some (record { last = a.place; first = if c then p.first else a.place; epoch = a.epoch }))
        by_epoch false same = absurd (true≢false (sym same))
        by_epoch true same = Within (record { last = a.place; first = p.first; epoch = a.epoch }) (ap (λ (y : Bool). y || true) w) at (ap not (ne_eqb p.first a.place (λ same. omega (arith, same, l, below, behind))) ∙ sym (both_true w)) (omega (arith, l, below, behind)) (omega arith)

-- one access more
step_reads : (d ahead_ writes any reads : Bool) (f g : Option ℕ) (place : ℕ) (rest : Option (Option ℕ))
    → or_else (if d || ahead_ then option_or f (if reads then Some place else None) else option_or (if writes then f else g) (if any then (if reads then Some place else None) else None)) rest
    ≡ or_else (if d || (if writes then true else ahead_) then f else g) (or_else (if reads && (any || (d || ahead_)) then Some place else None) rest)
step_reads true a w true true f g k rest = else_assoc f (Some k) rest
step_reads true a w false true f g k rest = else_assoc f (Some k) rest
step_reads true a w any false f g k rest = else_assoc f None rest
step_reads false true true true true f g k rest = else_assoc f (Some k) rest
step_reads false true true false true f g k rest = else_assoc f (Some k) rest
step_reads false true true any false f g k rest = else_assoc f None rest
step_reads false true false true true f g k rest = else_assoc f (Some k) rest
step_reads false true false false true f g k rest = else_assoc f (Some k) rest
step_reads false true false any false f g k rest = else_assoc f None rest
step_reads false false true true true f g k rest = else_assoc f (Some k) rest
step_reads false false true false true f g k rest = else_assoc f None rest
step_reads false false true true false f g k rest = else_assoc f None rest
step_reads false false true false false f g k rest = else_assoc f None rest
step_reads false false false true true f g k rest = else_assoc g (Some k) rest
step_reads false false false false true f g k rest = else_assoc g None rest
step_reads false false false true false f g k rest = else_assoc g None rest
step_reads false false false false false f g k rest = else_assoc g None rest

reader_or : (place : ℕ) (o : Option ℕ) (rest : Option Meeting) → reader (or_on place o rest) ≡ or_else (if is_some o then Some place else None) (reader rest)
reader_or place None rest = refl
reader_or place (Some j) rest = refl

some_and : (b : Bool) (o : Option ℕ) → is_some (if b then o else None) ≡ (b && is_some o)
some_and true o = refl
some_and false o = refl

nothing_met : (b : Bool) (rest : Option (Option ℕ)) → or_else (if b then None else None) rest ≡ rest
nothing_met true rest = refl
nothing_met false rest = refl

walked : (d : Bool) (s : Stretch) (e m : ℕ) (past : Option Past) (deeds : List CellDeed) → Kept d s e m past → Rises m (story_of e deeds)
    → walk d s deeds ≡ or_else (if d || ahead e (next_writer (story_of e deeds)) then s.first else s.met) (reader (clash_from past (story_of e deeds)))
walked d s e m past [] kept rises = ap₂ (λ (b : Bool) (rest : Option (Option ℕ)). or_else (if b then s.first else s.met) rest) (sym (any_step d)) (at_last d s e m past kept)
walked d s e m past (Fence ∷ deeds) kept rises =
    ap (or_else (closed d s)) (walked (leaves d s) no_access (suc e) m past deeds (behind_fence d s e m past kept) rises ∙ nothing_met (leaves d s || ahead (suc e) (next_writer (story_of (suc e) deeds))) (reader (clash_from past (story_of (suc e) deeds))))
    ∙ ap (λ (b : Bool). or_else (if b then s.first else s.met) (reader (clash_from past (story_of (suc e) deeds)))) (sym (any_step d) ∙ ap (λ (b : Bool). d || b) (sym (none_ahead e (suc e) deeds (omega arith))))
walked d s e m past (Act place reads writes ∷ deeds) kept rises =
    walked d (stretched s (one_access place reads writes)) e (suc place) (after past a) deeds (kept_on d s e m past a refl rises.0 kept) rises.1
    ∙ (step_reads d next writes s.writes reads s.first s.met place (reader rest)
    ∙ ap₂ (λ (b c : Bool). or_else (if d || b then s.first else s.met) (or_else (if c then Some place else None) (reader rest))) (sym (here writes)) (sym met)
    ∙ ap (or_else (if d || ahead e (next_writer (a ∷ story)) then s.first else s.met)) (sym (reader_or place (if reads then writer_for past a (next_writer story) else None) rest)))
  where
    story : List Access
    story = story_of e deeds

    a : Access
    a = record { place = place; reads = reads; writes = writes; epoch = e }

    next : Bool
    next = ahead e (next_writer story)

    rest : Option Meeting
    rest = clash_from (after past a) story

    here : (w : Bool) → ahead e (if w then Some (record { place = place; reads = reads; writes = writes; epoch = e }) else next_writer story) ≡ (if w then true else next)
    here true = eq-eqb e e refl
    here false = refl

    met : is_some (if reads then writer_for past a (next_writer story) else None) ≡ (reads && (s.writes || (d || next)))
    met = some_and reads (writer_for past a (next_writer story)) ∙ ap (λ (b : Bool). reads && b) (met_at d s e m past a (next_writer story) refl kept)

-- What the deeds on a segment tell is the reader of its least clash.
pub reader_right : (n : ℕ) (events : List SegmentEvent) → Rises 0 (story_at n 0 events) → least_reader (digest_at n (map Run events)) ≡ option_map (λ (m : Meeting). m.reader) (clash_from None (story_at n 0 events))
reader_right n events rises =
    ap least_reader (digest_deeds n events)
    ∙ (least_read (digest_of (deeds_at n events))
    ∙ (read_walk false no_access (deeds_at n events)
    ∙ (walked false no_access 0 0 None (deeds_at n events) (Never refl refl refl) (subst (Rises 0) (story_deeds n 0 events) rises)
    ∙ (nothing_met (ahead 0 (next_writer (story_of 0 (deeds_at n events)))) (reader (clash_from None (story_of 0 (deeds_at n events))))
    ∙ ap (λ (story : List Access). option_map (λ (m : Meeting). m.reader) (clash_from None story)) (sym (story_deeds n 0 events))))))

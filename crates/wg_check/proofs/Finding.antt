-- The least reader over digests, with the writer that it meets, is the least clash.
use Rattle.std.proofs.Common.{◌≡◌, ℕ, zero, suc, ◌-◌, ◌≤◌, List, [], ◌∷◌, map, Bool, true, false, Option, Some, None, refl, ap, ap₂, sym, ◌∙◌, arith, if◌then◌else◌, subst}
use Rattle.std.specs.Option.{option_map}
use Rattle.std.proofs.lemmas.Bool.{eq-eqb, ne_eqb}
use Rattle.wg_check.specs.declared.stories.Access.{Access}
use Rattle.wg_check.specs.declared.stories.Past.{Past}
use Rattle.wg_check.specs.declared.ends.SegmentEvent.{SegmentEvent}
use Rattle.wg_check.specs.declared.segments.Spotted.{Spotted}
use Rattle.wg_check.specs.Stories.{Meeting, next_writer, after, writer_for, at_end, or_on, clash_from, is_step, writer_met}
use Rattle.wg_check.specs.Segments.{story_at, Rises, earlier, at_segment, better, clash_at, clash_among}
use Rattle.wg_check.specs.Digests.{Digest, SegmentEntry, Run, FoundClash, told, least_reader, found_here, first_found, found_among, with_writer}
use Rattle.wg_check.proofs.Halves.{digest_is}
use Rattle.wg_check.proofs.Reading.{reader_right}
use Rattle.wg_check.proofs.Laws.{AmongIs, among_is}

-- The writer that the least reader meets.

abbrev Behind : ℕ → Option ℕ → Type 0
Behind n None = Unit {0}
Behind n (Some k) = n ≤ k

behind_more : (n m : ℕ) (reader : Option ℕ) → m ≤ n → Behind n reader → Behind m reader
behind_more n m None l b = tt
behind_more n m (Some k) l b = omega (arith, l, b)

reader_behind : (past : Option Past) (n : ℕ) (story : List Access) (m : Meeting) → Rises n story → clash_from past story ≡ Some m → Behind n m.reader
reader_behind past n [] m rises e = by_end (at_end past) e
  where
    by_end : (o : Option ℕ) → option_map (λ j. record { reader = None; writer = j }) o ≡ Some m → Behind n m.reader
    by_end None e = absurd (cc)
    by_end (Some j) e = let same : None ≡ m.reader = cc in subst (Behind n) same tt
reader_behind past n (a ∷ story) m rises e = by_writer (if a.reads then writer_for past a (next_writer story) else None) e (reader_behind (after past a) (suc a.place) story m rises.1)
  where
    by_writer : (o : Option ℕ) → or_on a.place o (clash_from (after past a) story) ≡ Some m → (clash_from (after past a) story ≡ Some m → Behind (suc a.place) m.reader) → Behind n m.reader
    by_writer None e rest = behind_more (suc a.place) n m.reader (omega (arith, rises.0)) (rest e)
    by_writer (Some j) e rest = let same : Some a.place ≡ m.reader = cc in subst (Behind n) same rises.0

not_step : (place : ℕ) (reader : Option ℕ) → Behind (suc place) reader → is_step reader place ≡ false
not_step place None b = refl
not_step place (Some k) b = ne_eqb k place (λ same. omega (arith, same, b))

met_writer : (past : Option Past) (n : ℕ) (story : List Access) (m : Meeting) → Rises n story → clash_from past story ≡ Some m → writer_met past m.reader story ≡ Some m.writer
met_writer past n [] m rises e = by_end (at_end past) e
  where
    by_end : (o : Option ℕ) → option_map (λ j. record { reader = None; writer = j }) o ≡ Some m → o ≡ Some m.writer
    by_end None e = absurd (cc)
    by_end (Some j) e = let same : j ≡ m.writer = cc in ap Some same
met_writer past n (a ∷ story) m rises e = by_reads a.reads e (met_writer (after past a) (suc a.place) story m rises.1) (reader_behind (after past a) (suc a.place) story m rises.1)
  where
    on : Bool → Option ℕ
    on b = if b then writer_for past a (next_writer story) else writer_met (after past a) m.reader story

    here : (j : ℕ) → writer_for past a (next_writer story) ≡ Some j → Some (record { reader = Some a.place; writer = j }) ≡ Some m → on (is_step m.reader a.place) ≡ Some m.writer
    here j w e =
        let reader : Some a.place ≡ m.reader = cc in
        let writer : j ≡ m.writer = cc in
        ap on (ap (λ (o : Option ℕ). is_step o a.place) (sym reader) ∙ eq-eqb a.place a.place refl) ∙ (w ∙ ap Some writer)

    further : (clash_from (after past a) story ≡ Some m → writer_met (after past a) m.reader story ≡ Some m.writer) → (clash_from (after past a) story ≡ Some m → Behind (suc a.place) m.reader) → clash_from (after past a) story ≡ Some m → on (is_step m.reader a.place) ≡ Some m.writer
    further rest behind e = ap on (not_step a.place m.reader (behind e)) ∙ rest e

    by_reads : (b : Bool) → or_on a.place (if b then writer_for past a (next_writer story) else None) (clash_from (after past a) story) ≡ Some m → (clash_from (after past a) story ≡ Some m → writer_met (after past a) m.reader story ≡ Some m.writer) → (clash_from (after past a) story ≡ Some m → Behind (suc a.place) m.reader) → on (is_step m.reader a.place) ≡ Some m.writer
    by_reads false e rest behind = further rest behind e
    by_reads true e rest behind = by_writer (writer_for past a (next_writer story)) refl e
      where
        by_writer : (o : Option ℕ) → writer_for past a (next_writer story) ≡ o → or_on a.place o (clash_from (after past a) story) ≡ Some m → on (is_step m.reader a.place) ≡ Some m.writer
        by_writer None w e = further rest behind e
        by_writer (Some j) w e = here j w e

-- The least reader.

abbrev seen : Option Spotted → Option FoundClash
seen None = None
seen (Some s) = Some (record { reader = s.reader; segment = s.segment })

seen_here : (n : ℕ) (o : Option Meeting) → found_here n (option_map (λ (m : Meeting). m.reader) o) ≡ seen (at_segment n o)
seen_here n None = refl
seen_here n (Some m) = refl

seen_better : (a b : Option Spotted) → first_found (seen a) (seen b) ≡ seen (better a b)
seen_better None b = refl
seen_better (Some a) None = refl
seen_better (Some a) (Some b) = by_first (earlier b.reader a.reader)
  where
    by_first : (t : Bool) → (if t then seen (Some b) else seen (Some a)) ≡ seen (if t then Some b else Some a)
    by_first true = refl
    by_first false = refl

seen_among : (events : List SegmentEvent) (lo n : ℕ) → ((m : ℕ) → Rises 0 (story_at m 0 events)) → found_among (map Run events) lo n ≡ seen (clash_among events lo n)
seen_among events lo zero rises = refl
seen_among events lo (suc n) rises =
    ap₂ first_found (ap (λ (d : Digest). found_here lo (least_reader d)) (digest_is lo (map Run events)) ∙ (ap (found_here lo) (reader_right lo events (rises lo)) ∙ seen_here lo (clash_from None (story_at lo 0 events)))) (seen_among events (suc lo) n rises)
    ∙ seen_better (clash_at events lo) (clash_among events (suc lo) n)

pub clash_told : (events : List SegmentEvent) (n : ℕ) → ((m : ℕ) → Rises 0 (story_at m 0 events)) → told events (found_among (map Run events) 0 n) ≡ clash_among events 0 n
clash_told events n rises = ap (told events) (seen_among events 0 n rises) ∙ by_found (clash_among events 0 n) (among_is events 0 n)
  where
    by_found : (found : Option Spotted) → AmongIs events 0 n found → told events (seen found) ≡ found
    by_found None is = refl
    by_found (Some s) is = by_clash (clash_from None (story_at s.segment 0 events)) refl is.is
      where
        by_clash : (o : Option Meeting) → clash_from None (story_at s.segment 0 events) ≡ o → at_segment s.segment o ≡ Some s → with_writer (record { reader = s.reader; segment = s.segment }) (writer_met None s.reader (story_at s.segment 0 events)) ≡ Some s
        by_clash None e h = absurd (cc)
        by_clash (Some m) e h =
            let same : record { reader = m.reader; segment = s.segment; writer = m.writer } ≡ s = cc in
            let reader : m.reader ≡ s.reader = ap (λ (s : Spotted). s.reader) same in
            let writer : m.writer ≡ s.writer = ap (λ (s : Spotted). s.writer) same in
            ap (with_writer (record { reader = s.reader; segment = s.segment })) (ap (λ (r : Option ℕ). writer_met None r (story_at s.segment 0 events)) (sym reader) ∙ (met_writer None 0 (story_at s.segment 0 events) m (rises s.segment) e ∙ ap Some writer))

pub clash_found : (events : List SegmentEvent) (entries : List SegmentEntry) (n : ℕ) (found : Option FoundClash) (clash : Option Spotted) → ((m : ℕ) → Rises 0 (story_at m 0 events)) → entries ≡ map Run events → found ≡ found_among entries 0 (n - 0) → clash ≡ told events found → clash ≡ clash_among events 0 n
clash_found events entries n found clash rises same is tells =
    let all : n - 0 ≡ n = omega arith in
    tells ∙ (ap (told events) (is ∙ (ap₂ (λ (es : List SegmentEntry) (m : ℕ). found_among es 0 m) same all)) ∙ clash_told events n rises)

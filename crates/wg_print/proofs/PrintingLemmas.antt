-- How texts that are put one after another make one.
use Rattle.std.proofs.Common.{◌≡◌, ℕ, ◌+◌, ◌-◌, ◌<◌, ◌≤◌, List, [], ◌∷◌, ◌++◌, length, take, drop, get_or, Bool, true, false, true≢false, arith, sym, ◌∙◌, ap, refl, append_assoc, append-nil, Option, Some, None, Result, Ok, Err, IsErr, OnOk, OnErr}
use Rattle.std.specs.List.{flat_map}
use Rattle.std.proofs.lemmas.Grind.{flat_map-append}
use Rattle.std.specs.Io.KnownBytes.{Appends, Keeps}
use Rattle.std.proofs.lemmas.List.{take-append-drop, take_rest, take_more}
use Rattle.std.proofs.Math.Seq.{take-add}
use Rattle.wg_io.specs.Causes.{Rose}
use Rattle.wg_print.specs.Printing.{Printer, Adds, Stops, Puts, TakesPart, Written, IsFresh}

pub appends_none : (a : Option (List ℕ)) → Appends a a []
appends_none None = tt
appends_none (Some xs) = sym (append-nil xs)

pub appends-append : (a b c : Option (List ℕ)) (xs ys : List ℕ) → Appends a b xs → Appends b c ys → Appends a c (xs ++ ys)
appends-append None b c xs ys h k = tt
appends-append (Some a) None c xs ys h k = absurd h
appends-append (Some a) (Some b) None xs ys h k = absurd k
appends-append (Some a) (Some b) (Some c) xs ys h k = k ∙ rw h (append_assoc a xs ys)

-- nothing is put
pub puts_none : (a : Printer) → Puts a a []
puts_none a = record {
  later = omega arith;
  ok = λ live. record { part = []; taken = appends_none a.taken; whole = append-nil a.held; later = omega arith; live = live };
  stopped = λ x y. absurd (true≢false (sym x ∙ y));
  dead = λ x. (x, appends_none a.taken);
}

-- text after text, of which the first part went through
joined : (a b : List ℕ) (x y part rest : List ℕ) → a ++ x ≡ part ++ b → (more : List ℕ) → b ++ y ≡ more ++ rest → a ++ (x ++ y) ≡ (part ++ more) ++ rest
joined a b x y part rest h more k =
    sym (append_assoc a x y) ∙ ap (λ t. t ++ y) h ∙ append_assoc part b y ∙ ap (λ t. part ++ t) k ∙ sym (append_assoc part more rest)

pub adds_then : (a b c : Printer) (x y : List ℕ) → Adds a b x → Adds b c y → Adds a c (x ++ y)
adds_then a b c x y h k = record {
  part = h.part ++ k.part;
  taken = appends-append a.taken b.taken c.taken h.part k.part h.taken k.taken;
  whole = joined a.held b.held x y h.part c.held h.whole k.part k.whole;
  later = omega (arith, h.later, k.later);
  live = k.live;
}

pub stops_then : (a b c : Printer) (x y : List ℕ) → Adds a b x → Stops b c y → Stops a c (x ++ y)
stops_then a b c x y h k = record {
  part = record {
    part = h.part ++ k.part.part;
    rest = k.part.rest;
    taken = appends-append a.taken b.taken c.taken h.part k.part.part h.taken k.part.taken;
    whole = joined a.held b.held x y h.part k.part.rest h.whole k.part.part k.part.whole;
  };
  later = omega (arith, h.later, k.later);
  rose = omega (arith, h.later, k.rose);
}

-- a failure within a text is one within a longer text
pub stops_within : (a b c : Printer) (x y : List ℕ) → b.faults ≤ c.faults → Stops a b x → Appends b.taken c.taken [] → Stops a c (x ++ y)
stops_within a b c x y later h k = record {
  part = record {
    part = h.part.part;
    rest = h.part.rest ++ y;
    taken = rw append-nil at (appends-append a.taken b.taken c.taken h.part.part [] h.part.taken k);
    whole = sym (append_assoc a.held x y) ∙ ap (λ t. t ++ y) h.part.whole ∙ append_assoc h.part.part h.part.rest y;
  };
  later = omega (arith, h.later);
  rose = omega (arith, h.rose);
}

puts_ok : (a b c : Printer) (x y : List ℕ) → Puts a b x → Puts b c y → c.failed ≡ false → (f : Bool) → b.failed ≡ f → Adds a c (x ++ y)
puts_ok a b c x y h k fine false is = adds_then a b c x y (h.ok is) (k.ok fine)
puts_ok a b c x y h k fine true is = absurd (true≢false (sym (k.dead is).0 ∙ fine))

puts_stopped : (a b c : Printer) (x y : List ℕ) → Puts a b x → Puts b c y → c.failed ≡ true → a.failed ≡ false → (f : Bool) → b.failed ≡ f → Stops a c (x ++ y)
puts_stopped a b c x y h k bad fine false is = stops_then a b c x y (h.ok is) (k.stopped bad is)
puts_stopped a b c x y h k bad fine true is = stops_within a b c x y k.later (h.stopped is fine) (k.dead is).1

-- one text after another
pub puts_then : (a b c : Printer) (x y : List ℕ) → Puts a b x → Puts b c y → Puts a c (x ++ y)
puts_then a b c x y h k = record {
  later = omega (arith, h.later, k.later);
  ok = λ fine. puts_ok a b c x y h k fine b.failed refl;
  stopped = λ bad fine. puts_stopped a b c x y h k bad fine b.failed refl;
  dead = λ dead.
      let middle = h.dead dead in
      let last = k.dead middle.0 in
      (last.0, rw append-nil at (appends-append a.taken b.taken c.taken [] [] middle.1 last.1));
}

-- one more byte of a text
pub puts_next : (a b c : Printer) (text : List ℕ) (i : ℕ) → i < length text → Puts a b (take i text) → Puts b c (get_or text i 0 ∷ []) → Puts a c (take (i + 1) text)
puts_next a b c text i h p q = rw (take_more text i 0 h) (puts_then a b c (take i text) (get_or text i 0 ∷ []) p q)

pub takes_part : (a b c : Option (List ℕ)) (n : ℕ) (piece : List ℕ) → Appends a b (take n piece) → Keeps b c → TakesPart a c piece
takes_part a b c n piece h k = record {
  part = take n piece;
  rest = drop n piece;
  taken = kept a b c (take n piece) h k;
  whole = sym (take-append-drop n piece);
} where
  kept : (a b c : Option (List ℕ)) (xs : List ℕ) → Appends a b xs → Keeps b c → Appends a c xs
  kept None b c xs h k = tt
  kept (Some x) None c xs h k = absurd h
  kept (Some x) (Some y) None xs h k = absurd k
  kept (Some x) (Some y) (Some z) xs h k = k ∙ h

pub writes_on : (a b c : Option (List ℕ)) (n m : ℕ) (piece : List ℕ) → Appends a b (take n piece) → Appends b c (take m (take (length piece - n) (drop n piece))) → Appends a c (take (n + m) piece)
writes_on a b c n m piece h k =
    rw (take-add n m piece) (appends-append a b c (take n piece) (take m (drop n piece)) h (rw take_rest at k))

-- the same with its printers and texts left to the two facts
infixl 5 ◌⨾◌
pub ◌⨾◌ : {a b c : Printer} {x y : List ℕ} → Puts a b x → Puts b c y → Puts a c (x ++ y)
h ⨾ k = puts_then _ _ _ _ _ h k

-- the same of calls that answered Ok
infixl 5 ◌⨟◌
pub ◌⨟◌ : {a b c : Printer} {x y : List ℕ} → Adds a b x → Adds b c y → Adds a c (x ++ y)
h ⨟ k = adds_then _ _ _ _ _ h k

-- a text that is spelled some other way
pub puts_as : {a c : Printer} {x z : List ℕ} → Puts a c x → x ≡ z → Puts a c z
puts_as h e = rw (← e) h

flat_map-take-more : {X : Type 0} (f : X → List ℕ) (xs : List X) (i : ℕ) (d : X) → i < length xs → flat_map f (take (i + 1) xs) ≡ flat_map f (take i xs) ++ f (get_or xs i d)
flat_map-take-more f xs i d h = rw (take_more xs i d h, flat_map-append f (take i xs) (get_or xs i d ∷ [])) (ap (λ t. flat_map f (take i xs) ++ t) (append-nil (f (get_or xs i d))))

-- one more item of a list
pub puts_item : {X : Type 0} (f : X → List ℕ) (a b c : Printer) (xs : List X) (i : ℕ) (d : X) → i < length xs
    → Puts a b (flat_map f (take i xs)) → Puts b c (f (get_or xs i d)) → Puts a c (flat_map f (take (i + 1) xs))
puts_item f a b c xs i d h p q = rw (flat_map-take-more f xs i d h) (puts_then _ _ _ _ _ p q)

-- what was held is written, and with it the whole text
pub rest_written : {U E : Type 0} (start now : Printer) (text : List ℕ) (new : Option (List ℕ)) (after : ℕ) (r : Result U E) → IsFresh start → Adds start now text
    → now.faults ≤ after → OnOk r (Appends now.taken new now.held) → OnErr r (TakesPart now.taken new now.held) → OnErr r (Rose now.faults after) → Written start.taken new start.faults after text r
rest_written start now text new after (Ok u) fresh a later ok part cause = record {
  later = omega (arith, a.later);
  ok = rw (rw fresh.held at a.whole) (appends-append start.taken now.taken new a.part now.held a.taken ok);
  part = tt;
  cause = tt;
}
rest_written start now text new after (Err e) fresh a later ok part cause = record {
  later = omega (arith, a.later);
  ok = tt;
  part = record {
    part = a.part ++ part.part;
    rest = part.rest;
    taken = appends-append start.taken now.taken new a.part part.part a.taken part.taken;
    whole = rw fresh.held at a.whole ∙ ap (λ t. a.part ++ t) part.whole ∙ sym (append_assoc a.part part.part part.rest);
  };
  cause = omega (arith, a.later);
}

-- a printer that failed has written a part
pub stopped_written : {U E : Type 0} (start now : Printer) (text : List ℕ) (r : Result U E) → IsErr r → IsFresh start → Stops start now text → Written start.taken now.taken start.faults now.faults text r
stopped_written start now text (Ok u) err fresh stops = absurd (true≢false (sym err))
stopped_written start now text (Err e) err fresh stops = record {
  later = stops.later;
  ok = tt;
  part = rw fresh.held at stops.part;
  cause = stops.rose;
}

-- the same, said of the sink as the caller sees it
pub written_at : {W U E : Type 0} (taken : W → Option (List ℕ)) (faults : W → ℕ) (a b a' b' : W) (text : List ℕ) (r : Result U E)
    → Written (taken a) (taken b) (faults a) (faults b) text r → a ≡ a' → b ≡ b' → Written (taken a') (taken b') (faults a') (faults b') text r
written_at taken faults a b a' b' text r w e f = rw (← e, ← f) w

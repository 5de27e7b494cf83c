-- What is known of a device before and after a call of what lies behind it.
use Rattle.std.proofs.Common.{◌≡◌, ◌⊎◌, inl, inr, ℕ, true, false, Option, Some, None, refl, ap, sym, subst, ◌∙◌}
use Rattle.std.specs.Prelude.{is_none}
use Rattle.std.specs.Option.{is_some}
use Rattle.wg_types.specs.declared.commands.CommandOf.{CommandOf}
use Rattle.wg_types.specs.declared.commands.On.{On}
use Rattle.wg_types.specs.declared.requests.RequestOf.{RequestOf}
use Rattle.wg_encoder.specs.Recorders.{RecorderValue}
use Rattle.wg_told.specs.declared.replies.ToldReply.{ToldReply}
use Rattle.wg_c.specs.Inners.{InnerValue, NothingHasChanged}
use Rattle.wg_c.specs.Exports.{Over, IsShut, AsksOpen, Asks, recorder_by, MakesOpen, Makes, Between, AreShut, FinishesOpen, Finishes, TellsLateOpen, TellsLate, Beside, RecordsOpen, Records}

pub is_there : (i : Option InnerValue) → is_none i ≡ false → is_some i ≡ true
is_there None e = cc
is_there (Some x) e = refl

-- a call of a device that was closed
pub over_shut : (old new : Option InnerValue) (closed : Type 0) (opened : InnerValue → InnerValue → Type 0) → old ≡ None → closed → Over old new closed opened
over_shut None new closed opened e c = c
over_shut (Some a) new closed opened e c = cc

-- a call of one that was open, and is open again
pub over_open : (old new : Option InnerValue) (closed : Type 0) (opened : InnerValue → InnerValue → Type 0) (a b : InnerValue)
    → Some a ≡ old → new ≡ Some b → opened a b → Over old new closed opened
over_open None new closed opened a b e f h = cc
over_open (Some c) None closed opened a b e f h = cc
over_open (Some c) (Some d) closed opened a b e f h =
    let p : a ≡ c = cc in let q : b ≡ d = cc in
    subst (λ (y : InnerValue). opened c y) q (subst (λ (x : InnerValue). opened x b) p h)

unchanged : (a : InnerValue) → NothingHasChanged a a
unchanged a = record { setup = refl; desk = record { history = refl; seats = refl }; items = refl; told = refl; settled = refl }

pub asks_shut : (asked : Option (RequestOf ℕ)) (old new : Option InnerValue) (before : ToldReply)
    → old ≡ None → new ≡ None → Asks asked old new before before 3
asks_shut asked old new before e f = over_shut old new (IsShut new before before 3) (AsksOpen asked before before 3) e (refl, f, refl)

pub asks_open : (made asked : Option (RequestOf ℕ)) (old new : Option InnerValue) (before after : ToldReply) (status : ℕ) (a b : InnerValue)
    → Some a ≡ old → new ≡ Some b → AsksOpen made before after status a b → made ≡ asked → Asks asked old new before after status
asks_open made asked old new before after status a b e f h m =
    over_open old new (IsShut new before after status) (AsksOpen asked before after status) a b e f (subst (λ (x : Option (RequestOf ℕ)). AsksOpen x before after status a b) m h)

pub asks_bad : (asked : Option (RequestOf ℕ)) (old new : Option InnerValue) (before : ToldReply) (a : InnerValue)
    → Some a ≡ old → new ≡ Some a → None ≡ asked → Asks asked old new before before 4
asks_bad asked old new before a e f m =
    over_open old new (IsShut new before before 4) (AsksOpen asked before before 4) a a e f (record { because = sym m; same = unchanged a; out = refl })

pub asks_without_memory : (asked : Option (RequestOf ℕ)) (old new : Option InnerValue) (before : ToldReply) (a : InnerValue)
    → Some a ≡ old → new ≡ Some a → Asks asked old new before before 1
asks_without_memory asked old new before a e f =
    over_open old new (IsShut new before before 1) (AsksOpen asked before before 1) a a e f (record { because = tt; same = unchanged a; out = refl })

-- Encoders.

pub is_held : (i : Option RecorderValue) → is_none i ≡ false → is_some i ≡ true
is_held None e = cc
is_held (Some x) e = refl

pub makes_held : (asked : Option (RequestOf ℕ)) (old new : Option InnerValue) (held left : Option RecorderValue) (before : ToldReply) (r : RecorderValue)
    → Some r ≡ held → left ≡ Some r → new ≡ old → Makes asked old new held left before before 7
makes_held asked old new None left before r e f same = cc
makes_held asked old new (Some h) left before r e f same = let p : r ≡ h = cc in (refl, same, f ∙ ap (λ (x : RecorderValue). Some x) p, refl)

by_none : (asked : Option (RequestOf ℕ)) (old new : Option InnerValue) (held left : Option RecorderValue) (before after : ToldReply) (status : ℕ)
    → held ≡ None → Over old new (IsShut new before after status × (left ≡ None)) (MakesOpen asked before after status left) → Makes asked old new held left before after status
by_none asked old new None left before after status e h = h
by_none asked old new (Some r) left before after status e h = cc

pub makes_shut : (asked : Option (RequestOf ℕ)) (old new : Option InnerValue) (held left : Option RecorderValue) (before : ToldReply)
    → held ≡ None → left ≡ None → old ≡ None → new ≡ None → Makes asked old new held left before before 3
makes_shut asked old new held left before none gone e f =
    by_none asked old new held left before before 3 none
    (over_shut old new (IsShut new before before 3 × (left ≡ None)) (MakesOpen asked before before 3 left) e ((refl, f, refl), gone))

pub makes_open : (made asked : Option (RequestOf ℕ)) (old new : Option InnerValue) (held left : Option RecorderValue) (before after : ToldReply) (status : ℕ) (a b : InnerValue)
    → held ≡ None → Some a ≡ old → new ≡ Some b → MakesOpen made before after status left a b → made ≡ asked → Makes asked old new held left before after status
makes_open made asked old new held left before after status a b none e f h m =
    by_none asked old new held left before after status none
    (over_open old new (IsShut new before after status × (left ≡ None)) (MakesOpen asked before after status left) a b e f
    (subst (λ (x : Option (RequestOf ℕ)). MakesOpen x before after status left a b) m h))

by_status : (asked : Option (RequestOf ℕ)) (a : InnerValue) → recorder_by asked a 1 ≡ None
by_status None a = refl
by_status (Some request) a = refl

pub makes_bad : (asked : Option (RequestOf ℕ)) (old new : Option InnerValue) (held left : Option RecorderValue) (before : ToldReply) (a : InnerValue)
    → held ≡ None → left ≡ None → Some a ≡ old → new ≡ Some a → None ≡ asked → Makes asked old new held left before before 4
makes_bad asked old new held left before a none gone e f m =
    let no : recorder_by asked a 4 ≡ None = ap (λ (x : Option (RequestOf ℕ)). recorder_by x a 4) (sym m) in
    by_none asked old new held left before before 4 none
    (over_open old new (IsShut new before before 4 × (left ≡ None)) (MakesOpen asked before before 4 left) a a e f
    (record { because = sym m; same = unchanged a; out = refl }, gone ∙ sym no))

pub makes_without_memory : (asked : Option (RequestOf ℕ)) (old new : Option InnerValue) (held left : Option RecorderValue) (before : ToldReply) (a : InnerValue)
    → held ≡ None → left ≡ None → Some a ≡ old → new ≡ Some a → Makes asked old new held left before before 1
makes_without_memory asked old new held left before a none gone e f =
    by_none asked old new held left before before 1 none
    (over_open old new (IsShut new before before 1 × (left ≡ None)) (MakesOpen asked before before 1 left) a a e f
    (record { because = tt; same = unchanged a; out = refl }, gone ∙ sym (by_status asked a)))

-- a call of a device and an encoder of which one was closed
pub between_shut : (old new : Option InnerValue) (held left : Option RecorderValue) (closed : Type 0) (opened : InnerValue → InnerValue → RecorderValue → RecorderValue → Type 0)
    → (old ≡ None) ⊎ (held ≡ None) → closed → Between old new held left closed opened
between_shut None new held left closed opened e c = c
between_shut (Some a) new None left closed opened e c = c
between_shut (Some a) new (Some r) left closed opened (inl e) c = cc
between_shut (Some a) new (Some r) left closed opened (inr e) c = cc

-- a call of two that were open, and are again
pub between_open : (old new : Option InnerValue) (held left : Option RecorderValue) (closed : Type 0) (opened : InnerValue → InnerValue → RecorderValue → RecorderValue → Type 0)
    (a b : InnerValue) (r s : RecorderValue) → Some a ≡ old → new ≡ Some b → Some r ≡ held → left ≡ Some s → opened a b r s → Between old new held left closed opened
between_open None new held left closed opened a b r s e f g k h = cc
between_open (Some c) new None left closed opened a b r s e f g k h = cc
between_open (Some c) None (Some t) left closed opened a b r s e f g k h = cc
between_open (Some c) (Some d) (Some t) None closed opened a b r s e f g k h = cc
between_open (Some c) (Some d) (Some t) (Some u) closed opened a b r s e f g k h =
    let p : a ≡ c = cc in let q : b ≡ d = cc in let v : r ≡ t = cc in let w : s ≡ u = cc in
    subst (λ (y : RecorderValue). opened c d t y) w (subst (λ (y : RecorderValue). opened c d y s) v (subst (λ (y : InnerValue). opened c y r s) q (subst (λ (x : InnerValue). opened x b r s) p h)))

pub finishes_shut : (old new : Option InnerValue) (held left : Option RecorderValue) (before : ToldReply)
    → (old ≡ None) ⊎ (held ≡ None) → new ≡ old → left ≡ held → Finishes old new held left before before 3
finishes_shut old new held left before shut same kept =
    between_shut old new held left (AreShut old new held left before before 3) (FinishesOpen before before 3) shut (refl, same, kept, refl)

pub finishes_open : (old new : Option InnerValue) (held left : Option RecorderValue) (before after : ToldReply) (status : ℕ) (a b : InnerValue) (r s : RecorderValue)
    → Some a ≡ old → new ≡ Some b → Some r ≡ held → left ≡ Some s → FinishesOpen before after status a b r s → Finishes old new held left before after status
finishes_open old new held left before after status a b r s e f g k h =
    between_open old new held left (AreShut old new held left before after status) (FinishesOpen before after status) a b r s e f g k h

pub lates_shut : (old new : Option InnerValue) (held left : Option RecorderValue) (before : ToldReply)
    → (old ≡ None) ⊎ (held ≡ None) → new ≡ old → left ≡ held → TellsLate old new held left before before 3
lates_shut old new held left before shut same kept =
    between_shut old new held left (AreShut old new held left before before 3) (TellsLateOpen before before 3) shut (refl, same, kept, refl)

pub lates_open : (old new : Option InnerValue) (held left : Option RecorderValue) (before after : ToldReply) (status : ℕ) (a b : InnerValue) (r s : RecorderValue)
    → Some a ≡ old → new ≡ Some b → Some r ≡ held → left ≡ Some s → TellsLateOpen before after status a b r s → TellsLate old new held left before after status
lates_open old new held left before after status a b r s e f g k h =
    between_open old new held left (AreShut old new held left before after status) (TellsLateOpen before after status) a b r s e f g k h

-- Commands.

beside_shut : (device : Option InnerValue) (held left : Option RecorderValue) (closed : Type 0) (opened : InnerValue → RecorderValue → RecorderValue → Type 0)
    → (device ≡ None) ⊎ (held ≡ None) → closed → Beside device held left closed opened
beside_shut None held left closed opened e c = c
beside_shut (Some a) None left closed opened e c = c
beside_shut (Some a) (Some r) left closed opened (inl e) c = cc
beside_shut (Some a) (Some r) left closed opened (inr e) c = cc

beside_open : (device : Option InnerValue) (held left : Option RecorderValue) (closed : Type 0) (opened : InnerValue → RecorderValue → RecorderValue → Type 0)
    (a : InnerValue) (r s : RecorderValue) → Some a ≡ device → Some r ≡ held → left ≡ Some s → opened a r s → Beside device held left closed opened
beside_open None held left closed opened a r s e g k h = cc
beside_open (Some c) None left closed opened a r s e g k h = cc
beside_open (Some c) (Some t) None closed opened a r s e g k h = cc
beside_open (Some c) (Some t) (Some u) closed opened a r s e g k h =
    let p : a ≡ c = cc in let v : r ≡ t = cc in let w : s ≡ u = cc in
    subst (λ (y : RecorderValue). opened c t y) w (subst (λ (y : RecorderValue). opened c y s) v (subst (λ (x : InnerValue). opened x r s) p h))

pub records_shut : (asked : Option (CommandOf ℕ)) (on : On) (device : Option InnerValue) (held left : Option RecorderValue)
    → (device ≡ None) ⊎ (held ≡ None) → left ≡ held → Records asked on device held left 3
records_shut asked on device held left shut same = beside_shut device held left ((3 ≡ 3) × (left ≡ held)) (RecordsOpen asked on 3) shut (refl, same)

pub records_open : (made asked : Option (CommandOf ℕ)) (on : On) (device : Option InnerValue) (held left : Option RecorderValue) (status : ℕ) (a : InnerValue) (r s : RecorderValue)
    → Some a ≡ device → Some r ≡ held → left ≡ Some s → RecordsOpen made on status a r s → made ≡ asked → Records asked on device held left status
records_open made asked on device held left status a r s e g k h m =
    beside_open device held left ((status ≡ 3) × (left ≡ held)) (RecordsOpen asked on status) a r s e g k (subst (λ (x : Option (CommandOf ℕ)). RecordsOpen x on status a r s) m h)

pub records_bad : (asked : Option (CommandOf ℕ)) (on : On) (device : Option InnerValue) (held left : Option RecorderValue) (a : InnerValue) (r : RecorderValue)
    → Some a ≡ device → Some r ≡ held → left ≡ Some r → None ≡ asked → Records asked on device held left 4
records_bad asked on device held left a r e g k m = beside_open device held left ((4 ≡ 3) × (left ≡ held)) (RecordsOpen asked on 4) a r r e g k (sym m, refl)

pub records_without_memory : (asked : Option (CommandOf ℕ)) (on : On) (device : Option InnerValue) (held left : Option RecorderValue) (a : InnerValue) (r : RecorderValue)
    → Some a ≡ device → Some r ≡ held → left ≡ Some r → Records asked on device held left 1
records_without_memory asked on device held left a r e g k = beside_open device held left ((1 ≡ 3) × (left ≡ held)) (RecordsOpen asked on 1) a r r e g k (tt, refl)

-- Entries by field, and what a state says of a lock's log.
use Rattle.std.specs.Prelude.{◌≡◌, ℕ, ◌==◌, List, [], ◌∷◌, ◌++◌, filter, Result, IfOk, IfErr}
use Rattle.wg_entry.specs.declared.Entry.{Entry}
use Rattle.wg_entry.specs.declared.Refused.{Refused}

-- the entry of a caller's number, a call and its reply
abbrev pub entry : {C R : Type 0} → ℕ → C → R → Entry C R
entry n c r = record { who = n; event = c; reply = r }

-- the number of an entry's caller
abbrev pub who_of : {C R : Type 0} → Entry C R → ℕ
who_of e = e.who

-- the entries of one caller
abbrev pub made_by : {E : Type 0} → (E → ℕ) → ℕ → List E → List E
made_by who n log = filter (λ e. who e == n) log

-- the second list begins with the first, and ends with the entry
abbrev pub EndsWith : {A : Type 0} → List A → List A → A → Type 0
EndsWith xs ys e = (between : List _) × (ys ≡ (xs ++ between) ++ e ∷ [])

module _ {S U C R : Type 0} (setup : S → U) (history : S → List (Entry C R)) where
  -- the state x has the setup of the state y, and its history is that of y and then the log
  abbrev pub Stands : S → S → List (Entry C R) → Type 0
  Stands y x log = (setup x ≡ setup y) × (history x ≡ history y ++ log)

  -- the history of the state y and then the log are legal
  abbrev pub Lawful : (U → List (Entry C R) → Type 0) → S → List (Entry C R) → Type 0
  Lawful legal y log = legal (setup y) (history y ++ log)

  -- what a call of a number, answered in this way, makes of the state x; with the answer comes what is to be dropped
  abbrev pub Answers : {L : Type 0} → ℕ → C → S → S → Result (R × L) (Refused C) → Type 0
  Answers n call x y answer = (setup y ≡ setup x) × IfOk answer (λ r. history y ≡ history x ++ entry n call r.0 ∷ [])
      × IfErr answer (λ refused. (history y ≡ history x) × (refused.call ≡ call))

-- The accesses to one cell in the order of the trace, and the least clash among them.
use Rattle.std.specs.Prelude.{ℕ, Bool, false, not, List, [], ◌∷◌, Option, Some, None, ◌==◌, if◌then◌else◌}
use Rattle.std.specs.Option.{option_map}
use Rattle.wg_check.specs.declared.stories.Access.{Access}
use Rattle.wg_check.specs.declared.stories.Past.{Past}

-- A reader, or the end, and a writer that may come between it and what it sees.
pub record Meeting : Type 0 where
  pub reader : Option ℕ
  pub writer : ℕ

-- the next access that writes, if there is one
abbrev pub next_writer : List Access → Option Access
next_writer [] = None
next_writer (a ∷ story) = if a.writes then Some a else next_writer story

-- the first writer behind the same barriers as this one
abbrev pub first_of : Option Past → Access → ℕ
first_of None a = a.place
first_of (Some p) a = if p.epoch == a.epoch then p.first else a.place

-- what was written so far, after one more access
abbrev pub after : Option Past → Access → Option Past
after past a = if a.writes then Some (record { last = a.place; first = first_of past a; epoch = a.epoch }) else past

-- the next writer, if no barrier stands before it
abbrev pub later : Access → Option Access → Option ℕ
later a None = None
later a (Some w) = if w.epoch == a.epoch then Some w.place else None

-- the least writer that may come between a reader and what it sees
abbrev pub writer_for : Option Past → Access → Option Access → Option ℕ
writer_for None a next = later a next
writer_for (Some p) a next = if not (p.first == p.last) then Some p.first else (if p.epoch == a.epoch then Some p.last else later a next)

-- the least writer that may come behind the last
abbrev pub at_end : Option Past → Option ℕ
at_end None = None
at_end (Some p) = if p.first == p.last then None else Some p.first

-- the meeting of a reader with a writer, or else what is given
abbrev pub or_on : ℕ → Option ℕ → Option Meeting → Option Meeting
or_on k None rest = rest
or_on k (Some j) rest = Some (record { reader = Some k; writer = j })

-- the least reader that some writer may disturb, with the least such writer
abbrev pub clash_from : Option Past → List Access → Option Meeting
clash_from past [] = option_map (λ j. record { reader = None; writer = j }) (at_end past)
clash_from past (a ∷ story) = or_on a.place (if a.reads then writer_for past a (next_writer story) else None) (clash_from (after past a) story)

-- whether the reader is the step at a place
abbrev pub is_step : Option ℕ → ℕ → Bool
is_step None place = false
is_step (Some k) place = k == place

-- the least writer that may disturb a reader, by what was written before it since the last fence, and by the next writer
abbrev pub writer_met : Option Past → Option ℕ → List Access → Option ℕ
writer_met past reader [] = at_end past
writer_met past reader (a ∷ story) = if is_step reader a.place then writer_for past a (next_writer story) else writer_met (after past a) reader story

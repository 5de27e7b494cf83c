-- What reads one after another give.
use Rattle.std.proofs.Common.{ℕ, ◌≤◌, List, [], length, Bool, true, refl, Option}
use Rattle.std.proofs.KnownBytes.{Consumes-nil, Consumes-trans}
use Rattle.std.specs.Io.KnownBytes.{Consumes}
use Rattle.wg_io.specs.Reading.{GaveAll, ReadsOn}

-- before the first read nothing was given
pub consumes_none : (a : Option (List ℕ)) → Consumes a a []
consumes_none a = Consumes-nil a

-- what was given before one more read, and by it
pub taken_on : (a b c : Option (List ℕ)) (before after : List ℕ) (end : Bool) → Consumes a b before → ReadsOn b c before after end → Consumes a c after
taken_on a b c before after end h r = rw r.grown (Consumes-trans a b c before r.piece h r.gave)

-- a read that met the end leaves all that the source had
pub all_taken : (a b c : Option (List ℕ)) (before after : List ℕ) (limit : ℕ) → Consumes a b before → length before ≤ limit → ReadsOn b c before after true → GaveAll a c limit after
all_taken a b c before after limit h within r = record {
  gave = taken_on a b c before after true h r;
  end = r.ended refl;
  within = rw (r.stopped refl) within;
}

-- The limits of a script that is read are ones that a device can have.
use Rattle.std.specs.List.{list_all}
use Rattle.std.proofs.Common.{◌≡◌, ℕ, List, [], Bool, true, false, Option, Some, None, Result, Ok, Err, codes, refl, subst, if◌then◌else◌}
use Rattle.serde_json.specs.Data.{Data}
use Rattle.serde_json.specs.Find.{as_object, get}
use Rattle.wg_types.specs.declared.limits.Limits.{Limits}
use Rattle.wg_limits.specs.Limits.{default_limits, can_ask, limits_for, limits_asked, AreNoBetter, HaveFixed}
use Rattle.wg_limits.specs.declared.names.LimitName.{LimitName}
use Rattle.wg_limits.proofs.Between.{all_between, all_fixed}
use Rattle.wg_script.specs.Giving.{◌>>=◌}
use Rattle.wg_script.specs.Limits.{members_from, limits_from, limits_in, limits_at}
use Rattle.wg_script.specs.Draft.{at, check_top, budget_of, listed_of, limits_of, phases_of, top_of, json_of, draft_read, draft_of}
use Rattle.wg_script.specs.declared.draft.ScriptDraft.{ScriptDraft}
use Rattle.wg_script.specs.declared.draft.Place.TheVariants as place
use Rattle.wg_names.specs.Script.{phases_bound, script_from}
use Rattle.wg_accepted.specs.Accepted.{LimitsAreGranted}

-- limits that are granted
abbrev IsGranted : Limits → Type 0
IsGranted limits = AreNoBetter limits × HaveFixed limits

asked_granted : (values : List (LimitName × ℕ)) → list_all can_ask values ≡ true → IsGranted (limits_for values)
asked_granted values e = ((λ name. (all_between values e name).1), all_fixed values e)

from_granted : (values : List (LimitName × ℕ)) (limits : Limits) → limits_from (limits_asked values) ≡ Ok limits → IsGranted limits
from_granted values limits e = by_test (list_all can_ask values) refl e
  where
    by_test : (b : Bool) → list_all can_ask values ≡ b → limits_from (if b then Some (limits_for values) else None) ≡ Ok limits → IsGranted limits
    by_test true can e = let same : limits_for values ≡ limits = cc in subst IsGranted same (asked_granted values can)
    by_test false can e = absurd (cc)

-- what is read one after another
bound : {A B E : Type 0} (r : Result A E) (f : A → Result B E) (y : B) → (r >>= f) ≡ Ok y → (x : A) × (r ≡ Ok x) × (f x ≡ Ok y)
bound (Ok x) f y e = (x, refl, e)
bound (Err stop) f y e = absurd (cc)

at_granted : (o : Option Data) (limits : Limits) → at place.None (limits_at o) ≡ Ok limits → IsGranted limits
at_granted None limits e = let same : default_limits ≡ limits = cc in subst IsGranted same (asked_granted [] refl)
at_granted (Some d) limits e = by_read (limits_in d) refl e
  where
    by_read : (r : Result Limits ℕ) → limits_in d ≡ r → at place.None r ≡ Ok limits → IsGranted limits
    by_read (Ok read) is e =
        let found = bound (members_from (as_object d)) (λ (values : List (LimitName × ℕ)). limits_from (limits_asked values)) read is in
        let same : read ≡ limits = cc in
        subst IsGranted same (from_granted found.0 read found.2)
    by_read (Err rule) is e = absurd (cc)

top_granted : (d : Data) (draft : ScriptDraft) → top_of d ≡ Ok draft → IsGranted draft.limits
unfolding top_of
top_granted d draft e =
    let one = bound (check_top d) _ draft e in
    let two = bound (budget_of d) _ draft one.2 in
    let three = bound (listed_of d) _ draft two.2 in
    let four = bound (limits_of d) _ draft three.2 in
    let five = bound (phases_of three.0) _ draft four.2 in
    let same : four.0 ≡ draft.limits = cc in
    subst IsGranted same (at_granted (get (codes "limits") d) four.0 four.1)

draft_granted : (bytes : List ℕ) (draft : ScriptDraft) → draft_of bytes ≡ Ok draft → IsGranted draft.limits
draft_granted bytes draft e = by_json (json_of bytes) e
  where
    by_json : (o : Option Data) → draft_read o ≡ Ok draft → IsGranted draft.limits
    by_json None e = absurd (cc)
    by_json (Some d) e = top_granted d draft e

pub limits_are_granted : LimitsAreGranted
limits_are_granted bytes script e =
    let drafted = bound (draft_of bytes) script_from script e in
    let named = bound (phases_bound drafted.0.phases) _ script drafted.2 in
    let same : drafted.0.limits ≡ script.limits = cc in
    subst IsGranted same (draft_granted bytes drafted.0 drafted.1)

-- A recorder from which a finish took, once that is put back.
use Rattle.std.proofs.Common.{◌≡◌, ℕ, ◌+◌, ◌-◌, nat_lt, Bool, true, false, Option, Some, None, refl, ap, sym, subst, ◌∙◌, arith, if◌then◌else◌}
use Rattle.std.proofs.lemmas.Bool.Decides.{nat_tests}
use Rattle.wg_types.specs.declared.handles.ObjRef.{ObjRef}
use Rattle.wg_types.specs.declared.render.TargetInfo.{TargetInfo}
use Rattle.wg_encoder.specs.Recorders.{RecorderValue, RecordingValue, IsTakenFrom, most_takes, after_take, restored}
use Rattle.wg_history.specs.declared.events.Event.{Event}
use Rattle.wg_calls.specs.Calls.{finish_event, recording_of, taken_out}
use Rattle.wg_device.specs.Takes.{HasTaken, given_back, IsAsBefore}

-- The event that ends an encoder has what was taken of its recorder, and gives that back.

takes : (targets : Option TargetInfo) (encoder : ObjRef) (recording : RecordingValue) (recorder : RecorderValue) → IsTakenFrom recording recorder → HasTaken (finish_event targets encoder recording) recorder
takes None encoder recording recorder taken = taken
takes (Some targets) encoder recording recorder taken = taken

pub finish_takes : (event : Event) (encoder : ObjRef) (recording : RecordingValue) (recorder : RecorderValue) → event ≡ finish_event recording.targets encoder recording → IsTakenFrom recording recorder → HasTaken event recorder
finish_takes event encoder recording recorder same taken = subst (λ (e : Event). HasTaken e recorder) (sym same) (takes recording.targets encoder recording recorder taken)

gives_back : (targets : Option TargetInfo) (encoder : ObjRef) (recording : RecordingValue) (recorder : RecorderValue) → given_back (finish_event targets encoder recording) recorder ≡ restored recording recorder
gives_back None encoder recording recorder = refl
gives_back (Some targets) encoder recording recorder = refl

pub finish_gives_back : (event : Event) (encoder : ObjRef) (recording : RecordingValue) (recorder : RecorderValue) → event ≡ finish_event recording.targets encoder recording → given_back event recorder ≡ restored recording recorder
finish_gives_back event encoder recording recorder same = ap (λ (e : Event). given_back e recorder) same ∙ gives_back recording.targets encoder recording recorder

same_end : (takes : ℕ) → nat_lt 0 (after_take takes - 1) ≡ nat_lt 0 takes
same_end takes = by_most (nat_lt takes most_takes) refl
  where
    by_most : (b : Bool) → nat_lt takes most_takes ≡ b → nat_lt 0 ((if b then takes + 1 else takes) - 1) ≡ nat_lt 0 takes
    by_most true e = grind (arith, nat_tests, e)
    by_most false e = grind (arith, nat_tests, e)

pub is_as_before : (recorder : RecorderValue) → IsAsBefore recorder (restored (recording_of recorder) (taken_out recorder))
is_as_before recorder = record { maker = refl; targets = refl; encoder = refl; commands = refl; passes = refl; ended = same_end recorder.takes }

pub is_unchanged : (recorder : RecorderValue) → IsAsBefore recorder recorder
is_unchanged recorder = record { maker = refl; targets = refl; encoder = refl; commands = refl; passes = refl; ended = refl }

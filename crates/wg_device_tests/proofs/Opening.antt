-- The two passes of a device for two callers, taken from their list.
use Rattle.std.proofs.Common.{◌≡◌, List, [], ◌∷◌, ◌++◌, length, Option, Some, Result, Ok, Err, ap, ap₂, ◌∙◌, subst, sym, arith, length-append}
use Rattle.std.specs.Prelude.{IfOk}
use Rattle.std.specs.Result.{result_ok}
use Rattle.std.specs.Option.{option_to_list}
use Rattle.wg_turn.specs.Passes.{IsFresh, AreFresh}
use Rattle.wg_device.specs.Fronts.{Lock, DevicePass}

abbrev Two : Lock → DevicePass → DevicePass → Type 0
Two lock a b = (IsFresh lock 0 a) × (IsFresh lock 1 b)

by_rest : (lock : Lock) (rest : List DevicePass) (a b : DevicePass) → AreFresh lock 0 ((rest ++ a ∷ []) ++ b ∷ []) → length ((rest ++ a ∷ []) ++ b ∷ []) ≡ 2 → Two lock a b
by_rest lock [] a b fresh two = (fresh.0, fresh.1.0)
by_rest lock (p ∷ rest) a b fresh two =
    let outer = length-append (rest ++ a ∷ []) (b ∷ []) in
    let inner = length-append rest (a ∷ []) in
    absurd (omega (arith, outer, inner, two))

pub two_fresh : (lock : Lock) (passes left rest : List DevicePass) (first second : Option DevicePass) (a b : DevicePass) → AreFresh lock 0 passes → length passes ≡ 2
    → passes ≡ left ++ option_to_list second → left ≡ rest ++ option_to_list first → first ≡ Some a → second ≡ Some b → Two lock a b
two_fresh lock passes left rest first second a b fresh two last before one other =
    let whole : passes ≡ (rest ++ a ∷ []) ++ b ∷ [] =
    last ∙ ap₂ (λ (xs : List DevicePass) (o : Option DevicePass). xs ++ option_to_list o) (before ∙ ap (λ (o : Option DevicePass). rest ++ option_to_list o) one) other in
    by_rest lock rest a b (subst (λ (list : List DevicePass). AreFresh lock 0 list) whole fresh) (sym (ap (λ (list : List DevicePass). length list) whole) ∙ two)

-- what holds of a value that a call gave
pub of_ok : {T E : Type 0} (result : Result T E) (t : T) (P : T → Type 0) → result_ok result ≡ Some t → IfOk result P → P t
of_ok (Ok x) t P e h = let same : x ≡ t = cc (e) in subst P same h
of_ok (Err error) t P e h = absurd (cc)

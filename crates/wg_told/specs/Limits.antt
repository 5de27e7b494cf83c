-- The limits that callers in C ask for, and those that an adapter supports. The numbers are those of the header.
use Rattle.std.specs.Prelude.{◌≡◌, ℕ, ◌^◌, nat_lt, Bool, true, false, not, ◌&&◌, ◌||◌, IsTrue, List, Option, Some, None, option_map}
use Rattle.std.specs.List.{find, filter_map, list_all, position_from}
use Rattle.std.specs.Option.{option_map_or}
use Rattle.std.specs.Int.{is_power_of_two}
use Rattle.wg_types.specs.declared.limits.Limits.{Limits}
use Rattle.wg_limits.specs.Limits.{default_limits, limit_of, is_alignment, no_better, can_ask, limits_for, IsBetween}
use Rattle.wg_limits.specs.Names.{limit_names, same_limit}
use Rattle.wg_limits.specs.declared.names.LimitName.{LimitName}
use Rattle.wg_told.specs.declared.flats.FlatLimit.{FlatLimit}
use Rattle.wg_told.specs.declared.limits.ToldBadLimit.{ToldBadLimit}
use Rattle.wg_told.specs.Tables.{nth}

-- the limit that has a number, in some limits, if there is one
abbrev pub limit_at : Limits → ℕ → Option ℕ
limit_at limits number = option_map (λ name. limit_of name limits) (nth limit_names number)

-- the limit and the value that a flat limit names, if its number is one
abbrev pub named_by : FlatLimit → Option (LimitName × ℕ)
named_by limit = option_map (λ name. (name, limit.value)) (nth limit_names limit.name)

-- the limits and the values that a list names, in order, without what names none
abbrev pub all_named : List FlatLimit → List (LimitName × ℕ)
all_named limits = filter_map named_by limits

-- whether a flat limit names a limit and a value, and these pass a test
abbrev pub passes : (LimitName × ℕ → Bool) → FlatLimit → Bool
passes test limit = option_map_or test (named_by limit) false

-- Whether a value may be the best that an adapter supports of a limit: it is no worse than the default, which each adapter supports, and
-- of an alignment a power of two below 2^32.
abbrev pub can_support : LimitName × ℕ → Bool
can_support (name, value) =
    no_better name (limit_of name default_limits) value && (not (is_alignment name) || (is_power_of_two value && nat_lt value (2 ^ 32)))

-- Whether a value is no better than the first one that an adapter says of that limit; where it says none, each value is.
abbrev pub is_supported : List (LimitName × ℕ) → LimitName × ℕ → Bool
is_supported best (name, value) = option_map_or (λ said. no_better name value said.1) (find (λ said. same_limit said.0 name) best) true

-- whether one can ask an adapter for a value: it is one that can be asked for, and the adapter supports it
abbrev pub is_offered : List (LimitName × ℕ) → LimitName × ℕ → Bool
is_offered best asked = can_ask asked && is_supported best asked

-- the place of the first of a list that fails a test, or names no limit
abbrev pub failing : (LimitName × ℕ → Bool) → List FlatLimit → Option ℕ
failing test limits = position_from (λ limit. not (passes test limit)) 0 limits

-- what is told of the first value that fails: 1 of what the adapter supports, else 2 of what is asked
abbrev pub told_bad : Option ℕ → Option ℕ → Option ToldBadLimit
told_bad (Some place) asked = Some (record { list = 1; place = place })
told_bad None asked = option_map (λ place. record { list = 2; place = place }) asked

-- What is told of limits with which no device can be opened: the first that is the best of no adapter, and else the first that one
-- cannot ask of the adapter.
abbrev pub bad_limit : List FlatLimit → List FlatLimit → Option ToldBadLimit
bad_limit best limits = told_bad (failing can_support best) (failing (is_offered (all_named best)) limits)

-- each value that a list names can be asked for
abbrev pub CanAll : List FlatLimit → Type 0
CanAll limits = IsTrue (list_all can_ask (all_named limits))

-- the limits of a device for all that is asked
abbrev pub limits_of : List FlatLimit → Limits
limits_of limits = limits_for (all_named limits)

-- Where a device can be opened, each limit that it has is no worse than the default, no better than the best, and no better than what the
-- adapter supports.
abbrev pub LimitsFit : Type 0
LimitsFit = (best limits : List FlatLimit) → bad_limit best limits ≡ None → (name : LimitName)
    → IsBetween name (limit_of name (limits_of limits)) × IsTrue (is_supported (all_named best) (name, limit_of name (limits_of limits)))

-- What the kept commands of a recorder have done: the finished steps, and the least clashing part of the first usage scope
-- that has one.
use Rattle.std.specs.Prelude.{[], ◌∷◌, ◌++◌, Option, Some, None}
use Rattle.std.specs.Option.{option_or}
use Rattle.wg_model.specs.Touches.{Doing, scope_in, deed_of}
use Rattle.wg_model.specs.Scopes.{clash, first_clash}
use Rattle.wg_model.specs.Walk.{Kept, usage_scopes, deeds}
use Rattle.wg_encoder.specs.declared.done.Done.{Done}

-- what is done with what one more command on the encoder does, which is a deed
abbrev pub done_by_encoder : Done → Option Doing → Done
done_by_encoder done None = done
done_by_encoder done (Some doing) = record done { deeds = done.deeds ++ deed_of doing ∷ [] }

-- what is done with what one more command of a pass does, which is a deed and a scope, of a render pass at its end
abbrev pub done_by_pass : Done → Option Doing → Done
done_by_pass done None = done
done_by_pass done (Some doing) = record { clash = option_or done.clash (clash (scope_in doing)); deeds = done.deeds ++ deed_of doing ∷ [] }

-- what the kept commands have done: their deeds, in order, and the first clash of their scopes
abbrev pub done_of : Kept → Done
done_of kept = record { clash = first_clash (usage_scopes kept); deeds = deeds kept }

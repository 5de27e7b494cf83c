-- What a recorder keeps of what its commands name.
use Rattle.std.specs.Prelude.{◌≡◌, ◌≤◌, List, map, length}
use Rattle.wg_types.specs.Handles.{HandleValue}
use Rattle.wg_types.specs.declared.commands.On.{On}
use Rattle.wg_types.specs.Commands.{Command, named}
use Rattle.wg_types.specs.declared.wanted.Wanted.{Wanted}
use Rattle.wg_encoder.specs.Uses.{uses_in, used_once, named_once}
use Rattle.wg_encoder.specs.Once.{values_of, room_of}
use Rattle.wg_encoder.specs.declared.naming.Naming.{Naming}
use Rattle.wg_encoder.specs.declared.naming.Named.{Named}

-- What is kept of one command is the resources that it uses and the numbers of the objects that it names.
pub record IsNamedBy (command : Command) (one : Named) : Type 0 where
  pub uses : one.uses.items ≡ uses_in (named command)
  pub objects : one.objects.items ≡ map (λ (object : HandleValue × Wanted). object.0.reference.number) (named command)

-- There is room for so many more.
pub record HasRoomFor (naming : Naming) (one : Named) : Type 0 where
  pub uses : length one.uses.items ≤ room_of naming.uses
  pub objects : length one.objects.items ≤ room_of naming.objects

-- What is kept is what commands name, each once.
pub record AreNamedOnce (commands : List (On × Command)) (naming : Naming) : Type 0 where
  pub uses : values_of naming.uses ≡ used_once commands
  pub objects : values_of naming.objects ≡ named_once commands

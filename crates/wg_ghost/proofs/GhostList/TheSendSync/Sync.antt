-- It owns nothing, so what a `&` to it holds is nothing but a part of the mark of what it is a list of.
use denote.RattleType.{RattleType}
use denote.Param.Send.{IsSend, IsSync, owning_send, part_keyless, sendable}
use Rattle.wg_ghost.specs.contracts.GhostList.{the_row, the_type}

bare : (A : RattleType) → IsSend (the_row A)
bare A = owning_send (the_type A) (search sendable, tt) (λ d. tt) (λ k x w. tt)

pub sync : (A : RattleType) → IsSync A → IsSync (the_row A)
sync A a = record { shared = λ d b o κ q. part_keyless (the_row A) (bare A) q d b o }

-- Promises that wait until operations are complete (WebGPU, "onSubmittedWorkDone").
use Rattle.std.specs.Prelude.{ℕ, Bool, nat_le, nat_lt, List, filter, map}
use Rattle.wg_trace.specs.declared.replies.Waiting.{Waiting}

-- whether all operations that a promise waits for are complete, where those up to this one are
abbrev pub is_due : ℕ → Waiting → Bool
is_due completed waiting = nat_le waiting.last completed

-- the numbers of promises
abbrev pub promises : List Waiting → List ℕ
promises waiting = map (λ (w : Waiting). w.promise) waiting

-- the promises that are due, in their order
abbrev pub due_promises : ℕ → List Waiting → List ℕ
due_promises completed waiting = promises (filter (is_due completed) waiting)

-- the promises that wait on
abbrev pub still_waiting : ℕ → List Waiting → List Waiting
still_waiting completed waiting = filter (λ (w : Waiting). nat_lt completed w.last) waiting

-- How the promises of a queue stand.
use Rattle.std.specs.Prelude.{ℕ, ◌<◌, ◌≤◌, List, length, slice_index_or}
use Rattle.std.specs.List.Sorted.{IsNonDecreasingBy}
use Rattle.wg_trace.specs.declared.replies.Waiting.{Waiting}

-- none waits for an earlier operation than one before it, or for one that was not issued
pub record IsInOrder (issued : ℕ) (waiting : List Waiting) : Type 0 where
  pub rises : IsNonDecreasingBy (λ (w : Waiting). w.last) waiting
  pub issued_all : (k : ℕ) (d : Waiting) → k < length waiting → (slice_index_or waiting k d).last ≤ issued

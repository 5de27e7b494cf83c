-- What a device keeps of its error scopes (WebGPU, "Error Scopes").
use Rattle.std.specs.Prelude.{ℕ, Bool, List}
use Rattle.wg_trace.specs.declared.replies.Scope.{Scope}

-- what is kept of errors: whether the device is lost, and the open error scopes
pub record ErrorsValue : Type 0 where
  -- whether the device is lost
  pub lost : Bool
  -- the stack, outermost first
  pub scopes : List Scope
  -- for how many more scopes there is room
  pub spare : ℕ

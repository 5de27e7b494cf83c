use Rattle.std.proofs.Common.{◌≡◌, ℕ, List, Bool, true, false, ap, refl, ◌∙◌}
use Rattle.std.specs.Prelude.{◌||◌, bytes_eq, if◌then◌else◌}
use Rattle.std.specs.HashMap.{get_by}
use Rattle.std.specs.HashSet.{contains_by}
use Rattle.std.proofs.Math.Path.{fun_ext}
use Rattle.wg_names.specs.Names.{Names}
use Rattle.wg_names.proofs.known.BoundNames.configure.Goals as goal

either : (b c : Bool) → (if b then true else c) ≡ (b || c)
either true c = refl
either false c = refl

pub returns-clause-ok : goal.returns-clause-ok
returns-clause-ok c = ap (λ (configured : List ℕ → Bool). let names : Names = record { marks = λ name. get_by (λ key. bytes_eq name key.now) c.args.self.now.marks; made = c.args.self.now.made; configured = configured } in names)
    (rw (← c.as_str.ensures) (fun_ext (λ name. c.in_ok-insert.ensures.updates.0 (record { ref_ptr = (0, 0); now = name })
    ∙ either (bytes_eq c.as_str.result.now name) (contains_by (λ key. bytes_eq name key.now) c.args.self.now.configured))))

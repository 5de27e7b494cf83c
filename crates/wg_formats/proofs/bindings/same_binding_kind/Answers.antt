use Rattle.std.specs.Bool.{one_answer}
use Rattle.wg_model.specs.Equality.{same_binding_kind}
use Rattle.wg_formats.proofs.BindingKinds.{binding_kinds_tell}
use Rattle.wg_formats.proofs.bindings.same_binding_kind.Goals as goal

pub returns : goal.returns
returns c = one_answer _ (same_binding_kind c.args.a c.args.b) c.same.ensures (binding_kinds_tell c.args.a c.args.b)

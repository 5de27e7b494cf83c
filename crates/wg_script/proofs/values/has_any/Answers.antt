use Rattle.std.proofs.Common.{◌∙◌, sym}
use Rattle.std.specs.Prelude.{is_some}
use Rattle.serde_json.specs.Find.{get}
use Rattle.wg_json.specs.View.{view}
use Rattle.wg_script.proofs.Keys.{list_any-map}
use Rattle.wg_script.proofs.values.has_any.Goals as goal

pub returns : goal.returns
returns c = c.any_is_there.ensures ∙ sym (list_any-map (λ n. is_some (get n (view c.args.object.now))) (λ n. n.now) c.args.names.now)

use Rattle.std.proofs.Common.{ap, ◌∙◌, nat_eq}
use Rattle.indexmap.specs.IndexSet.{insert_all}
use Rattle.wg_trace.specs.contracts.steps.UsedPartialEq.TheImpl.{eq-value}
use Rattle.wg_encoder.specs.Once.{values_of}
use Rattle.wg_encoder.proofs.OnceLemmas.{named_more}
use Rattle.wg_encoder.proofs.naming.Naming.add.Goals as goal

pub returns : goal.returns
returns c = λ commands on command are is.
    named_more commands on command c.args.self.now (record { uses = c.add.new.self; objects = c.add-2.new.self; last = c.args.self.now.last }) c.args.self.now.last are is
    (c.add.ensures ∙ ap (λ xs. insert_all eq-value.it (values_of c.args.self.now.uses) xs) c.as_slice.ensures.value)
    (c.add-2.ensures ∙ ap (λ xs. insert_all nat_eq (values_of c.args.self.now.objects) xs) c.as_slice-2.ensures.value)

use Rattle.std.proofs.Common.{◌≡◌, vec_len, sym, ◌∙◌}
use Rattle.wg_turn.specs.Passes.{AreFresh}
use Rattle.wg_device_tests.proofs.Opening.{of_ok, two_fresh}
use Rattle.wg_device_tests.proofs.threads.opened.Goals as goal

pub returns-clause-first : goal.returns-clause-first
returns-clause-first c =
    let d = c.in_ok-device in
    let opened = of_ok c.open.result (d.device, d.passes) (λ t. (vec_len t.1 ≡ 2) × AreFresh t.0.lock 0 t.1.items) (rw c.ok.ensures.value at d.was) c.open.ensures.passes in
    let both = two_fresh d.device.lock d.passes.items c.pop.new.self.items c.pop-2.new.self.items c.pop-2.result c.pop.result c.unwrap-first.result c.unwrap-second.result
    opened.1 (sym d.passes.ok.0 ∙ opened.0) c.pop.ensures.items c.pop-2.ensures.items c.unwrap-first.ensures c.unwrap-second.ensures in
    (both.0.0, both.0.1, both.0.2)

pub returns-clause-second : goal.returns-clause-second
returns-clause-second c =
    let d = c.in_ok-device in
    let opened = of_ok c.open.result (d.device, d.passes) (λ t. (vec_len t.1 ≡ 2) × AreFresh t.0.lock 0 t.1.items) (rw c.ok.ensures.value at d.was) c.open.ensures.passes in
    let both = two_fresh d.device.lock d.passes.items c.pop.new.self.items c.pop-2.new.self.items c.pop-2.result c.pop.result c.unwrap-first.result c.unwrap-second.result
    opened.1 (sym d.passes.ok.0 ∙ opened.0) c.pop.ensures.items c.pop-2.ensures.items c.unwrap-first.ensures c.unwrap-second.ensures in
    (both.1.0, both.1.1, both.1.2)

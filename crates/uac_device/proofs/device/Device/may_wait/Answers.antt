use Rattle.std.proofs.Common.{◌∙◌, subst, sym}
use Rattle.uac_device.specs.DeviceKept.{DeviceFields, DeviceStands}
use Rattle.uac_device.specs.contracts.device.Device.{the_view}
use Rattle.uac_device.proofs.DeviceAheadLemmas.{are_steady, waits_by_ports}
use Rattle.uac_device.proofs.device.Device.may_wait.Goals as goal

pub returns-clause-value : goal.returns-clause-value
returns-clause-value c w stands =
    let here = subst (λ (device : DeviceFields). DeviceStands device w) (sym c.self.view_is) stands in
    c.may_wait.ensures.value w.outs w.ins here.streams
    ∙ waits_by_ports (the_view c.self.inside) w c.args.domain c.args.ticks
    (c.interfaces_are_numbered.ensures c.self.inside.function c.functions_are_sound.ensures) c.self.invariant.0 here

pub returns-clause-steady : goal.returns-clause-steady
returns-clause-steady c w stands may =
    let here = subst (λ (device : DeviceFields). DeviceStands device w) (sym c.self.view_is) stands in
    are_steady (the_view c.self.inside) w c.args.domain c.args.ticks
    (c.interfaces_are_numbered.ensures c.self.inside.function c.functions_are_sound.ensures) c.self.invariant.0 here
    (c.may_wait.ensures.held w.outs w.ins here.streams may) (sym (c.may_wait.ensures.value w.outs w.ins here.streams) ∙ may)

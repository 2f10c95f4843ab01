use Rattle.std.proofs.Common.{◌∙◌, subst, sym}
use Rattle.uac_device.specs.DeviceKept.{DeviceFields, DeviceStands}
use Rattle.uac_device.specs.contracts.device.Device.{the_view}
use Rattle.uac_device.proofs.DeviceGoesOnLemmas.{goes_by_ports, meets_nothing}
use Rattle.uac_device.proofs.device.Device.goes_on.Goals as goal

pub returns-clause-value : goal.returns-clause-value
returns-clause-value c w stands =
    let here = subst (λ (device : DeviceFields). DeviceStands device w) (sym c.self.view_is) stands in
    c.go_on.ensures w.outs w.ins here.streams
    ∙ goes_by_ports (the_view c.self.inside) w c.args.domain c.args.ticks
    (c.interfaces_are_numbered.ensures c.self.inside.function c.functions_are_sound.ensures) c.self.invariant.0 here

pub returns-clause-meets : goal.returns-clause-meets
returns-clause-meets c w stands goes =
    let here = subst (λ (device : DeviceFields). DeviceStands device w) (sym c.self.view_is) stands in
    let told =
    c.go_on.ensures w.outs w.ins here.streams
    ∙ goes_by_ports (the_view c.self.inside) w c.args.domain c.args.ticks
    (c.interfaces_are_numbered.ensures c.self.inside.function c.functions_are_sound.ensures) c.self.invariant.0 here in
    meets_nothing (the_view c.self.inside) w c.args.domain c.args.ticks here (sym told ∙ goes)

use Rattle.std.proofs.Common.{◌≡◌, subst, sym, length, true}
use Rattle.uac_graph.specs.Meaning.{entity}
use Rattle.uac_device.specs.DeviceWorld.{is_input_jack}
use Rattle.uac_device.specs.DeviceKept.{DeviceFields, DeviceStands}
use Rattle.uac_device.specs.contracts.device.Device.{the_view}
use Rattle.uac_device.proofs.DeviceWorldLemmas.{jack_fits, jack_stands}
use Rattle.uac_device.proofs.device.Device.jack.Goals as goal

pub set-requires : goal.set-requires
set-requires c =
    jack_fits (the_view c.self.inside) c.args.terminal c.args.frame.now.items c.self.invariant.0
    (subst (λ (device : DeviceFields). is_input_jack (entity device.function.entities c.args.terminal) ≡ true) (sym c.self.view_is) c.requires.jack)
    (subst (λ (device : DeviceFields). length c.args.frame.now.items ≡ (entity device.function.entities c.args.terminal).cluster.channels) (sym c.self.view_is)
    c.requires.channels)

pub returns-clause-stands : goal.returns-clause-stands
returns-clause-stands c w stands =
    jack_stands (the_view c.self.inside) c.set.new.self c.args.terminal c.args.frame.now.items w
    (subst (λ (device : DeviceFields). is_input_jack (entity device.function.entities c.args.terminal) ≡ true) (sym c.self.view_is) c.requires.jack)
    c.set.ensures.wires (subst (λ (device : DeviceFields). DeviceStands device w) (sym c.self.view_is) stands)

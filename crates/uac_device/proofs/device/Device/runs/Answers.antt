use Rattle.std.proofs.Common.{◌∙◌, ap, subst, sym}
use Rattle.std.specs.List.{list_any}
use Rattle.uac_entities.specs.declared.stream.StreamInterface.{StreamInterface}
use Rattle.uac_device.specs.InterfaceStreams.{runs_either}
use Rattle.uac_device.specs.declared.device_stream.Port.{Port}
use Rattle.uac_device.specs.DeviceWorld.{runs_one}
use Rattle.uac_device.specs.DeviceKept.{DeviceFields, DeviceStands}
use Rattle.uac_device.proofs.DeviceKeptStreamLemmas.{one_port_runs}
use Rattle.uac_device.proofs.device.Device.runs.Goals as goal

pub returns-clause-value : goal.returns-clause-value
unfolding runs_one
returns-clause-value c w stands =
    let here = subst (λ (device : DeviceFields). DeviceStands device w) (sym c.self.view_is) stands in
    c.run_one.ensures.value w.outs w.ins here.streams
    ∙ ap (list_any (λ (p : Port). runs_either (w.outs p.interface) (w.ins p.interface))) c.self.invariant.0.ports
    ∙ one_port_runs w.outs w.ins c.self.inside.function.entities c.self.inside.function.streams
    ∙ ap (λ f. list_any (λ (s : StreamInterface). runs_either (w.outs s.number) (w.ins s.number)) f.streams) here.function

pub returns-clause-none : goal.returns-clause-none
returns-clause-none c w stands =
    let here = subst (λ (device : DeviceFields). DeviceStands device w) (sym c.self.view_is) stands in c.run_one.ensures.none w.outs w.ins here.streams

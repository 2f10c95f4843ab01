use Rattle.std.proofs.Common.{◌∙◌, sym}
use Rattle.uac_device.proofs.DeviceStreamsLemmas.{port_named, port_unnamed}
use Rattle.uac_device.proofs.device_streams.port.Goals as goal

pub returns-in-Some : goal.returns-in-Some
returns-in-Some c = c.port_to.ensures ∙ port_named c.args.function.now.entities c.args.stream.now c.in-Some.terminal.now (sym c.in-Some.ensures)

pub returns-in-None : goal.returns-in-None
returns-in-None c = c.port_to-in-None.ensures ∙ port_unnamed c.args.function.now.entities c.args.stream.now (sym c.in-None.ensures)

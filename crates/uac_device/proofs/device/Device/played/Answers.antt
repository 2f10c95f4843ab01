use Rattle.std.proofs.Common.{◌∙◌, ap, sym}
use Rattle.uac_graph.specs.Wiring.{frame_on}
use Rattle.uac_device.specs.DeviceKept.{DeviceFields}
use Rattle.uac_device.proofs.DeviceWorldLemmas.{played_here, played_nowhere}
use Rattle.uac_device.proofs.device.Device.played.Goals as goal

pub returns-then-plays : goal.returns-then-plays
returns-then-plays c w stands =
    c.get.ensures
    ∙ ap (λ (device : DeviceFields). frame_on device.wires c.args.terminal) c.self.view_is
    ∙ played_here c.args.self.now w c.args.terminal stands (sym c.plays.ensures ∙ c.if-plays.true)

pub returns-else-plays : goal.returns-else-plays
returns-else-plays c w stands = played_nowhere c.args.self.now w c.args.terminal stands (sym c.plays.ensures ∙ c.if-plays.false)

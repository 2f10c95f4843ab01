use Rattle.std.proofs.Common.{◌∙◌, zero-add}
use Rattle.uac_device.specs.DeviceSums.{after_advances, ticks_over}
use Rattle.uac_device.specs.DeviceWorld.{next_ticks}
use Rattle.uac_device.proofs.device.Device.ticks.Goals as goal

pub returns-clause-stands : goal.returns-clause-stands
unfolding after_advances
returns-clause-stands c w stands = c.ticks_over.ensures.stands w stands

pub returns-clause-ticks : goal.returns-clause-ticks
unfolding after_advances ticks_over
returns-clause-ticks c w stands = c.ticks_over.ensures.ticks w stands ∙ zero-add (next_ticks c.args.domain w)

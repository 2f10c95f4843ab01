use Rattle.std.proofs.Common.{◌∙◌, zero-add}
use Rattle.uac_device.specs.DeviceSums.{after_advances, ticks_over}
use Rattle.uac_device.specs.DeviceWorld.{next_ticks}
use Rattle.uac_running.proofs.running.Running.advance.Goals as goal

pub returns-clause-stands : goal.returns-clause-stands
unfolding after_advances
returns-clause-stands c meters r stands = c.advance_over.ensures.stands meters r stands

pub returns-clause-ticks : goal.returns-clause-ticks
unfolding after_advances ticks_over
returns-clause-ticks c meters r stands = c.advance_over.ensures.ticks meters r stands ∙ zero-add (next_ticks c.args.domain r.device)

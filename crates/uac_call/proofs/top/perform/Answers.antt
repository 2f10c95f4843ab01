use Rattle.uac_call.proofs.top.perform.Goals as goal

pub returns-in-Plain : goal.returns-in-Plain
returns-in-Plain g c = c.do_command.ensures

pub returns-in-Lanes : goal.returns-in-Lanes
returns-in-Lanes g c = c.do_command-in-Lanes.ensures

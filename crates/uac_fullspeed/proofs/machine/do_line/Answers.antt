use Rattle.uac_fullspeed.proofs.machine.do_line.Goals as goal

pub returns-clause-does : goal.returns-clause-does
returns-clause-does g c = λ w s. c.do_said.ensures.does c.args.text.now w c.read.ensures.answered s

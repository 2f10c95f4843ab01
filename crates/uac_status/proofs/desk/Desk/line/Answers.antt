use Rattle.uac_status.proofs.desk.Desk.line.Goals as goal

pub returns-in-Err-clause-answers : goal.returns-in-Err-clause-answers
returns-in-Err-clause-answers g c = λ w s. c.in-Err.ensures.does w (rw (← c.self.view_is) at s.stage)

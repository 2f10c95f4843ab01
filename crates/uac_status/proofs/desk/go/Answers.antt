use Rattle.uac_status.proofs.DeskStepLemmas.{begun_in, unbegun_in, gone_before}
use Rattle.uac_status.proofs.desk.go.Goals as goal

pub returns-in-Ok-clause-does : goal.returns-in-Ok-clause-does
returns-in-Ok-clause-does g c = λ w s.
    rw c.replace.ensures.after (begun_in _ _ _ w _ _ c.replace-whole.ensures.value (rw c.in-Describing.is at s) c.in-Ok.ensures.begins)

pub returns-in-Err-clause-does : goal.returns-in-Err-clause-does
returns-in-Err-clause-does g c = λ w s.
    unbegun_in _ _ _ w _ _ c.replace-whole.ensures.value (rw c.in-Describing.is at s) c.in-Err.ensures.begins

pub returns-in-Running-clause-does : goal.returns-in-Running-clause-does
returns-in-Running-clause-does g c = λ w s. gone_before _ w (rw c.in-Running.is at s)

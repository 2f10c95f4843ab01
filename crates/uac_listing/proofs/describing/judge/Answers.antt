use Rattle.uac_listing.proofs.AnsweredLemmas.{judges_sound, judges_broken}
use Rattle.uac_listing.proofs.describing.judge.Goals as goal

pub returns-in-Ok : goal.returns-in-Ok
returns-in-Ok g c = judges_sound _ _ _ _ _ _ _ _ c.in-Ok.ensures.sound c.print.ensures

pub returns-in-Err : goal.returns-in-Err
returns-in-Err g c = judges_broken _ _ _ _ _ _ _ _ c.in-Err.ensures.broken c.refuse_function.ensures

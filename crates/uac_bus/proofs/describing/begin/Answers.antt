use Rattle.std.proofs.Common.{◌∙◌, ap, sym, arith}
use Rattle.uac_rows.specs.BusSteps.{is_final}
use Rattle.uac_bus.proofs.BusWorldDescriptorLemmas.{gone_ill, told_finally, told_unwritten}
use Rattle.uac_bus.proofs.describing.begin.Goals as goal

pub returns-in-Ok-clause-begins : goal.returns-in-Ok-clause-begins
returns-in-Ok-clause-begins g c = c.start.ensures.begins c.args.reader.taken c.in-Ok.ensures

pub returns-in-Err-clause-begins : goal.returns-in-Err-clause-begins
returns-in-Err-clause-begins g c = λ shown. gone_ill _ _ c.from.result shown _ c.in-Err.ensures c.from.ensures

pub returns-in-Err-clause-fault : goal.returns-in-Err-clause-fault
returns-in-Err-clause-fault g c = ap is_final c.from.ensures ∙ told_finally c.in-Err.fault

pub returns-in-Err-clause-faults : goal.returns-in-Err-clause-faults
returns-in-Err-clause-faults g c = record {
  cause = λ write. absurd (told_unwritten c.in-Err.fault (sym c.from.ensures ∙ write));
  never_falls = omega arith;
  faultless = tt;
}

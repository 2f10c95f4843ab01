use Rattle.std.proofs.Common.{◌∙◌, ap, sym, arith}
use Rattle.uac_status.specs.FrontKept.{is_final}
use Rattle.uac_status.proofs.DeskDescriptorLemmas.{gone_ill, told_finally, told_unwritten}
use Rattle.uac_status.proofs.describing.begin.Goals as goal

pub returns-in-Ok-clause-begins : goal.returns-in-Ok-clause-begins
returns-in-Ok-clause-begins g c = c.start.ensures.begins c.args.reader.taken c.in-Ok.ensures

pub returns-in-Err-clause-begins : goal.returns-in-Err-clause-begins
returns-in-Err-clause-begins g c = gone_ill _ _ c.line_fault.result _ c.in-Err.ensures c.line_fault.ensures

pub returns-in-Err-clause-fault : goal.returns-in-Err-clause-fault
returns-in-Err-clause-fault g c = ap is_final c.line_fault.ensures ∙ told_finally c.in-Err.fault

pub returns-in-Err-clause-faults : goal.returns-in-Err-clause-faults
returns-in-Err-clause-faults g c = record {
  cause = λ write. absurd (told_unwritten c.in-Err.fault (sym c.line_fault.ensures ∙ write));
  never_falls = omega arith;
  faultless = tt;
}

use Rattle.std.proofs.Common.{refl}
use Rattle.uac_call.proofs.CallLemmas.{done_check, done_show, done_elements, done_run, done_gen, done_settle}
use Rattle.uac_call.proofs.BenchLemmas.{asked_full, asked_pair, performs_as}
use Rattle.uac_call.proofs.CallLemmas.{gen_unread, settle_unread, settled_unread}
use Rattle.uac_call.proofs.top.do_command.Goals as goal

pub returns-in-Check : goal.returns-in-Check
returns-in-Check g c = record {
  done = done_check _ _ _ _ c.args.command c.in-Check.is c.describe.ensures.answered;
  read_fault = c.describe.ensures.read_fault;
  write_fault = c.describe.ensures.write_fault;
  faultless = c.describe.ensures.faultless;
  ok = (λ reads is. c.describe.ensures.ok is);
}

pub returns-in-Show : goal.returns-in-Show
returns-in-Show g c = record {
  done = done_show _ _ _ _ c.args.command c.in-Show.is c.describe-in-Show.ensures.answered;
  read_fault = c.describe-in-Show.ensures.read_fault;
  write_fault = c.describe-in-Show.ensures.write_fault;
  faultless = c.describe-in-Show.ensures.faultless;
  ok = (λ reads is. c.describe-in-Show.ensures.ok is);
}

pub returns-in-Elements : goal.returns-in-Elements
returns-in-Elements g c = record {
  done = done_elements _ _ _ _ c.args.command c.in-Elements.is c.describe-in-Elements.ensures.answered;
  read_fault = c.describe-in-Elements.ensures.read_fault;
  write_fault = c.describe-in-Elements.ensures.write_fault;
  faultless = c.describe-in-Elements.ensures.faultless;
  ok = (λ reads is. c.describe-in-Elements.ensures.ok is);
}

pub returns-in-Run : goal.returns-in-Run
returns-in-Run g c = record {
  done = done_run _ _ _ c.args.command c.in-Run.is c.run_script.ensures.run;
  read_fault = c.run_script.ensures.read_fault;
  write_fault = c.run_script.ensures.write_fault;
  faultless = c.run_script.ensures.faultless;
  ok = (λ reads is. c.run_script.ensures.ok is);
}

pub returns-in-Gen : goal.returns-in-Gen
returns-in-Gen g c = record {
  done = done_gen _ _ _ c.args.command _ c.in-Gen.is (c.generate.ensures.generated _ _);
  read_fault = (λ is. absurd (c.generate.ensures.never_read is));
  write_fault = c.generate.ensures.write_fault;
  faultless = (λ unread unwritten. (refl, c.generate.ensures.faultless unwritten));
  ok = (λ reads is. absurd (gen_unread c.args.command _ c.in-Gen.is reads));
}

pub returns-in-Settle : goal.returns-in-Settle
returns-in-Settle g c = record {
  done = done_settle _ _ _ _ _ _ _ _ c.args.command c.in-Settle.is c.settle.ensures.closed;
  read_fault = (λ is. absurd (settled_unread c.settle.result c.settle.ensures.else_ok is));
  write_fault = c.settle.ensures.write_fault;
  faultless = (λ unread unwritten. (refl, c.settle.ensures.faultless unwritten));
  ok = (λ reads is. absurd (settle_unread c.args.command c.in-Settle.is reads));
}

pub returns-in-Full : goal.returns-in-Full
returns-in-Full g c = performs_as c.args.command _ _ _ _ c.in-Full.is (c.run_full.ensures _)

pub returns-in-Pair : goal.returns-in-Pair
returns-in-Pair g c = performs_as c.args.command _ _ _ _ c.in-Pair.is (c.run_pair.ensures _)

pub returns-in-Panel : goal.returns-in-Panel
returns-in-Panel g c = performs_as c.args.command _ _ _ _ c.in-Panel.is (c.run_panel.ensures _)

pub run_full-requires : goal.run_full-requires
run_full-requires g c = asked_full c.args.command _ c.in-Full.is c.requires.range

pub run_pair-requires : goal.run_pair-requires
run_pair-requires g c = asked_pair c.args.command _ c.in-Pair.is c.requires.range

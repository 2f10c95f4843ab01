use Rattle.std.proofs.Common.{sym, ◌∙◌}
use Rattle.uac_ends.specs.Outcome.{no_memory}
use Rattle.uac_ends.specs.Outside.{outside}
use Rattle.uac_ends.proofs.ClosingLemmas.{closes_memory}
use Rattle.uac_ends.proofs.HandingOnLemmas.{faultless_on, status_before}
use Rattle.uac_call.specs.Call.{usage}
use Rattle.uac_call.proofs.CallLemmas.{done_call, closes_usage, usage_call, unread_call, read_to_end, ok_is_no_write, read_is_no_write}
use Rattle.uac_call.proofs.CallLemmas.{usage_refuses, memory_refuses, refused_cause, refused_unread, refused_faultless, refused_end}
use Rattle.uac_call.proofs.CompletenessLemmas.{call_whole}
use Rattle.uac_call.proofs.CallHandingOnLemmas.{call_on, write_fault_on}
use Rattle.uac_call.proofs.top.uac_main.Goals as goal

-- ---- the words ask for a command

pub returns-in-Ok-clause-call : goal.returns-in-Ok-clause-call
returns-in-Ok-clause-call g c =
    call_on _ _ _ _ _ _ _ c.hand_on.ensures.kept c.hand_on.ensures.ends _ _ _ _
    (done_call _ _ _ _ _ c.in-Ok.ensures.plainly c.perform-status.ensures.done)

pub returns-in-Ok-clause-read_fault : goal.returns-in-Ok-clause-read_fault
returns-in-Ok-clause-read_fault g c is =
    c.perform-status.ensures.read_fault (sym (status_before _ _ _ _ c.hand_on.ensures.ends (read_is_no_write _ is)) ∙ is)

pub returns-in-Ok-clause-write_fault : goal.returns-in-Ok-clause-write_fault
returns-in-Ok-clause-write_fault g c =
    write_fault_on _ _ _ _ _ _ c.hand_on.ensures.ends
    (done_call _ _ _ _ _ c.in-Ok.ensures.plainly c.perform-status.ensures.done) c.perform-status.ensures.write_fault

pub returns-in-Ok-clause-faultless : goal.returns-in-Ok-clause-faultless
returns-in-Ok-clause-faultless g c =
    faultless_on (outside (g.S.Source.left c.args.source.now) (g.S.Source.faults c.args.source.now) (g.K.Sink.written c.args.sink.now) (g.K.Sink.faults c.args.sink.now))
    (g.S.Source.left c.perform-status.new.source) (g.S.Source.faults c.perform-status.new.source)
    (g.K.Sink.written c.perform-status.new.sink) (g.K.Sink.written c.hand_on.new.sink)
    (g.K.Sink.faults c.perform-status.new.sink) (g.K.Sink.faults c.hand_on.new.sink) c.perform-status.result c.hand_on.result
    c.hand_on.ensures.ends c.perform-status.ensures.faultless

pub returns-in-Ok-clause-ok : goal.returns-in-Ok-clause-ok
returns-in-Ok-clause-ok g c is reads =
    read_to_end _ _
    (outside (g.S.Source.left c.perform-status.new.source) (g.S.Source.faults c.perform-status.new.source)
    (g.K.Sink.written c.perform-status.new.sink) (g.K.Sink.faults c.perform-status.new.sink)) _
    c.in-Ok.ensures.plainly c.perform-status.ensures.ok
    (sym (status_before _ _ _ _ c.hand_on.ensures.ends (ok_is_no_write _ is)) ∙ is) reads

pub returns-in-Ok-clause-complete : goal.returns-in-Ok-clause-complete
returns-in-Ok-clause-complete g c = call_whole _ _ _ _ (returns-in-Ok-clause-call g c) (returns-in-Ok-clause-write_fault g c)

pub returns-in-Ok-clause-handed_on : goal.returns-in-Ok-clause-handed_on
returns-in-Ok-clause-handed_on g c = c.hand_on.ensures.handed_on

-- ---- they ask for none

pub returns-in-Err-Usage-clause-call : goal.returns-in-Err-Usage-clause-call
returns-in-Err-Usage-clause-call g c =
    usage_call _ _ _ _ _ _ _ _ _ _ c.in-Err-Usage.field-0-is c.in-Err-Usage.ensures.plainly (closes_usage _ _ _ _ _ c.conclude.ensures.closed)

pub returns-in-Err-Usage-clause-read_fault : goal.returns-in-Err-Usage-clause-read_fault
returns-in-Err-Usage-clause-read_fault g c =
    refused_unread usage usage_refuses (g.K.Sink.written c.args.sink.now) (g.K.Sink.written c.conclude.new.sink)
    (g.K.Sink.faults c.args.sink.now) (g.K.Sink.faults c.conclude.new.sink) c.conclude.result (closes_usage _ _ _ _ _ c.conclude.ensures.closed) _

pub returns-in-Err-Usage-clause-write_fault : goal.returns-in-Err-Usage-clause-write_fault
returns-in-Err-Usage-clause-write_fault g c =
    refused_cause usage usage_refuses (g.K.Sink.written c.args.sink.now) (g.K.Sink.written c.conclude.new.sink)
    (g.K.Sink.faults c.args.sink.now) (g.K.Sink.faults c.conclude.new.sink) c.conclude.result (closes_usage _ _ _ _ _ c.conclude.ensures.closed)

pub returns-in-Err-Usage-clause-faultless : goal.returns-in-Err-Usage-clause-faultless
returns-in-Err-Usage-clause-faultless g c =
    refused_faultless usage usage_refuses (g.K.Sink.written c.args.sink.now) (g.K.Sink.written c.conclude.new.sink)
    (g.K.Sink.faults c.args.sink.now) (g.K.Sink.faults c.conclude.new.sink) c.conclude.result (closes_usage _ _ _ _ _ c.conclude.ensures.closed) (g.S.Source.left c.args.source.now) _

pub returns-in-Err-Usage-clause-ok : goal.returns-in-Err-Usage-clause-ok
returns-in-Err-Usage-clause-ok g c =
    refused_end usage usage_refuses (g.K.Sink.written c.args.sink.now) (g.K.Sink.written c.conclude.new.sink)
    (g.K.Sink.faults c.args.sink.now) (g.K.Sink.faults c.conclude.new.sink) c.conclude.result (closes_usage _ _ _ _ _ c.conclude.ensures.closed) _ _

pub returns-in-Err-Usage-clause-complete : goal.returns-in-Err-Usage-clause-complete
returns-in-Err-Usage-clause-complete g c = call_whole _ _ _ _ (returns-in-Err-Usage-clause-call g c) (returns-in-Err-Usage-clause-write_fault g c)

pub returns-in-Err-Usage-clause-handed_on : goal.returns-in-Err-Usage-clause-handed_on
returns-in-Err-Usage-clause-handed_on g c = c.conclude.ensures.handed_on

-- ---- there was no memory to read them

pub returns-in-Err-NoMemory-clause-call : goal.returns-in-Err-NoMemory-clause-call
returns-in-Err-NoMemory-clause-call g c = unread_call _ _ _ _ _ _ _ _ _ (closes_memory _ _ _ _ _ c.conclude-in-Err-NoMemory.ensures.closed)

pub returns-in-Err-NoMemory-clause-read_fault : goal.returns-in-Err-NoMemory-clause-read_fault
returns-in-Err-NoMemory-clause-read_fault g c =
    refused_unread no_memory memory_refuses (g.K.Sink.written c.args.sink.now) (g.K.Sink.written c.conclude-in-Err-NoMemory.new.sink)
    (g.K.Sink.faults c.args.sink.now) (g.K.Sink.faults c.conclude-in-Err-NoMemory.new.sink)
    c.conclude-in-Err-NoMemory.result (closes_memory _ _ _ _ _ c.conclude-in-Err-NoMemory.ensures.closed) _

pub returns-in-Err-NoMemory-clause-write_fault : goal.returns-in-Err-NoMemory-clause-write_fault
returns-in-Err-NoMemory-clause-write_fault g c =
    refused_cause no_memory memory_refuses (g.K.Sink.written c.args.sink.now) (g.K.Sink.written c.conclude-in-Err-NoMemory.new.sink)
    (g.K.Sink.faults c.args.sink.now) (g.K.Sink.faults c.conclude-in-Err-NoMemory.new.sink)
    c.conclude-in-Err-NoMemory.result (closes_memory _ _ _ _ _ c.conclude-in-Err-NoMemory.ensures.closed)

pub returns-in-Err-NoMemory-clause-faultless : goal.returns-in-Err-NoMemory-clause-faultless
returns-in-Err-NoMemory-clause-faultless g c =
    refused_faultless no_memory memory_refuses (g.K.Sink.written c.args.sink.now) (g.K.Sink.written c.conclude-in-Err-NoMemory.new.sink)
    (g.K.Sink.faults c.args.sink.now) (g.K.Sink.faults c.conclude-in-Err-NoMemory.new.sink)
    c.conclude-in-Err-NoMemory.result (closes_memory _ _ _ _ _ c.conclude-in-Err-NoMemory.ensures.closed) (g.S.Source.left c.args.source.now) _

pub returns-in-Err-NoMemory-clause-ok : goal.returns-in-Err-NoMemory-clause-ok
returns-in-Err-NoMemory-clause-ok g c =
    refused_end no_memory memory_refuses (g.K.Sink.written c.args.sink.now) (g.K.Sink.written c.conclude-in-Err-NoMemory.new.sink)
    (g.K.Sink.faults c.args.sink.now) (g.K.Sink.faults c.conclude-in-Err-NoMemory.new.sink)
    c.conclude-in-Err-NoMemory.result (closes_memory _ _ _ _ _ c.conclude-in-Err-NoMemory.ensures.closed) _ _

pub returns-in-Err-NoMemory-clause-complete : goal.returns-in-Err-NoMemory-clause-complete
returns-in-Err-NoMemory-clause-complete g c = call_whole _ _ _ _ (returns-in-Err-NoMemory-clause-call g c) (returns-in-Err-NoMemory-clause-write_fault g c)

pub returns-in-Err-NoMemory-clause-handed_on : goal.returns-in-Err-NoMemory-clause-handed_on
returns-in-Err-NoMemory-clause-handed_on g c = c.conclude-in-Err-NoMemory.ensures.handed_on

use Rattle.std.proofs.Common.{ap, refl}
use Rattle.uac_ends.specs.Outside.{outside}
use Rattle.uac_ends.proofs.ClosingLemmas.{closes_memory}
use Rattle.uac_cli.proofs.ProgramLemmas.{asked_words, call_asked, whole_asked, end_asked, call_unread}
use Rattle.uac_cli.proofs.program.run_arguments.Goals as goal

pub returns-in-Ok-run_in_boxes-clause-call : goal.returns-in-Ok-run_in_boxes-clause-call
returns-in-Ok-run_in_boxes-clause-call g c =
    call_asked _ _ _ _ _ (asked_words c.args.args c.in-Ok.words.items _ c.deref.ensures.value c.in-Ok.ensures.given c.in-Ok.ensures.none) c.in-Ok-run_in_boxes.ensures.run.call

pub returns-in-Ok-run_in_boxes-clause-ok : goal.returns-in-Ok-run_in_boxes-clause-ok
returns-in-Ok-run_in_boxes-clause-ok g c =
    end_asked _ _ _ _ (asked_words c.args.args c.in-Ok.words.items _ c.deref.ensures.value c.in-Ok.ensures.given c.in-Ok.ensures.none) c.in-Ok-run_in_boxes.ensures.run.ok

pub returns-in-Ok-run_in_boxes-clause-complete : goal.returns-in-Ok-run_in_boxes-clause-complete
returns-in-Ok-run_in_boxes-clause-complete g c =
    whole_asked _ _ _
    (outside (g.S.Source.left c.run_in_boxes.new.source) (g.S.Source.faults c.run_in_boxes.new.source)
    (g.K.Sink.written c.run_in_boxes.new.sink) (g.K.Sink.faults c.run_in_boxes.new.sink))
    _ (asked_words c.args.args c.in-Ok.words.items _ c.deref.ensures.value c.in-Ok.ensures.given c.in-Ok.ensures.none) c.in-Ok-run_in_boxes.ensures.run.complete

pub returns-in-Ok-clause-call : goal.returns-in-Ok-clause-call
returns-in-Ok-clause-call g c =
    let lost = c.in-Err-run_in_boxes.ensures in
    call_unread _ _ _ _ _ _ _ _ _ _ _ _ (ap g.S.Source.left lost.untaken) (ap g.S.Source.faults lost.untaken) (ap g.K.Sink.written lost.unwritten) (ap g.K.Sink.faults lost.unwritten) (closes_memory _ _ _ _ _ c.conclude.ensures.closed)

pub returns-clause-call : goal.returns-clause-call
returns-clause-call g c = call_unread _ _ _ _ _ _ _ _ _ _ _ _ refl refl refl refl (closes_memory _ _ _ _ _ c.conclude-in-Err.ensures.closed)

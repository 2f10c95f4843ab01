use Rattle.std.proofs.Common.{subst, sym}
use Rattle.uac_descriptor.specs.WellFormed.{AreWellFormed}
use Rattle.uac_ends.specs.Outcome.{read_fault}
use Rattle.uac_ends.proofs.ClosingLemmas.{closes_faultless, closes_read_fault, told_status}
use Rattle.uac_listing.proofs.AnsweredLemmas.{judged_run, refused_run, failed_run, refuses_faultless}
use Rattle.uac_listing.proofs.describing.describe.Goals as goal

pub returns-in-Whole-clause-answered : goal.returns-in-Whole-clause-answered
returns-in-Whole-clause-answered g c = judged_run _ _ _ _ _ _ _ _ _ c.args.description _ _ c.in-Whole.ensures.reads (c.in-Whole.ensures.faultless (λ e. cc)) c.deref.ensures.value c.judge.ensures

pub returns-in-Stopped-clause-answered : goal.returns-in-Stopped-clause-answered
returns-in-Stopped-clause-answered g c = refused_run _ _ _ _ _ _ _ _ _ c.args.description _ c.in-Stopped.ensures.reads (c.in-Stopped.ensures.faultless (λ e. cc)) c.refuse.ensures

pub returns-in-Failed-clause-answered : goal.returns-in-Failed-clause-answered
returns-in-Failed-clause-answered g c = failed_run _ _ _ _ _ _ _ _ _ c.args.description c.in-Failed.ensures.reads (closes_read_fault _ _ _ _ _ c.close.ensures)

pub returns-in-Whole-clause-faultless : goal.returns-in-Whole-clause-faultless
returns-in-Whole-clause-faultless g c = λ unread unwritten. (
  c.in-Whole.ensures.faultless (λ e. cc),
  closes_faultless c.judge.ensures.outcome (g.K.Sink.written c.args.sink.now) (g.K.Sink.written c.judge.new.sink) (g.K.Sink.faults c.args.sink.now) (g.K.Sink.faults c.judge.new.sink) c.judge.result
      c.judge.ensures.closed unwritten,
)

pub returns-in-Stopped-clause-faultless : goal.returns-in-Stopped-clause-faultless
returns-in-Stopped-clause-faultless g c = λ unread unwritten. (
  c.in-Stopped.ensures.faultless (λ e. cc),
  refuses_faultless c.in-Stopped.stop (g.K.Sink.written c.args.sink.now) (g.K.Sink.written c.refuse.new.sink) (g.K.Sink.faults c.args.sink.now) (g.K.Sink.faults c.refuse.new.sink) c.refuse.result
      c.refuse.ensures unwritten,
)

pub returns-in-Failed-clause-faultless : goal.returns-in-Failed-clause-faultless
returns-in-Failed-clause-faultless g c = λ unread unwritten.
    absurd (told_status read_fault (g.K.Sink.written c.args.sink.now) (g.K.Sink.written c.close.new.sink) (g.K.Sink.faults c.args.sink.now) (g.K.Sink.faults c.close.new.sink) c.close.result
    (closes_read_fault _ _ _ _ _ c.close.ensures) unread unwritten)

pub judge-requires : goal.judge-requires
judge-requires g c =
    let reads = c.in-Whole.ensures.reads in
    subst AreWellFormed (sym c.deref.ensures.value) (c.sentences_are_well_formed.ensures reads.taken c.in-Whole.blocks.items reads.comes.1)

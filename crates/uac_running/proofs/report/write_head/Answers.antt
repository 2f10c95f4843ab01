use Rattle.std.proofs.Common.{[], ◌∷◌}
use Rattle.uac_transcript.specs.Transcript.{says_time, says_steady}
use Rattle.uac_transcript.proofs.PrintingLemmas.{Appends-line, Prints-after, Prints-line, Prints-stopped, front_of_line}
use Rattle.uac_running.proofs.report.write_head.Goals as goal

pub returns-in_err-write_time-clause-printed : goal.returns-in_err-write_time-clause-printed
returns-in_err-write_time-clause-printed g c =
    Prints-stopped _ (g.K.Sink.written c.args.sink.now) (g.K.Sink.written c.write_time.new.sink) c.from_residual.result (says_time c.args.time ∷ []) (says_steady c.args.steady ∷ []) c.from_residual.ensures.1
    (front_of_line (g.K.Sink.written c.args.sink.now) (g.K.Sink.written c.write_time.new.sink) (says_time c.args.time) c.in_err-write_time.ensures.written)

pub returns-clause-printed : goal.returns-clause-printed
returns-clause-printed g c =
    Prints-after (g.K.Sink.written c.args.sink.now) (g.K.Sink.written c.write_time.new.sink) (g.K.Sink.written c.write_steady.new.sink) c.write_steady.result (says_time c.args.time ∷ []) (says_steady c.args.steady ∷ [])
    (Appends-line (g.K.Sink.written c.args.sink.now) (g.K.Sink.written c.write_time.new.sink) (says_time c.args.time) c.in_ok-write_time.ensures.written)
    (Prints-line (g.K.Sink.written c.write_time.new.sink) (g.K.Sink.written c.write_steady.new.sink) c.write_steady.result (says_steady c.args.steady) c.write_steady.ensures.written)

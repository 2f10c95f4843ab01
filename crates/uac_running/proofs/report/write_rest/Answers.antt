use Rattle.std.proofs.Common.{map}
use Rattle.uac_transcript.proofs.PrintingLemmas.{Prints-after, Prints-stopped, Prints-stopped_next, front_of_more}
use Rattle.uac_running.specs.ReportLines.{domain_line, stream_line}
use Rattle.uac_running.proofs.report.write_rest.Goals as goal

pub returns-in_err-write_domains-clause-printed : goal.returns-in_err-write_domains-clause-printed
returns-in_err-write_domains-clause-printed g c = λ w met stands none same.
    Prints-stopped _ (g.K.Sink.written c.args.sink.now) (g.K.Sink.written c.write_domains.new.sink) c.from_residual.result (map (domain_line w) w.domains) _ c.from_residual.ensures.1
    (c.in_err-write_domains.ensures.printed w stands same)

pub returns-in_err-write_streams-clause-printed : goal.returns-in_err-write_streams-clause-printed
returns-in_err-write_streams-clause-printed g c = λ w met stands none same.
    Prints-stopped_next _ (g.K.Sink.written c.args.sink.now) (g.K.Sink.written c.write_domains.new.sink) (g.K.Sink.written c.write_streams.new.sink) c.from_residual-in_err-write_streams.result
    (map (domain_line w) w.domains) _ c.from_residual-in_err-write_streams.ensures.1 (c.in_ok-write_domains.ensures.printed w stands same)
    (front_of_more (g.K.Sink.written c.write_domains.new.sink) (g.K.Sink.written c.write_streams.new.sink) (map (stream_line w met) w.function.streams) _
    (c.in_err-write_streams.ensures.printed w met stands none))

pub returns-clause-printed : goal.returns-clause-printed
returns-clause-printed g c = λ w met stands none same.
    Prints-after (g.K.Sink.written c.args.sink.now) (g.K.Sink.written c.write_domains.new.sink) (g.K.Sink.written c.write_last.new.sink) c.write_last.result
    (map (domain_line w) w.domains) _ (c.in_ok-write_domains.ensures.printed w stands same)
    (Prints-after (g.K.Sink.written c.write_domains.new.sink) (g.K.Sink.written c.write_streams.new.sink) (g.K.Sink.written c.write_last.new.sink) c.write_last.result
    (map (stream_line w met) w.function.streams) _ (c.in_ok-write_streams.ensures.printed w met stands none) c.write_last.ensures.printed)

use Rattle.std.proofs.Common.{[], ◌∷◌, map}
use Rattle.uac_units.specs.MeterReadings.{readings}
use Rattle.uac_transcript.specs.Transcript.{says_meter, says_renders}
use Rattle.uac_transcript.proofs.PrintingLemmas.{Prints-after, Prints-line, Prints-stopped}
use Rattle.uac_running.proofs.report.write_last.Goals as goal

pub returns-in_err-write_meters-clause-printed : goal.returns-in_err-write_meters-clause-printed
returns-in_err-write_meters-clause-printed g c =
    Prints-stopped _ (g.K.Sink.written c.args.sink.now) (g.K.Sink.written c.write_meters.new.sink) c.from_residual.result
    (map says_meter (readings (λ v x. (goal.Meter-dyn g (v, x)).reading_of x) c.args.meters.now)) (says_renders c.args.renders ∷ []) c.from_residual.ensures.1
    c.in_err-write_meters.ensures.printed

pub returns-clause-printed : goal.returns-clause-printed
returns-clause-printed g c =
    Prints-after (g.K.Sink.written c.args.sink.now) (g.K.Sink.written c.write_meters.new.sink) (g.K.Sink.written c.write_renders.new.sink) c.write_renders.result
    (map says_meter (readings (λ v x. (goal.Meter-dyn g (v, x)).reading_of x) c.args.meters.now)) (says_renders c.args.renders ∷ []) c.in_ok-write_meters.ensures.printed
    (Prints-line (g.K.Sink.written c.write_meters.new.sink) (g.K.Sink.written c.write_renders.new.sink) c.write_renders.result (says_renders c.args.renders) c.write_renders.ensures.written)

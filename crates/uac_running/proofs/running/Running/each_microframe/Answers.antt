use Rattle.std.proofs.Common.{ap, map, arith, ◌+◌, ◌-◌, ◌∙◌, refl}
use Rattle.uac_script.specs.Line.{phrase_mark}
use Rattle.uac_units.specs.MeterReadings.{readings}
use Rattle.uac_running.specs.Events.{microframe, microframes}
use Rattle.uac_running.specs.RunningKept.{RunningStandsBetween}
use Rattle.uac_running.proofs.TellingLemmas.{begun, finished, one_more, stopped}
use Rattle.uac_running.proofs.EventsLemmas.{microframes_end, microframes_split}
use Rattle.uac_transcript.proofs.PrintingLemmas.{Tells-handed_on}
use Rattle.uac_running.proofs.running.Running.each_microframe.Goals as goal

pub loop-passed-init : goal.loop-passed-init
loop-passed-init g c = record {
  told = λ r stands.
      begun RunningStandsBetween (microframes (map phrase_mark c.args.marks.now) c.args.count r) (microframes (map phrase_mark c.args.marks.now) (c.args.count - 0)) c.args.self.now (readings (λ v x. (goal.Meter-dyn g (v, x)).reading_of x) c.args.meters.now) (g.K.Sink.written c.args.sink.now) r stands (ap (λ n. microframes (map phrase_mark c.args.marks.now) n r) (omega arith));
  faultless = refl;
}

pub returns-in_err-microframe-clause-tells : goal.returns-in_err-microframe-clause-tells
returns-in_err-microframe-clause-tells g c r stands =
    Tells-handed_on _ _ (g.K.Sink.written c.args.sink.now) (g.K.Sink.written c.microframe.new.sink) c.from_residual.result _ c.from_residual.ensures.1 (
    stopped RunningStandsBetween (microframes (map phrase_mark c.args.marks.now) c.args.count r) (microframes (map phrase_mark c.args.marks.now) (c.args.count - c.loop-passed._passed)) (microframes (map phrase_mark c.args.marks.now) (c.args.count - (c.loop-passed._passed + 1)))
    (microframe (map phrase_mark c.args.marks.now)) c.loop-passed.self (readings (λ v x. (goal.Meter-dyn g (v, x)).reading_of x) c.loop-passed.meters)
    (g.K.Sink.written c.args.sink.now) (g.K.Sink.written c.loop-passed.sink) (g.K.Sink.written c.microframe.new.sink)
    (λ w. microframes_split (map phrase_mark c.args.marks.now) c.args.count c.loop-passed._passed w c.loop-passed-test.true) (c.loop-passed.invariant.told r stands) c.in_err-microframe.ensures.tells
    )

pub loop-passed-preserved : goal.loop-passed-preserved
loop-passed-preserved g c = record {
  told = λ r stands.
      one_more RunningStandsBetween (microframes (map phrase_mark c.args.marks.now) c.args.count r) (microframes (map phrase_mark c.args.marks.now) (c.args.count - c.loop-passed._passed)) (microframes (map phrase_mark c.args.marks.now) (c.args.count - (c.loop-passed._passed + 1)))
      (microframe (map phrase_mark c.args.marks.now)) c.loop-passed.self c.microframe.new.self (readings (λ v x. (goal.Meter-dyn g (v, x)).reading_of x) c.loop-passed.meters) (readings (λ v x. (goal.Meter-dyn g (v, x)).reading_of x) c.microframe.new.meters)
      (g.K.Sink.written c.args.sink.now) (g.K.Sink.written c.loop-passed.sink) (g.K.Sink.written c.microframe.new.sink)
      (λ w. microframes_split (map phrase_mark c.args.marks.now) c.args.count c.loop-passed._passed w c.loop-passed-test.true) (c.loop-passed.invariant.told r stands) c.in_ok-microframe.ensures.tells;
  faultless = c.in_ok-microframe.ensures.cause.faultless ∙ c.loop-passed.invariant.faultless;
}

pub returns-clause-tells : goal.returns-clause-tells
returns-clause-tells g c r stands =
    finished RunningStandsBetween (microframes (map phrase_mark c.args.marks.now) c.args.count r) (microframes (map phrase_mark c.args.marks.now) (c.args.count - c.loop-passed._passed)) c.loop-passed.self
    (readings (λ v x. (goal.Meter-dyn g (v, x)).reading_of x) c.loop-passed.meters) (g.K.Sink.written c.args.sink.now) (g.K.Sink.written c.loop-passed.sink)
    (c.loop-passed.invariant.told r stands) (λ w. microframes_end (map phrase_mark c.args.marks.now) c.args.count c.loop-passed._passed w c.loop-passed-test.false)

use Rattle.std.proofs.Common.{ap, arith, ◌+◌, ◌-◌, ◌∙◌, refl, map}
use Rattle.uac_script.specs.Line.{phrase_mark}
use Rattle.uac_units.specs.MeterReadings.{readings}
use Rattle.uac_running.specs.Ahead.{IsAhead}
use Rattle.uac_running.specs.Events.{microframe, microframes}
use Rattle.uac_running.proofs.TellingLemmas.{begun, finished, one_more_to, stopped}
use Rattle.uac_running.proofs.EventsLemmas.{microframes_end, microframes_split}
use Rattle.uac_running.proofs.AheadLemmas.{none_ahead, none_are_few}
use Rattle.uac_transcript.proofs.PrintingLemmas.{Tells-handed_on}
use Rattle.uac_running.proofs.running.Running.ahead_microframes.Goals as goal

pub loop-passed-init : goal.loop-passed-init
loop-passed-init g c = record {
  told = λ r stands lone.
      let marks = map phrase_mark c.args.marks.now in
      let shown = readings (λ v x. (goal.Meter-dyn g (v, x)).reading_of x) c.args.meters.now in
      begun (IsAhead c.args.domain c.none-ahead.result.ticks c.none-ahead.result.sent) (microframes marks c.args.count r) (microframes marks (c.args.count - 0)) c.args.self.now shown (g.K.Sink.written c.args.sink.now) r
      (none_ahead c.args.domain c.none-ahead.result.ticks c.none-ahead.result.sent c.args.self.now shown r c.none-ahead.ensures.ticks c.none-ahead.ensures.sent stands lone) (ap (λ n. microframes marks n r) (omega arith));
  ticks = omega (arith, c.none-ahead.ensures.ticks);
  sent = none_are_few 8 c.none-ahead.result.sent c.none-ahead.ensures.sent;
  faultless = refl;
}

pub returns-in_err-ahead-clause-tells : goal.returns-in_err-ahead-clause-tells
returns-in_err-ahead-clause-tells g c r stands lone =
    let marks = map phrase_mark c.args.marks.now in
    Tells-handed_on _ _ (g.K.Sink.written c.args.sink.now) (g.K.Sink.written c.ahead_microframe.new.sink) c.from_residual.result _ c.from_residual.ensures.1 (
    stopped (IsAhead c.args.domain c.loop-passed.ahead.ticks c.loop-passed.ahead.sent) (microframes marks c.args.count r) (microframes marks (c.args.count - c.loop-passed._passed)) (microframes marks (c.args.count - (c.loop-passed._passed + 1)))
    (microframe marks) c.loop-passed.self (readings (λ v x. (goal.Meter-dyn g (v, x)).reading_of x) c.loop-passed.meters)
    (g.K.Sink.written c.args.sink.now) (g.K.Sink.written c.loop-passed.sink) (g.K.Sink.written c.ahead_microframe.new.sink)
    (λ w. microframes_split marks c.args.count c.loop-passed._passed w c.loop-passed-test.true) (c.loop-passed.invariant.told r stands lone) c.in_err-ahead.ensures.tells
    )

pub loop-passed-preserved : goal.loop-passed-preserved
loop-passed-preserved g c = record {
  told = λ r stands lone.
      let marks = map phrase_mark c.args.marks.now in
      one_more_to (IsAhead c.args.domain c.loop-passed.ahead.ticks c.loop-passed.ahead.sent) (IsAhead c.args.domain c.in_ok-ahead.ahead.ticks c.in_ok-ahead.ahead.sent)
      (microframes marks c.args.count r) (microframes marks (c.args.count - c.loop-passed._passed)) (microframes marks (c.args.count - (c.loop-passed._passed + 1)))
      (microframe marks) c.loop-passed.self c.ahead_microframe.new.self (readings (λ v x. (goal.Meter-dyn g (v, x)).reading_of x) c.loop-passed.meters) (readings (λ v x. (goal.Meter-dyn g (v, x)).reading_of x) c.ahead_microframe.new.meters)
      (g.K.Sink.written c.args.sink.now) (g.K.Sink.written c.loop-passed.sink) (g.K.Sink.written c.ahead_microframe.new.sink)
      (λ w. microframes_split marks c.args.count c.loop-passed._passed w c.loop-passed-test.true) (c.loop-passed.invariant.told r stands lone) c.in_ok-ahead.ensures.tells;
  ticks = c.in_ok-ahead.ensures.ticks;
  sent = c.in_ok-ahead.ensures.sent;
  faultless = c.in_ok-ahead.ensures.cause.faultless ∙ c.loop-passed.invariant.faultless;
}

pub returns-clause-tells : goal.returns-clause-tells
returns-clause-tells g c r stands lone =
    let marks = map phrase_mark c.args.marks.now in
    let whole = microframes marks c.args.count r in
    let told = finished (IsAhead c.args.domain c.loop-passed.ahead.ticks c.loop-passed.ahead.sent) whole (microframes marks (c.args.count - c.loop-passed._passed)) c.loop-passed.self
    (readings (λ v x. (goal.Meter-dyn g (v, x)).reading_of x) c.loop-passed.meters) (g.K.Sink.written c.args.sink.now) (g.K.Sink.written c.loop-passed.sink)
    (c.loop-passed.invariant.told r stands lone) (λ w. microframes_end marks c.args.count c.loop-passed._passed w c.loop-passed-test.false) in
    (told.0, record { now = c.catch_up.ensures whole.world told.1; room = told.1.room })

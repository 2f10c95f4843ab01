use Rattle.std.proofs.Common.{◌∙◌, ap, arith, rules, ◌+◌, ◌-◌, refl, false, not, subst, sym}
use Rattle.uac_units.specs.MeterReadings.{readings}
use Rattle.uac_running.specs.Events.{tick, tick_times}
use Rattle.uac_running.specs.RunningKept.{RunningFields, RunningStands}
use Rattle.uac_running.proofs.TellingLemmas.{begun, finished, one_more_to, stopped}
use Rattle.uac_running.proofs.SilenceLemmas.{RestsSo, after_one_tick, begun_to_tick}
use Rattle.uac_running.proofs.EventsLemmas.{ticks_end, ticks_split}
use Rattle.uac_transcript.proofs.PrintingLemmas.{Tells-handed_on}
use Rattle.uac_running.proofs.running.Running.tick_each.Goals as goal

pub loop-ticked-init : goal.loop-ticked-init
loop-ticked-init g c = record {
  told = λ r stands.
      begun (RestsSo (not c.one_is_audible-silent.result) (not c.runs-still.result) false false c.args.domain) (tick_times c.args.count c.args.domain r) (tick_times (c.args.count - 0) c.args.domain) c.args.self.now (readings (λ v x. (goal.Meter-dyn g (v, x)).reading_of x) c.args.meters.now) (g.K.Sink.written c.args.sink.now) r
      (begun_to_tick c.one_is_audible-silent.result c.runs-still.result c.args.domain c.args.self.now c.deref.result.now (readings (λ v x. (goal.Meter-dyn g (v, x)).reading_of x) c.args.meters.now) r stands c.one_is_audible-silent.ensures (c.deref.ensures.value ∙ ap (λ (p : RunningFields). p.jacks) c.self.view_is)
      (c.runs-still.ensures.none r.device (subst (λ (p : RunningFields). RunningStands p (readings (λ v x. (goal.Meter-dyn g (v, x)).reading_of x) c.args.meters.now) r) (sym c.self.view_is) stands).streaming.device))
      (ap (λ n. tick_times n c.args.domain r) (omega arith));
  faultless = refl;
  function = search rules;
}

pub returns-in_err-tick-clause-tells : goal.returns-in_err-tick-clause-tells
returns-in_err-tick-clause-tells g c r stands =
    Tells-handed_on _ _ (g.K.Sink.written c.args.sink.now) (g.K.Sink.written c.tick.new.sink) c.from_residual.result _ c.from_residual.ensures.1 (
    stopped (RestsSo (not c.one_is_audible-silent.result) (not c.runs-still.result) c.loop-ticked.rest.jacks c.loop-ticked.rest.device_streams c.args.domain) (tick_times c.args.count c.args.domain r) (tick_times (c.args.count - c.loop-ticked._ticked) c.args.domain) (tick_times (c.args.count - (c.loop-ticked._ticked + 1)) c.args.domain)
    (tick c.args.domain) c.loop-ticked.self (readings (λ v x. (goal.Meter-dyn g (v, x)).reading_of x) c.loop-ticked.meters)
    (g.K.Sink.written c.args.sink.now) (g.K.Sink.written c.loop-ticked.sink) (g.K.Sink.written c.tick.new.sink)
    (λ w. ticks_split c.args.count c.loop-ticked._ticked c.args.domain w c.loop-ticked-test.true) (c.loop-ticked.invariant.told r stands) (λ w s. c.in_err-tick.ensures.tells w s.now s.rests s.stills)
    )

pub loop-ticked-preserved : goal.loop-ticked-preserved
loop-ticked-preserved g c = record {
  told = λ r stands.
      one_more_to (RestsSo (not c.one_is_audible-silent.result) (not c.runs-still.result) c.loop-ticked.rest.jacks c.loop-ticked.rest.device_streams c.args.domain) (RestsSo (not c.one_is_audible-silent.result) (not c.runs-still.result) (not c.one_is_audible-silent.result) (not c.runs-still.result) c.args.domain) (tick_times c.args.count c.args.domain r) (tick_times (c.args.count - c.loop-ticked._ticked) c.args.domain) (tick_times (c.args.count - (c.loop-ticked._ticked + 1)) c.args.domain)
      (tick c.args.domain) c.loop-ticked.self c.tick.new.self (readings (λ v x. (goal.Meter-dyn g (v, x)).reading_of x) c.loop-ticked.meters) (readings (λ v x. (goal.Meter-dyn g (v, x)).reading_of x) c.tick.new.meters)
      (g.K.Sink.written c.args.sink.now) (g.K.Sink.written c.loop-ticked.sink) (g.K.Sink.written c.tick.new.sink)
      (λ w. ticks_split c.args.count c.loop-ticked._ticked c.args.domain w c.loop-ticked-test.true) (c.loop-ticked.invariant.told r stands)
      (λ w s.
      let t = c.in_ok-tick.ensures.tells w s.now s.rests s.stills in (
        t.0,
        after_one_tick (not c.one_is_audible-silent.result) (not c.runs-still.result) c.loop-ticked.rest.jacks c.loop-ticked.rest.device_streams c.args.domain c.loop-ticked.self c.tick.new.self (readings (λ v x. (goal.Meter-dyn g (v, x)).reading_of x) c.loop-ticked.meters)
            (readings (λ v x. (goal.Meter-dyn g (v, x)).reading_of x) c.tick.new.meters) w s t.1
            (c.tick.ensures.rests (readings (λ v x. (goal.Meter-dyn g (v, x)).reading_of x) c.loop-ticked.meters) w s.now),
      ));
  faultless = c.in_ok-tick.ensures.cause.faultless ∙ c.loop-ticked.invariant.faultless;
  function = c.tick.ensures.function ∙ c.loop-ticked.invariant.function;
}

pub returns-clause-tells : goal.returns-clause-tells
returns-clause-tells g c r stands =
    let all = finished (RestsSo (not c.one_is_audible-silent.result) (not c.runs-still.result) c.loop-ticked.rest.jacks c.loop-ticked.rest.device_streams c.args.domain) (tick_times c.args.count c.args.domain r) (tick_times (c.args.count - c.loop-ticked._ticked) c.args.domain) c.loop-ticked.self
    (readings (λ v x. (goal.Meter-dyn g (v, x)).reading_of x) c.loop-ticked.meters) (g.K.Sink.written c.args.sink.now) (g.K.Sink.written c.loop-ticked.sink)
    (c.loop-ticked.invariant.told r stands) (λ w. ticks_end c.args.count c.loop-ticked._ticked c.args.domain w c.loop-ticked-test.false) in
    (all.0, all.1.now)

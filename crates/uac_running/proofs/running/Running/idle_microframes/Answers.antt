use Rattle.std.proofs.Common.{◌∙◌, ◌+◌, ◌-◌, ◌≤◌, ap, arith, refl, subst}
use Rattle.uac_topology.specs.FunctionKept.{AreNumbered}
use Rattle.uac_units.specs.MeterReadings.{readings}
use Rattle.uac_transcript.proofs.PrintingLemmas.{Tells-handed_on}
use Rattle.uac_streaming.proofs.RoomDeviceLemmas.{HaveSmallNumbers}
use Rattle.uac_running.specs.RunningKept.{RunningFields}
use Rattle.uac_running.specs.Events.{microframes}
use Rattle.uac_running.proofs.EventsLemmas.{microframes_end}
use Rattle.uac_running.proofs.TellingLemmas.{begun, finished, one_more, stopped}
use Rattle.uac_running.proofs.QuietLemmas.{idle_later, idle_room}
use Rattle.uac_running.proofs.IdleLemmas.{StandsIdle, some_split}
use Rattle.uac_running.proofs.running.Running.idle_microframes.Goals as goal

pub loop-passed-init : goal.loop-passed-init
loop-passed-init g c = record {
  told = λ marks r stands idle.
      begun (StandsIdle c.args.domain) (microframes marks c.args.count r) (microframes marks (c.args.count - 0)) c.args.self.now
      (readings (λ v x. (goal.Meter-dyn g (v, x)).reading_of x) c.args.meters.now) (g.K.Sink.written c.args.sink.now) r (stands.now, idle)
      (ap (λ n. microframes marks n r) (omega arith));
  within = omega arith;
  faultless = refl;
}

pub loop-passed-preserved : goal.loop-passed-preserved
loop-passed-preserved g c =
    let some = c.min-some.result in
    let domain = c.args.domain in
    let count = c.args.count in
    let done = c.loop-passed.passed in
    let shown = readings (λ v x. (goal.Meter-dyn g (v, x)).reading_of x) c.loop-passed.meters in
    let showing = readings (λ v x. (goal.Meter-dyn g (v, x)).reading_of x) c.idle_at_once.new.meters in
    let within : done + some ≤ count = omega arith in
    record {
      told = λ marks r stands idle.
          one_more (StandsIdle domain) (microframes marks count r) (microframes marks (count - done)) (microframes marks (count - (done + some)))
          (microframes marks some) c.loop-passed.self c.idle_at_once.new.self shown showing (g.K.Sink.written c.args.sink.now)
          (g.K.Sink.written c.loop-passed.sink) (g.K.Sink.written c.idle_at_once.new.sink)
          (λ w. some_split marks count done some w within) (c.loop-passed.invariant.told marks r stands idle)
          (λ w s.
          let told = c.in_ok-idle_at_once.ensures.tells marks w s.0 s.1 in (
            told.0,
            (told.1, idle_later marks some domain w s.1),
          ));
      within = within;
      faultless = c.in_ok-idle_at_once.ensures.cause.faultless ∙ c.loop-passed.invariant.faultless;
    }

pub returns-in_err-idle_at_once-clause-tells : goal.returns-in_err-idle_at_once-clause-tells
returns-in_err-idle_at_once-clause-tells g c marks r stands idle =
    let some = c.min-some.result in
    let count = c.args.count in
    let done = c.loop-passed.passed in
    let within : done + some ≤ count = omega arith in
    Tells-handed_on _ _ (g.K.Sink.written c.args.sink.now) (g.K.Sink.written c.idle_at_once.new.sink) c.from_residual.result _ c.from_residual.ensures.1
    (stopped (StandsIdle c.args.domain) (microframes marks count r) (microframes marks (count - done)) (microframes marks (count - (done + some)))
    (microframes marks some) c.loop-passed.self (readings (λ v x. (goal.Meter-dyn g (v, x)).reading_of x) c.loop-passed.meters)
    (g.K.Sink.written c.args.sink.now) (g.K.Sink.written c.loop-passed.sink) (g.K.Sink.written c.idle_at_once.new.sink)
    (λ w. some_split marks count done some w within) (c.loop-passed.invariant.told marks r stands idle)
    (λ w s. c.in_err-idle_at_once.ensures.tells marks w s.0 s.1))

pub returns-clause-tells : goal.returns-clause-tells
returns-clause-tells g c marks r stands idle =
    let kept : AreNumbered c.function.result.now = c.interfaces_are_numbered.ensures c.function.result.now c.functions_are_sound.ensures in
    let own = c.function.ensures ∙ ap (λ (p : RunningFields). p.device.function) c.self.view_is ∙ stands.now.streaming.device.function in
    let small = subst HaveSmallNumbers own kept.bytes in
    let all = finished (StandsIdle c.args.domain) (microframes marks c.args.count r) (microframes marks (c.args.count - c.loop-passed.passed)) c.loop-passed.self
    (readings (λ v x. (goal.Meter-dyn g (v, x)).reading_of x) c.loop-passed.meters) (g.K.Sink.written c.args.sink.now) (g.K.Sink.written c.loop-passed.sink)
    (c.loop-passed.invariant.told marks r stands idle)
    (λ w. microframes_end marks c.args.count c.loop-passed.passed w c.loop-passed-test.false) in
    (all.0, record { now = all.1.0; room = idle_room marks c.args.count c.args.domain r small idle stands.room })

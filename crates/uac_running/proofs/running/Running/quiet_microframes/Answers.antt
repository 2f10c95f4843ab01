use Rattle.std.proofs.Common.{◌≡◌, ◌∙◌, ap, arith, subst}
use Rattle.uac_topology.specs.FunctionKept.{AreNumbered}
use Rattle.uac_units.specs.MeterReadings.{readings}
use Rattle.uac_streaming.proofs.RoomDeviceLemmas.{HaveSmallNumbers}
use Rattle.uac_running.specs.Events.{microframes}
use Rattle.uac_running.specs.RunningKept.{RunningFields, RunningStands}
use Rattle.uac_running.proofs.QuietLemmas.{idle_room, microframes_join, quiet_later}
use Rattle.uac_running.proofs.running.Running.quiet_microframes.Goals as goal

pub loop-passed-init : goal.loop-passed-init
unfolding microframes
loop-passed-init g c = record {
  stands = λ marks r stands quiet. stands.now;
  within = omega arith;
}

pub loop-passed-preserved : goal.loop-passed-preserved
loop-passed-preserved g c = record {
  stands = λ marks r stands quiet.
      subst (RunningStands c.quiet_at_once-passed.new.self (readings (λ v x. (goal.Meter-dyn g (v, x)).reading_of x) c.quiet_at_once-passed.new.meters))
      (microframes_join marks c.loop-passed.passed c.quiet_at_once-passed.result r)
      (c.quiet_at_once-passed.ensures.stands marks (microframes marks c.loop-passed.passed r).world (c.loop-passed.invariant.stands marks r stands quiet)
      (quiet_later marks c.loop-passed.passed c.args.domain r quiet));
  within = omega (arith, c.quiet_at_once-passed.ensures.few);
}

pub returns : goal.returns
returns g c marks r stands quiet =
    let kept : AreNumbered c.function.result.now = c.interfaces_are_numbered.ensures c.function.result.now c.functions_are_sound.ensures in
    let own = c.function.ensures ∙ ap (λ (p : RunningFields). p.device.function) c.self.view_is ∙ stands.now.streaming.device.function in
    let small = subst HaveSmallNumbers own kept.bytes in
    let all : c.loop-passed.passed ≡ c.args.count = omega (arith, c.loop-passed-test.false, c.loop-passed.invariant.within) in
    record {
      now = subst (λ n. RunningStands c.loop-passed.self (readings (λ v x. (goal.Meter-dyn g (v, x)).reading_of x) c.loop-passed.meters) (microframes marks n r).world) all
          (c.loop-passed.invariant.stands marks r stands quiet);
      room = idle_room marks c.args.count c.args.domain r small quiet.idle stands.room;
    }

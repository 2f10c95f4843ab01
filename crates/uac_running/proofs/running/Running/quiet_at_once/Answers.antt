use Rattle.std.proofs.Common.{◌≡◌, ◌∙◌, ◌+◌, ◌≤◌, ap, arith, subst, sym, ℕ}
use Rattle.uac_units.specs.Hearing.{at_most_u64}
use Rattle.uac_units.specs.MeterReadings.{readings}
use Rattle.uac_device.specs.DeviceSums.{kept_ticks}
use Rattle.uac_running.specs.RunningKept.{RunningFields}
use Rattle.uac_running.specs.Events.{microframes}
use Rattle.uac_running.proofs.EventsLemmas.{passed_by}
use Rattle.uac_running.proofs.QuietLemmas.{waits_over}
use Rattle.uac_running.proofs.running.Running.quiet_at_once.Goals as goal

pub do_waiting-requires-clause-few : goal.do_waiting-requires-clause-few
do_waiting-requires-clause-few g c =
    let within = subst (λ (p : RunningFields). kept_ticks p.device c.args.domain c.min-count.result ≤ 128) c.self.view_is
    (c.microframes_within.ensures.within c.min-count.result (omega arith)) in
    let same : c.advance_over-waiting.result ≡ kept_ticks c.args.self.now.device c.args.domain c.min-count.result =
    c.advance_over-waiting.ensures.kept ∙ ap (λ (p : RunningFields). kept_ticks p.device c.args.domain c.min-count.result) c.pass_by.ensures in
    subst (λ (k : ℕ). k ≤ 128) (sym same) within

pub returns-clause-stands : goal.returns-clause-stands
returns-clause-stands g c marks r stands quiet =
    let shown = readings (λ v x. (goal.Meter-dyn g (v, x)).reading_of x) c.args.meters.now in
    let count = c.min-count.result in
    let later = passed_by shown r c.args.self.now c.pass_by.new.self stands count c.pass_by.ensures in
    let there = record r { time = at_most_u64 (r.time + count) } in
    c.do_waiting.ensures (microframes marks count r).world
    (waits_over marks c.args.domain count c.advance_over-waiting.result c.advance_over-waiting.new.self shown r (omega arith) quiet.idle
    (c.advance_over-waiting.ensures.ticks shown there later) (c.advance_over-waiting.ensures.stands shown there later))

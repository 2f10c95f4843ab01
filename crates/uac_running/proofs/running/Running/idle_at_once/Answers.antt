use Rattle.std.proofs.Common.{◌≡◌, ◌∙◌, ◌≤◌, ap, arith, length, rules, subst, sym, ℕ}
use Rattle.std.specs.List.{sum}
use Rattle.uac_units.specs.MeterReadings.{readings}
use Rattle.uac_device.specs.DeviceSums.{kept_ticks}
use Rattle.uac_device.specs.DeviceTicks.{HoldPlayed}
use Rattle.uac_running.specs.EventTicks.{tones_of}
use Rattle.uac_running.specs.RunningKept.{RunningFields, RunningStands}
use Rattle.uac_running.specs.Quiet.{gone_by, ticks_of_each}
use Rattle.uac_running.proofs.QuietLemmas.{met_waits}
use Rattle.uac_running.proofs.IdleLemmas.{idle_gone_by, idle_told}
use Rattle.uac_running.proofs.running.Running.idle_at_once.Goals as goal

pub show_each-requires : goal.show_each-requires
show_each-requires g c = omega (arith, c.pass_each-waiting.ensures.sum, c.if-waiting-gt128.false)

pub returns-then-waiting-gt128-clause-tells : goal.returns-then-waiting-gt128-clause-tells
returns-then-waiting-gt128-clause-tells g c marks r stands idle =
    let shown = readings (λ v x. (goal.Meter-dyn g (v, x)).reading_of x) c.args.meters.now in
    let size : length c.pass_each-waiting.new.ticks ≡ c.args.count = c.pass_each-waiting.ensures.length ∙ search rules in
    let kept = c.pass_each-waiting.ensures.kept shown r stands in
    let same = sym c.pass_each-waiting.ensures.length ∙ size in
    let within : c.pass_each-waiting.result ≤ 128 =
    subst (λ (n : ℕ). n ≤ 128) (sym (kept ∙ ap (kept_ticks c.args.self.now.device c.args.domain) same)) c.requires.ticks in
    let wrong : ⊥ = omega (arith, within, c.if-waiting-gt128.true) in
    absurd wrong

pub returns-clause-tells : goal.returns-clause-tells
returns-clause-tells g c marks r stands idle =
    let shown = readings (λ v x. (goal.Meter-dyn g (v, x)).reading_of x) c.args.meters.now in
    let showing = readings (λ v x. (goal.Meter-dyn g (v, x)).reading_of x) c.do_ticks.new.meters in
    let domain = c.args.domain in
    let count = c.args.count in
    let ticks = c.pass_each-waiting.new.ticks in
    let waiting = c.pass_each-waiting.result in
    let size : length ticks ≡ count = c.pass_each-waiting.ensures.length ∙ search rules in
    let same = sym c.pass_each-waiting.ensures.length ∙ size in
    let gone = gone_by domain count r in
    let there : RunningStands c.pass_each-waiting.new.self shown gone =
    subst (λ (n : ℕ). RunningStands c.pass_each-waiting.new.self shown (gone_by domain n r)) same (c.pass_each-waiting.ensures.stands shown r stands) in
    let each : ticks ≡ ticks_of_each domain count r =
    subst (λ (n : ℕ). ticks ≡ ticks_of_each domain n r) same (c.pass_each-waiting.ensures.ticks shown r stands) in
    let done = c.do_ticks.ensures.stands gone there (met_waits waiting domain gone (idle_gone_by count domain r idle)) in
    idle_told marks count domain waiting c.self.inside.time ticks r c.do_ticks.new.self showing (g.K.Sink.written c.args.sink.now)
    (g.K.Sink.written c.show_each.new.sink) c.show_each.result idle each c.pass_each-waiting.ensures.sum
    (ap (λ (p : RunningFields). p.time) c.self.view_is ∙ stands.time)
    (c.show_each.ensures.printed gone (c.do_ticks.ensures.detail ∙ there.detail)
    (c.do_ticks.ensures.function ∙ there.streaming.device.function)
    (subst (λ (n : ℕ). HoldPlayed domain (tones_of domain gone.jacks) n gone.device c.do_ticks.new.self.device.rows) c.pass_each-waiting.ensures.sum
    (c.do_ticks.ensures.played gone there)))
    done

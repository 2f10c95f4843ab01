use Rattle.std.proofs.Common.{◌≡◌, ◌∙◌, ap, subst, refl, arith, ℕ, List, ◌+◌, ◌<◌, ◌≤◌, length, drop, get_or}
use Rattle.std.specs.Io.KnownBytes.{Appends}
use Rattle.uac_units.specs.MeterReadings.{readings}
use Rattle.uac_topology.specs.Function.{FunctionFields}
use Rattle.uac_edges.specs.Writing.{AppendsFront}
use Rattle.uac_transcript.specs.Printing.{text_of}
use Rattle.uac_running.specs.RunningWorld.{RunningWorld}
use Rattle.uac_running.specs.Events.{domain_microframe, domain_microframes}
use Rattle.uac_running.specs.RunningKept.{RunningStands}
use Rattle.uac_running.proofs.TellingLemmas.{begun, finished, one_more, stopped}
use Rattle.uac_running.proofs.EventsLemmas.{domains_end, domains_split}
use Rattle.uac_transcript.proofs.PrintingLemmas.{Tells-handed_on}
use Rattle.uac_running.proofs.running.Running.domain_microframes.Goals as goal

pub loop-index-init : goal.loop-index-init
loop-index-init g c = record {
  told = λ r stands. begun RunningStands (domain_microframes c.args.self.now.device.function.domains r) (domain_microframes c.args.self.now.device.function.domains) c.args.self.now (readings (λ v x. (goal.Meter-dyn g (v, x)).reading_of x) c.args.meters.now) (g.K.Sink.written c.args.sink.now) r stands refl;
  faultless = refl;
  function = refl;
}

pub returns-in_err-domain_microframe-clause-tells : goal.returns-in_err-domain_microframe-clause-tells
returns-in_err-domain_microframe-clause-tells g c r stands =
    let own = ap (λ (f : FunctionFields). f.domains) stands.streaming.device.function in
    let here : c.clock_at.result ≡ get_or c.args.self.now.device.function.domains c.loop-index.index 0 = c.clock_at.ensures ∙ ap (λ (f : FunctionFields). get_or f.domains c.loop-index.index 0) c.loop-index.invariant.function in
    let below : c.loop-index.index < length c.args.self.now.device.function.domains = omega arith in
    let told = subst (λ (clock : ℕ). (w : RunningWorld) → RunningStands c.loop-index.self (readings (λ v x. (goal.Meter-dyn g (v, x)).reading_of x) c.loop-index.meters) w
    → AppendsFront (g.K.Sink.written c.loop-index.sink) (g.K.Sink.written c.domain_microframe.new.sink) (text_of (domain_microframe clock w).lines) × Unit {0}) here c.in_err-domain_microframe.ensures.tells in
    let all = stopped RunningStands (domain_microframes c.args.self.now.device.function.domains r) (domain_microframes (drop c.loop-index.index c.args.self.now.device.function.domains)) (domain_microframes (drop (c.loop-index.index + 1) c.args.self.now.device.function.domains))
    (domain_microframe (get_or c.args.self.now.device.function.domains c.loop-index.index 0)) c.loop-index.self (readings (λ v x. (goal.Meter-dyn g (v, x)).reading_of x) c.loop-index.meters)
    (g.K.Sink.written c.args.sink.now) (g.K.Sink.written c.loop-index.sink) (g.K.Sink.written c.domain_microframe.new.sink)
    (λ w. domains_split c.args.self.now.device.function.domains c.loop-index.index w below) (c.loop-index.invariant.told r stands) told in
    Tells-handed_on _ _ (g.K.Sink.written c.args.sink.now) (g.K.Sink.written c.domain_microframe.new.sink) c.from_residual.result _ c.from_residual.ensures.1 (subst (λ (clocks : List ℕ). AppendsFront (g.K.Sink.written c.args.sink.now) (g.K.Sink.written c.domain_microframe.new.sink) (text_of (domain_microframes clocks r).lines)) own all)

pub loop-index-preserved : goal.loop-index-preserved
loop-index-preserved g c =
    let here : c.clock_at.result ≡ get_or c.args.self.now.device.function.domains c.loop-index.index 0 = c.clock_at.ensures ∙ ap (λ (f : FunctionFields). get_or f.domains c.loop-index.index 0) c.loop-index.invariant.function in
    let below : c.loop-index.index < length c.args.self.now.device.function.domains = omega arith in
    let told = subst (λ (clock : ℕ). (w : RunningWorld) → RunningStands c.loop-index.self (readings (λ v x. (goal.Meter-dyn g (v, x)).reading_of x) c.loop-index.meters) w
    → Appends (g.K.Sink.written c.loop-index.sink) (g.K.Sink.written c.domain_microframe.new.sink) (text_of (domain_microframe clock w).lines)
    × RunningStands c.domain_microframe.new.self (readings (λ v x. (goal.Meter-dyn g (v, x)).reading_of x) c.domain_microframe.new.meters) (domain_microframe clock w).world) here c.in_ok-domain_microframe.ensures.tells in
    record {
      told = λ r stands.
          one_more RunningStands (domain_microframes c.args.self.now.device.function.domains r) (domain_microframes (drop c.loop-index.index c.args.self.now.device.function.domains)) (domain_microframes (drop (c.loop-index.index + 1) c.args.self.now.device.function.domains))
          (domain_microframe (get_or c.args.self.now.device.function.domains c.loop-index.index 0)) c.loop-index.self c.domain_microframe.new.self (readings (λ v x. (goal.Meter-dyn g (v, x)).reading_of x) c.loop-index.meters) (readings (λ v x. (goal.Meter-dyn g (v, x)).reading_of x) c.domain_microframe.new.meters)
          (g.K.Sink.written c.args.sink.now) (g.K.Sink.written c.loop-index.sink) (g.K.Sink.written c.domain_microframe.new.sink)
          (λ w. domains_split c.args.self.now.device.function.domains c.loop-index.index w below) (c.loop-index.invariant.told r stands) told;
      faultless = c.in_ok-domain_microframe.ensures.cause.faultless ∙ c.loop-index.invariant.faultless;
      function = c.domain_microframe.ensures.function ∙ c.loop-index.invariant.function;
    }

pub returns-clause-tells : goal.returns-clause-tells
returns-clause-tells g c r stands =
    let own = ap (λ (f : FunctionFields). f.domains) stands.streaming.device.function in
    let past : length c.args.self.now.device.function.domains ≤ c.loop-index.index = omega arith in
    let all = finished RunningStands (domain_microframes c.args.self.now.device.function.domains r) (domain_microframes (drop c.loop-index.index c.args.self.now.device.function.domains)) c.loop-index.self
    (readings (λ v x. (goal.Meter-dyn g (v, x)).reading_of x) c.loop-index.meters) (g.K.Sink.written c.args.sink.now) (g.K.Sink.written c.loop-index.sink)
    (c.loop-index.invariant.told r stands) (λ w. domains_end c.args.self.now.device.function.domains c.loop-index.index w past) in
    subst (λ (clocks : List ℕ). Appends (g.K.Sink.written c.args.sink.now) (g.K.Sink.written c.loop-index.sink) (text_of (domain_microframes clocks r).lines)
    × RunningStands c.loop-index.self (readings (λ v x. (goal.Meter-dyn g (v, x)).reading_of x) c.loop-index.meters) (domain_microframes clocks r).world) own all

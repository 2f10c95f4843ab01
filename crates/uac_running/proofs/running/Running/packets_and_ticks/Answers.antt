use Rattle.std.proofs.Common.{map, subst}
use Rattle.uac_script.specs.Line.{phrase_mark}
use Rattle.uac_edges.specs.Writing.{AppendsFront}
use Rattle.uac_units.specs.MeterReadings.{readings}
use Rattle.uac_transcript.specs.Printing.{text_of}
use Rattle.uac_streaming.specs.Telling.{Telling}
use Rattle.uac_running.specs.Events.{all_domains}
use Rattle.uac_running.specs.RunningWorld.{RunningWorld}
use Rattle.uac_running.specs.RunningKept.{RunningTells}
use Rattle.uac_running.specs.Silence.{packets}
use Rattle.uac_running.proofs.SilencePacketLemmas.{packets_first}
use Rattle.uac_running.proofs.TellingLemmas.{front_then, tells_then}
use Rattle.uac_transcript.proofs.PrintingLemmas.{Tells-handed_on}
use Rattle.uac_running.proofs.running.Running.packets_and_ticks.Goals as goal

pub returns-in_err-packets-clause-tells : goal.returns-in_err-packets-clause-tells
returns-in_err-packets-clause-tells g c r stands =
    let shown = readings (λ v x. (goal.Meter-dyn g (v, x)).reading_of x) c.args.meters.now in
    let marks = map phrase_mark c.args.marks.now in
    let old = g.K.Sink.written c.args.sink.now in
    let new = g.K.Sink.written c.packets.new.sink in
    Tells-handed_on _ _ old new c.from_residual.result _ c.from_residual.ensures.1
    (subst (λ (told : Telling RunningWorld). AppendsFront old new (text_of told.lines)) (packets_first marks r)
    (front_then (packets marks) all_domains r old new (c.in_err-packets.ensures.tells shown r stands).0))

pub returns-clause-tells : goal.returns-clause-tells
returns-clause-tells g c r stands =
    let shown = readings (λ v x. (goal.Meter-dyn g (v, x)).reading_of x) c.args.meters.now in
    let showing = readings (λ v x. (goal.Meter-dyn g (v, x)).reading_of x) c.domain_microframes.new.meters in
    let marks = map phrase_mark c.args.marks.now in
    let first = c.in_ok-packets.ensures.tells shown r stands in
    subst (λ (told : Telling RunningWorld). RunningTells told c.domain_microframes.new.self showing (g.K.Sink.written c.args.sink.now) (g.K.Sink.written c.domain_microframes.new.sink) c.domain_microframes.result)
    (packets_first marks r)
    (tells_then (packets marks) all_domains r c.domain_microframes.new.self showing
    (g.K.Sink.written c.args.sink.now) (g.K.Sink.written c.packets.new.sink) (g.K.Sink.written c.domain_microframes.new.sink) c.domain_microframes.result first.0
    (c.domain_microframes.ensures.tells (packets marks r).world first.1))

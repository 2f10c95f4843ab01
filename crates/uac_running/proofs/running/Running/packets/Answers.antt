use Rattle.std.proofs.Common.{map, subst, sym}
use Rattle.uac_script.specs.Line.{phrase_mark}
use Rattle.uac_streaming.specs.StreamingWorld.{in_packets, out_packets}
use Rattle.uac_running.specs.Events.{of_streams}
use Rattle.uac_running.specs.RunningKept.{RunningFields, RunningStands}
use Rattle.uac_running.proofs.SilencePacketLemmas.{quiet_packets_told}
use Rattle.uac_running.proofs.TellingLemmas.{front_then, tells_then}
use Rattle.uac_transcript.proofs.PrintingLemmas.{Tells-handed_on}
use Rattle.uac_running.proofs.running.Running.packets.Goals as goal

pub returns-then-not-runs-clause-tells : goal.returns-then-not-runs-clause-tells
returns-then-not-runs-clause-tells g c meters r stands =
    let own = subst (λ (p : RunningFields). RunningStands p meters r) (sym c.self.view_is) stands in
    quiet_packets_told (map phrase_mark c.args.marks.now) c.args.self.now meters r (g.K.Sink.written c.args.sink.now)
    (c.runs.ensures.none r.device own.streaming.device c.if-not-runs.true) stands

pub returns-in_err-out_packets-clause-tells : goal.returns-in_err-out_packets-clause-tells
returns-in_err-out_packets-clause-tells g c meters r stands =
    let marks = map phrase_mark c.args.marks.now in
    Tells-handed_on _ _ (g.K.Sink.written c.args.sink.now) (g.K.Sink.written c.out_packets.new.sink) c.from_residual.result _ c.from_residual.ensures.1 (
    front_then (of_streams (out_packets r.detail marks)) (of_streams (in_packets r.detail marks)) r
    (g.K.Sink.written c.args.sink.now) (g.K.Sink.written c.out_packets.new.sink) (c.in_err-out_packets.ensures.tells meters r stands).0
    )

pub returns-clause-tells : goal.returns-clause-tells
returns-clause-tells g c meters r stands =
    let marks = map phrase_mark c.args.marks.now in
    let first = c.in_ok-out_packets.ensures.tells meters r stands in
    tells_then (of_streams (out_packets r.detail marks)) (of_streams (in_packets r.detail marks)) r c.in_packets.new.self meters
    (g.K.Sink.written c.args.sink.now) (g.K.Sink.written c.out_packets.new.sink) (g.K.Sink.written c.in_packets.new.sink) c.in_packets.result first.0
    (c.in_packets.ensures.tells meters (of_streams (out_packets r.detail marks) r).world first.1)

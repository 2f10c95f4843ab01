use Rattle.std.proofs.Common.{◌+◌, ◌≤◌, ap, arith, map, subst, sym, []}
use Rattle.std.specs.Io.KnownBytes.{Appends}
use Rattle.uac_script.specs.Line.{phrase_mark}
use Rattle.uac_edges.specs.Writing.{AppendsFront}
use Rattle.uac_transcript.specs.Printing.{text_of}
use Rattle.uac_transcript.proofs.PrintingLemmas.{Appends-lines, front_after}
use Rattle.uac_device.specs.DeviceWorld.{next_ticks}
use Rattle.uac_device.specs.Jacks.{tones_of}
use Rattle.uac_device.proofs.DeviceAheadLemmas.{steady_zeros}
use Rattle.uac_device.proofs.DeviceWaitsTicksLemmas.{function_settled}
use Rattle.uac_streaming.specs.Telling.{Telling}
use Rattle.uac_running.specs.RunningWorld.{RunningWorld, with_streaming}
use Rattle.uac_running.specs.RunningKept.{RunningFields, RunningStands}
use Rattle.uac_running.specs.Ahead.{clocked, device_settled, ended, numbered, outs_sent, sent_of, sent_then, ticks_then}
use Rattle.uac_running.proofs.EventsLemmas.{passed}
use Rattle.uac_running.proofs.AheadLemmas.{clock_still, ends_still, ends_told, outs_told, outs_world, reports_later, stopped_ahead}
use Rattle.uac_running.proofs.running.Running.run_ahead.Goals as goal

pub returns-in_err-out_packets-clause-tells : goal.returns-in_err-out_packets-clause-tells
returns-in_err-out_packets-clause-tells g c meters r stands lone steady fit =
    let old = g.K.Sink.written c.args.sink.now in
    let new = g.K.Sink.written c.out_packets.new.sink in
    let later = passed meters r c.args.self.now c.pass.new.self stands c.pass.ensures in
    stopped_ahead _ _ old new c.from_residual.result [] c.from_residual.ensures.1
    (subst (λ (told : Telling RunningWorld). AppendsFront old new (text_of told.lines))
    (outs_told (map phrase_mark c.args.marks.now) c.args.domain (c.args.ahead.ticks + 27) (numbered r) c.requires.packets lone.detail steady fit)
    (c.in_err-out_packets.ensures.tells meters (numbered r) later).0)

pub returns-in_err-end_microframe-clause-tells : goal.returns-in_err-end_microframe-clause-tells
returns-in_err-end_microframe-clause-tells g c meters r stands lone steady fit =
    let b = numbered r in
    let old = g.K.Sink.written c.args.sink.now in
    let mid = g.K.Sink.written c.out_packets.new.sink in
    let new = g.K.Sink.written c.end_microframe.new.sink in
    let later = passed meters r c.args.self.now c.pass.new.self stands c.pass.ensures in
    let sent = with_streaming b (outs_sent b) in
    let first = subst (λ (told : Telling RunningWorld). Appends old mid (text_of told.lines) × RunningStands c.out_packets.new.self meters told.world)
    (outs_told (map phrase_mark c.args.marks.now) c.args.domain (c.args.ahead.ticks + 27) b c.requires.packets lone.detail steady fit)
    (c.in_ok-out_packets.ensures.tells meters b later) in
    let few : next_ticks c.args.domain (outs_sent b).device ≤ 27 = omega (arith, c.advance.ensures.few, c.advance.ensures.ticks meters sent first.1) in
    let clock = with_streaming b (clocked c.args.domain b) in
    let second = c.in_err-end_microframe.ensures.tells meters clock (c.advance.ensures.stands meters sent first.1)
    (steady_zeros c.args.domain (ticks_then c.args.domain c.args.ahead.ticks b) clock.device (clock_still c.args.domain c.args.ahead.ticks b steady fit few)) in
    stopped_ahead _ _ old new c.from_residual-in_err-end_microframe.result [] c.from_residual-in_err-end_microframe.ensures.1
    (front_after old mid new [] [] first.0
    (subst (λ (told : Telling RunningWorld). AppendsFront mid new (text_of told.lines)) (ends_told clock lone.detail) second.0))

pub returns-clause-tells : goal.returns-clause-tells
returns-clause-tells g c meters r stands lone steady fit =
    let b = numbered r in
    let old = g.K.Sink.written c.args.sink.now in
    let mid = g.K.Sink.written c.out_packets.new.sink in
    let new = g.K.Sink.written c.end_microframe.new.sink in
    let later = passed meters r c.args.self.now c.pass.new.self stands c.pass.ensures in
    let sent = with_streaming b (outs_sent b) in
    let first = subst (λ (told : Telling RunningWorld). Appends old mid (text_of told.lines) × RunningStands c.out_packets.new.self meters told.world)
    (outs_told (map phrase_mark c.args.marks.now) c.args.domain (c.args.ahead.ticks + 27) b c.requires.packets lone.detail steady fit)
    (c.in_ok-out_packets.ensures.tells meters b later) in
    let is = c.advance.ensures.ticks meters sent first.1 in
    let few : next_ticks c.args.domain (outs_sent b).device ≤ 27 = omega (arith, c.advance.ensures.few, is) in
    let clock = with_streaming b (clocked c.args.domain b) in
    let ticks = ticks_then c.args.domain c.args.ahead.ticks b in
    let went = sent_then c.args.ahead.ticks c.args.ahead.sent b in
    let second = subst (λ (told : Telling RunningWorld). Appends mid new (text_of told.lines) × RunningStands c.end_microframe.new.self meters told.world)
    (ends_told clock lone.detail)
    (c.in_ok-end_microframe.ensures.tells meters clock (c.advance.ensures.stands meters sent first.1)
    (steady_zeros c.args.domain ticks clock.device (clock_still c.args.domain c.args.ahead.ticks b steady fit few))) in
    let done = with_streaming b (ended c.args.domain b) in
    let reports = c.give_feedback_later.ensures meters done (device_settled c.args.domain ticks went done) second.1
    (function_settled c.args.domain (tones_of c.args.domain b.jacks) ticks (sent_of went done) done.device)
    (reports_later c.args.domain c.args.ahead.ticks c.args.ahead.sent (c.args.ahead.ticks + c.advance.result) b
    (ends_still c.args.domain c.args.ahead.ticks b steady fit few) (ap (λ n. c.args.ahead.ticks + n) is)) in
    (Appends-lines old mid new [] [] first.0 second.0, reports)

pub returns-clause-ticks : goal.returns-clause-ticks
returns-clause-ticks g c meters r stands lone =
    let b = numbered r in
    let later = passed meters r c.args.self.now c.pass.new.self stands c.pass.ensures in
    let sent = subst (RunningStands c.out_packets.new.self meters) (outs_world (map phrase_mark c.args.marks.now) b c.requires.packets lone.detail)
    (c.in_ok-out_packets.ensures.tells meters b later).1 in
    ap (λ n. c.args.ahead.ticks + n) (c.advance.ensures.ticks meters (with_streaming b (outs_sent b)) sent)

pub returns-clause-sent : goal.returns-clause-sent
returns-clause-sent g c meters r stands lone =
    let b = numbered r in
    let later = passed meters r c.args.self.now c.pass.new.self stands c.pass.ensures in
    let sent = subst (RunningStands c.out_packets.new.self meters) (outs_world (map phrase_mark c.args.marks.now) b c.requires.packets lone.detail)
    (c.in_ok-out_packets.ensures.tells meters b later).1 in
    let own = subst (λ (p : RunningFields). RunningStands p meters (with_streaming b (outs_sent b))) (sym c.self.view_is) sent in
    c.send_later.ensures.sent (outs_sent b) own.streaming

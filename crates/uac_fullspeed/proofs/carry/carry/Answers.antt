-- The packet, the ticks, the end, and the level.
use Rattle.std.proofs.Common.{arith, ◌≤◌, ◌+◌}
use Rattle.uac_bench.specs.BenchStreams.{level_of}
use Rattle.uac_fullspeed.specs.FullSpeedWorld.{at_ticks, ticked}
use Rattle.uac_transcript.proofs.PrintingLemmas.{Tells-handed_on}
use Rattle.uac_fullspeed.proofs.CarryLemmas.{packet_cut, ticks_cut, carried}
use Rattle.uac_fullspeed.proofs.RoomLemmas.{zeros_fit}
use Rattle.uac_fullspeed.proofs.carry.carry.Goals as goal

pub returns-in_err-send_out-clause-tells : goal.returns-in_err-send_out-clause-tells
returns-in_err-send_out-clause-tells g c = λ s stands room short.
    Tells-handed_on _ _ (g.K.Sink.written c.args.sink.now) (g.K.Sink.written c.send_out.new.sink) c.from_residual.result _ c.from_residual.ensures.1
    (packet_cut c.args.detail c.args.brought.lost c.args.brought.frames c.args.brought.ticks s (g.K.Sink.written c.args.sink.now) (g.K.Sink.written c.send_out.new.sink)
    (c.in_err-send_out.ensures.tells s stands).0)

pub returns-in_err-play-clause-tells : goal.returns-in_err-play-clause-tells
returns-in_err-play-clause-tells g c = λ s stands room short.
    let sent = c.in_ok-send_out.ensures.tells s stands in
    Tells-handed_on _ _ (g.K.Sink.written c.args.sink.now) (g.K.Sink.written c.play.new.sink) c.from_residual-in_err-play.result _ c.from_residual-in_err-play.ensures.1
    (ticks_cut c.args.detail c.args.brought.lost c.args.brought.frames c.args.brought.ticks s (g.K.Sink.written c.args.sink.now) (g.K.Sink.written c.send_out.new.sink) (g.K.Sink.written c.play.new.sink)
    sent.0 (c.in_err-play.ensures.tells (at_ticks c.args.brought.lost c.args.brought.frames s) sent.1).0)

pub returns-clause-tells : goal.returns-clause-tells
returns-clause-tells g c = λ s stands room short.
    let sent = c.in_ok-send_out.ensures.tells s stands in
    let played = c.in_ok-play.ensures.tells (at_ticks c.args.brought.lost c.args.brought.frames s) sent.1 in
    let few = zeros_fit c.args.brought.lost c.args.brought.frames c.args.brought.ticks s room in
    let fits : level_of (ticked c.args.brought.lost c.args.brought.frames c.args.brought.ticks s) + c.args.brought.ticks ≤ 2048 = omega arith in
    carried c.args.detail c.args.brought.lost c.args.brought.frames c.args.brought.ticks s (g.K.Sink.written c.args.sink.now) (g.K.Sink.written c.send_out.new.sink) (g.K.Sink.written c.play.new.sink)
    (g.K.Sink.written c.write_level_at.new.sink) c.write_level_at.result c.end_frame.new.stream c.level.result c.target.result sent.0 played.0
    (c.end_frame.ensures (ticked c.args.brought.lost c.args.brought.frames c.args.brought.ticks s) played.1 fits)
    c.level.ensures.level c.target.ensures.target c.write_level_at.ensures.printed

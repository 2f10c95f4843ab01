use Rattle.std.proofs.Common.{◌++◌}
use Rattle.uac_transcript.proofs.PrintingLemmas.{Prints-after, front_after, front_of_more}
use Rattle.uac_implicit.specs.Following.{at_ticks, ticks_next, microframe, numbered_lines, packet_lines, ticks_lines, level_lines, microframe_lines}
use Rattle.uac_implicit.proofs.pair.PairRun.microframe.Goals as goal

pub returns-in-Err-clause-tells : goal.returns-in-Err-clause-tells
unfolding microframe_lines
returns-in-Err-clause-tells g c = λ w s.
    let losses = c.args.losses in (
      front_of_more (g.K.Sink.written c.args.sink.now) (g.K.Sink.written c.write_number.new.sink) (numbered_lines w)
          (packet_lines losses w ++ (ticks_lines (ticks_next w) (at_ticks losses w) ++ level_lines (microframe losses w))) (c.in-Err.ensures.printed w s),
      tt,
    )

pub returns-in-Err-packets-clause-tells : goal.returns-in-Err-packets-clause-tells
unfolding microframe_lines
returns-in-Err-packets-clause-tells g c = λ w s.
    let losses = c.args.losses in
    let rest = ticks_lines (ticks_next w) (at_ticks losses w) ++ level_lines (microframe losses w) in (
      front_after (g.K.Sink.written c.args.sink.now) (g.K.Sink.written c.write_number.new.sink) (g.K.Sink.written c.packets.new.sink) (numbered_lines w) (packet_lines losses w ++ rest)
          (c.in-Ok.ensures.printed w s)
          (front_of_more (g.K.Sink.written c.write_number.new.sink) (g.K.Sink.written c.packets.new.sink) (packet_lines losses w) rest (c.in-Err-packets.ensures.tells w s).0),
      tt,
    )

pub returns-clause-tells : goal.returns-clause-tells
unfolding microframe_lines
returns-clause-tells g c = λ w s.
    let losses = c.args.losses in
    let rest = ticks_lines (ticks_next w) (at_ticks losses w) ++ level_lines (microframe losses w) in
    let sent = c.in-Ok-packets.ensures.tells w s in
    let ends = c.ticks_and_end.ensures.tells w s.short sent.1 in (
      Prints-after (g.K.Sink.written c.args.sink.now) (g.K.Sink.written c.write_number.new.sink) (g.K.Sink.written c.ticks_and_end.new.sink) c.ticks_and_end.result (numbered_lines w) (packet_lines losses w ++ rest)
          (c.in-Ok.ensures.printed w s)
          (Prints-after (g.K.Sink.written c.write_number.new.sink) (g.K.Sink.written c.packets.new.sink) (g.K.Sink.written c.ticks_and_end.new.sink) c.ticks_and_end.result (packet_lines losses w) rest sent.0 ends.0),
      ends.1,
    )

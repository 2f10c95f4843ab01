use Rattle.uac_transcript.proofs.PrintingLemmas.{Prints-after, front_of_more}
use Rattle.std.proofs.Common.{suc}
use Rattle.uac_implicit.specs.Following.{at_ticks, packet_lines, out_lines, in_lines, sent_out}
use Rattle.uac_implicit.proofs.pair.PairRun.packets.Goals as goal

pub returns-in-Err-clause-tells : goal.returns-in-Err-clause-tells
unfolding packet_lines
returns-in-Err-clause-tells g c = λ w s. (
  front_of_more (g.K.Sink.written c.args.sink.now) (g.K.Sink.written c.send_out.new.sink) (out_lines c.args.losses.loses_out w)
      (in_lines c.args.losses.loses_in (sent_out c.args.losses.loses_out w)) (c.in-Err.ensures.tells w s).0,
  tt,
)

pub returns-clause-tells : goal.returns-clause-tells
unfolding packet_lines at_ticks
returns-clause-tells g c = λ w s.
    let first = c.in-Ok.ensures.tells w s in
    let next = c.send_in.ensures.tells (suc w.time) w.steps (sent_out c.args.losses.loses_out w) first.1 in (
      Prints-after (g.K.Sink.written c.args.sink.now) (g.K.Sink.written c.send_out.new.sink) (g.K.Sink.written c.send_in.new.sink) c.send_in.result
          (out_lines c.args.losses.loses_out w) (in_lines c.args.losses.loses_in (sent_out c.args.losses.loses_out w)) first.0 next.0,
      next.1,
    )

use Rattle.std.proofs.Common.{nat_le, [], ◌∷◌}
use Rattle.uac_transcript.specs.Transcript.{says_out}
use Rattle.uac_transcript.proofs.PrintingLemmas.{Prints-after}
use Rattle.uac_bench.specs.BenchLines.{if_said, over_lines}
use Rattle.uac_bench.proofs.printing.write_packet.Goals as goal

pub returns-clause-printed : goal.returns-clause-printed
returns-clause-printed g c =
    Prints-after (g.K.Sink.written c.args.sink.now) (g.K.Sink.written c.write_arrival.new.sink) (g.K.Sink.written c.write_if_over.new.sink) c.write_if_over.result
    (if_said (nat_le 2 c.args.detail) (says_out 1 c.args.frames c.args.arrival ∷ [])) (over_lines c.args.arrival) c.in-Ok.ensures.printed c.write_if_over.ensures.printed

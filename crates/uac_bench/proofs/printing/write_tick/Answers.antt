use Rattle.std.proofs.Common.{nat_le, [], ◌∷◌}
use Rattle.uac_transcript.specs.Transcript.{says_under, says_played}
use Rattle.uac_transcript.proofs.PrintingLemmas.{Prints-after}
use Rattle.uac_bench.specs.BenchLines.{if_said}
use Rattle.uac_bench.proofs.printing.write_tick.Goals as goal

pub returns-clause-printed : goal.returns-clause-printed
returns-clause-printed g c =
    Prints-after (g.K.Sink.written c.args.sink.now) (g.K.Sink.written c.write_if_under.new.sink) (g.K.Sink.written c.write_if_played.new.sink) c.write_if_played.result
    (if_said c.args.ticked.now.under (says_under 1 ∷ [])) (if_said (nat_le 1 c.args.detail) (says_played 1 c.args.ticked.now.frame.items ∷ [])) c.in-Ok.ensures.printed c.write_if_played.ensures.printed

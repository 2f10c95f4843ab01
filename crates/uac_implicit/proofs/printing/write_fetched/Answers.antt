use Rattle.std.proofs.Common.{nat_le, not, ◌&&◌, [], ◌∷◌, map, length, ℕ, List, subst}
use Rattle.std.specs.Io.KnownBytes.{Appends}
use Rattle.uac_edges.specs.Writing.{AppendsFront}
use Rattle.uac_transcript.specs.Transcript.{says_in, says_frame}
use Rattle.uac_transcript.specs.Printing.{text_of}
use Rattle.uac_transcript.proofs.PrintingLemmas.{Prints-after, front_of_more}
use Rattle.uac_bench.specs.BenchLines.{if_said}
use Rattle.uac_implicit.proofs.printing.write_fetched.Goals as goal

pub returns-clause-printed : goal.returns-clause-printed
returns-clause-printed g c =
    let first = subst (λ (n : ℕ). Appends (g.K.Sink.written c.args.sink.now) (g.K.Sink.written c.write_arrived.new.sink)
    (text_of (if_said (nat_le 2 c.args.detail) (says_in 2 n c.args.lost ∷ [])))) c.level.ensures.frames c.in-Ok.ensures.printed in
    Prints-after (g.K.Sink.written c.args.sink.now) (g.K.Sink.written c.write_arrived.new.sink) (g.K.Sink.written c.write_if_heard.new.sink) c.write_if_heard.result
    (if_said (nat_le 2 c.args.detail) (says_in 2 (length c.args.waiting.now) c.args.lost ∷ [])) (if_said (nat_le 1 c.args.detail && not c.args.lost) (map (says_frame 2) c.args.waiting.now))
    first c.write_if_heard.ensures.printed

pub returns-in-Err-clause-printed : goal.returns-in-Err-clause-printed
returns-in-Err-clause-printed g c =
    let first = subst (λ (n : ℕ). AppendsFront (g.K.Sink.written c.args.sink.now) (g.K.Sink.written c.write_arrived.new.sink)
    (text_of (if_said (nat_le 2 c.args.detail) (says_in 2 n c.args.lost ∷ [])))) c.level.ensures.frames c.in-Err.ensures.printed in
    front_of_more (g.K.Sink.written c.args.sink.now) (g.K.Sink.written c.write_arrived.new.sink)
    (if_said (nat_le 2 c.args.detail) (says_in 2 (length c.args.waiting.now) c.args.lost ∷ [])) (if_said (nat_le 1 c.args.detail && not c.args.lost) (map (says_frame 2) c.args.waiting.now)) first

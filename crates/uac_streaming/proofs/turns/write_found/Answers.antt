use Rattle.std.proofs.Common.{subst, List, arith}
use Rattle.std.specs.Io.KnownBytes.{Appends}
use Rattle.uac_transcript.specs.Transcript.{Said}
use Rattle.uac_transcript.specs.Printing.{text_of}
use Rattle.uac_streaming.proofs.TellingLemmas.{Appends-nothing}
use Rattle.uac_streaming.proofs.FoundRingsLemmas.{found_none}
use Rattle.uac_streaming.proofs.turns.write_found.Goals as goal

pub returns-then-found-eq0-2-clause-printed : goal.returns-then-found-eq0-2-clause-printed
returns-then-found-eq0-2-clause-printed g c = λ w clock same is.
    subst (λ (lines : List Said). Appends (g.K.Sink.written c.args.sink.now) (g.K.Sink.written c.args.sink.now) (text_of lines))
    (found_none clock w c.args.streams.now c.args.found same is (omega (arith, c.if-found-eq0.true)) (omega (arith, c.if-found-eq0-2.true)))
    (Appends-nothing (g.K.Sink.written c.args.sink.now))

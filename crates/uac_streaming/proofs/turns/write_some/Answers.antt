use Rattle.std.proofs.Common.{subst, List}
use Rattle.uac_edges.specs.Writing.{AppendsFront}
use Rattle.uac_transcript.specs.Transcript.{Said}
use Rattle.uac_transcript.specs.Printing.{Prints, text_of}
use Rattle.uac_transcript.proofs.PrintingLemmas.{Prints-after, front_of_more}
use Rattle.uac_streaming.proofs.FoundRingsLemmas.{bits_over, bits_under, empty_lines, found_are, full_lines, is_empty_at, is_full_at}
use Rattle.uac_edges.proofs.WritingLemmas.{Writes-handed_on}
use Rattle.uac_streaming.proofs.turns.write_some.Goals as goal

pub returns-in_err-write_rings-clause-printed : goal.returns-in_err-write_rings-clause-printed
returns-in_err-write_rings-clause-printed g c = λ w clock same is.
    let streams = c.args.streams.now in
    Writes-handed_on _ (g.K.Sink.written c.args.sink.now) (g.K.Sink.written c.write_rings.new.sink) c.from_residual.result _ c.from_residual.ensures.1 (
    subst (λ (lines : List Said). AppendsFront (g.K.Sink.written c.args.sink.now) (g.K.Sink.written c.write_rings.new.sink) (text_of lines)) (found_are clock w streams same)
    (front_of_more (g.K.Sink.written c.args.sink.now) (g.K.Sink.written c.write_rings.new.sink) (empty_lines clock w streams) (full_lines clock w streams)
    (c.in_err-write_rings.ensures.printed (is_empty_at clock w) (bits_under clock w streams c.args.found same is)))
    )

pub returns-clause-printed : goal.returns-clause-printed
returns-clause-printed g c = λ w clock same is.
    let streams = c.args.streams.now in
    subst (λ (lines : List Said). Prints (g.K.Sink.written c.args.sink.now) (g.K.Sink.written c.write_rings-2.new.sink) c.write_rings-2.result lines) (found_are clock w streams same)
    (Prints-after (g.K.Sink.written c.args.sink.now) (g.K.Sink.written c.write_rings.new.sink) (g.K.Sink.written c.write_rings-2.new.sink) c.write_rings-2.result
    (empty_lines clock w streams) (full_lines clock w streams) (c.in_ok-write_rings.ensures.printed (is_empty_at clock w) (bits_under clock w streams c.args.found same is))
    (c.write_rings-2.ensures.printed (is_full_at clock w) (bits_over clock w streams c.args.found same is)))

use Rattle.std.proofs.Common.{List, ◌∙◌, ap, subst, map}
use Rattle.uac_entities.specs.declared.stream.StreamInterface.{StreamInterface}
use Rattle.uac_edges.specs.Writing.{AppendsFront}
use Rattle.uac_transcript.specs.Printing.{text_of}
use Rattle.uac_transcript.proofs.PrintingLemmas.{front_of_lines, one_line_more}
use Rattle.uac_running.specs.ReportLines.{stream_line}
use Rattle.uac_running.proofs.ReportLinesLemmas.{index_there}
use Rattle.uac_edges.proofs.WritingLemmas.{Writes-handed_on}
use Rattle.uac_running.proofs.report.write_streams.Goals as goal

pub returns-in_err-write_stream-clause-printed : goal.returns-in_err-write_stream-clause-printed
returns-in_err-write_stream-clause-printed g c = λ w met stands none.
    let items = c.streams-stream-items.result.now in
    let there = index_there w.function items c.loop-stream.stream-index c.stream-item.result _ (c.streams-stream-items.ensures ∙ ap (λ f. f.streams) (c.function.ensures ∙ stands.function))
    c.loop-stream-test.true c.stream-item.is in
    Writes-handed_on _ (g.K.Sink.written c.args.sink.now) (g.K.Sink.written c.write_stream.new.sink) c.from_residual.result _ c.from_residual.ensures.1 (
    subst (λ (streams : List StreamInterface). AppendsFront (g.K.Sink.written c.args.sink.now) (g.K.Sink.written c.write_stream.new.sink) (text_of (map (stream_line w met) streams)))
    (c.streams-stream-items.ensures ∙ ap (λ f. f.streams) (c.function.ensures ∙ stands.function))
    (front_of_lines _ _ _ (stream_line w met) items c.loop-stream.stream-index c.stream-item.result _ c.loop-stream-test.true (ap (stream_line w met) c.stream-item.is)
    (c.loop-stream.invariant.written w met stands none) (c.in_err-write_stream.ensures.written w met there.0 stands none there.1))
    )

pub loop-stream-preserved : goal.loop-stream-preserved
loop-stream-preserved g c = record {
  written = λ w met stands none.
      let there = index_there w.function c.streams-stream-items.result.now c.loop-stream.stream-index c.stream-item.result _
      (c.streams-stream-items.ensures ∙ ap (λ f. f.streams) (c.function.ensures ∙ stands.function)) c.loop-stream-test.true c.stream-item.is in
      one_line_more _ _ _ (stream_line w met) c.streams-stream-items.result.now c.loop-stream.stream-index c.stream-item.result _ c.loop-stream-test.true
      (ap (stream_line w met) c.stream-item.is) (c.loop-stream.invariant.written w met stands none) (c.in_ok-write_stream.ensures.written w met there.0 stands none there.1);
  faultless = c.in_ok-write_stream.ensures.cause.faultless ∙ c.loop-stream.invariant.faultless;
}

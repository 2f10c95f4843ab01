use Rattle.std.proofs.Common.{◌∙◌, ap, sym, true, false, unwrap_or}
use Rattle.uac_topology.specs.Function.{FunctionFields}
use Rattle.uac_streaming.specs.StreamingWorld.{met_in, stream_index}
use Rattle.uac_running.proofs.ReportLinesLemmas.{stream-writes}
use Rattle.uac_running.proofs.report.write_stream.Goals as goal

pub returns-then-stream-clause-written : goal.returns-then-stream-clause-written
returns-then-stream-clause-written g c = λ w met index stands counted there.
    let same = c.function.ensures ∙ stands.function in
    let found = c.met_on-met.ensures.met met index (counted ∙ ap (met_in met) (sym same)) (ap (λ (f : FunctionFields). stream_index f c.args.stream.now.number) same ∙ there) in
    stream-writes (g.K.Sink.written c.args.sink.now) (g.K.Sink.written c.write_out_stream.new.sink) c.write_out_stream.result w met c.settings.result.now c.args.stream.now true
    c.unwrap_or-setting.result c.level-level.result c.target-target.result c.met_on-met.result (sym c.if-stream.true)
    (c.settings.ensures ∙ stands.settings) (c.unwrap_or-setting.ensures ∙ ap (λ o. unwrap_or o 0) c.get.ensures) (c.level-level.ensures w stands)
    (c.target-target.ensures w stands) found c.write_out_stream.ensures.written

pub returns-else-stream-clause-written : goal.returns-else-stream-clause-written
returns-else-stream-clause-written g c = λ w met index stands counted there.
    let same = c.function.ensures ∙ stands.function in
    let found = c.met_on-met.ensures.met met index (counted ∙ ap (met_in met) (sym same)) (ap (λ (f : FunctionFields). stream_index f c.args.stream.now.number) same ∙ there) in
    stream-writes (g.K.Sink.written c.args.sink.now) (g.K.Sink.written c.write_in_stream.new.sink) c.write_in_stream.result w met c.settings.result.now c.args.stream.now false
    c.unwrap_or-setting.result c.level-level.result c.target-target.result c.met_on-met.result (sym c.if-stream.false)
    (c.settings.ensures ∙ stands.settings) (c.unwrap_or-setting.ensures ∙ ap (λ o. unwrap_or o 0) c.get.ensures) (c.level-level.ensures w stands)
    (c.target-target.ensures w stands) found c.write_in_stream.ensures.written

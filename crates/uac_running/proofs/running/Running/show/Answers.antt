use Rattle.std.proofs.Common.{◌∙◌, sym, ap, nat_le, if◌then◌else◌, []}
use Rattle.uac_streaming.specs.StreamingWorld.{found_lines}
use Rattle.uac_transcript.proofs.PrintingLemmas.{Prints-after, front_of_more}
use Rattle.uac_running.specs.ReportLines.{played_lines}
use Rattle.uac_running.specs.RunningKept.{RunningFields}
use Rattle.uac_edges.proofs.WritingLemmas.{Writes-handed_on}
use Rattle.uac_running.proofs.running.Running.show.Goals as goal

pub returns-in_err-write_found-clause-printed : goal.returns-in_err-write_found-clause-printed
returns-in_err-write_found-clause-printed g c = λ before after same found stands.
    Writes-handed_on _ (g.K.Sink.written c.args.sink.now) (g.K.Sink.written c.write_found.new.sink) c.from_residual.result _ c.from_residual.ensures.1 (
    front_of_more (g.K.Sink.written c.args.sink.now) (g.K.Sink.written c.write_found.new.sink) (found_lines c.args.domain before) (if nat_le 1 c.args.self.now.detail then played_lines c.args.domain after else [])
    (c.in_err-write_found.ensures.printed before c.args.domain (ap (λ f. f.streams) (same ∙ sym (ap (λ (p : RunningFields). p.device.function) c.self.view_is) ∙ sym c.function.ensures) ∙ sym c.streams.ensures) found)
    )

pub returns-clause-printed : goal.returns-clause-printed
returns-clause-printed g c = λ before after same found stands.
    Prints-after (g.K.Sink.written c.args.sink.now) (g.K.Sink.written c.write_found.new.sink) (g.K.Sink.written c.show_played.new.sink) c.show_played.result (found_lines c.args.domain before)
    (if nat_le 1 c.args.self.now.detail then played_lines c.args.domain after else [])
    (c.in_ok-write_found.ensures.printed before c.args.domain (ap (λ f. f.streams) (same ∙ sym (ap (λ (p : RunningFields). p.device.function) c.self.view_is) ∙ sym c.function.ensures) ∙ sym c.streams.ensures) found) (c.show_played.ensures.printed after stands)

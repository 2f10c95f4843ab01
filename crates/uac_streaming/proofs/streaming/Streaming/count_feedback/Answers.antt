use Rattle.std.proofs.Common.{sym, subst}
use Rattle.uac_rate.specs.Steadiness.{with_report_given}
use Rattle.uac_streaming.specs.StreamingKept.{StreamingFields, StreamingStands}
use Rattle.uac_streaming.specs.StreamingWorld.{given_at, stream_index}
use Rattle.uac_streaming.specs.contracts.streaming.Streaming.{the_view}
use Rattle.uac_streaming.proofs.StreamingKeptLemmas.{given_nowhere, given_there, steadied}
use Rattle.uac_streaming.proofs.streaming.Streaming.count_feedback.Goals as goal

pub returns-in-Some-clause-stands : goal.returns-in-Some-clause-stands
returns-in-Some-clause-stands c d w stands same =
    let here = subst (λ (p : StreamingFields). StreamingStands p d w) (sym c.self.view_is) stands in
    steadied (the_view c.self.inside) d w here c.report.new.self (given_at (stream_index w.device.function c.args.interface) (λ index. with_report_given index c.args.lost) w.history)
    (given_there w.device.function c.args.function.now c.args.interface c.in-Some.index (λ index. with_report_given index c.args.lost) c.report.new.self w.history same c.in-Some.ensures
    (c.report.ensures.stands w.history here.steady))

pub returns-in-None-clause-stands : goal.returns-in-None-clause-stands
returns-in-None-clause-stands c d w stands same =
    steadied c.args.self.now d w stands c.args.self.now.steady (given_at (stream_index w.device.function c.args.interface) (λ index. with_report_given index c.args.lost) w.history)
    (given_nowhere w.device.function c.args.function.now c.args.interface (λ index. with_report_given index c.args.lost) c.args.self.now.steady w.history same c.in-None.ensures stands.steady)

use Rattle.std.proofs.Common.{if◌then◌else◌}
use Rattle.uac_rate.specs.Steadiness.{with_report_given}
use Rattle.uac_host.specs.HostCalls.{with_report}
use Rattle.uac_streaming.specs.StreamingWorld.{StreamingWorld, given_at, stream_index, feedback_made}
use Rattle.uac_streaming.proofs.streaming.Streaming.bring_feedback.Goals as goal

pub returns-clause-stands : goal.returns-clause-stands
unfolding feedback_made
returns-clause-stands c d w stands same =
    let heard : StreamingWorld = record w { host = if c.args.lost then w.host else with_report c.args.interface c.args.value w.host } in
    let told : StreamingWorld = record heard { history = given_at (stream_index w.device.function c.args.interface) (λ index. with_report_given index c.args.lost) w.history } in
    c.count_missed.ensures.stands d told (c.count_feedback.ensures.stands d heard (c.take_report.ensures.stands d w stands) same) same

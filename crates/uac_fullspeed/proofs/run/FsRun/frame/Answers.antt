-- The bus frame up to its report, and the report.
use Rattle.uac_fullspeed.specs.FullSpeedWorld.{before_feedback}
use Rattle.uac_transcript.proofs.PrintingLemmas.{spelt-handed_on}
use Rattle.uac_fullspeed.specs.FullSpeedLines.{fs_spelling_of}
use Rattle.uac_fullspeed.proofs.RunLemmas.{frame_cut, frame_told}
use Rattle.uac_fullspeed.proofs.run.FsRun.frame.Goals as goal

pub returns-in_err-up_to_feedback-clause-tells : goal.returns-in_err-up_to_feedback-clause-tells
returns-in_err-up_to_feedback-clause-tells g c = λ w stands.
    spelt-handed_on fs_spelling_of _ _ (g.K.Sink.written c.args.sink.now) (g.K.Sink.written c.up_to_feedback.new.sink) c.from_residual.result _ c.from_residual.ensures.1
    (frame_cut w c.args.packet_lost c.args.report_lost (g.K.Sink.written c.args.sink.now) (g.K.Sink.written c.up_to_feedback.new.sink) (c.in_err-up_to_feedback.ensures.tells w stands).0)

pub returns-clause-tells : goal.returns-clause-tells
returns-clause-tells g c = λ w stands.
    let up = c.in_ok-up_to_feedback.ensures.tells w stands in
    frame_told w c.give_feedback.new.self c.args.packet_lost c.args.report_lost (g.K.Sink.written c.args.sink.now) (g.K.Sink.written c.up_to_feedback.new.sink) (g.K.Sink.written c.give_feedback.new.sink) c.give_feedback.result
    up.0 (c.give_feedback.ensures.tells (before_feedback c.args.packet_lost w) up.1)

use Rattle.std.proofs.Common.{◌∙◌, map, subst, sym}
use Rattle.uac_script.specs.Line.{phrase_mark}
use Rattle.uac_streaming.specs.StreamingKept.{StreamingStands}
use Rattle.uac_streaming.proofs.StreamingReportLemmas.{none_reported, one_reported}
use Rattle.uac_streaming.proofs.streaming.Streaming.give_report_later.Goals as goal

pub returns-in-Some-clause-stands : goal.returns-in-Some-clause-stands
returns-in-Some-clause-stands c w later stands same reports =
    subst (StreamingStands c.bring_feedback.new.self c.args.device.now)
    (one_reported (map phrase_mark c.args.marks.now) later c.args.interface w c.in-Some.value c.loses_feedback-lost.result same
    (reports ∙ sym (c.feedback_later.ensures w.device stands.device) ∙ c.in-Some.is) c.loses_feedback-lost.ensures)
    (c.bring_feedback.ensures.stands c.args.device.now w stands (sym (c.function.ensures ∙ stands.device.function)))

pub returns-in_default-clause-stands : goal.returns-in_default-clause-stands
returns-in_default-clause-stands c w later stands same reports =
    subst (StreamingStands c.args.self.now c.args.device.now)
    (none_reported (map phrase_mark c.args.marks.now) later c.args.interface w (reports ∙ sym (c.feedback_later.ensures w.device stands.device) ∙ c.in_default.is)) stands

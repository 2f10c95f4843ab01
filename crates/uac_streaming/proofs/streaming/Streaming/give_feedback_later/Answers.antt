use Rattle.std.proofs.Common.{◌∙◌, ap, subst, sym, refl, arith, ◌<◌, ◌≤◌, length, map}
use Rattle.uac_script.specs.Line.{phrase_mark}
use Rattle.uac_device.specs.DeviceWorld.{DeviceWorld}
use Rattle.uac_device.specs.DeviceWaits.{feedback_later_in}
use Rattle.uac_streaming.specs.StreamingKept.{StreamingFields, StreamingStands}
use Rattle.uac_streaming.proofs.TellingLemmas.{at_place}
use Rattle.uac_streaming.proofs.StreamingReportLemmas.{all_reported, none_yet, report_more, reports_done}
use Rattle.uac_streaming.proofs.streaming.Streaming.give_feedback_later.Goals as goal

pub loop-at-init : goal.loop-at-init
loop-at-init c = record {
  reported = λ w later stands same reports. none_yet (map phrase_mark c.args.marks.now) later c.args.self.now.order w (StreamingStands c.args.self.now c.args.device.now) stands;
  order = refl;
}

pub loop-at-preserved : goal.loop-at-preserved
loop-at-preserved c = record {
  reported = λ w later stands same reports.
      let order = c.args.self.now.order in
      let many = ap (λ (p : StreamingFields). length p.order) c.self.view_is in
      let below : c.loop-at.at < length c.args.self.now.order = omega (arith, many, c.len-at-end.ensures, c.self.inside.order.ok.0, c.loop-at-test.true) in
      let here = at_place order c.self-in-loop-at.inside.order.items c.loop-at.self.order c.loop-at.at c.index-interface.result.now
      (ap (λ (p : StreamingFields). p.order) c.self-in-loop-at.view_is) c.loop-at.invariant.order below c.index-interface.ensures in
      report_more (map phrase_mark c.args.marks.now) later order c.loop-at.at c.index-interface.result.now w (StreamingStands c.loop-at.self c.args.device.now)
      (StreamingStands c.give_report_later.new.self c.args.device.now) below here (c.loop-at.invariant.reported w later stands same reports)
      (λ v kept s.
      c.give_report_later.ensures.stands v later s (same ∙ ap (λ (d : DeviceWorld). d.function) (sym kept))
      (reports c.index-interface.result.now ∙ ap (λ (d : DeviceWorld). feedback_later_in d c.index-interface.result.now c.args.ticks) (sym kept)));
  order = c.give_report_later.ensures.order ∙ c.loop-at.invariant.order;
}

pub returns : goal.returns
returns c w later stands same reports =
    let order = c.args.self.now.order in
    let many = ap (λ (p : StreamingFields). length p.order) c.self.view_is in
    let past : length c.args.self.now.order ≤ c.loop-at.at = omega (arith, many, c.len-at-end.ensures, c.self.inside.order.ok.0, c.loop-at-test.false) in
    subst (StreamingStands c.loop-at.self c.args.device.now) (all_reported (map phrase_mark c.args.marks.now) later w order stands.order same)
    (reports_done (map phrase_mark c.args.marks.now) later order c.loop-at.at w (StreamingStands c.loop-at.self c.args.device.now) past (c.loop-at.invariant.reported w later stands same reports))

use Rattle.std.proofs.Common.{◌∙◌, ap, subst, refl, arith, map, ◌<◌, ◌≤◌, length}
use Rattle.std.specs.Io.KnownBytes.{Appends}
use Rattle.uac_edges.specs.Writing.{AppendsFront}
use Rattle.uac_script.specs.Line.{phrase_mark}
use Rattle.uac_transcript.specs.Printing.{text_of}
use Rattle.uac_streaming.specs.Telling.{Telling, in_turn}
use Rattle.uac_streaming.specs.StreamingWorld.{StreamingWorld, feedback_turn}
use Rattle.uac_streaming.specs.StreamingKept.{StreamingFields, StreamingStands}
use Rattle.uac_streaming.proofs.TellingLemmas.{at_place, begun, turn_more, turn_stopped, turns_finished}
use Rattle.uac_streaming.proofs.StreamingWorldLemmas.{all_feedback_are}
use Rattle.uac_transcript.proofs.PrintingLemmas.{Tells-handed_on}
use Rattle.uac_streaming.proofs.streaming.Streaming.give_feedback.Goals as goal

pub loop-at-init : goal.loop-at-init
loop-at-init g c = record {
  told = λ w stands.
      let event = feedback_turn c.args.detail (map phrase_mark c.args.marks.now) in
      begun (in_turn event c.args.self.now.order w) (in_turn event c.args.self.now.order) (StreamingStands c.args.self.now c.args.device.now) (g.K.Sink.written c.args.sink.now) w stands refl;
  faultless = refl;
  order = refl;
}

pub returns-in_err-give_feedback_on-clause-tells : goal.returns-in_err-give_feedback_on-clause-tells
returns-in_err-give_feedback_on-clause-tells g c = λ w stands.
    let event = feedback_turn c.args.detail (map phrase_mark c.args.marks.now) in
    let order = c.args.self.now.order in
    let many = ap (λ (p : StreamingFields). length p.order) c.self.view_is in
    let below : c.loop-at.at < length c.args.self.now.order = omega (arith, many, c.len-at-end.ensures, c.self.inside.order.ok.0, c.loop-at-test.true) in
    let here = at_place order c.self-in-loop-at.inside.order.items c.loop-at.self.order c.loop-at.at c.index-interface.result.now
    (ap (λ (p : StreamingFields). p.order) c.self-in-loop-at.view_is) c.loop-at.invariant.order below c.index-interface.ensures in
    let all = turn_stopped event order w (StreamingStands c.loop-at.self c.args.device.now) (StreamingStands c.loop-at.self c.args.device.now)
    (g.K.Sink.written c.args.sink.now) (g.K.Sink.written c.loop-at.sink) (g.K.Sink.written c.give_feedback_on.new.sink) c.loop-at.at c.index-interface.result.now
    below here (c.loop-at.invariant.told w stands) (λ v s. (c.in_err-give_feedback_on.ensures.tells v s).0) in
    Tells-handed_on _ _ (g.K.Sink.written c.args.sink.now) (g.K.Sink.written c.give_feedback_on.new.sink) c.from_residual.result _ c.from_residual.ensures.1 (
    subst (λ (told : Telling StreamingWorld). AppendsFront (g.K.Sink.written c.args.sink.now) (g.K.Sink.written c.give_feedback_on.new.sink) (text_of told.lines))
    (all_feedback_are c.args.detail (map phrase_mark c.args.marks.now) w order stands.order) all
    )

pub loop-at-preserved : goal.loop-at-preserved
loop-at-preserved g c = record {
  told = λ w stands.
      let event = feedback_turn c.args.detail (map phrase_mark c.args.marks.now) in
      let order = c.args.self.now.order in
      let many = ap (λ (p : StreamingFields). length p.order) c.self.view_is in
      let below : c.loop-at.at < length c.args.self.now.order = omega (arith, many, c.len-at-end.ensures, c.self.inside.order.ok.0, c.loop-at-test.true) in
      let here = at_place order c.self-in-loop-at.inside.order.items c.loop-at.self.order c.loop-at.at c.index-interface.result.now
      (ap (λ (p : StreamingFields). p.order) c.self-in-loop-at.view_is) c.loop-at.invariant.order below c.index-interface.ensures in
      turn_more event order w (StreamingStands c.loop-at.self c.args.device.now) (StreamingStands c.give_feedback_on.new.self c.args.device.now)
      (g.K.Sink.written c.args.sink.now) (g.K.Sink.written c.loop-at.sink) (g.K.Sink.written c.give_feedback_on.new.sink) c.loop-at.at c.index-interface.result.now
      below here (c.loop-at.invariant.told w stands) c.in_ok-give_feedback_on.ensures.tells;
  faultless = c.in_ok-give_feedback_on.ensures.cause.faultless ∙ c.loop-at.invariant.faultless;
  order = c.give_feedback_on.ensures.order ∙ c.loop-at.invariant.order;
}

pub returns-clause-tells : goal.returns-clause-tells
returns-clause-tells g c = λ w stands.
    let event = feedback_turn c.args.detail (map phrase_mark c.args.marks.now) in
    let order = c.args.self.now.order in
    let many = ap (λ (p : StreamingFields). length p.order) c.self.view_is in
    let past : length c.args.self.now.order ≤ c.loop-at.at = omega (arith, many, c.len-at-end.ensures, c.self.inside.order.ok.0, c.loop-at-test.false) in
    let all = turns_finished event order w (StreamingStands c.loop-at.self c.args.device.now) (g.K.Sink.written c.args.sink.now) (g.K.Sink.written c.loop-at.sink) c.loop-at.at past
    (c.loop-at.invariant.told w stands) in
    subst (λ (told : Telling StreamingWorld). Appends (g.K.Sink.written c.args.sink.now) (g.K.Sink.written c.loop-at.sink) (text_of told.lines)
    × StreamingStands c.loop-at.self c.args.device.now told.world)
    (all_feedback_are c.args.detail (map phrase_mark c.args.marks.now) w order stands.order) all

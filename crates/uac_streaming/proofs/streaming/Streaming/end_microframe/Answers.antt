use Rattle.std.proofs.Common.{◌∙◌, ap, subst, refl, arith, ◌+◌, ◌<◌, ◌≤◌, length, get_or}
use Rattle.std.specs.Io.KnownBytes.{Appends}
use Rattle.uac_edges.specs.Writing.{AppendsFront}
use Rattle.uac_transcript.specs.Printing.{text_of}
use Rattle.uac_streaming.specs.Telling.{Telling, in_turn}
use Rattle.uac_streaming.specs.StreamingWorld.{StreamingWorld, end_turn}
use Rattle.uac_streaming.specs.StreamingKept.{StreamingFields, StreamingStands}
use Rattle.uac_streaming.proofs.TellingLemmas.{at_place, begun, turn_more, turn_stopped, turns_finished}
use Rattle.uac_streaming.proofs.StreamingWorldLemmas.{StandsBefore, all_ends_are, ended_failed, ended_next}
use Rattle.uac_transcript.proofs.PrintingLemmas.{Tells-handed_on}
use Rattle.uac_streaming.proofs.streaming.Streaming.end_microframe.Goals as goal

pub loop-at-init : goal.loop-at-init
loop-at-init g c = record {
  told = λ w stands fit.
      let event = end_turn c.args.detail in
      let order = c.args.self.now.order in
      begun (in_turn event order w) (in_turn event order) (StandsBefore c.args.self.now c.args.device.now order 0) (g.K.Sink.written c.args.sink.now) w
      (stands, λ k above below. fit (get_or order k 0)) refl;
  faultless = refl;
  function = refl;
}

pub returns-in_err-end_one-clause-tells : goal.returns-in_err-end_one-clause-tells
returns-in_err-end_one-clause-tells g c = λ w stands fit.
    let event = end_turn c.args.detail in
    let p = c.args.self.now in
    let order = c.args.self.now.order in
    let many = ap (λ (q : StreamingFields). length q.order) c.self.view_is in
    let below : c.loop-at.at < length c.args.self.now.order = omega (arith, many, c.len-at-end.ensures, c.self.inside.order.ok.0, c.loop-at-test.true) in
    let here = at_place order c.self.inside.order.items order c.loop-at.at c.index-interface.result.now (ap (λ (q : StreamingFields). q.order) c.self.view_is) refl below c.index-interface.ensures in
    let all = turn_stopped event order w (StandsBefore p c.loop-at.device order c.loop-at.at) (StandsBefore p c.loop-at.device order c.loop-at.at)
    (g.K.Sink.written c.args.sink.now) (g.K.Sink.written c.loop-at.sink) (g.K.Sink.written c.end_one.new.sink) c.loop-at.at c.index-interface.result.now
    below here (c.loop-at.invariant.told w stands fit)
    (ended_failed p c.loop-at.device c.end_one.new.device c.args.detail c.index-interface.result.now c.loop-at.at (g.K.Sink.written c.loop-at.sink) (g.K.Sink.written c.end_one.new.sink)
    here below c.in_err-end_one.ensures.tells) in
    Tells-handed_on _ _ (g.K.Sink.written c.args.sink.now) (g.K.Sink.written c.end_one.new.sink) c.from_residual.result _ c.from_residual.ensures.1 (
    subst (λ (told : Telling StreamingWorld). AppendsFront (g.K.Sink.written c.args.sink.now) (g.K.Sink.written c.end_one.new.sink) (text_of told.lines))
    (all_ends_are c.args.detail w order stands.order) all
    )

pub loop-at-preserved : goal.loop-at-preserved
loop-at-preserved g c = record {
  told = λ w stands fit.
      let event = end_turn c.args.detail in
      let p = c.args.self.now in
      let order = c.args.self.now.order in
      let many = ap (λ (q : StreamingFields). length q.order) c.self.view_is in
      let below : c.loop-at.at < length c.args.self.now.order = omega (arith, many, c.len-at-end.ensures, c.self.inside.order.ok.0, c.loop-at-test.true) in
      let here = at_place order c.self.inside.order.items order c.loop-at.at c.index-interface.result.now (ap (λ (q : StreamingFields). q.order) c.self.view_is) refl below c.index-interface.ensures in
      turn_more event order w (StandsBefore p c.loop-at.device order c.loop-at.at) (StandsBefore p c.end_one.new.device order (c.loop-at.at + 1))
      (g.K.Sink.written c.args.sink.now) (g.K.Sink.written c.loop-at.sink) (g.K.Sink.written c.end_one.new.sink) c.loop-at.at c.index-interface.result.now
      below here (c.loop-at.invariant.told w stands fit)
      (ended_next p c.loop-at.device c.end_one.new.device c.args.detail c.index-interface.result.now c.loop-at.at (g.K.Sink.written c.loop-at.sink) (g.K.Sink.written c.end_one.new.sink)
      here below c.in_ok-end_one.ensures.tells);
  faultless = c.in_ok-end_one.ensures.cause.faultless ∙ c.loop-at.invariant.faultless;
  function = c.end_one.ensures.function ∙ c.loop-at.invariant.function;
}

pub returns-clause-tells : goal.returns-clause-tells
returns-clause-tells g c = λ w stands fit.
    let event = end_turn c.args.detail in
    let order = c.args.self.now.order in
    let many = ap (λ (q : StreamingFields). length q.order) c.self.view_is in
    let past : length c.args.self.now.order ≤ c.loop-at.at = omega (arith, many, c.len-at-end.ensures, c.self.inside.order.ok.0, c.loop-at-test.false) in
    let all = turns_finished event order w (StandsBefore c.args.self.now c.loop-at.device order c.loop-at.at) (g.K.Sink.written c.args.sink.now) (g.K.Sink.written c.loop-at.sink) c.loop-at.at past
    (c.loop-at.invariant.told w stands fit) in
    subst (λ (told : Telling StreamingWorld). Appends (g.K.Sink.written c.args.sink.now) (g.K.Sink.written c.loop-at.sink) (text_of told.lines)
    × StreamingStands c.args.self.now c.loop-at.device told.world)
    (all_ends_are c.args.detail w order stands.order) (all.0, all.1.0)

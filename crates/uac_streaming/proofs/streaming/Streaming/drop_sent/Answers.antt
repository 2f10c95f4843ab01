-- In each turn the frames of one interface more are gone.
use Rattle.std.proofs.Common.{◌∙◌, ap, refl, arith, ◌<◌, ◌≤◌, length, min, get_or}
use Rattle.uac_streaming.specs.StreamingWorld.{numbers_in}
use Rattle.uac_streaming.specs.StreamingKept.{StreamingFields}
use Rattle.uac_streaming.proofs.TellingLemmas.{at_place}
use Rattle.uac_streaming.proofs.StreamingReportLemmas.{all_dropped, none_dropped, one_dropped}
use Rattle.uac_streaming.proofs.StreamingWaitsLemmas.{ins_once}
use Rattle.uac_streaming.proofs.streaming.Streaming.drop_sent.Goals as goal

pub loop-at-init : goal.loop-at-init
loop-at-init c = record {
  stands = λ w stands there. none_dropped c.args.sent.now c.args.device.now w.device stands.device;
  function = refl;
}

pub loop-at-preserved : goal.loop-at-preserved
loop-at-preserved c = record {
  stands = λ w stands there.
      let ns = numbers_in w.device.function in
      let is = ap (λ (p : StreamingFields). p.ins) c.self.view_is ∙ stands.ins in
      let many = ap length is in
      let below : c.loop-at.at < length ns = omega (arith, many, c.len.ensures, c.self.inside.ins.ok.0, c.min-at-end.ensures, c.loop-at-test.true) in
      let inside : c.loop-at.at < length c.args.sent.now = omega (arith, c.min-at-end.ensures, c.loop-at-test.true) in
      one_dropped c.loop-at.at ns c.args.sent.now (ins_once w.device.function) below inside w.device c.index.result.now
      (get_or c.args.sent.now c.loop-at.at 0) c.loop-at.device c.drop_sent.new.self
      (at_place ns c.self.inside.ins.items c.self.inside.ins.items c.loop-at.at c.index.result.now refl is below c.index.ensures) refl there
      (c.loop-at.invariant.stands w stands there) c.drop_sent.ensures.stands;
  function = c.drop_sent.ensures.function ∙ c.loop-at.invariant.function;
}

pub returns : goal.returns
returns c = record {
  stands = λ w stands there.
      let ns = numbers_in w.device.function in
      let many = ap length (ap (λ (p : StreamingFields). p.ins) c.self.view_is ∙ stands.ins) in
      let past : min (length ns) (length c.args.sent.now) ≤ c.loop-at.at =
      omega (arith, many, c.len.ensures, c.self.inside.ins.ok.0, c.min-at-end.ensures, c.loop-at-test.false) in
      all_dropped c.loop-at.at ns c.args.sent.now c.loop-at.device w.device past (c.loop-at.invariant.stands w stands there);
  function = c.loop-at.invariant.function;
}

-- The next interface's number is that after its packet.
use Rattle.std.proofs.Common.{◌∙◌, ap, refl, arith, ◌<◌, ◌≤◌, length, min}
use Rattle.std.proofs.lemmas.List.Elements.{All-set}
use Rattle.uac_streaming.specs.StreamingWorld.{numbers_in}
use Rattle.uac_streaming.specs.StreamingKept.{StreamingFields}
use Rattle.uac_streaming.proofs.TellingLemmas.{at_place}
use Rattle.uac_streaming.proofs.StreamingReportLemmas.{all_were_sent, none_were_sent, one_more_sent}
use Rattle.uac_streaming.proofs.streaming.Streaming.send_later.Goals as goal

pub loop-at-init : goal.loop-at-init
loop-at-init c = record { sent = λ w stands. none_were_sent c.args.ticks c.args.sent.now w.device; few = c.requires.sent }

pub loop-at-preserved : goal.loop-at-preserved
loop-at-preserved c = record {
  sent = λ w stands.
      let ns = numbers_in w.device.function in
      let is = ap (λ (p : StreamingFields). p.ins) c.self.view_is ∙ stands.ins in
      let many = ap length is in
      let below : c.loop-at.at < length ns = omega (arith, many, c.len.ensures, c.self.inside.ins.ok.0, c.min-at-end.ensures, c.loop-at-test.true) in
      let inside : c.loop-at.at < length c.args.sent.now = omega (arith, c.min-at-end.ensures, c.loop-at-test.true) in
      one_more_sent c.loop-at.at c.args.ticks c.index.result.now c.one_sent_after.result ns c.args.sent.now c.loop-at.sent w.device below inside
      (at_place ns c.self.inside.ins.items c.self.inside.ins.items c.loop-at.at c.index.result.now refl is below c.index.ensures)
      (c.loop-at.invariant.sent w stands) (c.one_sent_after.ensures.sent w.device stands.device);
  few = All-set (λ m. m ≤ 2176) c.loop-at.sent c.loop-at.at c.one_sent_after.result c.one_sent_after.ensures.few c.loop-at.invariant.few;
}

pub returns : goal.returns
returns c = record {
  sent = λ w stands.
      let ns = numbers_in w.device.function in
      let many = ap length (ap (λ (p : StreamingFields). p.ins) c.self.view_is ∙ stands.ins) in
      let past : min (length ns) (length c.args.sent.now) ≤ c.loop-at.at =
      omega (arith, many, c.len.ensures, c.self.inside.ins.ok.0, c.min-at-end.ensures, c.loop-at-test.false) in
      c.loop-at.invariant.sent w stands ∙ all_were_sent c.loop-at.at c.args.ticks ns c.args.sent.now w.device past;
  few = c.loop-at.invariant.few;
}

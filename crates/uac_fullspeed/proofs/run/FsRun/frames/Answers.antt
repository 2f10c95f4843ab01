-- Bus frame by bus frame: what was printed so far, and the world so far.
use Rattle.std.proofs.Common.{◌≡◌, ◌∙◌, subst, sym, refl}
use Rattle.uac_fullspeed.specs.FullSpeedWorld.{FullSpeedWorld, bus_frames}
use Rattle.uac_fullspeed.specs.FullSpeedKept.{FsRunStandsBetween}
use Rattle.uac_transcript.proofs.PrintingLemmas.{spelt-handed_on}
use Rattle.uac_fullspeed.specs.FullSpeedLines.{fs_spelling_of}
use Rattle.uac_fullspeed.proofs.RunLemmas.{no_frames_told, frames_told_more, frames_told_in_part, frames_further, frames_done}
use Rattle.uac_fullspeed.proofs.run.FsRun.frames.Goals as goal

pub loop-passed-init : goal.loop-passed-init
loop-passed-init g c = record {
  told = λ w stands. no_frames_told c.args.packet_lost c.args.report_lost (g.K.Sink.written c.args.sink.now) c.args.self.now w stands;
  faultless = refl;
}

pub returns-in_err-frame-clause-tells : goal.returns-in_err-frame-clause-tells
returns-in_err-frame-clause-tells g c = λ w stands.
    let so_far = c.loop-passed.invariant.told w stands in
    spelt-handed_on fs_spelling_of _ _ (g.K.Sink.written c.args.sink.now) (g.K.Sink.written c.frame.new.sink) c.from_residual.result _ c.from_residual.ensures.1
    (frames_told_in_part c.args.packet_lost c.args.report_lost (g.K.Sink.written c.args.sink.now) (g.K.Sink.written c.loop-passed.sink) (g.K.Sink.written c.frame.new.sink) c.loop-passed._passed c.args.count w
    c.loop-passed-test.true so_far.0 (c.in_err-frame.ensures.tells (bus_frames c.loop-passed._passed c.args.packet_lost c.args.report_lost w) so_far.1).0)

pub loop-passed-preserved : goal.loop-passed-preserved
loop-passed-preserved g c = record {
  told = λ w stands.
      let so_far = c.loop-passed.invariant.told w stands in
      let next = c.in_ok-frame.ensures.tells (bus_frames c.loop-passed._passed c.args.packet_lost c.args.report_lost w) so_far.1 in (
        frames_told_more c.args.packet_lost c.args.report_lost (g.K.Sink.written c.args.sink.now) (g.K.Sink.written c.loop-passed.sink) (g.K.Sink.written c.frame.new.sink) c.loop-passed._passed w so_far.0 next.0,
        subst (λ (v : FullSpeedWorld). FsRunStandsBetween c.frame.new.self v) (sym (frames_further c.args.packet_lost c.args.report_lost c.loop-passed._passed w)) next.1,
      );
  faultless = c.in_ok-frame.ensures.cause.faultless ∙ c.loop-passed.invariant.faultless;
}

pub returns-clause-tells : goal.returns-clause-tells
returns-clause-tells g c = λ w stands.
    frames_done c.args.packet_lost c.args.report_lost (g.K.Sink.written c.args.sink.now) (g.K.Sink.written c.loop-passed.sink) c.loop-passed.self c.loop-passed._passed c.args.count w
    c.loop-passed-test.false c.loop-passed.auto._passed-end (c.loop-passed.invariant.told w stands)

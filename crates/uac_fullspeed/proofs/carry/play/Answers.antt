-- Tick by tick: what was printed so far, and the stream so far.
use Rattle.std.proofs.Common.{◌≡◌, ◌∙◌, ℕ, List, subst, sym, refl, ◌+◌}
use Rattle.std.specs.Io.KnownBytes.{Appends}
use Rattle.uac_bench.specs.BenchStreams.{StreamWorld, after_ticks}
use Rattle.uac_bench.specs.BenchKept.{BenchStreamStands}
use Rattle.uac_fullspeed.specs.FullSpeedLines.{ticks_lines}
use Rattle.uac_transcript.proofs.PrintingLemmas.{Tells-handed_on}
use Rattle.uac_fullspeed.proofs.CarryLemmas.{no_ticks_told, ticks_told_more, ticks_told_in_part, ticks_further, ticks_done}
use Rattle.uac_fullspeed.proofs.carry.play.Goals as goal

pub loop-ticked-init : goal.loop-ticked-init
loop-ticked-init g c = record {
  told = λ s stands. no_ticks_told c.args.detail (g.K.Sink.written c.args.sink.now) c.args.stream.now s stands;
  faultless = refl;
}

pub returns-in_err-play_one-clause-tells : goal.returns-in_err-play_one-clause-tells
returns-in_err-play_one-clause-tells g c = λ s stands.
    let so_far = c.loop-ticked.invariant.told s stands in
    Tells-handed_on _ _ (g.K.Sink.written c.args.sink.now) (g.K.Sink.written c.play_one.new.sink) c.from_residual.result _ c.from_residual.ensures.1
    (ticks_told_in_part c.args.detail (g.K.Sink.written c.args.sink.now) (g.K.Sink.written c.loop-ticked.sink) (g.K.Sink.written c.play_one.new.sink) c.loop-ticked._ticked c.args.ticks s
    c.loop-ticked-test.true so_far.0 (c.in_err-play_one.ensures.tells (after_ticks c.loop-ticked._ticked s) so_far.1).0)

pub loop-ticked-preserved : goal.loop-ticked-preserved
loop-ticked-preserved g c = record {
  told = λ s stands.
      let so_far = c.loop-ticked.invariant.told s stands in
      let next = c.in_ok-play_one.ensures.tells (after_ticks c.loop-ticked._ticked s) so_far.1 in (
        ticks_told_more c.args.detail (g.K.Sink.written c.args.sink.now) (g.K.Sink.written c.loop-ticked.sink) (g.K.Sink.written c.play_one.new.sink) c.loop-ticked._ticked s so_far.0 next.0,
        subst (λ (v : StreamWorld). BenchStreamStands c.play_one.new.stream v) (sym (ticks_further c.args.detail c.loop-ticked._ticked s)) next.1,
      );
  faultless = c.in_ok-play_one.ensures.cause.faultless ∙ c.loop-ticked.invariant.faultless;
}

pub returns-clause-tells : goal.returns-clause-tells
returns-clause-tells g c = λ s stands.
    ticks_done c.args.detail (g.K.Sink.written c.args.sink.now) (g.K.Sink.written c.loop-ticked.sink) c.loop-ticked.stream c.loop-ticked._ticked c.args.ticks s
    c.loop-ticked-test.false c.loop-ticked.auto._ticked-end (c.loop-ticked.invariant.told s stands)

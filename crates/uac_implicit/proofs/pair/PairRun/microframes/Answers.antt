use Rattle.std.proofs.Common.{◌≡◌, ◌<◌, ◌∙◌, subst, sym, ℕ, arith, refl}
use Rattle.std.specs.Io.KnownBytes.{Appends}
use Rattle.std.proofs.KnownBytes.{Appends-nil}
use Rattle.uac_transcript.specs.Printing.{text_of}
use Rattle.uac_implicit.specs.Following.{microframe, microframes, times, lines_times, microframe_lines, microframes_lines}
use Rattle.uac_implicit.specs.PairKept.{PairRunStands}
use Rattle.uac_implicit.proofs.TimesLemmas.{times_more, printed_more, printed_front}
use Rattle.uac_implicit.proofs.pair.PairRun.microframes.Goals as goal

pub loop-passed-init : goal.loop-passed-init
unfolding times lines_times
loop-passed-init g c = record { tells = λ w s. (Appends-nil (g.K.Sink.written c.args.sink.now), s); faultless = refl }

pub returns-in-Err-clause-tells : goal.returns-in-Err-clause-tells
returns-in-Err-clause-tells g c = λ w s.
    let so_far = c.loop-passed.invariant.tells w s in
    let one = c.in-Err.ensures.tells (microframes c.args.losses c.loop-passed._passed w) so_far.1 in (
      printed_front (microframe_lines c.args.losses) (microframe c.args.losses) c.loop-passed._passed c.args.count w (g.K.Sink.written c.args.sink.now) (g.K.Sink.written c.loop-passed.sink) (g.K.Sink.written c.microframe.new.sink)
          c.loop-passed-test.true so_far.0 one.0,
      tt,
    )

pub loop-passed-preserved : goal.loop-passed-preserved
loop-passed-preserved g c = record {
  tells = λ w s.
      let so_far = c.loop-passed.invariant.tells w s in
      let one = c.in-Ok.ensures.tells (microframes c.args.losses c.loop-passed._passed w) so_far.1 in (
        printed_more (microframe_lines c.args.losses) (microframe c.args.losses) c.loop-passed._passed w (g.K.Sink.written c.args.sink.now) (g.K.Sink.written c.loop-passed.sink) (g.K.Sink.written c.microframe.new.sink) so_far.0 one.0,
        subst (PairRunStands c.microframe.new.self) (sym (times_more (microframe_lines c.args.losses) (microframe c.args.losses) c.loop-passed._passed w)) one.1,
      );
  faultless = c.in-Ok.ensures.cause.faultless ∙ c.loop-passed.invariant.faultless;
}

pub returns-clause-tells : goal.returns-clause-tells
returns-clause-tells g c = λ w s.
    let all : c.loop-passed._passed ≡ c.args.count = omega arith in
    subst (λ (n : ℕ). Appends (g.K.Sink.written c.args.sink.now) (g.K.Sink.written c.loop-passed.sink) (text_of (microframes_lines c.args.losses n w)) × PairRunStands c.loop-passed.self (microframes c.args.losses n w)) all
    (c.loop-passed.invariant.tells w s)

use Rattle.std.proofs.Common.{◌≡◌, ◌≤◌, ◌<◌, ◌+◌, ◌∙◌, subst, sym, ℕ, List, length, arith, refl}
use Rattle.std.specs.Io.KnownBytes.{Appends}
use Rattle.std.proofs.KnownBytes.{Appends-nil}
use Rattle.uac_transcript.specs.Printing.{text_of}
use Rattle.uac_implicit.specs.Following.{PairWorld, tick, ticks, times, lines_times, ticks_lines, tick_lines}
use Rattle.uac_implicit.specs.PairKept.{PairStandsIn}
use Rattle.uac_implicit.proofs.PairKeptLemmas.{ticks_waiting}
use Rattle.uac_implicit.proofs.TimesLemmas.{times_more, printed_more, printed_front}
use Rattle.uac_implicit.proofs.pair.PairRun.ticks.Goals as goal

pub loop-ticked-init : goal.loop-ticked-init
unfolding times lines_times
loop-ticked-init g c = record { tells = λ sent steps w s room. (Appends-nil (g.K.Sink.written c.args.sink.now), s); faultless = refl }

pub returns-in-Err-clause-tells : goal.returns-in-Err-clause-tells
returns-in-Err-clause-tells g c = λ sent steps w s room.
    let so_far = c.loop-ticked.invariant.tells sent steps w s room in
    let long = ticks_waiting c.loop-ticked._ticked w in
    let below : c.loop-ticked._ticked < c.args.count = c.loop-ticked-test.true in
    let one = c.in-Err.ensures.tells sent steps (ticks c.loop-ticked._ticked w) so_far.1 (omega arith) in (
      printed_front tick_lines tick c.loop-ticked._ticked c.args.count w (g.K.Sink.written c.args.sink.now) (g.K.Sink.written c.loop-ticked.sink) (g.K.Sink.written c.tick.new.sink) below so_far.0 one.0,
      tt,
    )

pub loop-ticked-preserved : goal.loop-ticked-preserved
loop-ticked-preserved g c = record {
  tells = λ sent steps w s room.
      let so_far = c.loop-ticked.invariant.tells sent steps w s room in
      let long = ticks_waiting c.loop-ticked._ticked w in
      let below : c.loop-ticked._ticked < c.args.count = c.loop-ticked-test.true in
      let one = c.in-Ok.ensures.tells sent steps (ticks c.loop-ticked._ticked w) so_far.1 (omega arith) in (
        printed_more tick_lines tick c.loop-ticked._ticked w (g.K.Sink.written c.args.sink.now) (g.K.Sink.written c.loop-ticked.sink) (g.K.Sink.written c.tick.new.sink) so_far.0 one.0,
        subst (PairStandsIn sent steps c.tick.new.self) (sym (times_more tick_lines tick c.loop-ticked._ticked w)) one.1,
      );
  faultless = c.in-Ok.ensures.cause.faultless ∙ c.loop-ticked.invariant.faultless;
}

pub returns-clause-tells : goal.returns-clause-tells
returns-clause-tells g c = λ sent steps w s room.
    let all : c.loop-ticked._ticked ≡ c.args.count = omega arith in
    subst (λ (n : ℕ). Appends (g.K.Sink.written c.args.sink.now) (g.K.Sink.written c.loop-ticked.sink) (text_of (ticks_lines n w)) × PairStandsIn sent steps c.loop-ticked.self (ticks n w)) all
    (c.loop-ticked.invariant.tells sent steps w s room)

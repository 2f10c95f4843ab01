use Rattle.std.proofs.Common.{◌∙◌, ap, map, subst, sym, List}
use Rattle.uac_topology.specs.FunctionKept.{AreNumbered}
use Rattle.uac_script.specs.Line.{phrase_mark}
use Rattle.uac_units.specs.MeterReadings.{readings}
use Rattle.uac_transcript.specs.Printing.{Prints}
use Rattle.uac_transcript.specs.Transcript.{Said}
use Rattle.uac_streaming.proofs.RoomDeviceLemmas.{HaveSmallNumbers}
use Rattle.uac_running.specs.Events.{microframe}
use Rattle.uac_running.specs.RunningKept.{RunningFields, RunningStandsBetween}
use Rattle.uac_running.proofs.RoomLemmas.{one_microframe}
use Rattle.uac_running.proofs.AheadLemmas.{MayGoAhead, ahead_lines, ahead_more, function_ahead, lone_ahead, microframe_lone, none_ahead, stopped_ahead, three_ok}
use Rattle.uac_running.proofs.running.Running.ahead_microframe.Goals as goal

pub returns-then-goes_ahead-clause-tells : goal.returns-then-goes_ahead-clause-tells
returns-then-goes_ahead-clause-tells g c r ahead =
    let marks = map phrase_mark c.args.marks.now in
    let shown = readings (λ v x. (goal.Meter-dyn g (v, x)).reading_of x) c.args.meters.now in
    let b = ahead.before in
    let domain = c.args.domain in
    let n = c.args.ahead.ticks in
    let sent = c.args.ahead.sent in
    let may : MayGoAhead domain n sent b =
    record {
      steady = c.goes_ahead.ensures.steady shown b ahead.stands c.if-goes_ahead.true;
      fit = c.goes_ahead.ensures.fit shown b ahead.stands c.if-goes_ahead.true;
    } in
    let kept : AreNumbered c.function.result.now = c.interfaces_are_numbered.ensures c.function.result.now c.functions_are_sound.ensures in
    let own = c.function.ensures ∙ ap (λ (p : RunningFields). p.device.function) c.self.view_is ∙ function_ahead domain n sent c.args.self.now shown r ahead in
    let small = subst HaveSmallNumbers own kept.bytes in
    let room = one_microframe marks r small ahead.room in
    let told = c.run_ahead.ensures.tells shown b ahead.stands ahead.lone may.steady may.fit in (
      subst (λ (lines : List Said). Prints (g.K.Sink.written c.args.sink.now) (g.K.Sink.written c.run_ahead.new.sink) c.run_ahead.result lines)
          (sym (ahead_lines marks domain n sent c.args.self.now shown r c.requires.packets ahead may)) told.0,
      three_ok _ _ _ _ c.run_ahead.result
          (λ next stands ticks more.
          ahead_more marks domain n sent next.ticks next.sent c.args.self.now c.run_ahead.new.self shown r c.requires.packets ahead may room ticks more stands)
          told.1 (c.run_ahead.ensures.ticks shown b ahead.stands ahead.lone) (c.run_ahead.ensures.sent shown b ahead.stands ahead.lone),
    )

pub returns-in_err-microframe-clause-tells : goal.returns-in_err-microframe-clause-tells
returns-in_err-microframe-clause-tells g c r ahead =
    let old = g.K.Sink.written c.args.sink.now in
    let new = g.K.Sink.written c.microframe.new.sink in
    let done : RunningStandsBetween c.catch_up.new.self (readings (λ v x. (goal.Meter-dyn g (v, x)).reading_of x) c.catch_up.new.meters) r =
    record { now = c.catch_up.ensures r ahead; room = ahead.room } in
    stopped_ahead _ _ old new c.from_residual.result (microframe (map phrase_mark c.args.marks.now) r).lines c.from_residual.ensures.1
    (c.in_err-microframe.ensures.tells r done).0

pub returns-clause-tells : goal.returns-clause-tells
returns-clause-tells g c r ahead =
    let shown = readings (λ v x. (goal.Meter-dyn g (v, x)).reading_of x) c.args.meters.now in
    let showing = readings (λ v x. (goal.Meter-dyn g (v, x)).reading_of x) c.microframe.new.meters in
    let marks = map phrase_mark c.args.marks.now in
    let domain = c.args.domain in
    let kept : AreNumbered c.function.result.now = c.interfaces_are_numbered.ensures c.function.result.now c.functions_are_sound.ensures in
    let own = c.function.ensures ∙ ap (λ (p : RunningFields). p.device.function) c.self.view_is ∙ function_ahead domain c.args.ahead.ticks c.args.ahead.sent c.args.self.now shown r ahead in
    let small = subst HaveSmallNumbers own kept.bytes in
    let done : RunningStandsBetween c.catch_up.new.self (readings (λ v x. (goal.Meter-dyn g (v, x)).reading_of x) c.catch_up.new.meters) r =
    record { now = c.catch_up.ensures r ahead; room = ahead.room } in
    let told = c.in_ok-microframe.ensures.tells r done in (
      told.0,
      none_ahead domain c.none.result.ticks c.none.result.sent c.microframe.new.self showing (microframe marks r).world c.none.ensures.ticks c.none.ensures.sent told.1
          (microframe_lone marks domain r small ahead.room (lone_ahead domain c.args.ahead.ticks c.args.ahead.sent c.args.self.now shown r ahead)),
    )

use Rattle.std.proofs.Common.{◌∙◌, ap, subst, map, List}
use Rattle.std.specs.Io.KnownBytes.{Appends}
use Rattle.uac_topology.specs.FunctionKept.{AreNumbered}
use Rattle.uac_script.specs.Line.{phrase_mark}
use Rattle.uac_units.specs.MeterReadings.{readings}
use Rattle.uac_edges.specs.Writing.{AppendsFront}
use Rattle.uac_transcript.specs.Transcript.{Said}
use Rattle.uac_transcript.specs.Printing.{text_of}
use Rattle.uac_streaming.proofs.RoomDeviceLemmas.{HaveSmallNumbers}
use Rattle.uac_running.specs.Events.{number_said, packets_and_ticks}
use Rattle.uac_running.specs.RunningKept.{RunningFields}
use Rattle.uac_running.proofs.RoomLemmas.{one_microframe, zeros_fit_in}
use Rattle.uac_running.proofs.EventsLemmas.{microframe_front, microframe_next_front, microframe_told, number_line, numbered, passed}
use Rattle.uac_transcript.proofs.PrintingLemmas.{Tells-handed_on}
use Rattle.uac_running.proofs.running.Running.microframe.Goals as goal

pub returns-in_err-write_number-clause-tells : goal.returns-in_err-write_number-clause-tells
returns-in_err-write_number-clause-tells g c r stands =
    let shown = readings (λ v x. (goal.Meter-dyn g (v, x)).reading_of x) c.args.meters.now in
    let later = passed shown r c.args.self.now c.pass.new.self stands.now c.pass.ensures in
    let said = ap (λ (p : RunningFields). number_said c.pass.new.self.detail p.time) c.self-2.view_is ∙ number_line r c.pass.new.self shown later in
    Tells-handed_on _ _ (g.K.Sink.written c.args.sink.now) (g.K.Sink.written c.write_number.new.sink) c.from_residual.result _ c.from_residual.ensures.1 (
    microframe_front (map phrase_mark c.args.marks.now) r (g.K.Sink.written c.args.sink.now) (g.K.Sink.written c.write_number.new.sink)
    (subst (λ (lines : List Said). AppendsFront (g.K.Sink.written c.args.sink.now) (g.K.Sink.written c.write_number.new.sink) (text_of lines)) said c.in_err-write_number.ensures.printed)
    )

pub returns-in_err-packets_and_ticks-clause-tells : goal.returns-in_err-packets_and_ticks-clause-tells
returns-in_err-packets_and_ticks-clause-tells g c r stands =
    let shown = readings (λ v x. (goal.Meter-dyn g (v, x)).reading_of x) c.args.meters.now in
    let later = passed shown r c.args.self.now c.pass.new.self stands.now c.pass.ensures in
    let said = ap (λ (p : RunningFields). number_said c.pass.new.self.detail p.time) c.self-2.view_is ∙ number_line r c.pass.new.self shown later in
    Tells-handed_on _ _ (g.K.Sink.written c.args.sink.now) (g.K.Sink.written c.packets_and_ticks.new.sink) c.from_residual-in_err-packets_and_ticks.result _ c.from_residual-in_err-packets_and_ticks.ensures.1 (
    microframe_next_front (map phrase_mark c.args.marks.now) r (g.K.Sink.written c.args.sink.now) (g.K.Sink.written c.write_number.new.sink) (g.K.Sink.written c.packets_and_ticks.new.sink)
    (subst (λ (lines : List Said). Appends (g.K.Sink.written c.args.sink.now) (g.K.Sink.written c.write_number.new.sink) (text_of lines)) said c.in_ok-write_number.ensures.printed)
    (c.in_err-packets_and_ticks.ensures.tells (numbered r) later).0
    )

pub returns-clause-tells : goal.returns-clause-tells
returns-clause-tells g c r stands =
    let shown = readings (λ v x. (goal.Meter-dyn g (v, x)).reading_of x) c.args.meters.now in
    let showing = readings (λ v x. (goal.Meter-dyn g (v, x)).reading_of x) c.packets_and_ticks.new.meters in
    let marks = map phrase_mark c.args.marks.now in
    let later = passed shown r c.args.self.now c.pass.new.self stands.now c.pass.ensures in
    let said = ap (λ (p : RunningFields). number_said c.pass.new.self.detail p.time) c.self-2.view_is ∙ number_line r c.pass.new.self shown later in
    let number = subst (λ (lines : List Said). Appends (g.K.Sink.written c.args.sink.now) (g.K.Sink.written c.write_number.new.sink) (text_of lines)) said c.in_ok-write_number.ensures.printed in
    let kept : AreNumbered c.function.result.now = c.interfaces_are_numbered.ensures c.function.result.now c.functions_are_sound.ensures in
    let own = c.function.ensures ∙ ap (λ (p : RunningFields). p.device.function) c.self.view_is ∙ stands.now.streaming.device.function in
    let small = subst HaveSmallNumbers own kept.bytes in
    let first = c.in_ok-packets_and_ticks.ensures.tells (numbered r) later in
    microframe_told marks r c.ends_and_feedback.new.self showing (g.K.Sink.written c.args.sink.now) (g.K.Sink.written c.write_number.new.sink) (g.K.Sink.written c.packets_and_ticks.new.sink)
    (g.K.Sink.written c.ends_and_feedback.new.sink) c.ends_and_feedback.result (one_microframe marks r small stands.room) number first.0
    (c.ends_and_feedback.ensures.tells showing (packets_and_ticks marks (numbered r)).world first.1 (zeros_fit_in marks (numbered r) stands.room))

use Rattle.std.proofs.Common.{List, ◌≡◌, ◌∙◌, true, refl, ap, sym, subst, flat_map}
use Rattle.std.specs.List.{All}
use Rattle.std.specs.Io.KnownBytes.{Appends}
use Rattle.std.proofs.lemmas.List.{take_all}
use Rattle.uac_topology.specs.Function.{FunctionFields}
use Rattle.uac_topology.specs.Topology.{IsSoundFunction}
use Rattle.uac_graph.specs.Meaning.{entity}
use Rattle.uac_edges.specs.Writing.{AppendsFront}
use Rattle.uac_transcript.specs.Transcript.{Said}
use Rattle.uac_transcript.specs.Printing.{text_of}
use Rattle.uac_transcript.proofs.PrintingLemmas.{front_of_some, some_lines_more}
use Rattle.uac_device.specs.DeviceWorld.{is_output_jack}
use Rattle.uac_device.specs.DeviceTurns.{jacks_of}
use Rattle.uac_device.specs.declared.hearing.OutputJack.{OutputJack}
use Rattle.uac_running.proofs.ReportLinesLemmas.{jacks_are, jacks_clocked, jacks_played, of_jack}
use Rattle.uac_edges.proofs.WritingLemmas.{Writes-handed_on}
use Rattle.uac_running.proofs.printing.write_jacks.Goals as goal

pub write_jack-requires : goal.write_jack-requires
write_jack-requires g c =
    let function = c.args.device.now.function in
    let sound = subst IsSoundFunction c.function.ensures c.functions_are_sound.ensures in
    let kinds : All (λ (j : OutputJack). is_output_jack (entity function.entities j.terminal) ≡ true) c.output_jacks-jack-items.result.now =
    subst (All (λ (j : OutputJack). is_output_jack (entity function.entities j.terminal) ≡ true)) (sym c.output_jacks-jack-items.ensures) (jacks_are function sound) in
    let clocks : All (λ (j : OutputJack). (entity function.entities j.terminal).clock ≡ j.domain) c.output_jacks-jack-items.result.now =
    subst (All (λ (j : OutputJack). (entity function.entities j.terminal).clock ≡ j.domain)) (sym c.output_jacks-jack-items.ensures) (jacks_clocked function sound) in
    record { kind = kinds c.loop-jack.jack-index _ c.loop-jack-test.true; clock = clocks c.loop-jack.jack-index _ c.loop-jack-test.true }

pub returns-in_err-write_jack-clause-printed : goal.returns-in_err-write_jack-clause-printed
returns-in_err-write_jack-clause-printed g c = λ w stands.
    let items = c.output_jacks-jack-items.result.now in
    Writes-handed_on _ (g.K.Sink.written c.args.sink.now) (g.K.Sink.written c.write_jack.new.sink) c.from_residual.result _ c.from_residual.ensures.1 (
    subst (λ (lines : List Said). AppendsFront (g.K.Sink.written c.args.sink.now) (g.K.Sink.written c.write_jack.new.sink) (text_of lines))
    (jacks_played c.args.domain w items (c.output_jacks-jack-items.ensures ∙ ap (λ (f : FunctionFields). jacks_of f.entities) stands.function))
    (front_of_some _ _ _ (of_jack c.args.domain w) items c.loop-jack.jack-index _ _ c.loop-jack-test.true
    refl (c.loop-jack.invariant.written w stands) (c.in_err-write_jack.ensures.printed w stands))
    )

pub loop-jack-preserved : goal.loop-jack-preserved
loop-jack-preserved g c = record {
  written = λ w stands.
      some_lines_more _ _ _ (of_jack c.args.domain w) c.output_jacks-jack-items.result.now c.loop-jack.jack-index _ _ c.loop-jack-test.true
      refl (c.loop-jack.invariant.written w stands) (c.in_ok-write_jack.ensures.printed w stands);
  faultless = c.in_ok-write_jack.ensures.cause.faultless ∙ c.loop-jack.invariant.faultless;
}

pub returns-clause-printed : goal.returns-clause-printed
returns-clause-printed g c = λ w stands.
    let items = c.output_jacks-jack-items.result.now in
    subst (λ (lines : List Said). Appends (g.K.Sink.written c.args.sink.now) (g.K.Sink.written c.loop-jack.sink) (text_of lines))
    (ap (λ (jacks : List OutputJack). flat_map (of_jack c.args.domain w) jacks) (take_all c.loop-jack.jack-index items c.loop-jack-test.false)
    ∙ jacks_played c.args.domain w items (c.output_jacks-jack-items.ensures ∙ ap (λ (f : FunctionFields). jacks_of f.entities) stands.function))
    (c.loop-jack.invariant.written w stands)

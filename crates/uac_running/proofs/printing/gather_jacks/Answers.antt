use Rattle.std.proofs.Common.{◌∙◌, ap, subst, flat_map, take, List, ◌++◌}
use Rattle.std.proofs.lemmas.List.{take_all}
use Rattle.uac_device.specs.DeviceTurns.{jacks_of}
use Rattle.uac_device.specs.declared.hearing.OutputJack.{OutputJack}
use Rattle.uac_edges.specs.Writing.{AppendsFront}
use Rattle.uac_topology.specs.Function.{FunctionFields}
use Rattle.uac_topology.specs.Topology.{IsSoundFunction}
use Rattle.uac_transcript.specs.Printing.{text_of}
use Rattle.uac_transcript.specs.Transcript.{Said}
use Rattle.uac_running.specs.ReportLines.{Gathers}
use Rattle.uac_running.proofs.GatheringLemmas.{front_of_items, gathered_there, gathers_handed_on, item_gathered, item_passed}
use Rattle.uac_running.proofs.ReportLinesLemmas.{jack_said, jacks_played, none_said, of_jack}
use Rattle.uac_running.proofs.printing.gather_jacks.Goals as goal
use Rattle.uac_running.proofs.printing.gather_jacks.Goals.{then-jack-domain+in_ok-gather_jack, else-jack-domain}

pub returns-in_err-gather_jack-clause-gathered : goal.returns-in_err-gather_jack-clause-gathered
returns-in_err-gather_jack-clause-gathered g c = λ start lines w shows gathered.
    let items = c.output_jacks-jack-items.result.now in
    let index = c.loop-jack.jack-index in
    let device = c.args.device.now in
    let new = g.K.Sink.written c.gather_jack.new.sink in
    let sound = subst IsSoundFunction c.function.ensures c.functions_are_sound.ensures in
    gathers_handed_on _ start new c.gather_jack.new.text c.from_residual.result _ c.from_residual.ensures.1
    (subst (λ (ls : List Said). AppendsFront start new (text_of (lines ++ ls)))
    (jacks_played c.args.domain w items (c.output_jacks-jack-items.ensures ∙ ap (λ (f : FunctionFields). jacks_of f.entities) shows.function))
    (front_of_items start new lines (of_jack c.args.domain w) items index _ _ c.loop-jack-test.true
    (jack_said c.args.tick c.args.domain device w items index _ sound c.output_jacks-jack-items.ensures c.loop-jack-test.true shows c.if-jack-domain.true)
    (c.in_err-gather_jack.ensures.gathered start (lines ++ flat_map (of_jack c.args.domain w) (take index items))
    (c.loop-jack.invariant.gathered start lines w shows gathered))))

pub loop-jack-preserved : goal.loop-jack-preserved
loop-jack-preserved g c = record {
  gathered = λ start lines w shows gathered.
      let items = c.output_jacks-jack-items.result.now in
      let index = c.loop-jack.jack-index in
      let device = c.args.device.now in
      let now = g.K.Sink.written c.if-jack-domain.sink in
      let sound = subst IsSoundFunction c.function.ensures c.functions_are_sound.ensures in
      let before : Gathers start (g.K.Sink.written c.loop-jack.sink) c.loop-jack.text (lines ++ flat_map (of_jack c.args.domain w) (take index items)) =
      c.loop-jack.invariant.gathered start lines w shows gathered in
      elim c.if-jack-domain.branch [
        | then-jack-domain+in_ok-gather_jack b ↦
            gathered_there start (g.K.Sink.written b.gather_jack.new.sink) now b.gather_jack.new.text c.if-jack-domain.text _ (ap g.K.Sink.written b.sink-is) b.text-is
            (item_gathered start (g.K.Sink.written b.gather_jack.new.sink) lines (of_jack c.args.domain w) items index _ _ c.loop-jack-test.true
            (jack_said c.args.tick c.args.domain device w items index _ sound c.output_jacks-jack-items.ensures c.loop-jack-test.true shows b.if-jack-domain.true)
            b.gather_jack.new.text
            (b.in_ok-gather_jack.ensures.gathered start (lines ++ flat_map (of_jack c.args.domain w) (take index items)) before))
        | else-jack-domain b ↦
            gathered_there start (g.K.Sink.written c.loop-jack.sink) now c.loop-jack.text c.if-jack-domain.text _ (ap g.K.Sink.written b.sink-is) b.text-is
            (item_passed start (g.K.Sink.written c.loop-jack.sink) c.loop-jack.text lines (of_jack c.args.domain w) items index _ c.loop-jack-test.true
            (none_said c.args.domain w _ b.if-jack-domain.false) before)
      ];
  faultless = elim c.if-jack-domain.branch [
    | then-jack-domain+in_ok-gather_jack b ↦ ap g.K.Sink.faults b.sink-is ∙ b.in_ok-gather_jack.ensures.cause.faultless ∙ c.loop-jack.invariant.faultless
    | else-jack-domain b ↦ ap g.K.Sink.faults b.sink-is ∙ c.loop-jack.invariant.faultless
  ];
}

pub returns-clause-gathered : goal.returns-clause-gathered
returns-clause-gathered g c = λ start lines w shows gathered.
    let items = c.output_jacks-jack-items.result.now in
    subst (λ (ls : List Said). Gathers start (g.K.Sink.written c.loop-jack.sink) c.loop-jack.text (lines ++ ls))
    (ap (λ (jacks : List OutputJack). flat_map (of_jack c.args.domain w) jacks) (take_all c.loop-jack.jack-index items c.loop-jack-test.false)
    ∙ jacks_played c.args.domain w items (c.output_jacks-jack-items.ensures ∙ ap (λ (f : FunctionFields). jacks_of f.entities) shows.function))
    (c.loop-jack.invariant.gathered start lines w shows gathered)

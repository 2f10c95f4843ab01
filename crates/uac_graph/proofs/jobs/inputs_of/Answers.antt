use Rattle.std.proofs.Common.{◌∙◌, ap, sym, arith, sum_by, take_all}
use Rattle.std.proofs.lemmas.List.Sums.{sum-map, sum_by_more}
use Rattle.uac_entities.specs.EntityInterfaces.{channels_of}
use Rattle.uac_store.specs.StoreControls.{pins_of}
use Rattle.uac_store.proofs.StoreControlsStartLemmas.{inputs_within}
use Rattle.uac_graph.proofs.jobs.inputs_of.Goals as goal

pub overflow_add-inputs : goal.overflow_add-inputs
overflow_add-inputs c =
    let within = inputs_within c.args.table.now c.args.entity.now c.as_slice-source-items.result.now c.loop-source.source-index c.as_slice-source-items.ensures c.loop-source-test.true c.requires in
    omega (arith, within, c.loop-source.invariant, c.channels_of.ensures.value)

pub loop-source-preserved : goal.loop-source-preserved
loop-source-preserved c =
    omega (arith, c.loop-source.invariant, c.channels_of.ensures.value, sum_by_more (channels_of c.args.table.now) c.as_slice-source-items.result.now c.loop-source.source-index 0 c.loop-source-test.true)

pub returns : goal.returns
unfolding pins_of
returns c =
    c.loop-source.invariant
    ∙ ap (sum_by (channels_of c.args.table.now)) (take_all c.loop-source.source-index c.as_slice-source-items.result.now (omega arith) ∙ c.as_slice-source-items.ensures)
    ∙ sym (sum-map (channels_of c.args.table.now) c.args.entity.now.sources)

use Rattle.std.proofs.Common.{◌∙◌, ap, sym, subst, length, pos, replicate}
use Rattle.std.specs.Option.{option_map}
use Rattle.std.proofs.lemmas.List.{length-map, length-replicate}
use Rattle.uac_units.specs.SampleRows.{HaveTicks}
use Rattle.uac_graph.specs.Fitness.{IsSignalGraph}
use Rattle.uac_graph.proofs.FitnessLemmas.{sound_graph}
use Rattle.uac_graph.proofs.WiringLemmas.{silent_fits}
use Rattle.uac_graph.proofs.TickSilenceLemmas.{silent_of, silent_ticks}
use Rattle.uac_graph.proofs.wire_rows.WireRows.new.Goals as goal

pub silent_slots-requires : goal.silent_slots-requires
silent_slots-requires c = subst IsSignalGraph (sym c.entities.ensures) (sound_graph _ c.functions_are_sound.ensures)

pub invariant_of-result : goal.invariant_of-result
invariant_of-result c = record {
  ids = length-map c.in_ok-slots.slots.items (option_map (λ rows. rows.items)) ∙ c.in_ok-slots.ensures.sized;
  given = c.in_ok-slots.ensures.given;
  most = ap length c.in_ok-pins.ensures ∙ length-replicate 256 (replicate c.args.ticks (pos 0));
  taken = subst (HaveTicks c.args.ticks) (sym c.in_ok-pins.ensures) (silent_ticks 256 c.args.ticks);
}

pub returns-clause-silent : goal.returns-clause-silent
returns-clause-silent c = λ tick. silent_of c.entities.result.now c.args.function.now.entities _ c.entities.ensures (c.in_ok-slots.ensures.silent tick)

pub returns-clause-fitting : goal.returns-clause-fitting
returns-clause-fitting c = λ tick.
    silent_fits c.args.function.now.entities _ (silent_of c.entities.result.now c.args.function.now.entities _ c.entities.ensures (c.in_ok-slots.ensures.silent tick))

use Rattle.std.proofs.Common.{◌≤◌, ◌+◌, arith, length, subst, rules, List}
use Rattle.uac_entities.specs.declared.entity.Entity.{Entity}
use Rattle.uac_graph.specs.TickRows.{AreRowsOf, frames_at}
use Rattle.uac_graph.specs.Wiring.{samples_on}
use Rattle.uac_graph.proofs.FitnessLemmas.{sound_graph}
use Rattle.uac_units.specs.SampleRows.{HaveTicks}
use Rattle.uac_units.proofs.SampleRowsLemmas.{ticks_less}
use Rattle.uac_device.proofs.HeardRowsLemmas.{rows_few}
use Rattle.uac_device.proofs.HeldRowsLemmas.{rows_are_few}
use Rattle.uac_device.proofs.device.Device.read_played.Goals as goal

pub read_frame-requires : goal.read_frame-requires
read_frame-requires c =
    let held = c.get.result.now in
    let rows = c.self.inside.rows in
    let few : length held ≤ 32 =
    rows_few c.args.tick held (samples_on (frames_at c.args.tick rows) c.args.terminal) (c.get.ensures.frames c.args.tick)
    (rows_are_few c.self.inside.function.entities rows c.args.tick (sound_graph c.self.inside.function c.functions_are_sound.ensures) c.self.invariant.3 c.args.terminal) in
    let inside : HaveTicks (c.args.tick + 1) held =
    ticks_less (c.args.tick + 1) rows.room held (omega (arith, c.requires, c.self.invariant.4)) c.get.ensures.ticks in
    search (rules, few, inside)

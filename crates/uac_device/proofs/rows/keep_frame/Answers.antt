use Rattle.std.proofs.Common.{◌≤◌, ◌+◌, arith, length, rules}
use Rattle.uac_units.specs.SampleRows.{HaveTicks}
use Rattle.uac_units.proofs.SampleRowsLemmas.{ticks_less}
use Rattle.uac_graph.specs.TickRows.{frames_at}
use Rattle.uac_graph.specs.Wiring.{samples_on}
use Rattle.uac_device.proofs.HeardRowsLemmas.{rows_few}
use Rattle.uac_device.proofs.rows.keep_frame.Goals as goal

pub read_frame-requires : goal.read_frame-requires
read_frame-requires c =
    let held = c.get-held.result.now in
    let few : length held ≤ 32 =
    rows_few c.args.tick held (samples_on (frames_at c.args.tick c.args.rows.now) c.args.id) (c.get-held.ensures.frames c.args.tick) c.requires.few in
    let inside : HaveTicks (c.args.tick + 1) held =
    ticks_less (c.args.tick + 1) c.args.rows.now.room held (omega (arith, c.requires.tick)) c.get-held.ensures.ticks in
    search (rules, few, inside)

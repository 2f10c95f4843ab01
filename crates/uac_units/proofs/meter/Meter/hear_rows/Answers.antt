use Rattle.std.proofs.Common.{◌∙◌, ◌+◌, ap, arith, sym, rules, List, ℤ}
use Rattle.uac_units.specs.Hearing.{after_hearing}
use Rattle.uac_units.specs.SampleRows.{HaveTicks, frame_at}
use Rattle.uac_units.proofs.SampleRowsLemmas.{heard_more, ticks_less}
use Rattle.uac_units.proofs.meter.Meter.hear_rows.Goals as goal

pub read_frame-requires : goal.read_frame-requires
read_frame-requires g c =
    let inside : HaveTicks (c.loop-tick.tick + 1) c.args.rows.now = ticks_less (c.loop-tick.tick + 1) c.args.ticks c.args.rows.now (omega arith) c.requires.given in
    search (rules, inside)

pub loop-tick-preserved : goal.loop-tick-preserved
loop-tick-preserved g c =
    c.hear.ensures
    ∙ ap (λ (frame : List ℤ). after_hearing frame (g.Self.Meter.reading_of c.loop-tick.self)) c.read_frame.ensures
    ∙ ap (after_hearing (frame_at c.loop-tick.tick c.args.rows.now)) c.loop-tick.invariant
    ∙ sym (heard_more c.loop-tick.tick c.args.rows.now (g.Self.Meter.reading_of c.args.self.now))

use Rattle.std.proofs.Common.{◌≡◌}
use Rattle.uac_units.specs.SampleRows.{after_hearing_all, frames_of}
use Rattle.uac_units.proofs.meter.Meter.hear_rows.Given as goal

abbrev pub invariant-loop-tick : goal.invariant-loop-tick
invariant-loop-tick g l = g.Self.Meter.reading_of l.self ≡ after_hearing_all (frames_of l.tick l.rows) (g.Self.Meter.reading_of l.initial.self)

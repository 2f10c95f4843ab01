use Rattle.std.proofs.Common.{◌≡◌, take}
use Rattle.uac_units.specs.SampleRows.{after_hearing_all, frames_of}
use Rattle.uac_units.specs.declared.meter.MeterKind.TheVariants.{Peak}
use Rattle.uac_units.proofs.SampleRowsLemmas.{shows}
use Rattle.uac_units.proofs.meters.PeakMeterMeter.hear_rows.Given as goal

abbrev pub invariant-loop-row : goal.invariant-loop-row
invariant-loop-row l =
    shows Peak l.value ≡ after_hearing_all (frames_of l.ticks (take l.row-index l.rows)) (shows Peak l.initial.value)

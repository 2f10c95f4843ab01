use Rattle.std.specs.Prelude.{◌≡◌, take}
use Rattle.uac_units.specs.Hearing.{peak_of}
use Rattle.uac_units.proofs.meter_rows.peak_among.Given as goal

abbrev pub invariant-loop-sample : goal.invariant-loop-sample
invariant-loop-sample l = l.peak ≡ peak_of (take l.sample-index l.samples)

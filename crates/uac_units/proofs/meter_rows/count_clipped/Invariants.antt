use Rattle.std.specs.Prelude.{◌≡◌, ◌≤◌, count_by, take}
use Rattle.uac_units.specs.Hearing.{is_clipped}
use Rattle.uac_units.proofs.meter_rows.count_clipped.Given as goal

abbrev pub invariant-loop-sample : goal.invariant-loop-sample
invariant-loop-sample l = (l.clipped ≡ count_by is_clipped (take l.sample-index l.samples)) × (l.clipped ≤ l.sample-index)

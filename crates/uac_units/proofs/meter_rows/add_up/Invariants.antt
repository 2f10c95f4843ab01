use Rattle.std.specs.Prelude.{◌≡◌, ◌≤◌, ◌*◌, unsigned_abs, take}
use Rattle.std.specs.List.{sum_by}
use Rattle.uac_units.proofs.meter_rows.add_up.Given as goal

abbrev pub invariant-loop-sample : goal.invariant-loop-sample
invariant-loop-sample l =
    (l.sum ≡ sum_by unsigned_abs (take l.sample-index l.samples)) × (l.sum ≤ 2147483648 * l.sample-index)

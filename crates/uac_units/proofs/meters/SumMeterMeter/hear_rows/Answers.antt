use Rattle.std.proofs.Common.{◌≡◌, arith, take}
use Rattle.uac_units.specs.Hearing.{value_after_hearing}
use Rattle.uac_units.specs.declared.meter.MeterKind.TheVariants.{Sum}
use Rattle.uac_units.proofs.MeterRowsLemmas.{hears_no_row, hears_row}
use Rattle.uac_units.proofs.meters.SumMeterMeter.hear_rows.Goals as goal

pub loop-row-init : goal.loop-row-init
loop-row-init c = hears_no_row Sum c.args.ticks c.value-value.result c.value-value.type_inv

pub loop-row-preserved : goal.loop-row-preserved
loop-row-preserved c =
    let more : c.add_sizes-value.result ≡ value_after_hearing Sum c.loop-row.value (take c.args.ticks c.row-item.result) =
    c.add_sizes-value.ensures in
    hears_row Sum c.args.ticks c.args.rows.now c.loop-row.row-index c.row-item.result c.loop-row.value c.value-value.result c.add_sizes-value.result
    c.requires.given (omega arith) c.row-item.is c.value-value.type_inv c.loop-row.invariant more

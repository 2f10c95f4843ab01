use Rattle.std.proofs.Common.{ap, arith, get_or}
use Rattle.uac_units.specs.SampleRows.{after_hearing_all, frames_of}
use Rattle.uac_units.proofs.MetersLemmas.{changed_more}
use Rattle.uac_units.proofs.meter_list.Meters.hear_rows.Goals as goal

pub loop-at-preserved : goal.loop-at-preserved
loop-at-preserved g c =
    changed_more (λ b. (goal.Meter-dyn g (b.vtable, b.value)).reading_of b.value) (after_hearing_all (frames_of c.args.ticks c.args.rows.now))
    c.loop-at.list c.as_mut_slice-list.result.now c.loop-at.at c.hear_rows_by_one.new.meter (get_or c.loop-at.list c.loop-at.at c.index-list-at.result)
    (omega arith) c.loop-at.invariant (ap (λ b. get_or c.loop-at.list c.loop-at.at b) c.index-list-at.is) c.hear_rows_by_one.ensures

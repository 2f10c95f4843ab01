use Rattle.uac_units.specs.SampleRows.{after_hearing_all, frames_of}
use Rattle.uac_units.proofs.MetersLemmas.{ChangedBelow}
use Rattle.uac_units.proofs.meter_list.Meters.hear_rows.Given as goal

abbrev pub invariant-loop-at : goal.invariant-loop-at
invariant-loop-at g l = ChangedBelow (λ b. (goal.Meter-dyn g (b.vtable, b.value)).reading_of b.value) (after_hearing_all (frames_of l.ticks l.rows))
    l.list l.initial.list l.at

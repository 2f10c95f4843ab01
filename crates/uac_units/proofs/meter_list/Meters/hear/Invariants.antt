use Rattle.uac_units.specs.Hearing.{after_hearing}
use Rattle.uac_units.proofs.MetersLemmas.{ChangedBelow}
use Rattle.uac_units.proofs.meter_list.Meters.hear.Given as goal

abbrev pub invariant-loop-at : goal.invariant-loop-at
invariant-loop-at g l =
    ChangedBelow (λ b. (goal.Meter-dyn g (b.vtable, b.value)).reading_of b.value) (after_hearing l.frame.items)
    l.list l.initial.list l.at

use Rattle.std.proofs.Common.{◌≡◌, take}
use Rattle.uac_graph.specs.TickRows.{frames_at}
use Rattle.uac_units.specs.MeterReadings.{readings}
use Rattle.uac_device.specs.DeviceTicks.{heard_by_ticks}
use Rattle.uac_device.specs.DeviceTurns.{frames_heard}
use Rattle.uac_device.proofs.rows.hear_rows.Given as goal

abbrev pub invariant-loop-jack : goal.invariant-loop-jack
invariant-loop-jack g l =
    readings (λ v x. (goal.Meter-dyn g (v, x)).reading_of x) l.meters
    ≡ heard_by_ticks (λ t. frames_heard (frames_at t l.rows) l.domain (take l.jack-index l.jacks)) l.ticks
    (readings (λ v x. (goal.Meter-dyn g (v, x)).reading_of x) l.fn.meters)

-- The greatest packet of a rate has at most 25 frames.
use Rattle.std.proofs.Common.{arith}
use Rattle.uac_host.proofs.paces.Pace.take_report.Goals as goal

pub overflow_mul-nominal-2 : goal.overflow_mul-nominal-2
overflow_mul-nominal-2 c =
    let room = c.nominal_values_leave_room.ensures.room _ c.self.invariant.stream.nominal in
    omega arith

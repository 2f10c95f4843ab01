-- The nominal rate lies between the least and the greatest packet.
use Rattle.std.proofs.Common.{arith}
use Rattle.uac_host.proofs.paces.Pace.start.Goals as goal

pub invariant_of-result : goal.invariant_of-result
invariant_of-result c =
    let room = c.nominal_values_leave_room.ensures.room _ c.requires.nominal in
    let none = c.new.ensures.zero in
    record { stream = c.requires; remainder = omega arith; least = omega arith; most = omega arith }

-- No rate gives more than 25 frames in a microframe.
use Rattle.std.proofs.Common.{arith}
use Rattle.uac_rate.proofs.reports.report.Goals as goal

pub overflow_mul-least : goal.overflow_mul-least
overflow_mul-least c =
    let room = c.nominal_values_leave_room.ensures.room c.args.nominal.now c.requires.of_a_rate in
    record { fits = omega arith }

pub overflow_mul-most : goal.overflow_mul-most
overflow_mul-most c =
    let room = c.nominal_values_leave_room.ensures.room c.args.nominal.now c.requires.of_a_rate in
    record { fits = omega arith }

pub overflow_add-nominal : goal.overflow_add-nominal
overflow_add-nominal c =
    let room = c.nominal_values_leave_room.ensures.room c.args.nominal.now c.requires.of_a_rate in
    record { fits = omega arith }

pub clamp-requires : goal.clamp-requires
clamp-requires c =
    let room = c.nominal_values_leave_room.ensures.room c.args.nominal.now c.requires.of_a_rate in
    omega arith

-- No rate gives more than 25 frames in a microframe, and a deviating clock stays between the least packet and the greatest.
use Rattle.std.proofs.Common.{arith}
use Rattle.uac_settle.proofs.settling.pull.Goals as goal

pub overflow_sub-at_least_packets : goal.overflow_sub-at_least_packets
overflow_sub-at_least_packets c =
    let room = c.nominal_values_leave_room.ensures.room c.args.nominal.now c.requires.of_a_rate in omega arith

pub overflow_mul-at_least_packets : goal.overflow_mul-at_least_packets
overflow_mul-at_least_packets c =
    let room = c.nominal_values_leave_room.ensures.room c.args.nominal.now c.requires.of_a_rate in record { fits = omega arith }

pub overflow_sub-at_least_packets-2 : goal.overflow_sub-at_least_packets-2
overflow_sub-at_least_packets-2 c =
    let room = c.nominal_values_leave_room.ensures.room c.args.nominal.now c.requires.of_a_rate in omega arith

pub overflow_mul-at_greatest_packets : goal.overflow_mul-at_greatest_packets
overflow_mul-at_greatest_packets c =
    let room = c.nominal_values_leave_room.ensures.room c.args.nominal.now c.requires.of_a_rate in record { fits = omega arith }

pub overflow_sub-at_greatest_packets : goal.overflow_sub-at_greatest_packets
overflow_sub-at_greatest_packets c =
    let room = c.nominal_values_leave_room.ensures.room c.args.nominal.now c.requires.of_a_rate in omega arith

pub overflow_sub-at_greatest_packets-2 : goal.overflow_sub-at_greatest_packets-2
overflow_sub-at_greatest_packets-2 c =
    let room = c.nominal_values_leave_room.ensures.room c.args.nominal.now c.requires.of_a_rate in omega arith

pub overflow_sub-nominal : goal.overflow_sub-nominal
overflow_sub-nominal c =
    let room = c.nominal_values_leave_room.ensures.room c.args.nominal.now c.requires.of_a_rate in omega arith

pub returns-clause-some : goal.returns-clause-some
returns-clause-some c =
    let room = c.nominal_values_leave_room.ensures.room c.args.nominal.now c.requires.of_a_rate in
    omega (arith, c.min-2.ensures, c.min.ensures)

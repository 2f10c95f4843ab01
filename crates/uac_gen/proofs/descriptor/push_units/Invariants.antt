use Rattle.std.proofs.Common.{◌≡◌, ◌≤◌, ◌+◌, ◌-◌, ◌*◌, ◌++◌, length, flat_map}
use Rattle.uac_descriptor.specs.Spelling.{spelling}
use Rattle.uac_gen.specs.GeneratedDescriptor.{units_of}
use Rattle.uac_gen.proofs.descriptor.push_units.Given as goal

-- So many units stand after the bytes that were there.
abbrev pub invariant-loop-distance : goal.invariant-loop-distance
invariant-loop-distance l = record {
  units : l.bytes ≡ l.fn.bytes ++ flat_map spelling (units_of l.distance);
  room : length l.bytes ≤ length l.fn.bytes + 18 * l.distance;
  few : l.distance ≤ l.count;
}

abbrev pub decreases-loop-distance : goal.decreases-loop-distance
decreases-loop-distance l = l.count - l.distance

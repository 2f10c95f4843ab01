use Rattle.std.proofs.Common.{◌≡◌, ◌+◌, ◌*◌, ◌++◌, length, flat_map, take}
use Rattle.arrayvec.specs.ArrayVec.{array_vec_len}
use Rattle.byteorder.specs.Endian.{little_bytes}
use Rattle.uac_request.specs.Requests.{one_range_bytes}
use Rattle.uac_request.proofs.ranging.write_all.Given as goal

abbrev pub invariant-loop-range : goal.invariant-loop-range
invariant-loop-range l = record {
  items : l.reply.items ≡ little_bytes 2 (length l.ranges) ++ flat_map (one_range_bytes l.width) (take l.range-index l.ranges);
  count : array_vec_len l.reply ≡ 2 + l.range-index * (3 * l.width);
}

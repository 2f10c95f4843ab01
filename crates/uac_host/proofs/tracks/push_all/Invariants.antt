use Rattle.std.proofs.Common.{◌≡◌, ◌+◌, ◌≤◌, ◌++◌, length, take}
use Rattle.std.specs.VecDeque.{deque_capacity}
use Rattle.uac_host.proofs.tracks.push_all.Given as goal

abbrev pub invariant-loop-sample : goal.invariant-loop-sample
invariant-loop-sample l = record {
  items : l.waiting.items ≡ l.initial.waiting.items ++ take l.sample-index l.samples;
  room : length l.waiting.items + length l.samples ≤ deque_capacity l.waiting + l.sample-index;
}
